use Rattle.td_reader.proofs.Kept.{seen}
use Rattle.td_reader.proofs.places.ReadTrace.sites.Goals as goal

pub returns-clause-sites : goal.returns-clause-sites
returns-clause-sites c =
    let s = seen c.self.inside.bytes.now c.self.inside.starts.items c.self.inside.parts c.self.inside.sites
    c.args.self.now c.self.invariant c.self.view_is in
    s.sites_are

pub returns-clause-value : goal.returns-clause-value
returns-clause-value c =
    let s = seen c.self.inside.bytes.now c.self.inside.starts.items c.self.inside.parts c.self.inside.sites
    c.args.self.now c.self.invariant c.self.view_is in
    s.is.0
