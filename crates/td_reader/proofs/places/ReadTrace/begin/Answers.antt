use Rattle.std.proofs.Common.{ap, ◌∙◌, List, ℕ}
use Rattle.std.specs.Prelude.{slice_get}
use Rattle.td_reader.proofs.Kept.{seen}
use Rattle.td_reader.proofs.places.ReadTrace.begin.Goals as goal

pub returns-clause-begin : goal.returns-clause-begin
returns-clause-begin c =
    let s = seen c.self.inside.bytes.now c.self.inside.starts.items c.self.inside.parts c.self.inside.sites
    c.args.self.now c.self.invariant c.self.view_is in
    c.begin.ensures ∙ ap (λ (begins : List ℕ). slice_get begins c.args.part) s.parts_are

pub returns-clause-value : goal.returns-clause-value
returns-clause-value c =
    let s = seen c.self.inside.bytes.now c.self.inside.starts.items c.self.inside.parts c.self.inside.sites
    c.args.self.now c.self.invariant c.self.view_is in
    s.is.0

pub returns-clause-few : goal.returns-clause-few
returns-clause-few c =
    let s = seen c.self.inside.bytes.now c.self.inside.starts.items c.self.inside.parts c.self.inside.sites
    c.args.self.now c.self.invariant c.self.view_is in
    s.few
