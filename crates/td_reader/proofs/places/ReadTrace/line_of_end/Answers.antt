use Rattle.std.proofs.Common.{arith}
use Rattle.td_reader.proofs.Kept.{seen}
use Rattle.td_reader.proofs.PartLines.{said_length}
use Rattle.td_reader.proofs.places.ReadTrace.line_of_end.Goals as goal

pub overflow_cast-result : goal.overflow_cast-result
overflow_cast-result c =
    let s = seen c.self.inside.bytes.now c.self.inside.starts.items c.self.inside.parts c.self.inside.sites
    c.args.self.now c.self.invariant c.self.view_is in
    omega (arith, c.len.ensures, s.count, s.few)

pub returns : goal.returns
returns c =
    let s = seen c.self.inside.bytes.now c.self.inside.starts.items c.self.inside.parts c.self.inside.sites
    c.args.self.now c.self.invariant c.self.view_is in
    omega (arith, c.len.ensures, s.count, said_length c.args.self.now)
