use Rattle.std.proofs.Common.{ap, arith, length}
use Rattle.td_reader.specs.Parts.{part_sizes}
use Rattle.td_reader.proofs.Kept.{seen}
use Rattle.td_reader.proofs.PartLines.{begins_length}
use Rattle.td_reader.proofs.places.ReadTrace.parts.Goals as goal

pub overflow_sub-result : goal.overflow_sub-result
overflow_sub-result c =
    let s = seen c.self.inside.bytes.now c.self.inside.starts.items c.self.inside.parts c.self.inside.sites
    c.args.self.now c.self.invariant c.self.view_is in
    omega (arith, c.len.ensures, ap length s.parts_are, begins_length 1 (part_sizes c.args.self.now))

pub returns : goal.returns
returns c =
    let s = seen c.self.inside.bytes.now c.self.inside.starts.items c.self.inside.parts c.self.inside.sites
    c.args.self.now c.self.invariant c.self.view_is in
    omega (arith, c.len.ensures, ap length s.parts_are, begins_length 1 (part_sizes c.args.self.now))
