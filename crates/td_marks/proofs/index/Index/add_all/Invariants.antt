use Rattle.std.specs.Prelude.{take}
use Rattle.td_base.specs.Lists.{In}
use Rattle.td_base.specs.Value.{AtomIdValue}
use Rattle.td_marks.specs.Index.{numbers_at, KeepsListed}
use Rattle.td_marks.proofs.index.Index.add_all.Given as goal

abbrev pub invariant-loop-id : goal.invariant-loop-id
invariant-loop-id l = record {
  kept : KeepsListed l.fn.self l.self;
  listed : (x : AtomIdValue) → In x (take l.id-index l.atoms) → In l.number (numbers_at l.self x);
}
