use Rattle.std.proofs.Common.{◌≡◌, ◌≤◌, length, take}
use Rattle.std.specs.List.{list_any}
use Rattle.td_base.specs.Value.{DotValue}
use Rattle.td_clock.specs.Vector.{vector_has}
use Rattle.td_marks.specs.Index.{ops_at}
use Rattle.td_marks.specs.Mark.{removes}
use Rattle.td_marks.proofs.marks.Marks.removed.Given as goal

abbrev pub invariant-loop-number : goal.invariant-loop-number
invariant-loop-number l = record {
  size : length l.removed ≡ l.self.size;
  seen : (d : DotValue) → 1 ≤ d.seq → vector_has l.removed d
      ≡ list_any (removes l.id l.name d) (ops_at l.self.ops (take l.number-index l.numbers));
}
