-- How `Marks` keeps its operations: in the order in which they came, with their vector, and listed by atoms.
use Rattle.std.specs.Prelude.{◌≡◌, ℕ, List, length, sum}
use Rattle.td_marks.specs.Index.{AreListed}
use Rattle.td_marks.specs.Mark.{MarkOpValue}
use Rattle.td_marks.specs.Marks.{IsMarks, counts}
use Rattle.td_marks.specs.declared.index.Index.{Index}

pub record AreMarksParts (site : ℕ) (have : List ℕ) (ops : List MarkOpValue) (index : Index) : Type 0 where
  pub marks : IsMarks (record { site = site; size = length have; ops = ops })
  pub counted : have ≡ counts (length have) ops
  pub number : length ops ≡ sum have
  pub listed : AreListed ops index
