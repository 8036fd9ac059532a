use Rattle.std.proofs.Common.{◌≡◌, ◌++◌, length}
use Rattle.std.specs.List.{AllZip}
use Rattle.td_live.specs.Drafts.{CanBringUp, all_brought_up}
use Rattle.td_live.proofs.ending.bring_all_up.Given as goal

abbrev pub invariant-loop-books : goal.invariant-loop-books
invariant-loop-books l = record {
  can : AllZip CanBringUp l.answers.items l.books.items;
  all : l.all.items ++ all_brought_up l.answers.items l.books.items
      ≡ all_brought_up l.fn.answers.items l.fn.books.items;
}

abbrev pub decreases-loop-books : goal.decreases-loop-books
decreases-loop-books l = length l.books.items
