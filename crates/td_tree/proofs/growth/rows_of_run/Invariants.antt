use Rattle.std.proofs.Common.{◌≡◌, ◌+◌, ◌≤◌, ◌++◌, length}
use Rattle.td_tree.specs.Places.{run_entries}
use Rattle.td_tree.proofs.growth.rows_of_run.Given as goal

-- the rows that are there, and those that are to come
abbrev pub invariant-loop-offset : goal.invariant-loop-offset
invariant-loop-offset l = record {
  can : (goal.iterator-loop-offset).can_next l.atom-iterator;
  ends : (goal.iterator-loop-offset).is_finite l.atom-iterator;
  place : l.offset + length l.atom-iterator ≡ length l.run;
  room : length l.atom-iterator ≤ l.more.room;
  first : l.more.first ≡ l.rows.long;
  there : l.more.entries ++ run_entries l.dot l.offset l.atom-iterator ≡ run_entries l.dot 0 l.run;
}
