use Rattle.std.proofs.Common.{◌≡◌, ◌+◌, ◌≤◌, drop}
use Rattle.td_doc.specs.Answers.{live_before}
use Rattle.td_doc.proofs.search.live_before.Given as goal

abbrev pub invariant-loop-row : goal.invariant-loop-row
invariant-loop-row l = (l.live + live_before l.id (drop l.row-index l.rows) ≡ live_before l.id l.rows)
    × (l.live ≤ l.row-index)
