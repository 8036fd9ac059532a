use Rattle.std.proofs.Common.{◌≡◌, drop, cond}
use Rattle.td_doc.specs.Allocation.{first_id, next_id}
use Rattle.td_doc.proofs.search.next_id.Given as goal

abbrev pub invariant-loop-row : goal.invariant-loop-row
invariant-loop-row l = cond l.is_next (first_id (drop l.row-index l.rows)) (next_id l.id (drop l.row-index l.rows))
    ≡ next_id l.id l.rows
