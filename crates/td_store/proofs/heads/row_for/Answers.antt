use Rattle.std.proofs.Common.{ap}
use Rattle.td_base.specs.Value.{DotValue}
use Rattle.td_store.proofs.StoredHeads.{found_row, added_row}
use Rattle.td_store.proofs.heads.row_for.Goals.{then-not-has_but_at, else-not-has_but_at}
use Rattle.td_store.proofs.heads.row_for.Goals as goal

pub returns-clause-deps : goal.returns-clause-deps
returns-clause-deps c = elim c.if-not-has_but_at.branch [
  | then-not-has_but_at w ↦ rw (w.rows-is, w.last-is, w.push.ensures.rows)
      (added_row c.args.rows.now.rows w.len.result c.args.dot c.args.deps.now c.requires.next w.len.ensures)
  | else-not-has_but_at w ↦ rw (w.rows-is, w.last-is)
      (found_row c.args.rows.now.rows _ c.args.dot c.args.deps.now c.dot.inside.site c.requires.next
      (ap (λ (d : DotValue). d.site) c.dot.view_is) (c.has_but_at.ensures w.if-not-has_but_at.false))
]
