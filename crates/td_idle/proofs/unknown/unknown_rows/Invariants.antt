use Rattle.std.proofs.Common.{◌≡◌, not, filter, take}
use Rattle.td_base.specs.Value.{AtomIdValue}
use Rattle.td_idle.specs.Unknown.{is_known_id}
use Rattle.td_idle.proofs.unknown.unknown_rows.Given as goal

abbrev pub invariant-loop-id : goal.invariant-loop-id
invariant-loop-id g l = l.unknown.items
    ≡ filter (λ (x : AtomIdValue). not (is_known_id l.v (g.D.Doc.rows l.doc) x)) (take l.id-index l.ids)
