use Rattle.std.proofs.Common.{◌≡◌, drop}
use Rattle.td_doc.specs.Document.{live_id_at}
use Rattle.td_doc.proofs.search.live_at.Given as goal

abbrev pub invariant-loop-row : goal.invariant-loop-row
invariant-loop-row l = live_id_at (drop l.row-index l.rows) l.left ≡ live_id_at l.rows l.index
