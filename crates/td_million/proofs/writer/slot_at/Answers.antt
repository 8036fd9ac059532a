use Rattle.std.proofs.Common.{◌∙◌, ◌≤◌, length, sym, arith}
use Rattle.td_doc.specs.Document.{live_rows}
use Rattle.td_doc.proofs.Typing.{anchor_row}
use Rattle.td_tree.specs.Parts.{doc_rows}
use Rattle.td_million.proofs.writer.slot_at.Goals as goal

pub alloc_slot-requires : goal.alloc_slot-requires
alloc_slot-requires c =
    let within : c.args.index ≤ length (live_rows (doc_rows c.args.doc.now)) =
    omega (arith, c.live.ensures, c.if-index-live.false) in
    λ x e. anchor_row (doc_rows c.args.doc.now) c.args.index within x (sym c.behind-after.ensures ∙ e)
