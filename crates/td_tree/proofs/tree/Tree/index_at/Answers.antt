use Rattle.std.proofs.Common.{◌≡◌, ◌+◌, ◌*◌, ◌∙◌, ℕ, Some, not, sym, ap, arith}
use Rattle.td_doc.specs.Answers.{is_live_id, live_before}
use Rattle.td_list.specs.Items.{Item, weight_of}
use Rattle.td_tree.specs.Parts.{Parts, table, doc_rows}
use Rattle.td_tree.specs.Stretches.{items_up_to}
use Rattle.td_tree.proofs.Lent.{same_end}
use Rattle.td_tree.proofs.LastRow.{last_is, last_row, index_is}
use Rattle.td_tree.proofs.PlaceIndex.{index_behind, index_light}
use Rattle.td_tree.proofs.tree.Tree.index_at.Goals as goal

pub overflow_add-result : goal.overflow_add-result
overflow_add-result c =
    let p : Parts = c.self.inside.tokens in
    let k = last_is p c.self.inside.identities c.self.inside.last c.in-Some.last c.self.invariant.1 c.in-Some.is in
    let r = last_row p c.self.inside.identities c.self.inside.seen c.self.invariant.0 c.in-Some.last k in
    let light = index_light p c.self.invariant.0.tree c.in-Some.last.row r.0 k.node in
    let same : c.in-Some-index.index ≡ live_before (table p c.in-Some.last.row).id (doc_rows p) =
    index_is p c.self.inside.identities c.in-Some.last k c.in-Some-index.index c.in-Some-index.is
    ∙ ap (λ x. live_before x (doc_rows p)) (sym r.2) in
    omega arith

pub returns-in-Some-index : goal.returns-in-Some-index
returns-in-Some-index c =
    let p : Parts = c.self.inside.tokens in
    let k = last_is p c.self.inside.identities c.self.inside.last c.in-Some.last c.self.invariant.1 c.in-Some.is in
    let r = last_row p c.self.inside.identities c.self.inside.seen c.self.invariant.0 c.in-Some.last k in
    let behind : Some (3 * c.in-Some.last.row + 2) ≡ c.args.at =
    ap (λ (i : Item). Some i.name) (sym c.close_item.ensures) ∙ ap (λ (n : ℕ). Some n) (sym c.name.ensures)
    ∙ sym (same_end c.args.at (Some c.name.result) (ap not (sym c.if-eq.ensures))) in
    ap (λ (n : ℕ). n + 1)
    (index_is p c.self.inside.identities c.in-Some.last k c.in-Some-index.index c.in-Some-index.is
    ∙ ap (λ x. live_before x (doc_rows p)) (sym r.2))
    ∙ sym (index_behind p c.self.invariant.0.tree c.in-Some.last.row r.0 k.node
    (ap (λ x. is_live_id (doc_rows p) x) r.2 ∙ k.live) c.args.at (k.alone ∙ behind))
    ∙ ap (λ (q : Parts). weight_of (items_up_to c.args.at q.items)) c.self.view_is
