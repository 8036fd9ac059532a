use Rattle.std.proofs.Common.{◌≡◌, ◌≢◌, ◌≤◌, ◌∙◌, ◌+◌, ◌-◌, ◌/◌, ◌<◌, ℕ, List, length, Some}
use Rattle.std.proofs.Common.{slice_get, sym, ap, subst, arith, [], ◌∷◌}
use Rattle.std.proofs.lemmas.Option.{slice_get_past}
use Rattle.td_list.specs.Items.{items_from, items_after}
use Rattle.td_tree.specs.Parts.{Parts, array_at}
use Rattle.td_tree.proofs.RowPlaces.{LeafGot, known_name, shown_bracket, shown_node, leaf_got, leaf_row, leaf_past}
use Rattle.td_tree.proofs.tokens.Tokens.row_at.Goals as goal

pub state-requires : goal.state-requires
state-requires c = known_name c.args.self.now c.requires.tree c.args.place.name c.requires.there

pub returns-then-place-ne1 : goal.returns-then-place-ne1
returns-then-place-ne1 c = λ i m e. ap (λ (xs : List ℕ). slice_get xs c.args.place.rest)
    (sym (shown_bracket c.args.self.now c.requires.tree i c.args.place.name e c.if-place-ne1.true))

pub overflow_sub-index : goal.overflow_sub-index
overflow_sub-index c =
    (subst (LeafGot c.args.self.now c.args.place.name c.in-InArray.array c.in-InArray.index) (sym c.weight-len.ensures)
    (leaf_got c.args.self.now c.requires.tree c.args.place.name c.in-InArray.array c.in-InArray.index c.get.result
    c.requires.there c.if-place-ne1.false (sym c.in-InArray.ensures)
    (subst (λ (q : Parts). items_from c.args.place.name q.items
    ≡ c.get.result ∷ items_after c.args.place.name q.items) c.self.view_is c.get.ensures))).low

pub overflow_add-index : goal.overflow_add-index
overflow_add-index c =
    let l = subst (LeafGot c.args.self.now c.args.place.name c.in-InArray.array c.in-InArray.index)
    (sym c.weight-len.ensures)
    (leaf_got c.args.self.now c.requires.tree c.args.place.name c.in-InArray.array c.in-InArray.index c.get.result
    c.requires.there c.if-place-ne1.false (sym c.in-InArray.ensures)
    (subst (λ (q : Parts). items_from c.args.place.name q.items
    ≡ c.get.result ∷ items_after c.args.place.name q.items) c.self.view_is c.get.ensures)) in
    let within = l.within in
    let few = l.few in
    omega (arith, c.if-place-len.true)

pub row_in-requires-clause-array : goal.row_in-requires-clause-array
row_in-requires-clause-array c =
    (subst (LeafGot c.args.self.now c.args.place.name c.in-InArray.array c.in-InArray.index) (sym c.weight-len.ensures)
    (leaf_got c.args.self.now c.requires.tree c.args.place.name c.in-InArray.array c.in-InArray.index c.get.result
    c.requires.there c.if-place-ne1.false (sym c.in-InArray.ensures)
    (subst (λ (q : Parts). items_from c.args.place.name q.items
    ≡ c.get.result ∷ items_after c.args.place.name q.items) c.self.view_is c.get.ensures))).array

pub row_in-requires-clause-place : goal.row_in-requires-clause-place
row_in-requires-clause-place c = λ k e.
    let l = subst (LeafGot c.args.self.now c.args.place.name c.in-InArray.array c.in-InArray.index)
    (sym c.weight-len.ensures)
    (leaf_got c.args.self.now c.requires.tree c.args.place.name c.in-InArray.array c.in-InArray.index c.get.result
    c.requires.there c.if-place-ne1.false (sym c.in-InArray.ensures)
    (subst (λ (q : Parts). items_from c.args.place.name q.items
    ≡ c.get.result ∷ items_after c.args.place.name q.items) c.self.view_is c.get.ensures)) in
    let within = l.within in
    let below : c.in-InArray.index - c.weight-len.result / 2 + c.args.place.rest < length
    (array_at c.args.self.now c.in-InArray.array) = omega (arith, c.if-place-len.true) in
    subst (λ (a : ℕ). c.in-InArray.index - c.weight-len.result / 2 + c.args.place.rest < length
    (array_at c.args.self.now a)) (sym e) below

pub returns-then-place-len : goal.returns-then-place-len
returns-then-place-len c = λ i m e.
    let l = subst (LeafGot c.args.self.now c.args.place.name c.in-InArray.array c.in-InArray.index)
    (sym c.weight-len.ensures)
    (leaf_got c.args.self.now c.requires.tree c.args.place.name c.in-InArray.array c.in-InArray.index c.get.result
    c.requires.there c.if-place-ne1.false (sym c.in-InArray.ensures)
    (subst (λ (q : Parts). items_from c.args.place.name q.items
    ≡ c.get.result ∷ items_after c.args.place.name q.items) c.self.view_is c.get.ensures)) in
    ap Some c.row_in.ensures
    ∙ leaf_row c.args.self.now c.args.place.name c.in-InArray.array c.in-InArray.index c.weight-len.result
    c.args.place.rest l c.if-place-len.true i m e

pub returns-else-place-len : goal.returns-else-place-len
returns-else-place-len c = λ i m e.
    let l = subst (LeafGot c.args.self.now c.args.place.name c.in-InArray.array c.in-InArray.index)
    (sym c.weight-len.ensures)
    (leaf_got c.args.self.now c.requires.tree c.args.place.name c.in-InArray.array c.in-InArray.index c.get.result
    c.requires.there c.if-place-ne1.false (sym c.in-InArray.ensures)
    (subst (λ (q : Parts). items_from c.args.place.name q.items
    ≡ c.get.result ∷ items_after c.args.place.name q.items) c.self.view_is c.get.ensures)) in
    leaf_past c.args.self.now c.args.place.name c.in-InArray.array c.in-InArray.index c.weight-len.result
    c.args.place.rest l c.if-place-len.false i m e

pub returns-then-place-eq0 : goal.returns-then-place-eq0
returns-then-place-eq0 c = λ i m e.
    ap (λ (k : ℕ). slice_get (c.args.place.name / 3 ∷ []) k) (sym c.if-place-eq0.true)
    ∙ ap (λ (xs : List ℕ). slice_get xs c.args.place.rest)
    (sym (shown_node c.args.self.now c.requires.tree i c.args.place.name e c.if-place-ne1.false
    (λ a k f. c.in_default.not-InArray a k (c.state.ensures ∙ f))))

pub returns-else-place-eq0 : goal.returns-else-place-eq0
returns-else-place-eq0 c = λ i m e.
    sym (ap (λ (xs : List ℕ). slice_get xs c.args.place.rest)
    (shown_node c.args.self.now c.requires.tree i c.args.place.name e c.if-place-ne1.false
    (λ a k f. c.in_default.not-InArray a k (c.state.ensures ∙ f)))
    ∙ slice_get_past (c.args.place.name / 3 ∷ []) c.args.place.rest (some c.args.place.rest c.if-place-eq0.false))
  where
    some : (k : ℕ) → k ≢ 0 → 1 ≤ k
    some k h = omega arith
