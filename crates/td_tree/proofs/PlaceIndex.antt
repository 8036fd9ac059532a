-- The number of live rows before the place of a new row, by the weight of the items before it.
use Rattle.std.proofs.Common.{◌≡◌, ◌+◌, ◌*◌, ◌^◌, ◌<◌, ◌≤◌, ◌∙◌, ℕ, List, [], ◌∷◌}
use Rattle.std.proofs.Common.{◌++◌, Bool, true, if◌then◌else◌, length, Option, Some, refl}
use Rattle.std.proofs.Common.{sym, ap, subst, inl, arith, append_assoc}
use Rattle.std.proofs.lemmas.List.{append-nil}
use Rattle.td_base.specs.Lists.{In}
use Rattle.td_base.specs.Value.{AtomIdValue}
use Rattle.td_path.specs.declared.slot.Slot.{Slot}
use Rattle.td_doc.specs.Document.{is_empty_list}
use Rattle.td_doc.specs.Answers.{is_live_found, is_live_id, live_before}
use Rattle.td_list.specs.Items.{Item, AreApart, first_name, items_before, items_after, put_at}
use Rattle.td_list.specs.Items.{weight_of}
use Rattle.td_list.proofs.Names.{weight-append, apart-parts}
use Rattle.td_list.proofs.Parted.{before_at}
use Rattle.td_brackets.specs.Brackets.{Entry}
use Rattle.td_tree.specs.declared.tree_row.RowState.TheVariants.{Node, Gone}
use Rattle.td_tree.specs.Parts.{Parts, state_at, table, token_weight, doc_rows, open_item}
use Rattle.td_tree.specs.Parts.{atom_item, close_item, node_items, IsTree}
use Rattle.td_tree.specs.Places.{IsPlace}
use Rattle.td_tree.specs.Stretches.{items_up_to}
use Rattle.td_tree.proofs.Grown.{put_parts}
use Rattle.td_tree.proofs.Indexes.{index_is, light_before}
use Rattle.td_tree.proofs.LastRow.{put_known, put_node}
use Rattle.td_tree.proofs.NodeParts.{node_at, atom_in, atom_there}
use Rattle.td_tree.proofs.Orders.{item_in}
use Rattle.td_tree.proofs.Places.{after_item}
use Rattle.td_tree.proofs.RowPlaces.{place_of_node}
use Rattle.td_tree.proofs.RowsFound.{found_row}

-- the items before a place
up_to_is : (at : Option ℕ) (front back : List Item) → AreApart (front ++ back) → first_name back ≡ at
    → items_up_to at (front ++ back) ≡ front
up_to_is at front [] apart e = ap (λ (o : Option ℕ). items_up_to o (front ++ [])) (sym e) ∙ append-nil front
up_to_is at front (i ∷ back) apart e =
    ap (λ (o : Option ℕ). items_up_to o (front ++ i ∷ back)) (sym e)
    ∙ before_at i.name front i back refl (λ k. apart-parts front (i ∷ back) apart i.name k (inl refl))

module _ (p : Parts) (t : IsTree p) where
  -- right behind an item the place has its weight before it too
  weight_behind : (i : Item) → In i p.items → (at : Option ℕ) → first_name (items_after i.name p.items) ≡ at
      → weight_of (items_up_to at p.items) ≡ weight_of (items_before i.name p.items) + i.weight
  weight_behind i m at e =
      let front : List Item = items_before i.name p.items in
      let is : p.items ≡ (front ++ i ∷ []) ++ items_after i.name p.items = (item_in p t i m).is
      ∙ sym (append_assoc front (i ∷ []) (items_after i.name p.items)) in
      let up_to : items_up_to at p.items ≡ front ++ i ∷ [] = ap (items_up_to at) is
      ∙ up_to_is at (front ++ i ∷ []) (items_after i.name p.items) (subst AreApart is t.apart) e in
      let all = ap weight_of up_to in
      let parts = weight-append front (i ∷ []) in
      omega arith

  -- a live node weighs one
  one_live : (b : Bool) → b ≡ true → ◌≡◌ {A = ℕ} (if b then 1 else 0) 1
  one_live b e = ap (λ (c : Bool). if c then 1 else 0) e

  pub index_behind : (r : ℕ) → r < length p.rows → state_at p r ≡ Node → is_live_id (doc_rows p) (table p r).id ≡ true
      → (at : Option ℕ) → first_name (items_after (3 * r + 1) p.items) ≡ at
      → weight_of (items_up_to at p.items) ≡ live_before (table p r).id (doc_rows p) + 1
  index_behind r l s live at e =
      let n = node_at p t r l s in
      let f = found_row p t r l (λ g. not_gone (sym s ∙ g)) in
      let one : n.atom.weight ≡ 1 =
      (t.each n.atom (atom_in p r n)).weighed ∙ ap (token_weight (table p)) n.atom_is
      ∙ one_live (is_empty_list (table p r).deletes)
      (ap (λ (k : Entry). is_empty_list k.deletes) (sym f.entry) ∙ sym (ap is_live_found f.found) ∙ live) in
      let behind = weight_behind n.atom (atom_in p r n) at
      (ap (λ (x : ℕ). first_name (items_after x p.items)) n.atom_named ∙ e) in
      let named = ap (λ (x : ℕ). weight_of (items_before x p.items)) n.atom_named in
      let before = index_is p t r (3 * r + 1) 0 (place_of_node p t r l s (atom_there p r n)) in
      omega arith
    where
      not_gone : Node ≡ Gone → ⊥
      not_gone e = cc

  pub index_light : (r : ℕ) → r < length p.rows → state_at p r ≡ Node → live_before (table p r).id (doc_rows p) ≤ 2 ^ 30
  index_light r l s =
      let light = light_before p t (3 * r + 1) in
      let before = index_is p t r (3 * r + 1) 0 (place_of_node p t r l s (atom_there p r (node_at p t r l s))) in
      omega arith

-- the items with a new row
put_is : (p q : Parts) → IsTree p → (slot : Slot) (id : AtomIdValue) (at : Option ℕ) → (place : IsPlace p slot id at)
    → q.items ≡ put_at at (node_items (length p.rows) [] []) p.items
    → q.items ≡ (place.front ++ open_item (length p.rows) ∷ []) ++ atom_item (length p.rows) 1
    ∷ close_item (length p.rows) ∷ place.back
put_is p q t slot id at place items =
    let n : ℕ = length p.rows in
    items ∙ ap (put_at at (node_items n [] [])) place.is
    ∙ put_parts at (node_items n [] []) place.front place.back (subst AreApart place.is t.apart) place.here
    ∙ sym (append_assoc place.front (open_item n ∷ []) (atom_item n 1 ∷ close_item n ∷ place.back))

-- nothing stands on its right
pub alone_put : (p q : Parts) → IsTree p → IsTree q → (slot : Slot) (id : AtomIdValue) (at : Option ℕ)
    → IsPlace p slot id at → q.items ≡ put_at at (node_items (length p.rows) [] []) p.items
    → first_name (items_after (3 * length p.rows + 1) q.items) ≡ Some (3 * length p.rows + 2)
alone_put p q t u slot id at place items =
    let n : ℕ = length p.rows in
    ap first_name (after_item q u (place.front ++ open_item n ∷ []) (atom_item n 1) (close_item n ∷ place.back)
    (put_is p q t slot id at place items))

-- a new row is at the index of its place
pub index_of_put : (p q : Parts) → IsTree p → IsTree q
    → (slot : Slot) (id : AtomIdValue) (atom : List ℕ) (at : Option ℕ) → IsPlace p slot id at
    → q.rows ≡ p.rows ++ record { entry = record { id = id; atom = atom; deletes = [] }; state = Node } ∷ []
    → q.items ≡ put_at at (node_items (length p.rows) [] []) p.items
    → weight_of (items_up_to at p.items) ≡ live_before (table q (length p.rows)).id (doc_rows q)
index_of_put p q t u slot id atom at place rows items =
    let n : ℕ = length p.rows in
    let known = put_known p q id atom n refl rows in
    let node = put_node p q id atom n refl rows in
    let m = node_at q u n known node in
    let was : AreApart (place.front ++ place.back) = subst AreApart place.is t.apart in
    let front : List Item = place.front ++ open_item n ∷ [] in
    let back : List Item = close_item n ∷ place.back in
    let is : q.items ≡ front ++ atom_item n 1 ∷ back = put_is p q t slot id at place items in
    let now : AreApart (front ++ atom_item n 1 ∷ back) = subst AreApart is u.apart in
    let before = ap weight_of (ap (items_before (3 * n + 1)) is
    ∙ before_at (3 * n + 1) front (atom_item n 1) back refl
    (λ k. apart-parts front (atom_item n 1 ∷ back) now (3 * n + 1) k (inl refl))) in
    let parts = weight-append place.front (open_item n ∷ []) in
    let up_to = ap weight_of (ap (items_up_to at) place.is ∙ up_to_is at place.front place.back was place.here) in
    let index = index_is q u n (3 * n + 1) 0 (place_of_node q u n known node (atom_there q n m)) in
    omega arith
