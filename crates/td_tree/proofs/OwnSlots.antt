-- The slot in which a row of a tree stands.
use Rattle.std.proofs.Common.{◌≡◌, ◌+◌, ◌-◌, ◌*◌, ◌/◌, ◌<◌, ◌∙◌, ℕ, List, [], ◌∷◌, ◌++◌, Option, Some, None, refl}
use Rattle.std.proofs.Common.{sym, ap, append_assoc, length, ◌≢◌, true, false, is_some, true≢false}
use Rattle.std.specs.Option.{unwrap_or}
use Rattle.std.specs.Option.{option_map}
use Rattle.td_base.specs.Lists.{In}
use Rattle.td_path.specs.declared.slot.Slot.{Slot}
use Rattle.td_doc.specs.Document.{DocRow, row_id, find_row}
use Rattle.td_doc.specs.Slots.{own_slot}
use Rattle.td_doc.specs.Answers.{row_told, live_before}
use Rattle.td_list.specs.Items.{Item, items_before, items_after}
use Rattle.td_brackets.specs.Brackets.{Token, Entry, move, move_all, slot_round, LeafIn}
use Rattle.td_brackets.specs.RowNumbers.{entry_of}
use Rattle.td_brackets.proofs.Words.{move-append}
use Rattle.td_brackets.proofs.Deeper.{RowTold}
use Rattle.td_tree.specs.declared.tree_row.RowState.TheVariants.{Gone}
use Rattle.td_tree.specs.Parts.{Parts, state_at, table, array_at, part, row_of_array, leaf_item}
use Rattle.td_tree.specs.Parts.{token_of, tokens_of, doc_rows, IsPart, IsTree}
use Rattle.td_tree.specs.Reading.{slot_or}
use Rattle.td_tree.proofs.ItemTokens.{tokens-append, leaf_token}
use Rattle.td_tree.proofs.LeafSides.{leaf_told, round}
use Rattle.td_tree.proofs.Orders.{item_in}
use Rattle.td_tree.proofs.NodeParts.{NodeAt}
use Rattle.td_tree.proofs.SlotsAfter.{group_tokens}
use Rattle.td_tree.proofs.RowsFound.{found_row}
use Rattle.td_brackets.specs.Laws.{whole}
use Rattle.td_brackets.proofs.Standing.{whole_moves}
use Rattle.td_path.specs.declared.slot.Slot.TheVariants.{Root}

-- the row found is the one that is told
pub same_row : (p : Parts) (x : ℕ) (round : Slot) (left right : List ℕ)
    → RowTold (table p) (doc_rows p) x round left right → (q : DocRow) → find_row (table p x).id (doc_rows p) ≡ Some q
    → own_slot q ≡ round
same_row p x round left right k q e = ap own_slot (same q k.row (sym e ∙ k.found)) ∙ k.own
  where
    same : (a b : DocRow) → Some a ≡ Some b → a ≡ b
    same a b e = cc

-- behind a leaf its own slot goes on
pub behind_leaf : (p : Parts) (t : IsTree p) (a from n : ℕ) → IsPart p a from n → In (leaf_item p a from n) p.items
    → (result : Slot)
    → ((front : List Item) (i : Item) (back : List Item) → p.items ≡ front ++ i ∷ back → i.name
    ≡ 3 * row_of_array p a (from + n / 2) + 1 → result
    ≡ slot_round (table p) (move_all [] (tokens_of p (front ++ i ∷ []))))
    → result ≡ slot_round (table p) (move_all [] (tokens_of p (items_before (leaf_item p a from n).name p.items)))
behind_leaf p t a from n l m result h =
    let i : Item = leaf_item p a from n in
    let before : List Item = items_before i.name p.items in
    h before i (items_after i.name p.items) (item_in p t i m).is refl
    ∙ ap (slot_round (table p))
    (ap (move_all []) (tokens-append p before (i ∷ [])) ∙ move-append [] (tokens_of p before) (token_of p i ∷ [])
    ∙ ap (λ (q : Token). move (move_all [] (tokens_of p before)) q) (leaf_token p a from n l))

-- the slot that a part of a leaf has of its own
pub own_of_some : (other : Slot) (o : Option Slot) → is_some o ≡ true → slot_or other o ≡ unwrap_or o Root
own_of_some other None e = absurd (true≢false (sym e))
own_of_some other (Some s) e = refl

pub own_of_none : (other : Slot) (o : Option Slot) → is_some o ≡ false → slot_or other o ≡ other
own_of_none other None e = refl
own_of_none other (Some s) e = absurd (true≢false e)

-- behind a node its own slot goes on
pub behind_node : (p : Parts) (t : IsTree p) (x : ℕ) (m : NodeAt p x) (result : Slot)
    → ((front : List Item) (i : Item) (back : List Item) → p.items ≡ front ++ i ∷ back → i.name ≡ 3 * x + 2 → result
    ≡ slot_round (table p) (move_all [] (tokens_of p (front ++ i ∷ []))))
    → result ≡ slot_round (table p) (move_all [] (tokens_of p m.front))
behind_node p t x m result h =
    let before : List Item = m.front ++ (m.opens ∷ (m.left ++ m.atom ∷ m.right)) in
    h before m.closes m.back (m.is ∙ regroup m.front m.opens m.left m.atom m.right m.closes m.back) m.close_named
    ∙ ap (λ (q : List Item). slot_round (table p) (move_all [] (tokens_of p q)))
    (together m.front m.opens m.left m.atom m.right m.closes)
    ∙ ap (slot_round (table p))
    (ap (move_all []) (tokens-append p m.front (m.opens ∷ (m.left ++ m.atom ∷ (m.right ++ m.closes ∷ [])))
    ∙ ap (λ (q : List Token). tokens_of p m.front ++ q) (group_tokens p t x m))
    ∙ move-append [] (tokens_of p m.front) (whole x (tokens_of p m.left) (tokens_of p m.right))
    ∙ whole_moves (table p) (move_all [] (tokens_of p m.front)) x (tokens_of p m.left) (tokens_of p m.right)
    m.left_word m.right_word)
  where
    regroup : (f : List Item) (o : Item) (l : List Item) (a : Item) (r : List Item) (c : Item) (b : List Item) → f
        ++ o ∷ (l ++ a ∷ (r ++ c ∷ b)) ≡ (f ++ (o ∷ (l ++ a ∷ r))) ++ c ∷ b
    regroup f o l a r c b = simp append_assoc

    together : (f : List Item) (o : Item) (l : List Item) (a : Item) (r : List Item) (c : Item)
        → (f ++ (o ∷ (l ++ a ∷ r))) ++ c ∷ [] ≡ f ++ (o ∷ (l ++ a ∷ (r ++ c ∷ [])))
    together f o l a r c = simp append_assoc

-- the slot of a row that stands in a leaf
pub leaf_own : (p : Parts) (t : IsTree p) (a i b from n f m : ℕ) (slot : Option Slot) → b ≡ a → IsPart p a from n
    → In (leaf_item p a from n) p.items → IsPart p b f m → f + m / 2 ≡ i
    → ((other : Slot) → LeafIn (table p) (doc_rows p) (part (array_at p b) from n) other
    → LeafIn (table p) (doc_rows p) (part (array_at p b) f m) (slot_or other slot))
    → (r : ℕ) → row_of_array p a i ≡ r → (q : DocRow) → find_row (table p r).id (doc_rows p) ≡ Some q
    → own_slot q ≡ slot_or (slot_round (table p) (move_all []
    (tokens_of p (items_before (leaf_item p a from n).name p.items)))) slot
leaf_own p t a i b from n f m slot same leaf there is_part middle down r e q h =
    let told = leaf_told p t a i b from n f m slot same leaf there is_part middle down in
    same_row p (row_of_array p a (f + m / 2)) (slot_or
    (slot_round (table p) (move_all [] (tokens_of p (items_before (leaf_item p a from n).name p.items)))) slot)
    (part (array_at p a) f (m / 2)) (part (array_at p a) (f + m / 2 + 1) (m - m / 2 - 1)) told q
    (ap (λ (x : ℕ). find_row (table p x).id (doc_rows p)) (ap (row_of_array p a) middle ∙ e) ∙ h)

-- all that is told of a row
pub told_row : (p : Parts) (t : IsTree p) (r : ℕ) → r < length p.rows → state_at p r ≢ Gone
    → (slot : Slot) (index : ℕ) → ((q : DocRow) → find_row (table p r).id (doc_rows p) ≡ Some q → own_slot q ≡ slot)
    → index ≡ live_before (table p r).id (doc_rows p) → (e : Entry) → e ≡ table p r → (n : ℕ) → n ≡ length e.deletes
    → row_told (doc_rows p) (table p r).id ≡ Some (record
    { id = e.id; slot = slot; atom = e.atom; deletes = n; index = index })
told_row p t r l s slot index own h e is n long =
    let f = found_row p t r l s in
    let same : entry_of f.row ≡ e = f.entry ∙ sym is in
    ap (option_map (λ (q : DocRow). record {
      id = row_id q;
      slot = own_slot q;
      atom = q.atom;
      deletes = length q.deletes;
      index = live_before (table p r).id (doc_rows p);
    })) f.found
    ∙ (λ i. Some (record {
      id = (same i).id;
      slot = own f.row f.found i;
      atom = (same i).atom;
      deletes = length (same i).deletes;
      index = sym h i;
    }))
    ∙ (λ i. Some (record { id = e.id; slot = slot; atom = e.atom; deletes = sym long i; index = index }))
