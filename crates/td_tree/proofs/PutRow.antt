-- One new row, in brackets of its own.
use Rattle.std.proofs.Common.{◌≡◌, ◌⊎◌, ◌+◌, ◌*◌, ◌/◌, ◌<◌, ◌≤◌, ◌^◌, ℕ, List, [], ◌∷◌, ◌++◌, length, refl}
use Rattle.std.proofs.Common.{sym, ap, ◌∙◌, subst, inl, ⊎_elim, arith, Option, Some, None}
use Rattle.std.specs.Prelude.{IsNone, IsTrue}
use Rattle.std.proofs.lemmas.List.{append-nil, get_or_push}
use Rattle.td_base.specs.Lists.{In}
use Rattle.td_base.specs.Value.{AtomIdValue}
use Rattle.td_path.specs.declared.slot.Slot.{Slot}
use Rattle.td_doc.specs.Document.{find_row}
use Rattle.td_doc.specs.Slots.{slot_path}
use Rattle.td_doc.specs.Answers.{is_rooted}
use Rattle.td_doc.specs.Insertion.{insert_atom}
use Rattle.td_list.specs.Items.{Item, IsItem, AreApart, AreNew, first_name, put_at}
use Rattle.td_list.proofs.Names.{item-front, item-back}
use Rattle.td_base.proofs.Lists.{map_In}
use Rattle.td_brackets.specs.Brackets.{Entry, numbers_of, slot_of, rows_of, IsBrackets}
use Rattle.td_brackets.specs.Laws.{Standing, AllAfter}
use Rattle.td_brackets.proofs.Words.{group}
use Rattle.td_brackets.proofs.Kept.{same_standing, put_rows_are, put_brackets}
use Rattle.td_tree.specs.declared.tree_row.RowState.TheVariants.{Node}
use Rattle.td_tree.specs.Parts.{RowValue, Parts, nobody, row_at, state_at, table, tokens_of, tokens, doc_rows}
use Rattle.td_tree.specs.Parts.{IsToken, open_item, atom_item, close_item, node_items, IsAt, IsTree}
use Rattle.td_tree.specs.Places.{IsPlace, IsNewPlace, IsPut}
use Rattle.td_tree.proofs.Pieces.{open_is_token, close_is_token, live_is_token, node_items_tokens}
use Rattle.td_tree.proofs.Pieces.{node_items_in, node_items_names, node_items_apart}
use Rattle.td_tree.proofs.Grown.{put_parts, long, agree, old_tokens, new_tokens, grown_tree}

-- a place, with what is behind it
pub place_there : (p : Parts) (slot : Slot) (id : AtomIdValue) (at : Option ℕ) → IsPlace p slot id at → (x : ℕ) → at
    ≡ Some x → IsItem x p.items
place_there p slot id at pl x e = subst (IsItem x) (sym pl.is)
    (item-back x pl.front pl.back (first_in pl.back (pl.here ∙ e)))
  where
    no : (x : ℕ) → None ≡ Some x → ⊥
    no x e = cc

    same : (x y : ℕ) → Some y ≡ Some x → x ≡ y
    same x y e = cc

    first_in : (back : List Item) → first_name back ≡ Some x → IsItem x back
    first_in [] e = absurd (no x e)
    first_in (i ∷ back) e = inl (same x i.name e)

pub piece_names : (n x : ℕ) → IsItem x (node_items n [] []) → x / 3 ≡ n
piece_names n x i =
    ⊎_elim (λ (e : x ≡ 3 * n). omega arith)
    (λ (k : (x ≡ 3 * n + 1) ⊎ ((x ≡ 3 * n + 2) ⊎ (⊥ ⊎ ⊥))).
    ⊎_elim (λ (e : x ≡ 3 * n + 1). omega arith)
    (λ (l : (x ≡ 3 * n + 2) ⊎ (⊥ ⊎ ⊥)). ⊎_elim (λ (e : x ≡ 3 * n + 2). omega arith)
    (λ (m : ⊥ ⊎ ⊥). ⊎_elim (λ (z : ⊥). absurd z) (λ (z : ⊥). absurd z) m) l) k) (node_items_names n [] [] x i)

pub piece_apart : (n : ℕ) → AreApart (node_items n [] [])
piece_apart n = node_items_apart n [] [] tt tt (λ x i. absurd i) (λ x i. absurd i) (λ x i j. absurd i)

-- no item has a name of a row that is to come
pub piece_new : (p : Parts) → IsTree p → (piece : List Item) → ((x : ℕ) → IsItem x piece → length p.rows ≤ x / 3)
    → AreNew piece p.items
piece_new p t piece fresh x i j =
    let k = map_In (λ (y : Item). y.name) x p.items j in
    below (length p.rows) (x / 3) (subst (λ (y : ℕ). y / 3 < length p.rows) (sym k.2) (t.each k.0 k.1).known)
    (fresh x i)
  where
    below : (a b : ℕ) → b < a → a ≤ b → ⊥
    below a b l m = omega arith

module _ (p : Parts) (t : IsTree p) (at : Option ℕ) (id : AtomIdValue) (atom : List ℕ) where
  abbrev n : ℕ
  n = length p.rows

  abbrev new_row : RowValue
  new_row = record { entry = record { id = id; atom = atom; deletes = [] }; state = Node }

  abbrev pub with_row : Parts
  with_row = record {
    items = put_at at (node_items (length p.rows) [] []) p.items;
    rows = p.rows ++ record { entry = record { id = id; atom = atom; deletes = [] }; state = Node } ∷ [];
    arrays = p.arrays;
    nodes = p.nodes + 1;
    count = p.count + 1;
  }

  module _ (slot : Slot) (place : IsNewPlace p slot id at) (unknown : IsNone (find_row id (doc_rows p)))
      (few : length p.rows + 1 < 2 ^ 30) (rooted : IsTrue (is_rooted (doc_rows p) slot)) where
    abbrev pl : IsPlace p slot id at
    pl = place.place

    items_are : with_row.items ≡ pl.front ++ (node_items n [] [] ++ pl.back)
    items_are = ap (put_at at (node_items n [] [])) pl.is
        ∙ put_parts at (node_items n [] []) pl.front pl.back (subst AreApart pl.is t.apart) pl.here

    abbrev q : Parts
    q = with_row

    arrays_are : p.arrays ≡ p.arrays ++ []
    arrays_are = sym (append-nil p.arrays)

    here : row_at q n ≡ new_row
    here = get_or_push p.rows new_row nobody n refl

    node : state_at q n ≡ Node
    node = ap (λ (v : RowValue). v.state) here

    entry : table q n ≡ record { id = id; atom = atom; deletes = [] }
    entry = ap (λ (v : RowValue). v.entry) here

    more_rows : length q.rows ≡ n + 1
    more_rows = long p t pl.front pl.back pl.is q (node_items n [] []) (new_row ∷ []) [] items_are refl arrays_are

    agrees : (s : ℕ) → In s (numbers_of (tokens p)) → table q s ≡ table p s
    agrees = agree p t pl.front pl.back pl.is q (node_items n [] []) (new_row ∷ []) [] items_are refl arrays_are

    was : tokens p ≡ tokens_of p pl.front ++ tokens_of p pl.back
    was = old_tokens p t pl.front pl.back pl.is q (node_items n [] []) (new_row ∷ []) [] items_are refl arrays_are

    standing : Standing (table p) (tokens p) pl.stack id (tokens_of p pl.front) (tokens_of p pl.back)
    standing = record { is = was; moved = pl.moved; before = pl.before }

    moved : Standing (table q) (tokens p) pl.stack id (tokens_of p pl.front) (tokens_of p pl.back)
        × AllAfter (table q) pl.stack id (tokens_of p pl.back)
        × (slot_of (table q) pl.stack ≡ slot_of (table p) pl.stack)
    moved = same_standing (table p) (table q) (tokens p) pl.stack id (tokens_of p pl.front) (tokens_of p pl.back)
        t.brackets.word agrees standing place.after

    named : id ≡ (table q n).id
    named = sym (ap (λ (e : Entry). e.id) entry)

    there : slot_path (doc_rows p) slot ≡ Some (slot_of (table q) pl.stack)
    there = pl.slot_is ∙ ap Some (sym moved.2)

    standing_now : Standing (table q) (tokens p) pl.stack (table q n).id (tokens_of p pl.front) (tokens_of p pl.back)
    standing_now = subst (λ (x : AtomIdValue). Standing (table q) (tokens p) pl.stack x (tokens_of p pl.front)
        (tokens_of p pl.back)) named moved.0

    after_now : AllAfter (table q) pl.stack (table q n).id (tokens_of p pl.back)
    after_now = subst (λ (x : AtomIdValue). AllAfter (table q) pl.stack x (tokens_of p pl.back)) named moved.1

    brackets : IsBrackets (table q) (tokens_of p pl.front ++ (group n ++ tokens_of p pl.back))
    brackets = put_brackets (table p) (table q) (tokens p) t.brackets n id atom agrees entry unknown
        (tokens_of p pl.front) (tokens_of p pl.back) was pl.stack slot standing_now after_now there rooted

    each_new : (i : Item) → In i (node_items n [] []) → IsToken q i
    each_new i m =
        ⊎_elim (λ (e : i ≡ open_item n). subst (IsToken q) (sym e) (open_is_token q n (omega (arith, more_rows)) node))
        (λ (x : (i ≡ atom_item n 1) ⊎ ((i ≡ close_item n) ⊎ (⊥ ⊎ ⊥))).
        ⊎_elim (λ (e : i ≡ atom_item n 1). subst (IsToken q) (sym e)
        (live_is_token q n (omega (arith, more_rows)) node (ap (λ (v : Entry). v.deletes) entry)))
        (λ (y : (i ≡ close_item n) ⊎ (⊥ ⊎ ⊥)).
        ⊎_elim (λ (e : i ≡ close_item n). subst (IsToken q) (sym e)
        (close_is_token q n (omega (arith, more_rows)) node))
        (λ (z : ⊥ ⊎ ⊥). ⊎_elim (λ (w : ⊥). absurd w) (λ (w : ⊥). absurd w) z) y) x) (node_items_in n [] [] i m)

    at_new : (r : ℕ) → n ≤ r → r < length q.rows → IsAt q r (state_at q r)
    at_new r low high =
        let same : n ≡ r = omega (arith, more_rows) in
        subst (λ (x : ℕ). IsAt q x (state_at q x)) same (subst (IsAt q n) (sym node)
        (subst (IsItem (3 * n)) (sym items_are) (item-back (3 * n) pl.front (node_items n [] [] ++ pl.back)
        (item-front (3 * n) (node_items n [] []) pl.back (inl refl)))))

    pub row_tree : IsTree q
    row_tree =
        grown_tree p t pl.front pl.back pl.is q (node_items n [] []) (new_row ∷ []) [] items_are refl arrays_are
        (group n) (node_items_tokens q n [] [] node) brackets
        each_new (piece_apart n) (λ x i. let e = piece_names n x i in omega arith) at_new
        (λ a l m. absurd (omega arith)) (λ a k l m o. absurd (omega arith)) (λ a l m. absurd (omega arith)) refl
        refl (omega arith) (omega arith) (omega arith) (omega (arith, more_rows))

    pub row_rows : doc_rows q ≡ insert_atom slot id atom (doc_rows p)
    row_rows =
        ap (rows_of (table q)) (new_tokens p t pl.front pl.back pl.is q (node_items n [] []) (new_row ∷ []) []
        items_are refl arrays_are (group n) (node_items_tokens q n [] [] node))
        ∙ put_rows_are (table p) (table q) (tokens p) t.brackets n id atom agrees entry unknown (tokens_of p pl.front)
        (tokens_of p pl.back) was pl.stack slot standing_now after_now there

  pub is_put : IsNone (find_row id (doc_rows p)) → length p.rows + 1 < 2 ^ 30 → IsPut p with_row at id atom
  is_put unknown few = record {
    rows = refl;
    items = refl;
    nodes = refl;
    there = λ slot place rooted. (row_tree slot place unknown few rooted, row_rows slot place unknown few rooted);
  }
