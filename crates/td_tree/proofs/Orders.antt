-- The rows before and behind a row, and those of the next marked item.
use Rattle.std.proofs.Common.{◌≡◌, ◌+◌, ◌-◌, ◌/◌, ◌%◌, ◌<◌, ℕ, zero, suc, List, [], ◌∷◌, ◌++◌, Bool, true}
use Rattle.std.proofs.Common.{false, if◌then◌else◌, length, map, drop, Option, Some, None, slice_get, refl, sym}
use Rattle.std.proofs.Common.{ap, ◌∙◌, subst, inl, inr, arith, append_assoc, true≢false}
use Rattle.std.specs.Option.{option_map}
use Rattle.std.specs.Prelude.{IfSome}
use Rattle.td_base.specs.Lists.{In}
use Rattle.td_base.proofs.Lists.{In-back, In-map}
use Rattle.td_base.proofs.Elements.{In-slice_get}
use Rattle.td_doc.specs.Allocation.{first_id, next_id}
use Rattle.td_list.specs.Items.{Item, IsItem, first_marked, first_name, items_before, items_after}
use Rattle.td_list.proofs.Parted.{Parted, parted, before_is, after_is, after_at}
use Rattle.td_brackets.specs.Brackets.{Token, Open, Atom, Close, Leaf}
use Rattle.td_brackets.specs.RowNumbers.{row_numbers_at, first_number}
use Rattle.td_brackets.proofs.Entries.{next_id_is, first_id_is}
use Rattle.td_tree.specs.declared.tree_row.RowState.{RowState}
use Rattle.td_tree.specs.declared.tree_row.RowState.TheVariants.{Node, InArray, Gone}
use Rattle.td_tree.specs.Parts.{Parts, state_at, table, array_at, row_token, kind_token, token_of}
use Rattle.td_tree.specs.Parts.{doc_rows, is_row_token, IsKind, IsToken, IsTree}
use Rattle.td_tree.specs.Reading.{shown_at, shown, StandsAt}
use Rattle.td_tree.proofs.ArrayParts.{part_length}
use Rattle.td_tree.proofs.Trees.{one_item}
use Rattle.td_tree.proofs.RowPlaces.{item_of}
use Rattle.td_tree.proofs.Shown.{shown-append, shown_inside, shown_stays, entries}

-- the item of a name, with the rows before and behind it
pub record ItemIn (p : Parts) (i : Item) : Type 0 where
  pub is : p.items ≡ items_before i.name p.items ++ i ∷ items_after i.name p.items
  pub shown_is : shown p p.items ≡ shown p (items_before i.name p.items)
      ++ (shown_at p i ++ shown p (items_after i.name p.items))

pub item_in : (p : Parts) → IsTree p → (i : Item) → In i p.items → ItemIn p i
item_in p t i m =
    let there : IsItem i.name p.items = In-map (λ (j : Item). j.name) i p.items m in
    let q : Parted i.name p.items = parted i.name p.items there in
    let here : In q.item p.items = subst (In q.item) (sym q.is) (In-back q.item q.front (q.item ∷ q.back) (inl refl)) in
    let same : q.item ≡ i = one_item p.items t.apart q.item i here m q.named in
    let is : p.items ≡ items_before i.name p.items ++ i ∷ items_after i.name p.items = q.is
    ∙ (λ j. sym (before_is i.name p.items there) j ++ same j ∷ sym (after_is i.name p.items there) j) in
    record {
      is = is;
      shown_is = ap (shown p) is ∙ shown-append p (items_before i.name p.items)
          (i ∷ items_after i.name p.items);
    }

-- the rows round a row at its place
pub place_parts : (p : Parts) → IsTree p → (r name rest : ℕ) → (l : StandsAt p r name rest)
    → shown p p.items ≡ (shown p (items_before name p.items) ++ l.before)
    ++ r ∷ (l.after ++ shown p (items_after name p.items))
place_parts p t r name rest l =
    (item_in p t l.item l.there).shown_is
    ∙ ap (λ (x : ℕ). shown p (items_before x p.items) ++ (shown_at p l.item ++ shown p (items_after x p.items))) l.named
    ∙ ap (λ (q : List ℕ). shown p (items_before name p.items) ++ (q ++ shown p (items_after name p.items))) l.is
    ∙ regroup (shown p (items_before name p.items)) l.before r l.after (shown p (items_after name p.items))
  where
    regroup : (a b : List ℕ) (x : ℕ) (c d : List ℕ) → a ++ ((b ++ x ∷ c) ++ d) ≡ (a ++ b) ++ x ∷ (c ++ d)
    regroup a b x c d = simp append_assoc

drop_past : (xs : List ℕ) (x : ℕ) (ys : List ℕ) (n : ℕ) → length xs ≡ n → drop (n + 1) (xs ++ x ∷ ys) ≡ ys
drop_past [] x ys zero e = refl
drop_past [] x ys (suc n) e = absurd (omega arith)
drop_past (y ∷ xs) x ys zero e = absurd (omega arith)
drop_past (y ∷ xs) x ys (suc n) e = more (y ∷ (xs ++ x ∷ ys)) ∙ drop_past xs x ys n (omega arith)
  where
    same : suc n + 1 ≡ suc (n + 1)
    same = omega arith

    more : (zs : List ℕ) → drop (suc n + 1) zs ≡ drop (suc (n + 1)) zs
    more zs = ap (λ (k : ℕ). drop k zs) same

-- the row that follows
pub follows : (p : Parts) (t : IsTree p) (r name rest : ℕ) → StandsAt p r name rest → (result : Option ℕ)
    → ((i : Item) → In i p.items → i.name ≡ name → result
    ≡ first_number (drop (rest + 1) (shown_at p i) ++ shown p (items_after name p.items)))
    → next_id (table p r).id (doc_rows p) ≡ option_map (λ (x : ℕ). (table p x).id) result
follows p t r name rest l result h =
    let parts = place_parts p t r name rest l in
    next_id_is (table p) (shown p (items_before name p.items) ++ l.before) r
    (l.after ++ shown p (items_after name p.items)) (doc_rows p) (entries p t ∙ ap (map (table p)) parts)
    t.brackets.document.apart
    ∙ ap (λ (q : List ℕ). option_map (λ (x : ℕ). (table p x).id)
    (first_number (q ++ shown p (items_after name p.items))))
    (sym (ap (drop (rest + 1)) l.is ∙ drop_past l.before r l.after rest l.long))
    ∙ ap (option_map (λ (x : ℕ). (table p x).id)) (sym (h l.item l.there l.named))

-- the first row
pub first_follows : (p : Parts) (t : IsTree p) (o : Option ℕ) → first_name p.items ≡ o → (result : Option ℕ)
    → ((name : ℕ) → o ≡ Some name → (i : Item) → In i p.items → i.name ≡ name → result
    ≡ first_number (drop 0 (shown_at p i) ++ shown p (items_after name p.items)))
    → (o ≡ None → result ≡ None) → first_id (doc_rows p) ≡ option_map (λ (x : ℕ). (table p x).id) result
first_follows p t o e result some none = first_id_is (table p) (shown p p.items) (doc_rows p) (entries p t)
    ∙ ap (option_map (λ (x : ℕ). (table p x).id)) (of_items p.items refl)
  where
    of_items : (items : List Item) → p.items ≡ items → first_number (shown p p.items) ≡ result
    of_items [] f = ap (λ (q : List Item). first_number (shown p q)) f ∙ sym (none (sym e ∙ ap first_name f))
    of_items (i ∷ items) f =
        let m : In i p.items = subst (In i) (sym f) (inl refl) in
        let after : items_after i.name p.items ≡ items = ap (items_after i.name) f
        ∙ after_at i.name [] i items refl (λ z. z) in
        ap first_number (ap (shown p) f) ∙ ap (λ (q : List Item). first_number (shown_at p i ++ shown p q)) (sym after)
        ∙ sym (some i.name (sym e ∙ ap first_name f) i m refl)

-- a marked item has a row

marked_kind : (p : Parts) (k q w : ℕ) (s : RowState) → IsKind p k s w
    → is_row_token (kind_token k q (row_token p s q w)) ≡ true
    → 0 < length (row_numbers_at (kind_token k q (row_token p s q w)))
marked_kind p zero q w s h e = absurd (true≢false (sym e))
marked_kind p (suc zero) q w Node h e = omega arith
marked_kind p (suc zero) q w (InArray a c) h e =
    let long = part_length (array_at p a) (c - w / 2) w h.1.within in
    let some = h.1.some in
    omega arith
marked_kind p (suc zero) q w Gone h e = absurd h
marked_kind p (suc (suc k)) q w s h e = absurd (true≢false (sym e))

unmarked_kind : (t : Token) → is_row_token t ≡ false → row_numbers_at t ≡ []
unmarked_kind (Open r) e = refl
unmarked_kind (Atom r) e = absurd (true≢false e)
unmarked_kind (Close r) e = refl
unmarked_kind (Leaf rs) e = absurd (true≢false e)

first_of : (xs ys : List ℕ) → 0 < length xs → first_number (xs ++ ys) ≡ slice_get xs 0
first_of [] ys h = absurd (omega arith)
first_of (x ∷ xs) ys h = refl

-- the next marked item has the next row
pub record NextShown (p : Parts) (items : List Item) (name : ℕ) : Type 0 where
  pub item : Item
  pub there : In item items
  pub named : item.name ≡ name
  pub is : first_number (shown p items) ≡ slice_get (shown_at p item) 0

module _ (p : Parts) where
  next_at : (i : Item) (items : List Item) → IsToken p i → (b : Bool) → i.marked ≡ b → (name : ℕ)
      → (if b then Some i.name else first_marked items) ≡ Some name
      → (first_marked items ≡ Some name → NextShown p items name) → NextShown p (i ∷ items) name
  next_at i items h true e name f ih = record {
    item = i;
    there = inl refl;
    named = same i.name name f;
    is = first_of (shown_at p i) (shown p items) (marked_kind p (i.name % 3) (i.name / 3) i.weight
        (state_at p (i.name / 3)) h.kind (sym h.marked ∙ e));
  }
    where
      same : (a b : ℕ) → Some a ≡ Some b → a ≡ b
      same a b e = cc
  next_at i items h false e name f ih =
      let k = ih f in
      record {
        item = k.item;
        there = inr k.there;
        named = k.named;
        is = ap (λ (q : List ℕ). first_number (q ++ shown p items))
            (unmarked_kind (token_of p i) (sym h.marked ∙ e)) ∙ k.is;
      }

  pub next_shown : (items : List Item) → ((i : Item) → In i items → IsToken p i) → (name : ℕ) → first_marked items
      ≡ Some name → NextShown p items name
  next_shown [] h name e = absurd cc
  next_shown (i ∷ items) h name e = next_at i items (h i (inl refl)) i.marked refl name e
      (λ f. next_shown items (λ j m. h j (inr m)) name f)

  none_at : (i : Item) (items : List Item) → IsToken p i → (b : Bool) → i.marked ≡ b
      → (if b then Some i.name else first_marked items) ≡ None
      → (first_marked items ≡ None → shown p items ≡ []) → shown p (i ∷ items) ≡ []
  none_at i items h true e f ih = absurd cc
  none_at i items h false e f ih = ap (λ (q : List ℕ). q ++ shown p items)
      (unmarked_kind (token_of p i) (sym h.marked ∙ e)) ∙ ih f

  pub none_shown : (items : List Item) → ((i : Item) → In i items → IsToken p i) → first_marked items ≡ None
      → shown p items ≡ []
  none_shown [] h e = refl
  none_shown (i ∷ items) h e = none_at i items (h i (inl refl)) i.marked refl e
      (λ f. none_shown items (λ j m. h j (inr m)) f)

pub drop_some : (xs ys : List ℕ) (k r : ℕ) → slice_get xs k ≡ Some r → first_number (drop k xs ++ ys) ≡ Some r
drop_some [] ys k r e = absurd cc
drop_some (x ∷ xs) ys zero r e = e
drop_some (x ∷ xs) ys (suc k) r e = drop_some xs ys k r e

pub drop_none : (xs ys : List ℕ) (k : ℕ) → slice_get xs k ≡ None → drop k xs ++ ys ≡ ys
drop_none [] ys zero e = refl
drop_none [] ys (suc k) e = refl
drop_none (x ∷ xs) ys zero e = absurd cc
drop_none (x ∷ xs) ys (suc k) e = drop_none xs ys k e

-- a row that an item has is one of the rows
pub known_row : (p : Parts) (t : IsTree p) (i : Item) → In i p.items → (k r : ℕ) → slice_get (shown_at p i) k ≡ Some r
    → r < length p.rows
known_row p t i m k r e = (shown_stays p t r (shown_inside p p.items i r m (In-slice_get (shown_at p i) k r e))).0

pub behind_in : (p : Parts) (t : IsTree p) (name : ℕ) → IsItem name p.items → (i : Item)
    → In i (items_after name p.items) → In i p.items
behind_in p t name h i m =
    let q = parted name p.items h in
    subst (In i) (sym q.is) (In-back i q.front (q.item ∷ q.back) (inr (subst (In i) (after_is name p.items h) m)))

pub known_result : (p : Parts) (t : IsTree p) (name : ℕ) → IsItem name p.items → (k : ℕ) (result : Option ℕ)
    → ((i : Item) → In i p.items → i.name ≡ name → result ≡ slice_get (shown_at p i) k)
    → IfSome result (λ r. r < length p.rows)
known_result p t name h k None f = tt
known_result p t name h k (Some r) f =
    let i = item_of p t name h in
    known_row p t i.0 i.1 k r (sym (f i.0 i.1 i.2))
