-- A row deleted: no token moves, and one row has one more dot.
use Rattle.std.proofs.Common.{◌≡◌, ◌≢◌, ◌⊎◌, ℕ, List, [], ◌∷◌, ◌++◌, Bool, true, false}
use Rattle.std.proofs.Common.{if◌then◌else◌, map, refl, sym, ap, ◌∙◌, subst, inl, inr, ⊎_elim}
use Rattle.std.proofs.lemmas.List.{map-append}
use Rattle.std.proofs.lemmas.Bool.{cases_eq}
use Rattle.std.specs.Ordering.{is_lt, is_eq}
use Rattle.td_base.specs.Value.{DotValue, AtomIdValue}
use Rattle.td_base.specs.Order.{dot_cmp}
use Rattle.td_base.specs.Lists.{In, Successive}
use Rattle.td_base.specs.RunAtoms.{NamedAtom}
use Rattle.td_base.proofs.Lists.{In-append, In-front, In-back, In-map, map_In, all_in}
use Rattle.td_path.specs.SlotPaths.{path_in}
use Rattle.td_path.specs.declared.slot_path.SlotPath.{SlotPath}
use Rattle.td_path.specs.declared.slot_path.SlotPath.TheVariants.{Below}
use Rattle.td_doc.specs.Document.{DocRow, row_id, has_id, is_empty_list}
use Rattle.td_doc.specs.Array.{named, array}
use Rattle.td_doc.specs.Deletion.{add_dot, mark_deleted, delete}
use Rattle.td_doc.proofs.ArrayRows.{array_names}
use Rattle.td_doc.proofs.Placement.{self_id, has_id-false}
use Rattle.td_brackets.specs.Brackets.{Token, Open, Atom, Close, Leaf, Entry, Level, move, slot_of, row_of, outer}
use Rattle.td_brackets.specs.Brackets.{atom_of, leaf_rows, rows_from, numbers_at, numbers_of}
use Rattle.td_brackets.specs.RowNumbers.{row_numbers_at, row_numbers}
use Rattle.td_brackets.proofs.Sides.{row_named}

abbrev pub deleted : Entry → DotValue → Entry
deleted e by = record { id = e.id; atom = e.atom; deletes = add_dot by e.deletes }

module _ (t next : ℕ → Entry) (r : ℕ) (by : DotValue) (ids : (s : ℕ) → (next s).id ≡ (t s).id)
    (here : next r ≡ deleted (t r) by) (other : (s : ℕ) → s ≢ r → next s ≡ t s) where
  slot_ids : (stack : List Level) → slot_of next stack ≡ slot_of t stack
  slot_ids [] = refl
  slot_ids (l ∷ stack) = λ i. Below (path_in (slot_ids stack i) (ids l.0 i)) l.1

  row_here : (slot slot' : SlotPath) → slot ≡ slot' → row_of next slot r ≡ mark_deleted (t r).id by (row_of t slot' r)
  row_here slot slot' e =
      (λ i. record { path = path_in (e i) (here i).id; atom = (here i).atom; deletes = (here i).deletes })
      ∙ sym (ap (λ (b : Bool). if b then (record {
        path = path_in slot' (t r).id;
        atom = (t r).atom;
        deletes = add_dot by (t r).deletes;
      }) else (row_of t slot' r))
      (ap (λ (x : AtomIdValue). has_id x (row_of t slot' r)) (sym (row_named t slot' r))
      ∙ self_id (row_of t slot' r)))

  not_marked : (q : DocRow) → (row_id q ≢ (t r).id) → mark_deleted (t r).id by q ≡ q
  not_marked q d = ap (λ (b : Bool). if b then (record
      { path = q.path; atom = q.atom; deletes = add_dot by q.deletes }) else q) (has_id-false (t r).id q d)

  row_other : (slot slot' : SlotPath) (s : ℕ) → slot ≡ slot' → s ≢ r → (t s).id ≢ (t r).id → row_of next slot s
      ≡ mark_deleted (t r).id by (row_of t slot' s)
  row_other slot slot' s e n d =
      (λ i. record {
        path = path_in (e i) (other s n i).id;
        atom = (other s n i).atom;
        deletes = (other s n i).deletes;
      })
      ∙ sym (not_marked (row_of t slot' s) (λ q. d (sym (row_named t slot' s) ∙ q)))

  one_row : (slot slot' : SlotPath) (s : ℕ) → slot ≡ slot' → (s ≢ r → (t s).id ≢ (t r).id) → row_of next slot s
      ≡ mark_deleted (t r).id by (row_of t slot' s)
  one_row slot slot' s e d =
      ⊎_elim (λ (q : s ≡ r). subst (λ (k : ℕ). row_of next slot k ≡ mark_deleted (t r).id by (row_of t slot' k))
      (sym q) (row_here slot slot' e)) (λ (n : s ≡ r → ⊥). row_other slot slot' s e n (d n)) (cases_eq s r)

  none_marked : (rows : List DocRow) → ((q : DocRow) → In q rows → row_id q ≢ (t r).id)
      → map (mark_deleted (t r).id by) rows ≡ rows
  none_marked [] h = refl
  none_marked (q ∷ rows) h = λ i. not_marked q (h q (inl refl)) i ∷ none_marked rows (λ s m. h s (inr m)) i

  atoms_same : (rs : List ℕ) → ((s : ℕ) → In s rs → s ≢ r) → map (atom_of next) rs ≡ map (atom_of t) rs
  atoms_same [] h = refl
  atoms_same (s ∷ rs) h = λ i. record {
    id = (other s (h s (inl refl)) i).id;
    atom = (other s (h s (inl refl)) i).atom;
  } ∷ atoms_same rs (λ k m. h k (inr m)) i

  leaf_same : (slot slot' : SlotPath) (rs : List ℕ) → slot ≡ slot' → ((s : ℕ) → In s rs → s ≢ r)
      → ((s : ℕ) → In s rs → (t s).id ≢ (t r).id) → leaf_rows next slot rs
      ≡ map (mark_deleted (t r).id by) (leaf_rows t slot' rs)
  leaf_same slot slot' rs e n d =
      (λ i. array (e i) (atoms_same rs n i))
      ∙ sym (none_marked (leaf_rows t slot' rs) (λ q m f.
      let a : In (named q) (map (atom_of t) rs) = subst (In (named q)) (array_names slot' (map (atom_of t) rs))
      (In-map named q (leaf_rows t slot' rs) m) in
      let s = map_In (atom_of t) (named q) rs a in
      d s.0 s.1 (sym (ap (λ (x : NamedAtom). x.id) s.2) ∙ f)))

  pub rows_deleted : (stack : List Level) (ts : List Token)
      → ((s : ℕ) → In s (row_numbers ts) → s ≢ r → (t s).id ≢ (t r).id)
      → ((rs : List ℕ) → In (Leaf rs) ts → (s : ℕ) → In s rs → s ≢ r)
      → rows_from next stack ts ≡ delete (t r).id by (rows_from t stack ts)
  rows_deleted stack [] d n = refl
  rows_deleted stack (Open s ∷ ts) d n = rows_deleted (move stack (Open s)) ts d (λ rs i. n rs (inr i))
  rows_deleted stack (Atom s ∷ ts) d n =
      λ i. one_row (slot_of next (outer stack)) (slot_of t (outer stack)) s (slot_ids (outer stack)) (d s (inl refl))
      i ∷ rows_deleted (move stack (Atom s)) ts (λ k j. d k (inr j)) (λ rs j. n rs (inr j)) i
  rows_deleted stack (Close s ∷ ts) d n = rows_deleted (move stack (Close s)) ts d (λ rs i. n rs (inr i))
  rows_deleted stack (Leaf rs ∷ ts) d n =
      (λ i. leaf_same (slot_of next stack) (slot_of t stack) rs (slot_ids stack) (n rs (inl refl))
      (λ s m. d s (In-front s rs (row_numbers ts) m) (n rs (inl refl) s m)) i
      ++ rows_deleted stack ts (λ k j. d k (In-back k rs (row_numbers ts) j)) (λ qs j. n qs (inr j)) i)
      ∙ sym (map-append (mark_deleted (t r).id by) (leaf_rows t (slot_of t stack) rs) (rows_from t stack ts))

-- a row with a dot is no live row
pub add_dot_some : (d : DotValue) (dots : List DotValue) → is_empty_list (add_dot d dots) ≡ false
add_dot_some d [] = refl
add_dot_some d (e ∷ dots) = some d e dots (is_lt (dot_cmp d e)) (is_eq (dot_cmp d e))
  where
    some : (d e : DotValue) (dots : List DotValue) (b c : Bool)
        → is_empty_list (if b then d ∷ e ∷ dots else (if c then e ∷ dots else e ∷ add_dot d dots)) ≡ false
    some d e dots true c = refl
    some d e dots false true = refl
    some d e dots false false = refl

pub apart_two : (t : ℕ → Entry) (xs : List ℕ) → Successive (λ (r s : ℕ). (t r).id ≢ (t s).id) xs → (s r : ℕ) → In s xs
    → In r xs → s ≢ r → (t s).id ≢ (t r).id
apart_two t [] a s r i j n e = absurd i
apart_two t (x ∷ xs) a s r i j n e =
    ⊎_elim
    (λ (p : s ≡ x). ⊎_elim (λ (q : r ≡ x). n (p ∙ sym q))
    (λ (k : In r xs). all_in (λ (y : ℕ). (t x).id ≢ (t y).id) xs a.0 r k (ap (λ (y : ℕ). (t y).id) (sym p) ∙ e)) j)
    (λ (k : In s xs). ⊎_elim (λ (q : r ≡ x). all_in (λ (y : ℕ). (t x).id ≢ (t y).id) xs a.0 s k
    (ap (λ (y : ℕ). (t y).id) (sym q) ∙ sym e)) (λ (l : In r xs). apart_two t xs a.1 s r k l n e) j) i

-- rows of tokens are among their numbers

pub open_number : (ts : List Token) (r : ℕ) → In (Open r) ts → In r (numbers_of ts)
open_number [] r i = absurd i
open_number (Open s ∷ ts) r i = ⊎_elim (λ (e : Open r ≡ Open s). inl (same e))
    (λ (k : In (Open r) ts). inr (open_number ts r k)) i
  where
    same : Open r ≡ Open s → r ≡ s
    same e = cc
open_number (Atom s ∷ ts) r i = ⊎_elim (λ (e : Open r ≡ Atom s). absurd (no e))
    (λ (k : In (Open r) ts). open_number ts r k) i
  where
    no : Open r ≡ Atom s → ⊥
    no e = cc
open_number (Close s ∷ ts) r i = ⊎_elim (λ (e : Open r ≡ Close s). absurd (no e))
    (λ (k : In (Open r) ts). open_number ts r k) i
  where
    no : Open r ≡ Close s → ⊥
    no e = cc
open_number (Leaf rs ∷ ts) r i = ⊎_elim (λ (e : Open r ≡ Leaf rs). absurd (no e))
    (λ (k : In (Open r) ts). In-back r rs (numbers_of ts) (open_number ts r k)) i
  where
    no : Open r ≡ Leaf rs → ⊥
    no e = cc

pub leaf_number : (ts : List Token) (rs : List ℕ) (r : ℕ) → In (Leaf rs) ts → In r rs → In r (numbers_of ts)
leaf_number [] rs r i j = absurd i
leaf_number (t ∷ ts) rs r i j =
    ⊎_elim (λ (e : Leaf rs ≡ t). In-front r (numbers_at t) (numbers_of ts)
    (subst (λ (q : Token). In r (numbers_at q)) e j))
    (λ (k : In (Leaf rs) ts). In-back r (numbers_at t) (numbers_of ts) (leaf_number ts rs r k j)) i

pub row_token_of : (ts : List Token) (s : ℕ) → In s (row_numbers ts) → In (Atom s) ts
    ⊎ ((rs : List ℕ) × In (Leaf rs) ts × In s rs)
row_token_of [] s i = absurd i
row_token_of (t ∷ ts) s i =
    ⊎_elim (λ (j : In s (row_numbers_at t)). at t j)
    (λ (j : In s (row_numbers ts)). ⊎_elim (λ (k : In (Atom s) ts). inl (inr k))
    (λ (k : (rs : List ℕ) × In (Leaf rs) ts × In s rs). inr (k.0, inr k.1, k.2)) (row_token_of ts s j))
    (In-append s (row_numbers_at t) (row_numbers ts) i)
  where
    at : (t : Token) → In s (row_numbers_at t) → In (Atom s) (t ∷ ts)
        ⊎ ((rs : List ℕ) × In (Leaf rs) (t ∷ ts) × In s rs)
    at (Open r) j = absurd j
    at (Atom r) j = ⊎_elim (λ (e : s ≡ r). inl (inl (ap Atom e))) (λ (z : ⊥). absurd z) j
    at (Close r) j = absurd j
    at (Leaf rs) j = inr (rs, inl refl, j)
