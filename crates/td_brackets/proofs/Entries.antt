-- What a document answers of its rows, by the numbers of the rows.
use Rattle.std.proofs.Common.{◌≡◌, ◌≢◌, ◌+◌, ℕ, List, [], ◌∷◌, ◌++◌, Bool, true, false, ◌&&◌, if◌then◌else◌, map}
use Rattle.std.proofs.Common.{length, Some, None, refl, sym, ap, ◌∙◌, subst, inl, inr, arith, append_assoc}
use Rattle.std.proofs.lemmas.List.{map-append}
use Rattle.std.specs.List.{list_all, concat}
use Rattle.std.specs.Option.{option_map}
use Rattle.td_base.specs.Value.{AtomIdValue}
use Rattle.td_base.specs.Lists.{In, Successive}
use Rattle.td_base.specs.RunAtoms.{NamedAtom}
use Rattle.td_base.proofs.Lists.{map_In, In-map, across, successive_map, map_successive}
use Rattle.td_base.proofs.Elements.{same_head, same_tail}
use Rattle.td_base.proofs.Searches.{find_nothing}
use Rattle.td_path.specs.declared.slot_path.SlotPath.{SlotPath}
use Rattle.td_doc.specs.Document.{DocRow, row_id, is_live, is_empty_list, live_rows, find_row, has_id, text_of}
use Rattle.td_doc.specs.Allocation.{first_id, next_id}
use Rattle.td_doc.specs.Answers.{live_before}
use Rattle.td_doc.specs.Array.{named}
use Rattle.td_doc.proofs.ArrayRows.{array_names, array_bare}
use Rattle.td_doc.proofs.Placement.{find_at, has_id-false, self_id}
use Rattle.td_brackets.specs.Brackets.{Token, Open, Atom, Close, Leaf, Entry, Level, move, outer}
use Rattle.td_brackets.specs.Brackets.{atom_of, slot_of, row_at, leaf_rows, rows_from}
use Rattle.td_brackets.specs.RowNumbers.{row_numbers_at, row_numbers, entry_of}
use Rattle.td_brackets.specs.RowNumbers.{is_known_entry, first_number, text_of_numbers}
use Rattle.td_brackets.proofs.Sides.{row_named}
use Rattle.td_brackets.proofs.NodeRows.{next_at}

pub row_numbers-append : (xs ys : List Token) → row_numbers (xs ++ ys) ≡ row_numbers xs ++ row_numbers ys
row_numbers-append [] ys = refl
row_numbers-append (t ∷ xs) ys = ap (λ (q : List ℕ). row_numbers_at t ++ q) (row_numbers-append xs ys)
    ∙ simp append_assoc

-- the rows of the tokens are those of their numbers, in their order

bare_rows : (rows : List DocRow) → ((r : DocRow) → In r rows → r.deletes ≡ []) → map entry_of rows
    ≡ map (λ (a : NamedAtom). record { id = a.id; atom = a.atom; deletes = [] }) (map named rows)
bare_rows [] h = refl
bare_rows (r ∷ rows) h = λ i. record { id = row_id r; atom = r.atom; deletes = h r (inl refl) i } ∷ bare_rows rows
    (λ s j. h s (inr j)) i

bare_numbers : (table : ℕ → Entry) (rs : List ℕ) → ((r : ℕ) → In r rs → (table r).deletes ≡ [])
    → map (λ (a : NamedAtom). record { id = a.id; atom = a.atom; deletes = [] }) (map (atom_of table) rs) ≡ map table rs
bare_numbers table [] h = refl
bare_numbers table (r ∷ rs) h = λ i. record {
  id = (table r).id;
  atom = (table r).atom;
  deletes = sym (h r (inl refl)) i;
} ∷ bare_numbers table rs (λ s j. h s (inr j)) i

leaf_entries : (table : ℕ → Entry) (slot : SlotPath) (rs : List ℕ) → ((r : ℕ) → In r rs → (table r).deletes ≡ [])
    → map entry_of (leaf_rows table slot rs) ≡ map table rs
leaf_entries table slot rs h =
    bare_rows (leaf_rows table slot rs) (λ r i. array_bare (length (map (atom_of table) rs)) slot
    (map (atom_of table) rs) r i)
    ∙ ap (map (λ (a : NamedAtom). record { id = a.id; atom = a.atom; deletes = [] }))
    (array_names slot (map (atom_of table) rs))
    ∙ bare_numbers table rs h

entries_at : (table : ℕ → Entry) (stack : List Level) (t : Token)
    → ((rs : List ℕ) (r : ℕ) → Leaf rs ≡ t → In r rs → (table r).deletes ≡ []) → map entry_of (row_at table stack t)
    ≡ map table (row_numbers_at t)
entries_at table stack (Open r) h = refl
entries_at table stack (Atom r) h = λ i. record
    { id = row_named table (slot_of table (outer stack)) r i; atom = (table r).atom; deletes = (table r).deletes } ∷ []
entries_at table stack (Close r) h = refl
entries_at table stack (Leaf rs) h = leaf_entries table (slot_of table stack) rs (λ r i. h rs r refl i)

pub entries_are : (table : ℕ → Entry) (stack : List Level) (tokens : List Token)
    → ((rs : List ℕ) (r : ℕ) → In (Leaf rs) tokens → In r rs → (table r).deletes ≡ [])
    → map entry_of (rows_from table stack tokens) ≡ map table (row_numbers tokens)
entries_are table stack [] h = refl
entries_are table stack (t ∷ tokens) h =
    map-append entry_of (row_at table stack t) (rows_from table (move stack t) tokens)
    ∙ (λ i. entries_at table stack t (λ rs r e j. h rs r (inl e) j) i
    ++ entries_are table (move stack t) tokens (λ rs r k j. h rs r (inr k) j) i)
    ∙ sym (map-append table (row_numbers_at t) (row_numbers tokens))

-- what is asked of rows whose entries are those of some numbers

entry_ids : (table : ℕ → Entry) (numbers : List ℕ) (rows : List DocRow) → map entry_of rows ≡ map table numbers
    → map row_id rows ≡ map (λ (r : ℕ). (table r).id) numbers
entry_ids table numbers rows e = through rows ∙ ap (map (λ (k : Entry). k.id)) e ∙ over numbers
  where
    through : (rows : List DocRow) → map row_id rows ≡ map (λ (k : Entry). k.id) (map entry_of rows)
    through [] = refl
    through (r ∷ rows) = ap (λ (q : List AtomIdValue). row_id r ∷ q) (through rows)

    over : (numbers : List ℕ) → map (λ (k : Entry). k.id) (map table numbers) ≡ map (λ (r : ℕ). (table r).id) numbers
    over [] = refl
    over (r ∷ numbers) = ap (λ (q : List AtomIdValue). (table r).id ∷ q) (over numbers)

-- identities of the numbers differ where those of the rows do
pub numbers_apart : (table : ℕ → Entry) (numbers : List ℕ) (rows : List DocRow) → map entry_of rows
    ≡ map table numbers → Successive (λ (r s : DocRow). row_id r ≢ row_id s) rows
    → Successive (λ (r s : ℕ). (table r).id ≢ (table s).id) numbers
numbers_apart table numbers rows e h =
    map_successive (λ (x y : AtomIdValue). x ≢ y) (λ (r : ℕ). (table r).id) numbers
    (subst (Successive (λ (x y : AtomIdValue). x ≢ y)) (entry_ids table numbers rows e)
    (successive_map (λ (x y : AtomIdValue). x ≢ y) row_id rows h))

-- the rows parted where the numbers are
pub record RowsAt (table : ℕ → Entry) (front : List ℕ) (x : ℕ) (back : List ℕ) (rows : List DocRow) : Type 0 where
  pub before : List DocRow
  pub row : DocRow
  pub after : List DocRow
  pub is : rows ≡ before ++ row ∷ after
  pub before_is : map entry_of before ≡ map table front
  pub row_is : entry_of row ≡ table x
  pub after_is : map entry_of after ≡ map table back

pub rows_at : (table : ℕ → Entry) (front : List ℕ) (x : ℕ) (back : List ℕ) (rows : List DocRow) → map entry_of rows
    ≡ map table (front ++ x ∷ back) → RowsAt table front x back rows
rows_at table [] x back [] e = absurd cc
rows_at table [] x back (r ∷ rows) e = record {
  before = [];
  row = r;
  after = rows;
  is = refl;
  before_is = refl;
  row_is = same_head (entry_of r) (map entry_of rows) (table x) (map table back) e;
  after_is = same_tail (entry_of r) (map entry_of rows) (table x) (map table back) e;
}
rows_at table (f ∷ front) x back [] e = absurd cc
rows_at table (f ∷ front) x back (r ∷ rows) e =
    let k = rows_at table front x back rows (same_tail (entry_of r) (map entry_of rows) (table f)
    (map table (front ++ x ∷ back)) e) in
    record {
      before = r ∷ k.before;
      row = k.row;
      after = k.after;
      is = ap (λ (q : List DocRow). r ∷ q) k.is;
      before_is = λ i. same_head (entry_of r) (map entry_of rows) (table f) (map table (front ++ x ∷ back)) e
          i ∷ k.before_is i;
      row_is = k.row_is;
      after_is = k.after_is;
    }

pub first_id_is : (table : ℕ → Entry) (numbers : List ℕ) (rows : List DocRow) → map entry_of rows ≡ map table numbers
    → first_id rows ≡ option_map (λ (r : ℕ). (table r).id) (first_number numbers)
first_id_is table [] [] e = refl
first_id_is table [] (r ∷ rows) e = absurd cc
first_id_is table (x ∷ numbers) [] e = absurd cc
first_id_is table (x ∷ numbers) (r ∷ rows) e =
    ap Some (ap (λ (k : Entry). k.id) (same_head (entry_of r) (map entry_of rows) (table x) (map table numbers) e))

-- how many of them are live
abbrev pub live_count : (ℕ → Entry) → List ℕ → ℕ
live_count table [] = 0
live_count table (r ∷ numbers) = (if is_empty_list (table r).deletes then 1 else 0) + live_count table numbers

live_before_at : (front : List DocRow) (r : DocRow) (back : List DocRow)
    → ((s : DocRow) → In s front → row_id s ≢ row_id r) → live_before (row_id r) (front ++ r ∷ back)
    ≡ length (live_rows front)
live_before_at [] r back h = ap (λ (b : Bool). if b then 0 else (if is_live r then 1 else 0) + live_before (row_id r)
    back) (self_id r)
live_before_at (s ∷ front) r back h =
    ap (λ (b : Bool). if b then 0 else (if is_live s then 1 else 0) + live_before (row_id r) (front ++ r ∷ back))
    (has_id-false (row_id r) s (h s (inl refl)))
    ∙ ap (λ (n : ℕ). (if is_live s then 1 else 0) + n) (live_before_at front r back (λ q i. h q (inr i)))
    ∙ counted (is_live s)
  where
    counted : (b : Bool) → (if b then 1 else 0) + length (live_rows front)
        ≡ length (if b then s ∷ live_rows front else live_rows front)
    counted true = omega arith
    counted false = omega arith

pub live_count_is : (table : ℕ → Entry) (numbers : List ℕ) (rows : List DocRow) → map entry_of rows
    ≡ map table numbers → length (live_rows rows) ≡ live_count table numbers
live_count_is table [] [] e = refl
live_count_is table [] (r ∷ rows) e = absurd cc
live_count_is table (x ∷ numbers) [] e = absurd cc
live_count_is table (x ∷ numbers) (r ∷ rows) e =
    counted (is_live r)
    ∙ (λ i. (if is_empty_list (same_head (entry_of r) (map entry_of rows) (table x) (map table numbers) e i).deletes
    then 1 else 0)
    + live_count_is table numbers rows (same_tail (entry_of r) (map entry_of rows) (table x) (map table numbers) e) i)
  where
    counted : (b : Bool) → length (if b then r ∷ live_rows rows else live_rows rows)
        ≡ (if b then 1 else 0) + length (live_rows rows)
    counted true = omega arith
    counted false = omega arith

module _ (table : ℕ → Entry) (front : List ℕ) (x : ℕ) (back : List ℕ) (rows : List DocRow)
    (same : map entry_of rows ≡ map table (front ++ x ∷ back))
    (apart : Successive (λ (r s : DocRow). row_id r ≢ row_id s) rows) where
  abbrev pub parted : RowsAt table front x back rows
  parted = rows_at table front x back rows same

  named_x : row_id parted.row ≡ (table x).id
  named_x = ap (λ (k : Entry). k.id) parted.row_is

  others : (s : DocRow) → In s parted.before → row_id s ≢ row_id parted.row
  others s i = across (λ (r s : DocRow). row_id r ≢ row_id s) parted.before (parted.row ∷ parted.after)
      (subst (Successive (λ (r s : DocRow). row_id r ≢ row_id s)) parted.is apart) s parted.row i (inl refl)

  -- the row of a number is found by its identity
  pub found_at : find_row (table x).id rows ≡ Some parted.row
  found_at = ap (λ (y : AtomIdValue). find_row y rows) (sym named_x) ∙ ap (find_row (row_id parted.row)) parted.is
      ∙ find_at parted.before parted.row parted.after others

  -- the next number is that of the row which follows
  pub next_id_is : next_id (table x).id rows ≡ option_map (λ (r : ℕ). (table r).id) (first_number back)
  next_id_is =
      ap (λ (y : AtomIdValue). next_id y rows) (sym named_x) ∙ ap (next_id (row_id parted.row)) parted.is
      ∙ next_at parted.before parted.row parted.after others ∙ first_id_is table back parted.after parted.after_is

  pub live_before_is : live_before (table x).id rows ≡ live_count table front
  live_before_is =
      ap (λ (y : AtomIdValue). live_before y rows) (sym named_x) ∙ ap (live_before (row_id parted.row)) parted.is
      ∙ live_before_at parted.before parted.row parted.after others
      ∙ live_count_is table front parted.before parted.before_is

-- an identity that no number has is not found
pub not_found : (table : ℕ → Entry) (numbers : List ℕ) (rows : List DocRow) → map entry_of rows ≡ map table numbers
    → (x : AtomIdValue) → ((r : ℕ) → In r numbers → (table r).id ≢ x) → find_row x rows ≡ None
not_found table numbers rows e x h =
    find_nothing (has_id x) rows (λ q i. has_id-false x q (λ f.
    let k = map_In table (entry_of q) numbers (subst (In (entry_of q)) e (In-map entry_of q rows i)) in
    h k.0 k.1 (sym (ap (λ (y : Entry). y.id) k.2) ∙ f)))

-- all that was done to the rows is known where it is of the numbers
pub all_known : (table : ℕ → Entry) (v : List ℕ) (numbers : List ℕ) (rows : List DocRow) → map entry_of rows
    ≡ map table numbers
    → list_all (λ (r : DocRow). is_known_entry v (entry_of r)) rows
    ≡ list_all (λ (r : ℕ). is_known_entry v (table r)) numbers
all_known table v [] [] e = refl
all_known table v [] (r ∷ rows) e = absurd cc
all_known table v (x ∷ numbers) [] e = absurd cc
all_known table v (x ∷ numbers) (r ∷ rows) e =
    λ i. is_known_entry v (same_head (entry_of r) (map entry_of rows) (table x) (map table numbers) e i) && all_known
    table v numbers rows (same_tail (entry_of r) (map entry_of rows) (table x) (map table numbers) e) i

-- the text of the live ones
pub text_is : (table : ℕ → Entry) (numbers : List ℕ) (rows : List DocRow) → map entry_of rows ≡ map table numbers
    → text_of rows ≡ text_of_numbers table numbers
text_is table [] [] e = refl
text_is table [] (r ∷ rows) e = absurd cc
text_is table (x ∷ numbers) [] e = absurd cc
text_is table (x ∷ numbers) (r ∷ rows) e =
    shown (is_live r)
    ∙ (λ i. let k = same_head (entry_of r) (map entry_of rows) (table x) (map table numbers) e i in
    (if is_empty_list k.deletes then k.atom else [])
    ++ text_is table numbers rows (same_tail (entry_of r) (map entry_of rows) (table x) (map table numbers) e) i)
  where
    shown : (b : Bool) → concat (map (λ (q : DocRow). q.atom) (if b then r ∷ live_rows rows else live_rows rows))
        ≡ (if b then r.atom else []) ++ text_of rows
    shown true = refl
    shown false = refl
