-- How many rows have an identity, before and after a change.
use Rattle.std.proofs.Common.{◌≡◌, ◌≢◌, ◌⊎◌, ℕ, suc, ◌+◌, ◌<◌, ◌≤◌, ◌^◌, List, [], ◌∷◌, Bool, true}
use Rattle.std.proofs.Common.{false, cond, not, length, map, filter, Some, IsNone, refl, sym, ap, ◌∙◌}
use Rattle.std.proofs.Common.{subst, inl, inr, ⊎_elim, arith, true≢false}
use Rattle.std.specs.Ordering.{is_lt}
use Rattle.td_base.specs.Value.{DotValue, AtomIdValue}
use Rattle.td_path.specs.Infix.{path_cmp}
use Rattle.td_path.specs.SlotPaths.{slot_contains}
use Rattle.td_path.specs.declared.slot_path.SlotPath.{SlotPath}
use Rattle.td_doc.specs.Document.{DocRow, row_id, has_id, find_row, is_live, live_rows}
use Rattle.td_doc.specs.Slots.{rows_below}
use Rattle.td_doc.specs.Array.{named, array}
use Rattle.td_base.specs.RunAtoms.{NamedAtom, run_atoms_from, run_atoms}
use Rattle.td_doc.specs.Insertion.{put_row, put_rows}
use Rattle.td_doc.specs.Flatten.{rows_beside}
use Rattle.td_doc.specs.Answers.{IsFresh}
use Rattle.td_doc.specs.RowParts.{rows_with, is_named, atoms_with, IsRowParts, AreNew}
use Rattle.td_doc.proofs.ArrayRows.{array_names}
use Rattle.td_base.proofs.Equals.{same_dot_true, same_dot_refl, same_id_true}
use Rattle.td_base.specs.Equality.{same_dot}

-- one more

abbrev pub one : Bool → ℕ
one b = cond b 1 0

one_more_at : {X : Type 0} (p : X → Bool) (x : X) (xs : List X) (b : Bool)
    → length (cond b (x ∷ filter p xs) (filter p xs)) ≡ one b + length (filter p xs)
one_more_at p x xs true = omega arith
one_more_at p x xs false = omega arith

pub one_more : {X : Type 0} (p : X → Bool) (x : X) (xs : List X) → length (filter p (x ∷ xs))
    ≡ one (p x) + length (filter p xs)
one_more p x xs = one_more_at p x xs (p x)

-- rows that are put

count_put_at : (x : AtomIdValue) (n r : DocRow) (rows : List DocRow) (b : Bool) → rows_with x (put_row n rows)
    ≡ one (has_id x n) + rows_with x rows
    → rows_with x (cond b (n ∷ r ∷ rows) (r ∷ put_row n rows)) ≡ one (has_id x n) + rows_with x (r ∷ rows)
count_put_at x n r rows true ih = one_more (has_id x) n (r ∷ rows)
count_put_at x n r rows false ih = let front = one_more (has_id x) r (put_row n rows) in
    let back = one_more (has_id x) r rows in omega (arith, ih, front, back)

count_put : (x : AtomIdValue) (n : DocRow) (rows : List DocRow) → rows_with x (put_row n rows)
    ≡ one (has_id x n) + rows_with x rows
count_put x n [] = one_more (has_id x) n []
count_put x n (r ∷ rows) = count_put_at x n r rows (is_lt (path_cmp n.path r.path)) (count_put x n rows)

count_put_rows : (x : AtomIdValue) (new rows : List DocRow) → rows_with x (put_rows new rows)
    ≡ rows_with x new + rows_with x rows
count_put_rows x [] rows = omega arith
count_put_rows x (n ∷ new) rows = omega (
  arith,
  count_put_rows x new (put_row n rows),
  count_put x n rows,
  one_more
      (has_id x) n new,
)

length_put_at : (n r : DocRow) (rows : List DocRow) (b : Bool) → length (put_row n rows) ≡ 1 + length rows
    → length (cond b (n ∷ r ∷ rows) (r ∷ put_row n rows)) ≡ 1 + length (r ∷ rows)
length_put_at n r rows true ih = omega arith
length_put_at n r rows false ih = omega (arith, ih)

length_put : (n : DocRow) (rows : List DocRow) → length (put_row n rows) ≡ 1 + length rows
length_put n [] = omega arith
length_put n (r ∷ rows) = length_put_at n r rows (is_lt (path_cmp n.path r.path)) (length_put n rows)

length_put_rows : (new rows : List DocRow) → length (put_rows new rows) ≡ length new + length rows
length_put_rows [] rows = omega arith
length_put_rows (n ∷ new) rows = omega (arith, length_put_rows new (put_row n rows), length_put n rows)

-- an array has the identities of its atoms

count_named : (x : AtomIdValue) (rows : List DocRow) → rows_with x rows ≡ atoms_with x (map named rows)
count_named x [] = refl
count_named x (r ∷ rows) = omega (
  arith,
  one_more (has_id x) r rows,
  one_more (is_named x) (named r) (map named rows),
  count_named x rows,
)

count_array : (x : AtomIdValue) (slot : SlotPath) (atoms : List NamedAtom) → rows_with x (array slot atoms)
    ≡ atoms_with x atoms
count_array x slot atoms = count_named x (array slot atoms) ∙ ap (atoms_with x) (array_names slot atoms)

together : (m n k : ℕ) → k ≤ 1 → (n ≤ 1) × ((k ≡ 0) ⊎ (n ≡ 0)) → m ≡ n + k → m ≤ 1
together m n k few new e = ⊎_elim (λ (h : k ≡ 0). omega (arith, h, new.0, e))
    (λ (h : n ≡ 0). omega (arith, h, few, e)) new.1

-- new atoms put leave the rows apart
pub put_parts : (slot : SlotPath) (atoms : List NamedAtom) (rows : List DocRow) → IsRowParts rows → AreNew rows atoms
    → length rows + length (array slot atoms) < 2 ^ 32 → IsRowParts (put_rows (array slot atoms) rows)
put_parts slot atoms rows parts new few = record {
  few = omega (arith, few, length_put_rows (array slot atoms) rows);
  apart = λ x. together (rows_with x (put_rows (array slot atoms) rows)) (atoms_with x atoms) (rows_with x rows)
      (parts.apart x) (new x) (omega (arith, count_put_rows x (array slot atoms) rows, count_array x slot atoms));
}

-- a new atom

pub none_with : (x : AtomIdValue) (rows : List DocRow) → IsNone (find_row x rows) → rows_with x rows ≡ 0
none_with x [] h = refl
none_with x (r ∷ rows) h = at (has_id x r) h (none_with x rows)
  where
    at : (b : Bool) → IsNone (cond b (Some r) (find_row x rows)) → (IsNone (find_row x rows) → rows_with x rows ≡ 0)
        → length (cond b (r ∷ filter (has_id x) rows) (filter (has_id x) rows)) ≡ 0
    at true h ih = absurd (true≢false h)
    at false h ih = ih h

new_atom_at : (rows : List DocRow) (a : NamedAtom) (x : AtomIdValue) (b : Bool) → is_named x a ≡ b
    → IsNone (find_row a.id rows) → (atoms_with x (a ∷ []) ≤ 1) × ((rows_with x rows ≡ 0) ⊎ (atoms_with x (a ∷ []) ≡ 0))
new_atom_at rows a x true e none =
    let same : a.id ≡ x = same_id_true a.id x e in (
      omega (arith, one_more (is_named x) a [], ap one e),
      inl
          (ap (λ (y : AtomIdValue). rows_with y rows) (sym same) ∙ none_with a.id rows none),
    )
new_atom_at rows a x false e none =
    let none : atoms_with x (a ∷ []) ≡ 0 = omega (arith, one_more (is_named x) a [], ap one e) in
    (omega (arith, none), inr none)

pub new_atom : (rows : List DocRow) (a : NamedAtom) → IsNone (find_row a.id rows) → AreNew rows (a ∷ [])
new_atom rows a none x = new_atom_at rows a x (is_named x a) refl none

-- the atoms of a new run

abbrev named_by : DotValue → ℕ → List ℕ → NamedAtom
named_by dot k atom = record { id = record { dot = dot; offset = k }; atom = atom }

other_dot : (x : AtomIdValue) (dot : DotValue) (k : ℕ) (atom : List ℕ) → dot ≢ x.dot
    → is_named x (named_by dot k atom) ≡ true → ⊥
other_dot x dot k atom other e = other (ap (λ (y : AtomIdValue). y.dot)
    (same_id_true (record { dot = dot; offset = k }) x e))

of_other_dot : (x : AtomIdValue) (dot : DotValue) (k : ℕ) (run : List (List ℕ)) → dot ≢ x.dot
    → atoms_with x (run_atoms_from dot k run) ≡ 0
of_other_dot x dot k [] other = refl
of_other_dot x dot k (atom ∷ run) other = at (is_named x (named_by dot k atom)) refl
    (of_other_dot x dot (suc k) run other)
  where
    at : (b : Bool) → is_named x (named_by dot k atom) ≡ b → atoms_with x (run_atoms_from dot (suc k) run) ≡ 0
        → atoms_with x (run_atoms_from dot k (atom ∷ run)) ≡ 0
    at true e ih = absurd (other_dot x dot k atom other e)
    at false e ih = omega (
      arith,
      ih,
      one_more (is_named x) (named_by dot k atom) (run_atoms_from dot (suc k) run),
      ap
          one e,
    )

abbrev OnceAtMost : AtomIdValue → DotValue → ℕ → List (List ℕ) → Type 0
OnceAtMost x dot k run = (atoms_with x (run_atoms_from dot k run) ≤ 1)
    × (x.offset < k → atoms_with x (run_atoms_from dot k run) ≡ 0)

once : (x : AtomIdValue) (dot : DotValue) (k : ℕ) (run : List (List ℕ)) → OnceAtMost x dot k run
once x dot k [] = (omega arith, λ h. refl)
once x dot k (atom ∷ run) = at (is_named x (named_by dot k atom)) refl (once x dot (suc k) run)
  where
    at : (b : Bool) → is_named x (named_by dot k atom) ≡ b → OnceAtMost x dot (suc k) run
        → OnceAtMost x dot k (atom ∷ run)
    at true e ih =
        let offset : k ≡ x.offset = ap (λ (y : AtomIdValue). y.offset)
        (same_id_true (record { dot = dot; offset = k }) x e) in
        let rest = ih.1 (omega (arith, offset)) in (
          omega (arith, rest, one_more (is_named x) (named_by dot k atom) (run_atoms_from dot (suc k) run), ap one e),
          λ h. absurd (omega (arith, offset, h)),
        )
    at false e ih =
        let all = one_more (is_named x) (named_by dot k atom) (run_atoms_from dot (suc k) run) in
        (omega (arith, ih.0, all, ap one e), λ h. omega (arith, ih.1 (omega (arith, h)), all, ap one e))

none_of_dot : (x : AtomIdValue) (rows : List DocRow) → IsFresh rows x.dot → rows_with x rows ≡ 0
none_of_dot x [] fresh = refl
none_of_dot x (r ∷ rows) fresh = at (has_id x r) refl (none_of_dot x rows fresh.1)
  where
    at : (b : Bool) → has_id x r ≡ b → rows_with x rows ≡ 0 → rows_with x (r ∷ rows) ≡ 0
    at true e ih = absurd (fresh.0 (ap (λ (y : AtomIdValue). y.dot) (same_id_true (row_id r) x e)))
    at false e ih = omega (arith, ih, one_more (has_id x) r rows, ap one e)

new_run_at : (rows : List DocRow) (dot : DotValue) (run : List (List ℕ)) (x : AtomIdValue) (b : Bool)
    → same_dot dot x.dot ≡ b → IsFresh rows dot → (rows_with x rows ≡ 0) ⊎ (atoms_with x (run_atoms dot run) ≡ 0)
new_run_at rows dot run x true e fresh =
    let same : dot ≡ x.dot = same_dot_true dot x.dot e in
    inl (none_of_dot x rows (subst (IsFresh rows) same fresh))
new_run_at rows dot run x false e fresh =
    let other : dot ≢ x.dot = λ h. true≢false (sym (same_dot_refl dot) ∙ ap (λ (d : DotValue). same_dot dot d) h ∙ e) in
    inr (of_other_dot x dot 0 run other)

pub new_run : (rows : List DocRow) (dot : DotValue) (run : List (List ℕ)) → IsFresh rows dot
    → AreNew rows (run_atoms dot run)
new_run rows dot run fresh x = ((once x dot 0 run).0, new_run_at rows dot run x (same_dot dot x.dot) refl fresh)

-- a flatten

kept_at_most : {X : Type 0} (p q : X → Bool) (xs : List X) → length (filter p (filter q xs)) ≤ length (filter p xs)
kept_at_most p q [] = omega arith
kept_at_most p q (x ∷ xs) = at (q x) (kept_at_most p q xs)
  where
    at : (b : Bool) → length (filter p (filter q xs)) ≤ length (filter p xs)
        → length (filter p (cond b (x ∷ filter q xs) (filter q xs))) ≤ length (filter p (x ∷ xs))
    at true ih = omega (arith, ih, one_more p x xs, one_more p x (filter q xs))
    at false ih = omega (arith, ih, one_more p x xs)

abbrev others : {X : Type 0} → (X → Bool) → List X → List X
others q xs = filter (λ x. not (q x)) xs

parted_at : {X : Type 0} (p q : X → Bool) (x : X) (xs : List X) (b : Bool)
    → length (filter p (filter q xs)) + length (filter p (others q xs)) ≡ length (filter p xs)
    → length (filter p (cond b (x ∷ filter q xs) (filter q xs))) + length
    (filter p (cond (not b) (x ∷ others q xs) (others q xs))) ≡ length (filter p (x ∷ xs))
parted_at p q x xs true ih = omega (arith, ih, one_more p x xs, one_more p x (filter q xs))
parted_at p q x xs false ih = omega (arith, ih, one_more p x xs, one_more p x (others q xs))

parted : {X : Type 0} (p q : X → Bool) (xs : List X)
    → length (filter p (filter q xs)) + length (filter p (others q xs)) ≡ length (filter p xs)
parted p q [] = omega arith
parted p q (x ∷ xs) = parted_at p q x xs (q x) (parted p q xs)

pub flat_parts : (slot : SlotPath) (rows : List DocRow) → IsRowParts rows
    → length (rows_beside slot rows) + length (array slot
    (map named (live_rows (rows_below rows (Some slot))))) ≤ length rows
    → IsRowParts (put_rows (array slot (map named (live_rows (rows_below rows (Some slot))))) (rows_beside slot rows))
flat_parts slot rows parts fit =
    let below = rows_below rows (Some slot) in
    let atoms = map named (live_rows below) in
    record {
      few = omega (arith, parts.few, fit, length_put_rows (array slot atoms) (rows_beside slot rows));
      apart = λ x. omega (
        arith,
        parts.apart x,
        count_put_rows x (array slot atoms) (rows_beside slot rows),
        count_array x slot atoms,
        count_named x (live_rows below),
        kept_at_most (has_id x) is_live below,
        parted
            (has_id x) (λ (r : DocRow). slot_contains slot r.path) rows,
      );
    }
