-- The atoms that a document shows, found by their places.
use Rattle.std.proofs.Common.{◌≡◌, ◌∙◌, ◌<◌, ◌+◌, ℕ, List, [], ◌∷◌, ◌++◌, Option, Some, None}
use Rattle.std.proofs.Common.{ap, arith, drop, length, refl, subst, sym, take}
use Rattle.std.specs.Prelude.{get_or, insert, slice_get}
use Rattle.std.specs.Option.{option_map, unwrap_or}
use Rattle.std.proofs.lemmas.List.{drop_all, length-take, take-take, take_more}
use Rattle.std.proofs.lemmas.Option.{none-some, same_Some, slice_get-get_or, slice_get-map, unwrap_or-slice_get}
use Rattle.td_base.specs.Value.{AtomIdValue}
use Rattle.td_base.proofs.Elements.{In-slice_get}
use Rattle.td_base.proofs.Lists.{In-filter}
use Rattle.td_doc.specs.Answers.{row_told}
use Rattle.td_doc.specs.Document.{DocRow, row_id, find_row, is_live, live_atoms, live_id_at, live_rows, IsDocument}
use Rattle.td_doc.specs.declared.doc.Row.{Row}
use Rattle.td_doc.proofs.SubtreeRows.{find_in}

-- the live row at a place, where one is shown
record ShownAt (rows : List DocRow) (k : ℕ) (x : AtomIdValue) : Type 0 where
  pub row : DocRow
  pub shown : slice_get (live_atoms rows) k ≡ Some row.atom
  pub found : find_row x rows ≡ Some row

shown_by : (rows : List DocRow) (k : ℕ) (x : AtomIdValue) → IsDocument rows → (o : Option DocRow)
    → slice_get (live_rows rows) k ≡ o
    → option_map row_id o ≡ Some x → ShownAt rows k x
shown_by rows k x d None at e = absurd (none-some x e)
shown_by rows k x d (Some r) at e = record {
  row = r;
  shown = slice_get-map (λ (q : DocRow). q.atom) (live_rows rows) k ∙ ap (option_map (λ (q : DocRow). q.atom)) at;
  found = subst (λ (y : AtomIdValue). find_row y rows ≡ Some r) (same_Some (row_id r) x e)
      (find_in rows r d.apart (In-filter is_live r rows (In-slice_get (live_rows rows) k r at)).0);
}

shown_at : (rows : List DocRow) (k : ℕ) (x : AtomIdValue) → IsDocument rows → live_id_at rows k ≡ Some x
    → ShownAt rows k x
shown_at rows k x d e = shown_by rows k x d (slice_get (live_rows rows) k) refl e

mapped_twice : {A B C : Type 0} (f : A → B) (g : B → C) (o : Option A) → option_map g (option_map f o)
    ≡ option_map (λ (a : A). g (f a)) o
mapped_twice f g None = refl
mapped_twice f g (Some a) = refl

-- what is told of a row has its atom
told_atom : (rows : List DocRow) (x : AtomIdValue)
    → option_map (λ (q : Row). q.atom) (row_told rows x) ≡ option_map (λ (r : DocRow). r.atom) (find_row x rows)
told_atom rows x = mapped_twice _ (λ (q : Row). q.atom) (find_row x rows)

-- so the atom told is the one at the place
pub atom_shown : (rows : List DocRow) (k : ℕ) (x : AtomIdValue) (told : Row) → IsDocument rows
    → live_id_at rows k ≡ Some x → row_told rows x ≡ Some told → told.atom ≡ get_or (live_atoms rows) k []
atom_shown rows k x told d live is =
    let s : ShownAt rows k x = shown_at rows k x d live in
    let at : slice_get (live_atoms rows) k ≡ Some told.atom =
    s.shown ∙ sym (ap (option_map (λ (r : DocRow). r.atom)) s.found) ∙ sym (told_atom rows x)
    ∙ ap (option_map (λ (q : Row). q.atom)) is in
    sym (ap (λ (o : Option (List ℕ)). unwrap_or o []) at) ∙ unwrap_or-slice_get (live_atoms rows) k []

-- and it is told of
pub shown_is_told : (rows : List DocRow) (k : ℕ) (x : AtomIdValue) → IsDocument rows → live_id_at rows k ≡ Some x
    → row_told rows x ≡ None → ⊥
shown_is_told rows k x d live none =
    none-some (shown_at rows k x d live).row.atom
    (ap (option_map (λ (q : Row). q.atom)) (sym none) ∙ told_atom rows x
    ∙ ap (option_map (λ (r : DocRow). r.atom)) (shown_at rows k x d live).found)

-- past the atoms shown there is none
none_by : (rows : List DocRow) (k : ℕ) (o : Option DocRow) → slice_get (live_rows rows) k ≡ o
    → ◌≡◌ {A = Option AtomIdValue} (option_map row_id o) None → slice_get (live_atoms rows) k ≡ None
none_by rows k None at e = slice_get-map (λ (q : DocRow). q.atom) (live_rows rows) k
    ∙ ap (option_map (λ (q : DocRow). q.atom)) at
none_by rows k (Some r) at e = absurd (none-some (row_id r) (sym e))

pub some_shown : (rows : List DocRow) (k : ℕ) → k < length (live_atoms rows) → live_id_at rows k ≡ None → ⊥
some_shown rows k lt e =
    none-some (get_or (live_atoms rows) k [])
    (sym (none_by rows k (slice_get (live_rows rows) k) refl e) ∙ slice_get-get_or (live_atoms rows) k [] lt)

-- one more atom behind those before it
pub put_next : (atoms : List (List ℕ)) (i : ℕ) → i < length atoms
    → insert (take i atoms) i (get_or atoms i []) ≡ take (i + 1) atoms
put_next atoms i lt =
    let front : take i (take i atoms) ≡ take i atoms = take-take i i atoms (omega arith) in
    let behind : drop i (take i atoms) ≡ [] = drop_all i (take i atoms) (omega (arith, length-take i atoms)) in
    (λ j. front j ++ get_or atoms i [] ∷ behind j) ∙ sym (take_more atoms i [] lt)
