-- The live atoms of a document, by their indices.
use Rattle.std.proofs.Common.{◌≡◌, ◌≤◌, ◌+◌, ◌-◌, ◌++◌, ◌∷◌, [], ℕ, zero, suc, List, Option, Some, None, length, map}
use Rattle.std.proofs.Common.{option_map, take, drop, refl, sym, ap, ◌∙◌, subst, arith}
use Rattle.std.specs.Prelude.{slice_get}
use Rattle.std.proofs.lemmas.List.{take_all, length-map}
use Rattle.std.proofs.lemmas.Option.{none-some, same_Some, slice_get-map}
use Rattle.td_base.specs.Lists.{In}
use Rattle.td_base.specs.Value.{AtomIdValue}
use Rattle.td_base.proofs.Elements.{In-slice_get}
use Rattle.td_base.proofs.Lists.{In-filter}
use Rattle.td_base.proofs.Places.{take_there}
use Rattle.td_doc.specs.Answers.{live_before, row_told}
use Rattle.td_doc.specs.declared.doc.Row.{Row}
use Rattle.td_doc.specs.Slots.{own_slot}
use Rattle.td_doc.specs.Document.{DocRow, IsDocument, find_row, is_live, live_id_at, live_rows, row_id}
use Rattle.td_doc.proofs.SubtreeRows.{find_in}
use Rattle.td_marks.specs.Making.{live_ids_at}
use Rattle.td_marks.specs.Mark.{MarkOpValue, names_of}
use Rattle.td_marks.specs.Text.{joined, marked_atom, marked_atoms, marked_text}
use Rattle.td_marks.specs.declared.piece.Piece.{Piece}

-- ---- a stretch of a list

get_behind : {X : Type 0} (xs : List X) (from k : ℕ) → slice_get (drop from xs) k ≡ slice_get xs (from + k)
get_behind xs zero k = let same : k ≡ 0 + k = omega arith in ap (slice_get xs) same
get_behind [] (suc from) k = refl
get_behind (x ∷ xs) (suc from) k =
    let next : suc (from + k) ≡ suc from + k = omega arith in
    get_behind xs from k ∙ ap (slice_get (x ∷ xs)) next

past_end : {X : Type 0} (xs : List X) (k : ℕ) → slice_get xs k ≡ None → length xs ≤ k
past_end [] k e = omega arith
past_end (x ∷ xs) zero e = absurd (none-some x (sym e))
past_end (x ∷ xs) (suc k) e = omega (arith, past_end xs k e)

take_nothing : {X : Type 0} (xs : List X) (k : ℕ) → slice_get xs k ≡ None → take (k + 1) xs ≡ take k xs
take_nothing xs k e =
    let end = past_end xs k e in
    take_all (k + 1) xs (omega (arith, end)) ∙ sym (take_all k xs end)

-- the identities with one more index
pub ids_next : (rows : List DocRow) (from index : ℕ) (x : AtomIdValue) (ids : List AtomIdValue) → from ≤ index
    → ids ≡ live_ids_at rows from (index - from) → live_id_at rows index ≡ Some x
    → ids ++ x ∷ [] ≡ live_ids_at rows from (index + 1 - from)
ids_next rows from index x ids h e at =
    let place : from + (index - from) ≡ index = omega arith in
    let there : slice_get (drop from (map row_id (live_rows rows))) (index - from) ≡ Some x =
    get_behind (map row_id (live_rows rows)) from (index - from)
    ∙ ap (slice_get (map row_id (live_rows rows))) place ∙ slice_get-map row_id (live_rows rows) index ∙ at in
    let longer : index - from + 1 ≡ index + 1 - from = omega arith in
    ap (λ (front : List AtomIdValue). front ++ x ∷ []) e
    ∙ sym (take_there (drop from (map row_id (live_rows rows))) (index - from) x there)
    ∙ ap (live_ids_at rows from) longer

pub ids_end : (rows : List DocRow) (from index : ℕ) (ids : List AtomIdValue) → from ≤ index
    → ids ≡ live_ids_at rows from (index - from) → live_id_at rows index ≡ None
    → ids ≡ live_ids_at rows from (index + 1 - from)
ids_end rows from index ids h e at =
    let place : from + (index - from) ≡ index = omega arith in
    let there : slice_get (drop from (map row_id (live_rows rows))) (index - from) ≡ None =
    get_behind (map row_id (live_rows rows)) from (index - from)
    ∙ ap (slice_get (map row_id (live_rows rows))) place ∙ slice_get-map row_id (live_rows rows) index ∙ at in
    let longer : index - from + 1 ≡ index + 1 - from = omega arith in
    e ∙ sym (take_nothing (drop from (map row_id (live_rows rows))) (index - from) there)
    ∙ ap (live_ids_at rows from) longer

-- ---- the marked atoms

-- the row of the live atom at an index
live_row : (rows : List DocRow) (index : ℕ) (x : AtomIdValue) → IsDocument rows → live_id_at rows index ≡ Some x
    → (r : DocRow) × (slice_get (live_rows rows) index ≡ Some r) × (row_id r ≡ x) × (find_row x rows ≡ Some r)
live_row rows index x d e = at (slice_get (live_rows rows) index) refl e
  where
    at : (o : Option DocRow) → slice_get (live_rows rows) index ≡ o → option_map row_id o ≡ Some x
        → (r : DocRow) × (slice_get (live_rows rows) index ≡ Some r) × (row_id r ≡ x) × (find_row x rows ≡ Some r)
    at None f g = absurd (none-some x g)
    at (Some r) f g =
        let named : row_id r ≡ x = same_Some (row_id r) x g in
        let i : In r rows = (In-filter is_live r rows (In-slice_get (live_rows rows) index r f)).0 in
        (r, f, named, subst (λ (y : AtomIdValue). find_row y rows ≡ Some r) named (find_in rows r d.apart i))

abbrev told_as : List DocRow → AtomIdValue → DocRow → Row
told_as rows x r = record {
  id = row_id r;
  slot = own_slot r;
  atom = r.atom;
  deletes = length r.deletes;
  index = live_before x rows;
}

-- the atom at an index, with its names, is put behind those before it
pub put_live : (ops : List MarkOpValue) (rows : List DocRow) (index : ℕ) (x : AtomIdValue) (row : Row)
    (old new : List Piece) (text : List ℕ) (names : ℕ)
    → IsDocument rows → live_id_at rows index ≡ Some x → row_told rows x ≡ Some row → text ≡ row.atom
    → names ≡ names_of ops x
    → ((front : List Piece) → old ≡ joined front → new ≡ joined (front ++ record { text = text; names = names } ∷ []))
    → old ≡ joined (take index (marked_atoms ops rows)) → new ≡ joined (take (index + 1) (marked_atoms ops rows))
put_live ops rows index x row old new text names d at told atom named put before =
    let l = live_row rows index x d at in
    let r : DocRow = l.0 in
    let same : told_as rows x r ≡ row =
    same_Some (told_as rows x r) row (sym (ap (option_map (told_as rows x)) l.3) ∙ told) in
    let piece : record { text = text; names = names } ≡ marked_atom ops r = λ i. record {
      text = (atom ∙ sym (ap (λ (q : Row). q.atom) same)) i;
      names = (named ∙ ap (names_of ops) (sym l.2)) i;
    } in
    let there : slice_get (marked_atoms ops rows) index ≡ Some (marked_atom ops r) =
    slice_get-map (marked_atom ops) (live_rows rows) index ∙ ap (option_map (marked_atom ops)) l.1 in
    put (take index (marked_atoms ops rows)) before
    ∙ ap (λ (p : Piece). joined (take index (marked_atoms ops rows) ++ p ∷ [])) piece
    ∙ ap joined (sym (take_there (marked_atoms ops rows) index (marked_atom ops r) there))

-- a live atom is a row
pub row_there : (rows : List DocRow) (index : ℕ) (x : AtomIdValue) → IsDocument rows → live_id_at rows index ≡ Some x
    → row_told rows x ≡ None → ⊥
row_there rows index x d at told =
    let l = live_row rows index x d at in
    none-some (told_as rows x l.0) (sym told ∙ ap (option_map (told_as rows x)) l.3)

-- past the last index all were put
pub all_put : (ops : List MarkOpValue) (rows : List DocRow) (index : ℕ) (pieces : List Piece)
    → length (live_rows rows) ≤ index → pieces ≡ joined (take index (marked_atoms ops rows))
    → pieces ≡ marked_text ops rows
all_put ops rows index pieces end e =
    e ∙ ap joined (take_all index (marked_atoms ops rows)
    (subst (λ (n : ℕ). n ≤ index) (sym (length-map (live_rows rows) (marked_atom ops))) end))

-- what is not there
pub none_left : (o : Option AtomIdValue) → ((x : AtomIdValue) → o ≡ Some x → ⊥) → o ≡ None
none_left None h = refl
none_left (Some x) h = absurd (h x refl)
