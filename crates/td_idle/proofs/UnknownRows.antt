-- The unknown rows of a document, those of a front and the nearest one.
use Rattle.std.proofs.Common.{◌≡◌, ◌<◌, ◌+◌, ℕ, List, [], ◌∷◌, ◌++◌, Bool, true, false, ◌&&◌, not, get_or}
use Rattle.std.proofs.Common.{if◌then◌else◌, map, filter, length, take, Option, Some, None, refl}
use Rattle.std.proofs.Common.{sym, ap, ◌∙◌, subst, inl, inr}
use Rattle.std.proofs.lemmas.List.{map-append}
use Rattle.std.proofs.lemmas.List.Elements.{filter-append}
use Rattle.std.proofs.lemmas.Option.{none-some, same_Some}
use Rattle.std.specs.Prelude.{reverse, slice_get}
use Rattle.std.specs.List.{list_all}
use Rattle.std.specs.Option.{option_map, option_and_then}
use Rattle.td_base.specs.Value.{DotValue, AtomIdValue}
use Rattle.td_base.proofs.Elements.{some_of}
use Rattle.td_base.proofs.Reversed.{filter_reverse, map-reverse}
use Rattle.td_base.proofs.Searches.{filter_mapped, same_kept}
use Rattle.td_clock.specs.Vector.{vector_has}
use Rattle.td_doc.specs.Answers.{IsRow, row_told, live_before}
use Rattle.td_doc.specs.declared.doc.Row.{Row}
use Rattle.td_doc.specs.Deletion.{delete_at}
use Rattle.td_doc.specs.Document.{DocRow, row_id, find_row, IsDocument}
use Rattle.td_doc.specs.Slots.{is_known_row, own_slot}
use Rattle.td_doc.proofs.Rules.{found}
use Rattle.td_doc.proofs.SubtreeRows.{find_in}
use Rattle.td_idle.specs.Unknown.{deletes_of, is_known_id, unknown_ids}
use Rattle.td_idle.specs.Walk.{IsListed}
use Rattle.td_idle.proofs.Beside.{AllKnown, FirstUnknown}
use Rattle.td_idle.proofs.Lists.{cut, take_next}

-- ---- one row

-- what is known of an identity is what is known of its row
pub known_is : (v : List ℕ) (rows : List DocRow) (x : AtomIdValue) (r : DocRow) → find_row x rows ≡ Some r
    → is_known_id v rows x ≡ is_known_row v r
known_is v rows x r e =
    (λ i. vector_has v x.dot && list_all (vector_has v) (deletes_of (e i)))
    ∙ ap (λ (y : AtomIdValue). vector_has v y.dot && list_all (vector_has v) r.deletes) (sym (found x r rows e).1)

-- a row without a first delete dot has none
pub none_deleted : (v : List ℕ) (rows : List DocRow) (x : AtomIdValue) → delete_at rows x 0 ≡ None
    → true ≡ list_all (vector_has v) (deletes_of (find_row x rows))
none_deleted v rows x e = at (find_row x rows) e
  where
    no_first : (ds : List DotValue) → slice_get ds 0 ≡ None → true ≡ list_all (vector_has v) ds
    no_first [] k = refl
    no_first (d ∷ ds) k = absurd (none-some d (sym k))

    at : (o : Option DocRow) → option_and_then (λ (r : DocRow). slice_get r.deletes 0) o ≡ None → true
        ≡ list_all (vector_has v) (deletes_of o)
    at None k = refl
    at (Some r) k = no_first r.deletes k

pub deletes_told : (rows : List DocRow) (x : AtomIdValue) (row : Row) → row_told rows x ≡ Some row → row.deletes
    ≡ length (deletes_of (find_row x rows))
deletes_told rows x row e = at (find_row x rows) e
  where
    at : (o : Option DocRow)
        → option_map (λ (r : DocRow). record {
          id = row_id r;
          slot = own_slot r;
          atom = r.atom;
          deletes = length r.deletes;
          index = live_before x rows;
        }) o ≡ Some row
        → row.deletes ≡ length (deletes_of o)
    at None k = absurd (none-some row k)
    at (Some r) k = sym (ap (λ (q : Row). q.deletes) (same_Some _ row k))

pub none_told : (v : List ℕ) (rows : List DocRow) (x : AtomIdValue) → row_told rows x ≡ None → true
    ≡ list_all (vector_has v) (deletes_of (find_row x rows))
none_told v rows x e = at (find_row x rows) e
  where
    at : (o : Option DocRow)
        → option_map {U = Row} (λ (r : DocRow). record {
          id = row_id r;
          slot = own_slot r;
          atom = r.atom;
          deletes = length r.deletes;
          index = live_before x rows;
        }) o ≡ None
        → true ≡ list_all (vector_has v) (deletes_of o)
    at None k = refl
    at (Some r) k = absurd (none-some _ (sym k))

-- ---- those of a front

ids_more : (v : List ℕ) (r : DocRow) (xs : List DocRow) → unknown_ids v (r ∷ xs)
    ≡ (if is_known_row v r then unknown_ids v xs else row_id r ∷ unknown_ids v xs)
ids_more v r xs = at (is_known_row v r)
  where
    at : (b : Bool) → map row_id (if not b then r ∷ filter (λ (q : DocRow). not (is_known_row v q)) xs else filter
        (λ (q : DocRow). not (is_known_row v q)) xs)
        ≡ (if b then unknown_ids v xs else row_id r ∷ unknown_ids v xs)
    at true = refl
    at false = refl

pub ids_known : (v : List ℕ) (r : DocRow) (xs : List DocRow) → is_known_row v r ≡ true → unknown_ids v (r ∷ xs)
    ≡ unknown_ids v xs
ids_known v r xs e = ids_more v r xs ∙ ap (λ (b : Bool). if b then unknown_ids v xs else row_id r ∷ unknown_ids v xs) e

pub ids_unknown : (v : List ℕ) (r : DocRow) (xs : List DocRow) → is_known_row v r ≡ false → unknown_ids v (r ∷ xs)
    ≡ row_id r ∷ unknown_ids v xs
ids_unknown v r xs e = ids_more v r xs ∙ ap (λ (b : Bool). if b then unknown_ids v xs else row_id r ∷ unknown_ids v
    xs) e

pub ids_append : (v : List ℕ) (xs ys : List DocRow) → unknown_ids v (xs ++ ys) ≡ unknown_ids v xs ++ unknown_ids v ys
ids_append v [] ys = refl
ids_append v (x ∷ xs) ys =
    ids_more v x (xs ++ ys)
    ∙ (at (is_known_row v x) (ids_append v xs ys) ∙ ap (λ (z : List AtomIdValue). z ++ unknown_ids v ys)
    (sym (ids_more v x xs)))
  where
    at : (b : Bool) → unknown_ids v (xs ++ ys) ≡ unknown_ids v xs ++ unknown_ids v ys
        → (if b then unknown_ids v (xs ++ ys) else row_id x ∷ unknown_ids v (xs ++ ys))
        ≡ (if b then unknown_ids v xs else row_id x ∷ unknown_ids v xs) ++ unknown_ids v ys
    at true ih = ih
    at false ih = ap (λ (z : List AtomIdValue). row_id x ∷ z) ih

-- the identities of which something is not known are those of the unknown rows
pub unknown_is : (v : List ℕ) (rows : List DocRow) → IsDocument rows → (ids : List AtomIdValue) → ids ≡ map row_id rows
    → filter (λ (x : AtomIdValue). not (is_known_id v rows x)) ids ≡ unknown_ids v rows
unknown_is v rows d ids is =
    ap (filter unknown) is
    ∙ (filter_mapped row_id unknown rows
    ∙ same_kept row_id row_id (λ (r : DocRow). unknown (row_id r)) (λ (r : DocRow). not (is_known_row v r)) rows
    (λ r i. refl)
    (λ r i. ap not (known_is v rows (row_id r) r (find_in rows r d.apart i))))
  where
    unknown : AtomIdValue → Bool
    unknown x = not (is_known_id v rows x)

pub unknown_next : (test : AtomIdValue → Bool) (ids : List AtomIdValue) (k : ℕ) (x : AtomIdValue)
    (old new : List AtomIdValue) → k < length ids → x ≡ get_or ids k x
    → old ≡ filter (λ (y : AtomIdValue). not (test y)) (take k ids) → new ≡ old ++ (if test x then [] else x ∷ [])
    → new ≡ filter (λ (y : AtomIdValue). not (test y)) (take (k + 1) ids)
unknown_next test ids k x old new l e is step =
    step
    ∙ ((λ i. is i ++ one (test x) i)
    ∙ sym (ap (filter (λ (y : AtomIdValue). not (test y))) (take_next k ids x l e)
    ∙ filter-append (λ (y : AtomIdValue). not (test y)) (take k ids) (x ∷ [])))
  where
    one : (b : Bool) → (if b then [] else x ∷ []) ≡ (if not b then x ∷ [] else [])
    one true = refl
    one false = refl

-- ---- the rows so far

pub ids_next : (rows : List DocRow) (k : ℕ) (x : AtomIdValue) (old new : List AtomIdValue) → IsRow rows x
    → find_row x rows ≡ slice_get rows k → old ≡ map row_id (take k rows) → new ≡ old ++ x ∷ []
    → new ≡ map row_id (take (k + 1) rows)
ids_next rows k x old new row place is step =
    let s = some_of (find_row x rows) row in
    let named : row_id s.0 ≡ x = (found x s.0 rows s.1).1 in
    step
    ∙ ((λ i. is i ++ sym named i ∷ [])
    ∙ sym (ap (map row_id) (cut rows k s.0 (sym place ∙ s.1)).front ∙ map-append row_id (take k rows) (s.0 ∷ [])))

-- ---- turned

pub listed_turned : (v : List ℕ) (rows : List DocRow) (ids unknown : List AtomIdValue) → IsListed v rows ids unknown
    → IsListed v (reverse rows) (reverse ids) (reverse unknown)
listed_turned v rows ids unknown l =
    record {
      all = ap reverse l.all ∙ sym (map-reverse row_id rows);
      some = ap reverse l.some
          ∙ sym (ap (map row_id) (filter_reverse (λ (r : DocRow). not (is_known_row v r)) rows)
          ∙ map-reverse row_id (filter (λ (r : DocRow). not (is_known_row v r)) rows));
    }

-- ---- the nearest

-- the first of the unknown ones
pub first_of : (v : List ℕ) (xs : List DocRow) → FirstUnknown v xs (slice_get (unknown_ids v xs) 0)
first_of v [] = λ q i. absurd i
first_of v (x ∷ xs) = at (is_known_row v x) refl (first_of v xs)
  where
    at : (b : Bool) → is_known_row v x ≡ b → FirstUnknown v xs (slice_get (unknown_ids v xs) 0)
        → FirstUnknown v (x ∷ xs) (slice_get (unknown_ids v (x ∷ xs)) 0)
    at false e ih =
        subst (λ (l : List AtomIdValue). FirstUnknown v (x ∷ xs) (slice_get l 0)) (sym (ids_unknown v x xs e))
        ([], x, xs, refl, refl, (λ q i. absurd i), e)
    at true e ih =
        subst (λ (l : List AtomIdValue). FirstUnknown v (x ∷ xs) (slice_get l 0)) (sym (ids_known v x xs e))
        (more (slice_get (unknown_ids v xs) 0) ih)
      where
        known : (ys : List DocRow) → AllKnown v ys → AllKnown v (x ∷ ys)
        known ys h q (inl i) = ap (is_known_row v) i ∙ e
        known ys h q (inr i) = h q i

        more : (o : Option AtomIdValue) → FirstUnknown v xs o → FirstUnknown v (x ∷ xs) o
        more None h = known xs h
        more (Some y) h = (x ∷ h.0, h.1, h.2, ap (λ (z : List DocRow). x ∷ z) h.3, h.4, known h.0 h.5, h.6)
