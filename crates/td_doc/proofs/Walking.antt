-- A document is walked row by row.
use Rattle.std.proofs.Common.{◌≡◌, ◌≢◌, ◌∙◌, ◌<◌, ◌+◌, ℕ, zero, suc, List, [], ◌∷◌, Option, Some, None, Bool, true}
use Rattle.std.proofs.Common.{false, cond, add-one, ap, arith, drop, length, refl, subst, sym, true≢false}
use Rattle.std.specs.Prelude.{slice_get}
use Rattle.std.specs.Option.{is_some, option_map}
use Rattle.std.proofs.lemmas.Option.{none-some, same_Some}
use Rattle.td_base.specs.Lists.{Successive}
use Rattle.td_base.specs.Value.{AtomIdValue}
use Rattle.td_base.proofs.Elements.{In-slice_get}
use Rattle.td_base.proofs.Lists.{all_in}
use Rattle.td_doc.specs.Allocation.{first_id, next_id, id_after}
use Rattle.td_doc.specs.Answers.{IsRow}
use Rattle.td_doc.specs.Document.{DocRow, row_id, has_id, find_row, IsDocument}
use Rattle.td_doc.proofs.Placement.{self_id, has_id-false}
use Rattle.td_doc.proofs.PutRows.{Differ}
use Rattle.td_doc.proofs.SubtreeRows.{find_in}

-- the row behind a row is the next
next_of : (rows : List DocRow) (k : ℕ) (r : DocRow) → Successive Differ rows → slice_get rows k ≡ Some r
    → next_id (row_id r) rows ≡ first_id (drop (suc k) rows)
next_of [] k r apart e = absurd (none-some r e)
next_of (s ∷ rows) zero r apart e =
    let here : has_id (row_id r) s ≡ true = ap (λ (q : DocRow). has_id (row_id r) q) (same_Some s r e) ∙ self_id r in
    ap (λ b. cond b (first_id rows) (next_id (row_id r) rows)) here
next_of (s ∷ rows) (suc k) r apart e =
    let other : row_id s ≢ row_id r = all_in (Differ s) rows apart.0 r (In-slice_get rows k r e) in
    ap (λ b. cond b (first_id rows) (next_id (row_id r) rows)) (has_id-false (row_id r) s other)
    ∙ next_of rows k r apart.1 e

-- the first of the rows from a place on is the one at the place
first_from : (rows : List DocRow) (k : ℕ) → first_id (drop k rows) ≡ option_map row_id (slice_get rows k)
first_from [] zero = refl
first_from [] (suc k) = refl
first_from (r ∷ rows) zero = refl
first_from (r ∷ rows) (suc k) = first_from rows k

-- the walk is at a place, and comes to the row with an identity
pub record Comes (rows : List DocRow) (k : ℕ) (x : AtomIdValue) : Type 0 where
  -- that is the row at the place
  pub found : find_row x rows ≡ slice_get rows k
  -- behind it the walk is at the next place
  pub goes_on : id_after rows (Some x) ≡ first_id (drop (k + 1) rows)

comes_at : (rows : List DocRow) (k : ℕ) (x : AtomIdValue) → IsDocument rows → (o : Option DocRow) → slice_get rows k ≡ o
    → option_map row_id o ≡ Some x → Comes rows k x
comes_at rows k x d None at e = absurd (none-some x e)
comes_at rows k x d (Some r) at e =
    let named : row_id r ≡ x = same_Some (row_id r) x e in
    record {
      found = subst (λ (y : AtomIdValue). find_row y rows ≡ slice_get rows k) named
          (find_in rows r d.apart (In-slice_get rows k r at) ∙ sym at);
      goes_on = subst (λ (y : AtomIdValue). next_id y rows ≡ first_id (drop (k + 1) rows)) named
          (next_of rows k r d.apart at ∙ ap (λ (n : ℕ). first_id (drop n rows)) (sym (add-one k)));
    }

pub comes : (rows : List DocRow) (k : ℕ) (x : AtomIdValue) (after : Option AtomIdValue) → IsDocument rows
    → after ≡ first_id (drop k rows) → after ≡ Some x → Comes rows k x
comes rows k x after d at e = comes_at rows k x d (slice_get rows k) refl (sym (first_from rows k) ∙ sym at ∙ e)

-- the walk does not end before the last row
within_some : (rows : List DocRow) (k : ℕ) → k < length rows → is_some (slice_get rows k) ≡ true
within_some [] k h = absurd (omega arith)
within_some (r ∷ rows) zero h = refl
within_some (r ∷ rows) (suc k) h = within_some rows k (omega arith)

ends_at : (o : Option DocRow) (after : Option AtomIdValue) → is_some o ≡ true → after ≡ option_map row_id o
    → ((x : AtomIdValue) → after ≡ Some x → ⊥) → ⊥
ends_at None after some at none = true≢false (sym some)
ends_at (Some r) after some at none = none (row_id r) at

pub goes_to_the_end : (rows : List DocRow) (k : ℕ) (after : Option AtomIdValue) → k < length rows
    → after ≡ first_id (drop k rows) → ((x : AtomIdValue) → after ≡ Some x → ⊥) → ⊥
goes_to_the_end rows k after within at none =
    ends_at (slice_get rows k) after (within_some rows k within) (at ∙ first_from rows k) none

-- what the walk comes to is a row

later_row : (x : AtomIdValue) (r : DocRow) (rows : List DocRow) (b : Bool) → is_some (find_row x rows) ≡ true
    → is_some (cond b (Some r) (find_row x rows)) ≡ true
later_row x r rows true h = refl
later_row x r rows false h = h

first_is_row : (rows : List DocRow) (x : AtomIdValue) → first_id rows ≡ Some x → is_some (find_row x rows) ≡ true
first_is_row [] x e = absurd (none-some x e)
first_is_row (r ∷ rows) x e =
    let here : has_id x r ≡ true = ap (λ (y : AtomIdValue). has_id y r) (sym (same_Some (row_id r) x e)) ∙ self_id r in
    ap (λ b. is_some (cond b (Some r) (find_row x rows))) here

next_is_row_at : (p x : AtomIdValue) (r : DocRow) (rows : List DocRow) (b : Bool)
    → (next_id p rows ≡ Some x → is_some (find_row x rows) ≡ true)
    → cond b (first_id rows) (next_id p rows) ≡ Some x → is_some (find_row x (r ∷ rows)) ≡ true
next_is_row_at p x r rows true ih h = later_row x r rows (has_id x r) (first_is_row rows x h)
next_is_row_at p x r rows false ih h = later_row x r rows (has_id x r) (ih h)

next_is_row : (p : AtomIdValue) (rows : List DocRow) (x : AtomIdValue) → next_id p rows ≡ Some x
    → is_some (find_row x rows) ≡ true
next_is_row p [] x e = absurd (none-some x e)
next_is_row p (r ∷ rows) x e = next_is_row_at p x r rows (has_id p r) (next_is_row p rows x) e

pub comes_to_a_row : (rows : List DocRow) (last : Option AtomIdValue) (x : AtomIdValue) → id_after rows last ≡ Some x
    → IsRow rows x
comes_to_a_row rows None x e = first_is_row rows x e
comes_to_a_row rows (Some p) x e = next_is_row p rows x e
