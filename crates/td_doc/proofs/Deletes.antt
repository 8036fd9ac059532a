-- A delete dot put at its place, and the one row that a delete names.
use Rattle.std.proofs.Common.{◌≡◌, ℕ, zero, suc, ◌+◌, List, [], ◌∷◌, ◌≤◌, Bool, true, false, cond}
use Rattle.std.proofs.Common.{not, length, filter, get_or, set, position, nat_lt, is_some, IsSome}
use Rattle.std.proofs.Common.{IsNone, Some, None, refl, sym, ap, ◌∙◌, arith}
use Rattle.std.specs.Prelude.{insert, slice_get}
use Rattle.std.specs.List.{position_or_len}
use Rattle.std.specs.declared.cmp.Ordering.{Ordering}
use Rattle.std.specs.declared.cmp.Ordering.TheVariants.{Less, Equal, Greater}
use Rattle.std.specs.Ordering.{is_eq, is_lt, is_le}
use Rattle.std.proofs.lemmas.Cmp.{tied_itself}
use Rattle.std.proofs.lemmas.List.{length-set}
use Rattle.std.proofs.lemmas.Option.{cond_some, none-some}
use Rattle.td_base.specs.Value.{DotValue, AtomIdValue}
use Rattle.td_base.specs.Order.{dot_cmp}
use Rattle.td_path.specs.Infix.{Pairs}
use Rattle.td_base.proofs.Orders.{dot_total, equal_dots}
use Rattle.td_doc.specs.Document.{DocRow, last_id, has_id, find_row}
use Rattle.td_doc.specs.Deletion.{add_dot, delete}
use Rattle.td_doc.specs.RowParts.{rows_with, IsRowParts}
use Rattle.td_base.proofs.Searches.{position_of_find}
use Rattle.td_doc.proofs.Identities.{one, one_more}
use Rattle.td_base.specs.Equality.{same_id}

abbrev from_dot : DotValue → DotValue → Bool
from_dot d e = is_le (dot_cmp d e)

next_place : (k : ℕ) → 1 + k ≡ suc k
next_place k = omega arith

-- the dot stands at its place already

less_is_other : (d e : DotValue) → dot_cmp d e ≡ Less → Some e ≡ Some d → ⊥
less_is_other d e h is =
    let same : e ≡ d = cc in
    let equal : dot_cmp d d ≡ Equal = tied_itself dot_total d in
    let less : dot_cmp d d ≡ Less = ap (dot_cmp d) (sym same) ∙ h in
    cc

there_at : (d e : DotValue) (dots : List DotValue) (k : ℕ) (o : Ordering) → dot_cmp d e ≡ o
    → (slice_get dots k ≡ Some d → dots ≡ add_dot d dots) → slice_get (e ∷ dots) (cond (not (is_le o)) (1 + k) 0)
    ≡ Some d
    → e ∷ dots ≡ cond (is_lt o) (d ∷ e ∷ dots) (cond (is_eq o) (e ∷ dots) (e ∷ add_dot d dots))
there_at d e dots k Less h ih is = absurd (less_is_other d e h is)
there_at d e dots k Equal h ih is = refl
there_at d e dots k Greater h ih is = ap (λ (rest : List DotValue). e ∷ rest)
    (ih (ap (λ (i : ℕ). slice_get (e ∷ dots) i) (sym (next_place k)) ∙ is))

pub there : (d : DotValue) (dots : List DotValue)
    → slice_get dots (position_or_len (λ (e : DotValue). is_le (dot_cmp d e)) dots) ≡ Some d → dots ≡ add_dot d dots
there d [] is = absurd (none-some d is)
there d (e ∷ dots) is = there_at d e dots (position_or_len (from_dot d) dots) (dot_cmp d e) refl (there d dots) is

-- the dot is put at its place

put_at : (d e : DotValue) (dots : List DotValue) (k : ℕ) (o : Ordering) → dot_cmp d e ≡ o
    → ((slice_get dots k ≡ Some d → ⊥) → insert dots k d ≡ add_dot d dots)
    → (slice_get (e ∷ dots) (cond (not (is_le o)) (1 + k) 0) ≡ Some d → ⊥)
    → insert (e ∷ dots) (cond (not (is_le o)) (1 + k) 0) d
    ≡ cond (is_lt o) (d ∷ e ∷ dots) (cond (is_eq o) (e ∷ dots) (e ∷ add_dot d dots))
put_at d e dots k Less h ih other = refl
put_at d e dots k Equal h ih other = absurd (other (ap Some (sym (equal_dots d e h))))
put_at d e dots k Greater h ih other =
    let place = next_place k in
    rw place (ap (λ (rest : List DotValue). e ∷ rest)
    (ih (λ is. other (ap (λ (i : ℕ). slice_get (e ∷ dots) i) place ∙ is))))

pub put : (d : DotValue) (dots : List DotValue)
    → (slice_get dots (position_or_len (λ (e : DotValue). is_le (dot_cmp d e)) dots) ≡ Some d → ⊥)
    → insert dots (position_or_len (λ (e : DotValue). is_le (dot_cmp d e)) dots) d ≡ add_dot d dots
put d [] other = refl
put d (e ∷ dots) other = put_at d e dots (position_or_len (from_dot d) dots) (dot_cmp d e) refl (put d dots) other

-- the one row that has the identity

abbrev with_dot : DotValue → DocRow → DocRow
with_dot by r = record { path = r.path; atom = r.atom; deletes = add_dot by r.deletes }

unmarked_at : (x : AtomIdValue) (by : DotValue) (r : DocRow) (rows : List DocRow) (b : Bool)
    → length (cond b (r ∷ filter (has_id x) rows) (filter (has_id x) rows)) ≡ 0
    → (rows_with x rows ≡ 0 → delete x by rows ≡ rows)
    → cond b (with_dot by r) r ∷ delete x by rows ≡ r ∷ rows
unmarked_at x by r rows true none ih = absurd (omega (arith, none))
unmarked_at x by r rows false none ih = ap (λ (rest : List DocRow). r ∷ rest) (ih none)

-- where no row has it, none changes
unmarked : (x : AtomIdValue) (by : DotValue) (rows : List DocRow) → rows_with x rows ≡ 0 → delete x by rows ≡ rows
unmarked x by [] none = refl
unmarked x by (r ∷ rows) none = unmarked_at x by r rows (has_id x r) none (unmarked x by rows)

abbrev place : AtomIdValue → List DocRow → ℕ
place x rows = position_or_len (has_id x) rows

marked_at : (x : AtomIdValue) (by : DotValue) (d r : DocRow) (rows : List DocRow) (b : Bool)
    → length (cond b (r ∷ filter (has_id x) rows) (filter (has_id x) rows)) ≤ 1
    → (rows_with x rows ≤ 1 → set rows (place x rows) (with_dot by (get_or rows (place x rows) d)) ≡ delete x by rows)
    → set (r ∷ rows) (cond (not b) (1 + place x rows) 0)
    (with_dot by (get_or (r ∷ rows) (cond (not b) (1 + place x rows) 0) d))
    ≡ cond b (with_dot by r) r ∷ delete x by rows
marked_at x by d r rows true one ih = ap (λ (rest : List DocRow). with_dot by r ∷ rest)
    (sym (unmarked x by rows (omega (arith, one))))
marked_at x by d r rows false one ih = let next = next_place (place x rows) in
    rw next (ap (λ (rest : List DocRow). r ∷ rest) (ih one))

pub marked : (x : AtomIdValue) (by : DotValue) (d : DocRow) (rows : List DocRow) → rows_with x rows ≤ 1
    → set rows (position_or_len (has_id x) rows) (with_dot by (get_or rows (position_or_len (has_id x) rows) d))
    ≡ delete x by rows
marked x by d [] one = refl
marked x by d (r ∷ rows) one = marked_at x by d r rows (has_id x r) one (marked x by d rows)

pub marked_here : (x : AtomIdValue) (by : DotValue) (rows : List DocRow) (k : ℕ) (old new : DocRow) → Some k
    ≡ position (has_id x) rows → old ≡ get_or rows k old → new ≡ with_dot by old → rows_with x rows ≤ 1
    → IsSome (find_row x rows) × (set rows k new ≡ delete x by rows)
marked_here x by rows k old new found is marks one =
    let at = cond_some (nat_lt (place x rows) (length rows)) (place x rows) k (sym found) in
    let row = marks ∙ ap (with_dot by) is in (
      sym (position_of_find (has_id x) rows) ∙ ap is_some (sym found),
      (λ i. set rows (sym at.1 i) (row i))
          ∙ (λ i. set rows (place x rows) (with_dot by (get_or rows (sym at.1 i) old))) ∙ marked x by old rows one,
    )

pub not_found : (x : AtomIdValue) (rows : List DocRow) → None ≡ position (has_id x) rows → IsNone (find_row x rows)
not_found x rows none = sym (position_of_find (has_id x) rows) ∙ ap is_some (sym none)

-- a row with the path of another in its place

has_id_at : (x : AtomIdValue) (r s : DocRow) → r.path ≡ s.path → has_id x r ≡ has_id x s
has_id_at x r s e = ap (λ (p : Pairs). same_id (last_id (record { dot = record { site = 0; seq = 0 }; offset = 0 }) p)
    x) e

count_set : (x : AtomIdValue) (rows : List DocRow) (k : ℕ) (old new : DocRow) → old ≡ get_or rows k old → new.path
    ≡ old.path → rows_with x (set rows k new) ≡ rows_with x rows
count_set x [] k old new is path = refl
count_set x (s ∷ rows) zero old new is path =
    let same = has_id_at x new s (path ∙ ap (λ (r : DocRow). r.path) is) in
    omega (arith, ap one same, one_more (has_id x) new rows, one_more (has_id x) s rows)
count_set x (s ∷ rows) (suc k) old new is path =
    omega (
      arith,
      one_more (has_id x) s (set rows k new),
      one_more (has_id x) s rows,
      count_set x rows k old new is
          path,
    )

pub set_parts : (rows : List DocRow) (k : ℕ) (old new : DocRow) → IsRowParts rows → old ≡ get_or rows k old → new.path
    ≡ old.path → IsRowParts (set rows k new)
set_parts rows k old new parts is path = record {
  few = omega (arith, parts.few, length-set rows k new);
  apart = λ x. omega (arith, parts.apart x, count_set x rows k old new is path);
}
