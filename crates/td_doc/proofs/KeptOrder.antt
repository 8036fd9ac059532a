-- The rows that a flatten keeps stand in their order.
use Rattle.std.proofs.Common.{◌≡◌, List, [], ◌∷◌, Bool, true, false, ◌||◌, not, cond, map, filter}
use Rattle.std.proofs.Common.{refl, sym, ap, ◌∙◌, subst, inl, inr, ⊎_elim, true≢false}
use Rattle.std.specs.Prelude.{IsSome, ◌↔◌, Option, Some, None}
use Rattle.td_base.specs.Value.{AtomIdValue}
use Rattle.td_base.specs.Lists.{In, Successive, StandsBefore}
use Rattle.td_base.proofs.Lists.{In-filter, In-map, map_In, all_in}
use Rattle.td_path.specs.declared.slot.Slot.{Slot}
use Rattle.td_doc.specs.Document.{DocRow, row_id, find_row, is_live, IsDocument}
use Rattle.td_doc.specs.Slots.{slot_path}
use Rattle.td_doc.specs.Array.{named}
use Rattle.td_base.specs.RunAtoms.{NamedAtom}
use Rattle.td_doc.specs.Flatten.{flatten}
use Rattle.td_doc.specs.Answers.{IsRow}
use Rattle.td_doc.specs.Stretches.{is_in, kept_rows}
use Rattle.td_doc.proofs.PutRows.{Differ}
use Rattle.td_doc.proofs.Rules.{found}
use Rattle.td_doc.proofs.Flattened.{flatten_names}
use Rattle.td_base.proofs.Rising.{stands_first, stands_last}

abbrev ids : List DocRow → List AtomIdValue
ids rows = map row_id rows

module _ (test : DocRow → Bool) where
  kept_id : (x : AtomIdValue) (rows : List DocRow) → In x (ids (filter test rows)) → In x (ids rows)
  kept_id x rows i = let m = map_In row_id x (filter test rows) i in
      subst (λ (y : AtomIdValue). In y (ids rows)) (sym m.2) (In-map row_id m.0 rows (In-filter test m.0 rows m.1).0)

  was_before_at : (x y : AtomIdValue) (r : DocRow) (rows : List DocRow) (b : Bool)
      → (StandsBefore x y (ids (filter test rows)) → StandsBefore x y (ids rows))
      → StandsBefore x y (ids (cond b (r ∷ filter test rows) (filter test rows))) → StandsBefore x y (ids (r ∷ rows))
  was_before_at x y r rows true ih h = ⊎_elim (λ (a : (x ≡ row_id r) × In y (ids (filter test rows))). inl
      (a.0, kept_id y rows a.1)) (λ (b : StandsBefore x y (ids (filter test rows))). inr (ih b)) h
  was_before_at x y r rows false ih h = inr (ih h)

  -- what stands before another among the kept stood before it
  was_before : (x y : AtomIdValue) (rows : List DocRow) → StandsBefore x y (ids (filter test rows))
      → StandsBefore x y (ids rows)
  was_before x y [] h = h
  was_before x y (r ∷ rows) h = was_before_at x y r rows (test r) (was_before x y rows) h

  not_again : (x : AtomIdValue) (r : DocRow) (rows : List DocRow) → Successive Differ (r ∷ rows) → x ≡ row_id r
      → In x (ids rows) → ⊥
  not_again x r rows apart e i = let m = map_In row_id x rows i in all_in (Differ r) rows apart.0 m.0 m.1 (sym e ∙ m.2)

  later : (x : AtomIdValue) (r : DocRow) (rows : List DocRow) (b : Bool) → Successive Differ (r ∷ rows)
      → In x (ids rows) → In x (ids (cond b (r ∷ filter test rows) (filter test rows))) → In x (ids (filter test rows))
  later x r rows true apart i h = ⊎_elim (λ (e : x ≡ row_id r). absurd (not_again x r rows apart e i))
      (λ (k : In x (ids (filter test rows))). k) h
  later x r rows false apart i h = h

  is_before_at : (x y : AtomIdValue) (r : DocRow) (rows : List DocRow) (b : Bool) → Successive Differ (r ∷ rows)
      → (In x (ids (filter test rows)) → In y (ids (filter test rows)) → StandsBefore x y (ids rows)
      → StandsBefore x y (ids (filter test rows)))
      → In x (ids (cond b (r ∷ filter test rows) (filter test rows)))
      → In y (ids (cond b (r ∷ filter test rows) (filter test rows))) → StandsBefore x y (ids (r ∷ rows))
      → StandsBefore x y (ids (cond b (r ∷ filter test rows) (filter test rows)))
  is_before_at x y r rows true apart ih i j h =
      ⊎_elim (λ (a : (x ≡ row_id r) × In y (ids rows)). inl (a.0, later y r rows true apart a.1 j))
      (λ (b : StandsBefore x y (ids rows)). inr (ih (later x r rows true apart (stands_first x y (ids rows) b) i)
      (later y r rows true apart (stands_last x y (ids rows) b) j) b)) h
  is_before_at x y r rows false apart ih i j h =
      ⊎_elim (λ (a : (x ≡ row_id r) × In y (ids rows)). absurd (not_again x r rows apart a.0 (kept_id x rows i)))
      (λ (b : StandsBefore x y (ids rows)). ih i j b) h

  -- and what stood before another does so among the kept, where both are kept
  is_before : (x y : AtomIdValue) (rows : List DocRow) → Successive Differ rows → In x (ids (filter test rows))
      → In y (ids (filter test rows)) → StandsBefore x y (ids rows) → StandsBefore x y (ids (filter test rows))
  is_before x y [] apart i j h = h
  is_before x y (r ∷ rows) apart i j h = is_before_at x y r rows (test r) apart (is_before x y rows apart.1) i j h

-- as the definitions have it

map_ids : (rows : List DocRow) → map (λ (a : NamedAtom). a.id) (map named rows) ≡ ids rows
map_ids [] = refl
map_ids (r ∷ rows) = ap (λ (q : List AtomIdValue). row_id r ∷ q) (map_ids rows)

pub flatten_ids : (rows : List DocRow) (slot : Slot) → IsDocument rows → ids (flatten slot rows)
    ≡ ids (kept_rows rows slot)
flatten_ids rows slot d = sym (map_ids (flatten slot rows))
    ∙ ap (map (λ (a : NamedAtom). a.id)) (flatten_names rows slot d.ascending) ∙ map_ids (kept_rows rows slot)

id_in_at : (x : AtomIdValue) (rows : List DocRow) (o : Option DocRow) → find_row x rows ≡ o → IsSome o → In x (ids rows)
id_in_at x rows None e h = absurd (true≢false (sym h))
id_in_at x rows (Some r) e h = let f = found x r rows e in
    subst (λ (y : AtomIdValue). In y (ids rows)) f.1 (In-map row_id r rows f.0)

pub id_in : (x : AtomIdValue) (rows : List DocRow) → IsRow rows x → In x (ids rows)
id_in x rows h = id_in_at x rows (find_row x rows) refl h

pub flatten_order : (rows : List DocRow) (slot : Slot) (x y : AtomIdValue) → IsDocument rows
    → IsRow (flatten slot rows) x → IsRow (flatten slot rows) y
    → StandsBefore x y (map row_id (flatten slot rows)) ↔ StandsBefore x y (map row_id rows)
flatten_order rows slot x y d h k =
    let same = flatten_ids rows slot d in
    let stays : DocRow → Bool = λ (r : DocRow). is_live r || not (is_in (slot_path rows slot) r) in (
      (λ b. was_before stays x y rows (subst (StandsBefore x y) same b)),
      (λ b. subst (StandsBefore x y) (sym same) (is_before stays x y rows d.apart
          (subst (In x) same (id_in x (flatten slot rows) h)) (subst (In y) same (id_in y (flatten slot rows) k)) b)),
    )
