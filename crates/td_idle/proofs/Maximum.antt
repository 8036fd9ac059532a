-- A certified candidate is the best.
use Rattle.std.proofs.Common.{◌≡◌, ◌<◌, List, true, false, ◌&&◌, ◌||◌, nat_eq, not, sym, ap}
use Rattle.std.proofs.Common.{◌∙◌, subst, inl, ⊎_elim, true≢false, arith, Some}
use Rattle.std.proofs.lemmas.Bool.{and_parts, not-true, or_cases, eqb-true}
use Rattle.std.proofs.lemmas.Option.{same_Some}
use Rattle.std.specs.Prelude.{Option, None}
use Rattle.std.specs.List.{list_all, list_any}
use Rattle.std.specs.declared.cmp.Ordering.TheVariants.{Less}
use Rattle.td_base.specs.Lists.{In}
use Rattle.td_base.specs.Value.{AtomIdValue}
use Rattle.td_base.proofs.Lists.{In-filter, any_found}
use Rattle.td_base.proofs.Searches.{each_passes}
use Rattle.td_path.specs.SlotPaths.{slot_contains}
use Rattle.td_path.specs.declared.slot.Slot.{Slot}
use Rattle.td_path.specs.declared.slot_path.SlotPath.{SlotPath}
use Rattle.td_doc.specs.Document.{DocRow, row_id, find_row, IsDocument}
use Rattle.td_doc.specs.Slots.{slot_path, rows_below, rows_in_slot, is_empty_slot}
use Rattle.td_doc.specs.Slots.{is_within, is_known_row, contains_slot, own_slot}
use Rattle.td_doc.proofs.SubtreeRows.{find_in, row_of}
use Rattle.td_machine.specs.History.{IsReached}
use Rattle.td_machine.specs.Machine.{Machine}
use Rattle.td_machine.proofs.Reached.{rules_of}
use Rattle.td_idle.specs.declared.idle.Idle.{Idle}
use Rattle.td_idle.specs.Stable.{stable}
use Rattle.td_idle.specs.Unknown.{is_known_id}
use Rattle.td_idle.specs.Candidate.{is_held_over, is_candidate}
use Rattle.td_idle.specs.Best.{row_count, slot_cmp, is_better, IsBest}
use Rattle.td_idle.specs.Certificate.{is_unknown_in, is_covered, is_top, is_certified}
use Rattle.td_idle.proofs.Better.{IsBetter, better_from, not_better}
use Rattle.td_idle.proofs.Candidates.{IsFree, free}
use Rattle.td_idle.proofs.Inside.{IsSmaller, smaller, has_fewer}
use Rattle.td_idle.proofs.OwnSlots.{owner_of, contains_own}
use Rattle.td_idle.proofs.UnknownRows.{known_is}

-- ---- rows of slots

pub from_slot : (rows : List DocRow) (o : Option SlotPath) (q : DocRow) → In q (rows_below rows o) → In q rows
from_slot rows None q i = absurd i
from_slot rows (Some p) q i = (In-filter (λ (z : DocRow). slot_contains p z.path) q rows i).0

-- an identity that is told to be in a slot is that of one of its rows
pub record IsRowIn (rows : List DocRow) (slot : Slot) (x : AtomIdValue) : Type 0 where
  pub row : DocRow
  pub inside : In row (rows_in_slot rows slot)
  pub named : row_id row ≡ x
  pub is : find_row x rows ≡ Some row

pub row_in : (rows : List DocRow) → IsDocument rows → (slot : Slot) (x : AtomIdValue) → is_within rows x slot ≡ true
    → IsRowIn rows slot x
row_in rows d slot x h =
    let q = row_of x (rows_in_slot rows slot) h in
    let j : In q.0 rows = from_slot rows (slot_path rows slot) q.0 q.1 in
    record {
      row = q.0;
      inside = q.1;
      named = q.2;
      is = ap (λ (y : AtomIdValue). find_row y rows) (sym q.2) ∙ find_in rows q.0 d.apart j;
    }

-- and where it is that of a row, of this one
pub same_in : (rows : List DocRow) → IsDocument rows → (slot : Slot) (r : DocRow) → In r rows
    → is_within rows (row_id r) slot ≡ true → In r (rows_in_slot rows slot)
same_in rows d slot r i h =
    let q = row_in rows d slot (row_id r) h in
    subst (λ (z : DocRow). In z (rows_in_slot rows slot)) (same_Some q.row r (sym q.is ∙ find_in rows r d.apart i))
    q.inside

-- ---- the maximum

-- what lies within a slot that is no better is no better
no_better_within : (m : Machine) → IsDocument m.doc → (slot top t : Slot) → contains_slot m.doc top t ≡ true
    → is_empty_slot m.doc t ≡ false → ¬ IsBetter m.doc top slot → ¬ IsBetter m.doc t slot
no_better_within m d slot top t h some worse better =
    ⊎_elim
    (λ (e : top ≡ t). worse (subst (λ (s : Slot). IsBetter m.doc s slot) (sym e) better))
    (λ (k : IsSmaller m.doc t top).
    let less : row_count m.doc t < row_count m.doc top = has_fewer m.doc d top t k in
    worse (inl (⊎_elim
    (λ (l : row_count m.doc slot < row_count m.doc t). let more : row_count m.doc slot < row_count m.doc top =
    omega (arith, l, less) in more)
    (λ (l : (row_count m.doc t ≡ row_count m.doc slot) × (slot_cmp t slot ≡ Less)).
    let same : row_count m.doc t ≡ row_count m.doc slot = l.0 in
    let more : row_count m.doc slot < row_count m.doc top = omega (arith, same, less) in more)
    better)))
    (smaller m.doc d top t h some)

-- the conditions of a certificate
pub record AreConditions (m : Machine) (idle : Idle) : Type 0 where
  pub candidate : is_candidate m idle.slot ≡ true
  pub count : row_count m.doc idle.slot ≡ idle.rows
  pub tops : list_all (is_top m idle.slot) idle.tops.items ≡ true
  pub covered : list_all (is_covered m idle.tops.items idle.unknown.items) m.doc ≡ true

pub conditions : (m : Machine) (idle : Idle) → is_certified m idle ≡ true → AreConditions m idle
conditions m i h =
    let a = and_parts ((is_candidate m i.slot && nat_eq (row_count m.doc i.slot) i.rows) && list_all (is_top m i.slot)
    i.tops.items)
    (list_all (is_covered m i.tops.items i.unknown.items) m.doc) h in
    let b = and_parts (is_candidate m i.slot && nat_eq (row_count m.doc i.slot) i.rows)
    (list_all (is_top m i.slot) i.tops.items) a.0 in
    let c = and_parts (is_candidate m i.slot) (nat_eq (row_count m.doc i.slot) i.rows) b.0 in
    record { candidate = c.0; count = eqb-true (row_count m.doc i.slot) i.rows c.1; tops = b.1; covered = a.1 }

module _ (m : Machine) (d : IsDocument m.doc) (i : Idle) (c : AreConditions m i) (t : Slot)
    (h : is_candidate m t ≡ true) where
  f : IsFree m t
  f = free m t h

  in_top : (r : DocRow) → In r m.doc → own_slot r ≡ t → list_any (is_within m.doc (row_id r)) i.tops.items ≡ true
      → ¬ IsBetter m.doc t i.slot
  in_top r there own any =
      let s = any_found (is_within m.doc (row_id r)) i.tops.items any in
      let top = and_parts (is_candidate m s.0) (not (is_better m.doc s.0 i.slot))
      (each_passes (is_top m i.slot) i.tops.items c.tops s.0 s.1) in
      let worse : ¬ IsBetter m.doc s.0 i.slot = λ better. true≢false
      (sym (better_from m.doc s.0 i.slot better) ∙ not-true (is_better m.doc s.0 i.slot) top.1) in
      let holds : contains_slot m.doc s.0 t ≡ true =
      subst (λ (u : Slot). contains_slot m.doc s.0 u ≡ true) own
      (contains_own m.doc d s.0 r (same_in m.doc d s.0 r there s.2)) in
      no_better_within m d i.slot s.0 t holds f.some worse

  unknown_there : (r : DocRow) → own_slot r ≡ t → list_any (is_unknown_in m (own_slot r)) i.unknown.items ≡ true → ⊥
  unknown_there r own any =
      let x = any_found (is_unknown_in m (own_slot r)) i.unknown.items any in
      let p = and_parts (is_within m.doc x.0 (own_slot r)) (not (is_known_id (stable m) m.doc x.0)) x.2 in
      let q = row_in m.doc d (own_slot r) x.0 p.0 in
      let known : is_known_row (stable m) q.row ≡ true =
      each_passes (is_known_row (stable m)) (rows_in_slot m.doc t) f.known q.row
      (subst (λ (s : Slot). In q.row (rows_in_slot m.doc s)) own q.inside) in
      true≢false (sym (known_is (stable m) m.doc x.0 q.row q.is ∙ known)
      ∙ not-true (is_known_id (stable m) m.doc x.0) p.1)

  covered_worse : (r : DocRow) → In r m.doc → own_slot r ≡ t → is_covered m i.tops.items i.unknown.items r ≡ true
      → ¬ IsBetter m.doc t i.slot
  covered_worse r there own h better =
      ⊎_elim
      (λ (k : (list_any (is_within m.doc (row_id r)) i.tops.items || list_any (is_unknown_in m (own_slot r))
      i.unknown.items) ≡ true).
      ⊎_elim
      (λ (l : list_any (is_within m.doc (row_id r)) i.tops.items ≡ true). in_top r there own l better)
      (λ (l : list_any (is_unknown_in m (own_slot r)) i.unknown.items ≡ true). unknown_there r own l)
      (or_cases (list_any (is_within m.doc (row_id r)) i.tops.items)
      (list_any (is_unknown_in m (own_slot r)) i.unknown.items) k))
      (λ (k : is_held_over m (own_slot r) ≡ true). true≢false (sym k ∙ (ap (is_held_over m) own ∙ f.unheld)))
      (or_cases (list_any (is_within m.doc (row_id r)) i.tops.items || list_any (is_unknown_in m (own_slot r))
      i.unknown.items) (is_held_over m (own_slot r)) h)

  no_better : is_better m.doc t i.slot ≡ false
  no_better =
      let r = owner_of m.doc d t f.some in
      not_better m.doc t i.slot
      (covered_worse r.row r.there r.own (each_passes (is_covered m i.tops.items i.unknown.items) m.doc c.covered
      r.row r.there))

pub certified_is_best : (m : Machine) → IsDocument m.doc → (i : Idle) → is_certified m i ≡ true → IsBest m i.slot i.rows
certified_is_best m d i h =
    let c = conditions m i h in
    record { candidate = c.candidate; count = sym c.count; best = λ t k. no_better m d i c t k }

pub reached_is_best : (m : Machine) → IsReached m → (i : Idle) → is_certified m i ≡ true → IsBest m i.slot i.rows
reached_is_best m r i h = certified_is_best m (rules_of m r) i h
