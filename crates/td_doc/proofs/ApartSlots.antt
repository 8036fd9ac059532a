-- Slots that do not overlap have no row in common, and a flatten of one leaves the rows of the other.
use Rattle.std.proofs.Common.{◌≡◌, List, [], ◌++◌, Bool, true, false, ◌&&◌, ◌||◌, map, filter}
use Rattle.std.proofs.Common.{refl, sym, ap, ◌∙◌, subst, inr, ⊎_elim, true≢false}
use Rattle.std.specs.Prelude.{is_some, Option, Some, None}
use Rattle.std.specs.Option.{option_map}
use Rattle.std.specs.Ordering.{is_eq}
use Rattle.std.proofs.lemmas.Bool.{or_left, or_right, or_cases, or_parts, and_parts, false_from_ne_true}
use Rattle.td_base.specs.declared.bit.Bit.{Bit}
use Rattle.td_base.specs.Value.{AtomIdValue}
use Rattle.td_base.specs.Lists.{In}
use Rattle.td_base.proofs.Lists.{In-filter}
use Rattle.td_path.specs.Infix.{Pairs, path_cmp}
use Rattle.td_path.specs.SlotPaths.{goes_on, slot_contains, slot_contains_slot, slots_overlap}
use Rattle.td_path.specs.declared.slot.Slot.{Slot}
use Rattle.td_path.specs.declared.slot.Slot.TheVariants.{Root, At}
use Rattle.td_path.specs.declared.slot_path.SlotPath.{SlotPath}
use Rattle.td_path.specs.declared.slot_path.SlotPath.TheVariants.{Root as Whole, Below}
use Rattle.td_path.proofs.InfixOrder.{equal_paths}
use Rattle.td_base.proofs.Orders.{is_eq_true}
use Rattle.td_path.proofs.SlotOverlap.{apart_where_no_overlap}
use Rattle.std.proofs.Math.Bool.{or_comm}
use Rattle.std.proofs.lemmas.Option.{none-some, same_Some}
use Rattle.td_doc.specs.Document.{DocRow, last_id, find_row, live_rows, IsDocument}
use Rattle.td_doc.specs.Slots.{slot_path, rows_below, rows_in_slot, is_within, contains_slot, overlaps}
use Rattle.td_path.specs.Slot.{same_slot, is_root}
use Rattle.td_doc.specs.Array.{named, array}
use Rattle.td_doc.specs.Flatten.{rows_beside, flatten_below, flatten}
use Rattle.td_doc.proofs.PutRows.{puts_in}
use Rattle.td_doc.proofs.ArrayRows.{nobody}
use Rattle.td_doc.proofs.Rules.{found, in_found, unfound}
use Rattle.td_doc.proofs.SlotRows.{split, split_flatten, contained_in}
use Rattle.td_base.proofs.Searches.{filter_none, filter_parts}
use Rattle.td_doc.proofs.Flattened.{stays_beside, flatten_document}
use Rattle.td_doc.proofs.SubtreeRows.{was, find_in, within_is, row_of}
use Rattle.td_base.proofs.Equals.{same_id_refl}
use Rattle.td_base.specs.Equality.{same_bit, same_id}

-- overlap by paths is overlap by identities

module _ (rows : List DocRow) (d : IsDocument rows) where
  contains_by_path : (x y : AtomIdValue) (bit side : Bit) (r s : DocRow) → find_row x rows ≡ Some r → find_row y rows
      ≡ Some s → slot_contains_slot (Below r.path bit) (Below s.path side) ≡ true
      → contains_slot rows (At x bit) (At y side) ≡ true
  contains_by_path x y bit side r s e f h =
      let a = found x r rows e in
      let b = found y s rows f in
      ⊎_elim
      (λ (k : (is_eq (path_cmp r.path s.path) && same_bit bit side) ≡ true).
      let both = and_parts _ _ k in
      let ids : x ≡ y = sym a.1 ∙ ap (last_id nobody) (equal_paths r.path s.path (is_eq_true _ both.0)) ∙ b.1 in
      let id : same_id x y ≡ true = ap (λ z. same_id x z) (sym ids) ∙ same_id_refl x in
      or_left (same_slot (At x bit) (At y side) || is_root (At x bit)) _
      (or_left (same_slot (At x bit) (At y side)) _ ((λ i. id i && same_bit bit side) ∙ both.1)))
      (λ (k : goes_on r.path bit s.path ≡ true).
      or_right (same_slot (At x bit) (At y side) || is_root (At x bit)) _
      (ap (λ (o : Option DocRow). is_some (find_row y
      (rows_below rows (option_map (λ (q : DocRow). Below q.path bit) o)))) e
      ∙ ap (λ (z : AtomIdValue). is_some (find_row z (rows_below rows (Some (Below r.path bit))))) (sym b.1)
      ∙ within_is rows (Below r.path bit) s d.apart b.0 ∙ k))
      (or_cases _ _ h)

  contains_at : (x : AtomIdValue) (bit : Bit) (t : Slot) (a b : SlotPath) (o : Option DocRow) → find_row x rows ≡ o
      → option_map (λ (q : DocRow). Below q.path bit) o ≡ Some a → slot_path rows t ≡ Some b → slot_contains_slot a b
      ≡ true → contains_slot rows (At x bit) t ≡ true
  contains_at x bit t a b None e f g h = absurd (none-some a f)
  contains_at x bit Root a b (Some r) e f g h =
      let first = same_Some (Below r.path bit) a f in
      let second = same_Some Whole b g in
      absurd (true≢false (sym h ∙ (λ i. slot_contains_slot (sym first i) (sym second i))))
  contains_at x bit (At y side) a b (Some r) e f g h = second (find_row y rows) refl g
    where
      second : (o : Option DocRow) → find_row y rows ≡ o → option_map (λ (q : DocRow). Below q.path side) o ≡ Some b
          → contains_slot rows (At x bit) (At y side) ≡ true
      second None k l = absurd (none-some b l)
      second (Some s) k l = contains_by_path x y bit side r s e k
          ((λ i. slot_contains_slot (same_Some (Below r.path bit) a f i) (same_Some (Below s.path side) b l i)) ∙ h)

  contains_path : (s t : Slot) (a b : SlotPath) → slot_path rows s ≡ Some a → slot_path rows t ≡ Some b
      → slot_contains_slot a b ≡ true → contains_slot rows s t ≡ true
  contains_path Root t a b e f h = or_left (same_slot Root t || true) _ (or_right (same_slot Root t) true refl)
  contains_path (At x bit) t a b e f h = contains_at x bit t a b (find_row x rows) refl e f h

  overlap_path : (s t : Slot) (a b : SlotPath) → slot_path rows s ≡ Some a → slot_path rows t ≡ Some b
      → slots_overlap a b ≡ true → overlaps rows s t ≡ true
  overlap_path s t a b e f h =
      ⊎_elim (λ (k : slot_contains_slot a b ≡ true). or_left (contains_slot rows s t) _ (contains_path s t a b e f k))
      (λ (k : slot_contains_slot b a ≡ true). or_right (contains_slot rows s t) _ (contains_path t s b a f e k))
      (or_cases _ _ h)

  pub apart_paths : (s t : Slot) (a b : SlotPath) → slot_path rows s ≡ Some a → slot_path rows t ≡ Some b
      → overlaps rows s t ≡ false → (p : Pairs) → slot_contains a p ≡ true → slot_contains b p ≡ false
  apart_paths s t a b e f out p h = apart_where_no_overlap a b p
      (false_from_ne_true (slots_overlap a b) (λ k. true≢false (sym (overlap_path s t a b e f k) ∙ out))) h

  -- no row in common

  common_at : (s t : Slot) (x : AtomIdValue) (o p : Option SlotPath) → slot_path rows s ≡ o → slot_path rows t ≡ p
      → overlaps rows s t ≡ false → is_some (find_row x (rows_below rows o)) ≡ true
      → is_some (find_row x (rows_below rows p)) ≡ false
  common_at s t x None p e f out h = absurd (true≢false (sym h))
  common_at s t x (Some a) None e f out h = refl
  common_at s t x (Some a) (Some b) e f out h =
      let r = row_of x (rows_below rows (Some a)) h in
      let i = In-filter (λ (q : DocRow). slot_contains a q.path) r.0 rows r.1 in
      ap (λ (y : AtomIdValue). is_some (find_row y (rows_below rows (Some b)))) (sym r.2)
      ∙ within_is rows b r.0 d.apart i.0 ∙ apart_paths s t a b e f out r.0.path i.1

  pub no_common_row : (s t : Slot) (x : AtomIdValue) → overlaps rows s t ≡ false → is_within rows x s ≡ true
      → is_within rows x t ≡ false
  no_common_row s t x out h = common_at s t x (slot_path rows s) (slot_path rows t) refl refl out h

  -- the other slot keeps its rows

  module _ (s : Slot) (a : SlotPath) (e : slot_path rows s ≡ Some a) where
    abbrev flat : List DocRow
    flat = flatten_below (Some a) rows

    flat_document : IsDocument flat
    flat_document = subst (λ (o : Option SlotPath). IsDocument (flatten_below o rows)) e (flatten_document rows s d)

    atom_at : (y : AtomIdValue) (o : Option DocRow) → find_row y rows ≡ o → is_within rows y s ≡ false
        → find_row y flat ≡ o
    atom_at y None f out = none_of (find_row y flat)
        (unfound y flat (λ q i k. let w = was a rows q i in
        absurd (true≢false (sym (in_found w.old rows w.inside)
        ∙ ap (λ (z : AtomIdValue). is_some (find_row z rows)) (w.named ∙ k) ∙ ap is_some f))))
      where
        none_of : (o : Option DocRow) → is_some o ≡ false → o ≡ None
        none_of None h = refl
        none_of (Some r) h = absurd (true≢false h)
    atom_at y (Some r) f out =
        let b = found y r rows f in
        let outside : slot_contains a r.path ≡ false =
        sym (within_is rows a r d.apart b.0) ∙ ap (λ (z : AtomIdValue). is_some
        (find_row z (rows_below rows (Some a)))) b.1 ∙ ap
        (λ (o : Option SlotPath). is_some (find_row y (rows_below rows o))) (sym e) ∙ out in
        let there : In r flat = puts_in (array a (map named (live_rows (rows_below rows (Some a)))))
        (rows_beside a rows) r (inr (stays_beside a rows r b.0 outside)) in
        ap (λ (z : AtomIdValue). find_row z flat) (sym b.1) ∙ find_in flat r flat_document.apart there

    slot_kept : (t : Slot) → overlaps rows s t ≡ false → slot_path flat t ≡ slot_path rows t
    slot_kept Root out = refl
    slot_kept (At y side) out =
        ap (option_map (λ (q : DocRow). Below q.path side))
        (atom_at y (find_row y rows) refl (or_parts (same_slot s (At y side) || is_root s) (is_within rows y s)
        (or_parts (contains_slot rows s (At y side)) (contains_slot rows (At y side) s) out).0).1)

    rows_kept_at : (t : Slot) (p : Option SlotPath) → slot_path rows t ≡ p → overlaps rows s t ≡ false
        → rows_below flat p ≡ rows_below rows p
    rows_kept_at t None f out = refl
    rows_kept_at t (Some b) f out =
        let parts = split a rows d.ascending in
        let new = array a (map named (live_rows parts.inside)) in
        let test : DocRow → Bool = λ (q : DocRow). slot_contains b q.path in
        let none_new : filter test new ≡ [] = filter_none test new
        (λ r i. apart_paths s t a b e f out r.path (contained_in a (map named (live_rows parts.inside)) r i)) in
        let none_old : filter test parts.inside ≡ [] =
        filter_none test parts.inside (λ r i. apart_paths s t a b e f out r.path (parts.within r i)) in
        ap (filter test) (split_flatten a rows parts) ∙ filter_parts test parts.front new parts.back
        ∙ ap (λ (q : List DocRow). filter test parts.front ++ q ++ filter test parts.back) (none_new ∙ sym none_old)
        ∙ sym (filter_parts test parts.front parts.inside parts.back) ∙ ap (filter test) (sym parts.is)

    other_kept : (t : Slot) → overlaps rows s t ≡ false → rows_in_slot flat t ≡ rows_in_slot rows t
    other_kept t out = ap (rows_below flat) (slot_kept t out) ∙ rows_kept_at t (slot_path rows t) refl out

  other_slot_at : (s t : Slot) (o : Option SlotPath) → slot_path rows s ≡ o → overlaps rows s t ≡ false
      → rows_in_slot (flatten_below o rows) t ≡ rows_in_slot rows t
  other_slot_at s t None e out = refl
  other_slot_at s t (Some a) e out = other_kept s a e t out

  pub other_slot : (s t : Slot) → overlaps rows s t ≡ false → rows_in_slot (flatten s rows) t ≡ rows_in_slot rows t
  other_slot s t out = other_slot_at s t (slot_path rows s) refl out

pub overlaps_mutual : (rows : List DocRow) (s t : Slot) → overlaps rows s t ≡ overlaps rows t s
overlaps_mutual rows s t = or_comm (contains_slot rows s t) (contains_slot rows t s)
