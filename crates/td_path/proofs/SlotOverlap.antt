-- Slots that contain one path overlap.
use Rattle.std.proofs.Common.{◌≡◌, [], ◌∷◌, Bool, true, false, ◌&&◌, ◌||◌, refl, sym, ap, ◌∙◌, true≢false}
use Rattle.std.specs.Ordering.{is_eq, ordering_then}
use Rattle.std.proofs.Math.Bool.{or_comm}
use Rattle.std.proofs.lemmas.Bool.{or_left, or_right, and_parts}
use Rattle.td_base.specs.declared.bit.Bit.{Bit}
use Rattle.td_base.specs.Equality.{same_bit}
use Rattle.td_path.specs.Infix.{Pair, Pairs, path_cmp}
use Rattle.td_path.specs.SlotPaths.{goes_on, slot_contains, slot_contains_slot, slots_overlap}
use Rattle.td_path.specs.declared.slot_path.SlotPath.{SlotPath}
use Rattle.td_path.specs.declared.slot_path.SlotPath.TheVariants.{Root as Whole, Below}
use Rattle.td_base.proofs.Equals.{same_bit_true, same_bit_refl}
use Rattle.td_path.proofs.InfixOrder.{same_pairs, same_pair_true, same_pair_refl}

pub overlap_both_ways : (s t : SlotPath) → slots_overlap s t ≡ slots_overlap t s
overlap_both_ways s t = or_comm (slot_contains_slot s t) (slot_contains_slot t s)

-- one pair more in front of both
further : (c : Pair) (front path : Pairs) (bit side : Bit)
    → slot_contains_slot (Below (c ∷ front) bit) (Below (c ∷ path) side)
    ≡ slot_contains_slot (Below front bit) (Below path side)
further c front path bit side =
    λ i. is_eq (ordering_then (same_pairs c i) (path_cmp front path)) && same_bit bit
    side || (same_pair_refl c i && goes_on front bit path)

overlap_further : (c : Pair) (front path : Pairs) (bit side : Bit) → slots_overlap (Below front bit) (Below path side)
    ≡ true → slots_overlap (Below (c ∷ front) bit) (Below (c ∷ path) side) ≡ true
overlap_further c front path bit side h = (λ i. further c front path bit side i || further c path front side bit i) ∙ h

pub none_empty : (front : Pairs) (bit : Bit) → goes_on front bit [] ≡ true → ⊥
none_empty [] bit h = true≢false (sym h)
none_empty (q ∷ front) bit h = true≢false (sym h)

both_contain : (front path : Pairs) (bit side : Bit) (p : Pairs) → goes_on front bit p ≡ true → goes_on path side p
    ≡ true → slots_overlap (Below front bit) (Below path side) ≡ true
both_contain front path bit side [] h k = absurd (none_empty front bit h)
both_contain [] [] bit side (p ∷ rest) h k =
    let same : bit ≡ side = sym (same_bit_true p.0 bit h) ∙ same_bit_true p.0 side k in
    or_left _ _ (or_left _ _ (ap (λ b. same_bit b side) same ∙ same_bit_refl side))
both_contain [] (q ∷ path) bit side (p ∷ rest) h k =
    let same : q ≡ p = same_pair_true q p (and_parts _ _ k).0 in
    or_left (slot_contains_slot (Below [] bit) (Below (q ∷ path) side))
    (slot_contains_slot (Below (q ∷ path) side) (Below [] bit))
    (or_right _ _ (ap (λ (r : Pair). same_bit r.0 bit) same ∙ h))
both_contain (q ∷ front) [] bit side (p ∷ rest) h k =
    let same : q ≡ p = same_pair_true q p (and_parts _ _ h).0 in
    or_right (slot_contains_slot (Below (q ∷ front) bit) (Below [] side))
    (slot_contains_slot (Below [] side) (Below (q ∷ front) bit))
    (or_right _ _ (ap (λ (r : Pair). same_bit r.0 side) same ∙ k))
both_contain (q ∷ front) (r ∷ path) bit side (p ∷ rest) h k =
    let a = and_parts _ _ h in
    let b = and_parts _ _ k in
    let same : r ≡ q = same_pair_true r p b.0 ∙ sym (same_pair_true q p a.0) in
    ap (λ (s : Pair). slots_overlap (Below (q ∷ front) bit) (Below (s ∷ path) side)) same
    ∙ overlap_further q front path bit side (both_contain front path bit side rest a.1 b.1)

pub overlap_where_common : (s t : SlotPath) (p : Pairs) → slot_contains s p ≡ true → slot_contains t p ≡ true
    → slots_overlap s t ≡ true
overlap_where_common Whole t p h k = refl
overlap_where_common (Below front bit) Whole p h k = refl
overlap_where_common (Below front bit) (Below path side) p h k = both_contain front path bit side p h k

pub apart_where_no_overlap : (s t : SlotPath) (p : Pairs) → slots_overlap s t ≡ false → slot_contains s p ≡ true
    → slot_contains t p ≡ false
apart_where_no_overlap s t p out h = at (slot_contains t p) refl
  where
    at : (b : Bool) → slot_contains t p ≡ b → b ≡ false
    at true k = absurd (true≢false (sym (overlap_where_common s t p h k) ∙ out))
    at false k = refl
