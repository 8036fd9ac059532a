-- Slots that are equal part by part are one.
use Rattle.std.proofs.Common.{◌≡◌, true, refl, sym, subst, true≢false}
use Rattle.std.proofs.lemmas.Bool.{and_parts, and_from}
use Rattle.td_base.proofs.Equals.{same_bit_true, same_bit_refl, same_id_true, same_id_refl}
use Rattle.td_path.specs.Slot.{same_slot}
use Rattle.td_path.specs.declared.slot.Slot.{Slot}
use Rattle.td_path.specs.declared.slot.Slot.TheVariants.{Root, At}

pub same_slot_true : (s t : Slot) → same_slot s t ≡ true → s ≡ t
same_slot_true Root Root h = refl
same_slot_true Root (At y c) h = absurd (true≢false (sym h))
same_slot_true (At x b) Root h = absurd (true≢false (sym h))
same_slot_true (At x b) (At y c) h = let p = and_parts _ _ h in let a = same_id_true x y p.0 in
    let d = same_bit_true b c p.1 in λ i. At (a i) (d i)

pub same_slot_refl : (s t : Slot) → s ≡ t → same_slot s t ≡ true
same_slot_refl s t e = subst (λ u. same_slot s u ≡ true) e (at s)
  where
    at : (u : Slot) → same_slot u u ≡ true
    at Root = refl
    at (At x b) = and_from _ _ (same_id_refl x) (same_bit_refl b)
