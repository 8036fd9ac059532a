-- What is under an insertion, in a family whose insertions follow one another.
use Rattle.std.proofs.Common.{◌≡◌, List, [], ◌∷◌, true, false, cond, ◌||◌, refl, sym, ap, ◌∙◌, subst, inr, ⊎_elim}
use Rattle.std.proofs.lemmas.Bool.{cases_Bool, or_left}
use Rattle.td_base.specs.declared.bit.Bit.{Bit}
use Rattle.td_base.specs.Value.{DotValue, AtomIdValue}
use Rattle.td_base.specs.Lists.{In}
use Rattle.td_path.specs.declared.slot.Slot.{Slot}
use Rattle.td_path.specs.declared.slot.Slot.TheVariants.{Root, At}
use Rattle.td_op.specs.declared.insertion.Insertion.{Insertion}
use Rattle.td_op.specs.Insertion.{ids_of}
use Rattle.td_base.specs.Equality.{same_dot}
use Rattle.td_order.specs.Under.{under, names_under}
use Rattle.td_base.proofs.Equals.{same_dot_true, same_dot_refl}
use Rattle.td_order.proofs.Family.{IsRooted, AllFollow}
use Rattle.td_order.proofs.Fits.{ids_dot, under_tail}

pub dot_in : (a : Insertion) (x : AtomIdValue) → In x (ids_of a) → x.dot ≡ a.dot
dot_in a x i = ap (λ (y : AtomIdValue). y.dot) (ids_dot a.dot 0 a.run x i).1

slot_tail : (o : Insertion) (os : List Insertion) (b : DotValue) → ((c : Insertion) → In c os → c.dot ≡ o.dot → ⊥)
    → (s : Slot) → IsRooted os s → names_under (under (o ∷ os) b) s ≡ names_under (under os b) s
slot_tail o os b n Root h = refl
slot_tail o os b n (At x s) h = under_tail o os b x.dot (λ e. n h.0 h.1 (sym (e ∙ dot_in h.0 x h.2)))

rooted_in : (os : List Insertion) → AllFollow os → (a : Insertion) → In a os → IsRooted os a.slot
rooted_in [] F a i = absurd i
rooted_in (o ∷ os) F a i =
    wider a.slot
    (⊎_elim (λ (e : a ≡ o). subst (λ (c : Insertion). IsRooted os c.slot) (sym e) F.0.rooted)
    (λ k. rooted_in os F.1 a k) i)
  where
    wider : (s : Slot) → IsRooted os s → IsRooted (o ∷ os) s
    wider Root h = tt
    wider (At x s) h = (h.0, inr h.1, h.2)

pub under_at : (os : List Insertion) → AllFollow os → (a : Insertion) → In a os → (b : DotValue)
    → under os b a.dot ≡ (same_dot a.dot b || names_under (under os b) a.slot)
under_at [] F a i b = absurd i
under_at (o ∷ os) F a i b =
    ⊎_elim
    (λ (e : a ≡ o).
    subst (λ (c : Insertion). under (o ∷ os) b c.dot ≡ (same_dot c.dot b || names_under (under (o ∷ os) b) c.slot))
    (sym e)
    (ap (λ v. cond v (same_dot o.dot b || names_under (under os b) o.slot) (under os b o.dot)) (same_dot_refl o.dot)
    ∙ ap (λ v. same_dot o.dot b || v) (sym (slot_tail o os b F.0.fresh o.slot F.0.rooted))))
    (λ (k : In a os).
    under_tail o os b a.dot (λ e. F.0.fresh a k (sym e))
    ∙ (under_at os F.1 a k b
    ∙ ap (λ v. same_dot a.dot b || v) (sym (slot_tail o os b F.0.fresh a.slot (rooted_in os F.1 a k)))))
    i

pub under_itself : (os : List Insertion) → AllFollow os → (b : Insertion) → In b os → under os b.dot b.dot ≡ true
under_itself os F b i = under_at os F b i b.dot ∙ or_left _ _ (same_dot_refl b.dot)

other : (os : List Insertion) → AllFollow os → (a : Insertion) → In a os → (b : DotValue) → (a.dot ≡ b → ⊥)
    → (s : Slot) → a.slot ≡ s → under os b a.dot ≡ names_under (under os b) s
other os F a i b n s e =
    under_at os F a i b
    ∙ (ap (λ v. v || names_under (under os b) a.slot)
    (⊎_elim (λ t. absurd (n (same_dot_true a.dot b t))) (λ t. t) (cases_Bool (same_dot a.dot b)))
    ∙ ap (λ z. names_under (under os b) z) e)

-- an insertion other than b is under b where its slot's atom is
pub under_slot_atom : (os : List Insertion) → AllFollow os → (a : Insertion) → In a os → (b : DotValue)
    → (a.dot ≡ b → ⊥) → (x : AtomIdValue) (s : Bit) → a.slot ≡ At x s → under os b a.dot ≡ under os b x.dot
under_slot_atom os F a i b n x s e = other os F a i b n (At x s) e

pub under_root : (os : List Insertion) → AllFollow os → (a : Insertion) → In a os → (b : DotValue) → (a.dot ≡ b → ⊥)
    → a.slot ≡ Root → under os b a.dot ≡ false
under_root os F a i b n e = other os F a i b n Root e
