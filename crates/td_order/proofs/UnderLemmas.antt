-- What is under what by slots, and by the walk over the line-up, is one.
use Rattle.std.proofs.Common.{◌≡◌, ◌⊎◌, List, [], ◌∷◌, true, false, cond, ◌||◌, refl, sym}
use Rattle.std.proofs.Common.{ap, ◌∙◌, subst, inl, inr, ⊎_elim, true≢false}
use Rattle.std.specs.Prelude.{◌↔◌, IsTrue}
use Rattle.std.proofs.lemmas.Bool.{cases_Bool, or_cases, or_left, or_right}
use Rattle.td_base.specs.Value.{DotValue, AtomIdValue}
use Rattle.td_base.specs.Lists.{In}
use Rattle.td_path.specs.declared.slot.Slot.{Slot}
use Rattle.td_path.specs.declared.slot.Slot.TheVariants.{Root, At}
use Rattle.td_op.specs.Op.{OpValue}
use Rattle.td_op.specs.declared.insertion.Insertion.{Insertion}
use Rattle.td_order.specs.Insertions.{IsInsertionOf}
use Rattle.td_op.specs.Insertion.{ids_of, insertion_of, insertions}
use Rattle.td_base.specs.Equality.{same_dot}
use Rattle.td_order.specs.LineUp.{line_up}
use Rattle.td_order.specs.Under.{IsUnder, NamesAtomOf, itself, by_slot, names_under, under}
use Rattle.td_order.specs.Causal.{IsWellRooted}
use Rattle.td_base.proofs.Equals.{same_dot_true, same_dot_refl}
use Rattle.td_order.proofs.Family.{Names, IsRooted, AllFollow}
use Rattle.td_order.proofs.Fits.{ids_dot, under_head, under_tail}
use Rattle.td_op.proofs.InsertionLemmas.{from_op, In-insertions, insertions-In}
use Rattle.td_order.proofs.LineUpLemmas.{In-line_up, line_up-In}
use Rattle.td_order.proofs.OrderOfPart.{line_up_causal, whole_is_closed}
use Rattle.td_order.proofs.SetOfOps.{one_op}
use Rattle.std.proofs.lemmas.Option.{same_Some}

pub dot_in : (a : Insertion) (x : AtomIdValue) → In x (ids_of a) → x.dot ≡ a.dot
dot_in a x i = ap (λ (y : AtomIdValue). y.dot) (ids_dot a.dot 0 a.run x i).1

-- the insertion in front is passed by where an atom is of one behind it
passed : (a : Insertion) (os : List Insertion) → AllFollow (a ∷ os) → (b : DotValue) (x : AtomIdValue) → Names os x
    → under (a ∷ os) b x.dot ≡ under os b x.dot
passed a os F b x n = under_tail a os b x.dot (λ e. F.0.fresh n.0 n.1 (sym (dot_in n.0 x n.2) ∙ sym e))

names_further : (a : Insertion) (os : List Insertion) (s : Slot) → IsRooted os s → IsRooted (a ∷ os) s
names_further a os Root h = tt
names_further a os (At x s) h = (h.0, inr h.1, h.2)

rooted_of : (os : List Insertion) → AllFollow os → (c : Insertion) → In c os → IsRooted os c.slot
rooted_of [] F c i = absurd i
rooted_of (a ∷ os) F c i =
    names_further a os c.slot (⊎_elim (λ (e : c ≡ a). subst (λ (z : Insertion). IsRooted os z.slot) (sym e)
    F.0.rooted) (λ k. rooted_of os F.1 c k) i)

slot_passed : (a : Insertion) (os : List Insertion) → AllFollow (a ∷ os) → (b : DotValue) (s : Slot) → IsRooted os s
    → names_under (under (a ∷ os) b) s ≡ true → names_under (under os b) s ≡ true
slot_passed a os F b Root n h = h
slot_passed a os F b (At x bit) n h = sym (passed a os F b x n) ∙ h

-- what hangs on an atom of an insertion that is under b is under b
hangs : (os : List Insertion) → AllFollow os → (b : DotValue) (c : Insertion) → In c os
    → names_under (under os b) c.slot ≡ true → under os b c.dot ≡ true
hangs [] F b c i h = absurd i
hangs (a ∷ os) F b c i h =
    ⊎_elim
    (λ (e : c ≡ a).
    let here : names_under (under os b) a.slot ≡ true =
    slot_passed a os F b a.slot F.0.rooted (subst (λ (z : Insertion). names_under (under (a ∷ os) b) z.slot
    ≡ true) e h) in
    under_head a os b c.dot (ap (λ (z : Insertion). z.dot) (sym e)) (or_right _ _ here))
    (λ (k : In c os).
    under_tail a os b c.dot (λ e. F.0.fresh c k (sym e))
    ∙ hangs os F.1 b c k (slot_passed a os F b c.slot (rooted_of os F.1 c k) h))
    i

top_itself : (os : List Insertion) → AllFollow os → (b : Insertion) → In b os → under os b.dot b.dot ≡ true
top_itself [] F b i = absurd i
top_itself (a ∷ os) F b i =
    ⊎_elim
    (λ (e : b ≡ a). under_head a os b.dot b.dot (sym (ap (λ (z : Insertion). z.dot) e))
    (or_left _ _ (same_dot_refl b.dot)))
    (λ k. under_tail a os b.dot b.dot (λ e. F.0.fresh b k (sym e)) ∙ top_itself os F.1 b k)
    i

module _ (ops : List OpValue) (W : IsWellRooted ops) where
  follows : AllFollow (insertions (line_up ops))
  follows = line_up_causal ops (whole_is_closed ops W)

  in_line : (a : Insertion) → IsInsertionOf ops a → In a (insertions (line_up ops))
  in_line a i = insertions-In (line_up ops) i.op a (line_up-In ops i.op i.inside) i.is

  pub of_line : (a : Insertion) → In a (insertions (line_up ops)) → IsInsertionOf ops a
  of_line a i = let o = In-insertions (line_up ops) a i in
      record { op = o.0; inside = In-line_up ops o.0 o.1; is = o.2 }

  pub one_insertion : (a c : Insertion) → IsInsertionOf ops a → IsInsertionOf ops c → a.dot ≡ c.dot → a ≡ c
  one_insertion a c i j e =
      let o = one_op ops W.apart i.op j.op i.inside j.inside
      (sym (from_op i.op a i.is).dot ∙ (e ∙ (from_op j.op c j.is).dot)) in
      same_Some a c (sym i.is ∙ (ap insertion_of o ∙ j.is))

  names_top : (b d : Insertion) (s : Slot) → NamesAtomOf s d → under (insertions (line_up ops)) b.dot d.dot ≡ true
      → names_under (under (insertions (line_up ops)) b.dot) s ≡ true
  names_top b d Root n h = absurd n
  names_top b d (At x bit) n h = ap (under (insertions (line_up ops)) b.dot) (dot_in d x n) ∙ h

  from_relation : (b c : Insertion) → IsUnder ops b c → IsInsertionOf ops b → IsInsertionOf ops c
      → under (insertions (line_up ops)) b.dot c.dot ≡ true
  from_relation b c itself i j = top_itself (insertions (line_up ops)) follows b (in_line b i)
  from_relation b c (by_slot e d inside names u) i j =
      hangs (insertions (line_up ops)) follows b.dot e (in_line e j)
      (names_top b d e.slot names (from_relation b d u i inside))

  abbrev Relates : List Insertion → Type 0
  Relates os = (b c : Insertion) → IsInsertionOf ops b → IsInsertionOf ops c → under os b.dot c.dot ≡ true
      → IsUnder ops b c

  by_names : (os : List Insertion) → Relates os → ((a : Insertion) → In a os → IsInsertionOf ops a)
      → (b a : Insertion) → IsInsertionOf ops b → (s : Slot) → a.slot ≡ s → IsRooted os s
      → names_under (under os b.dot) s ≡ true → IsUnder ops b a
  by_names os rel w b a i Root e n h = absurd (true≢false (sym h))
  by_names os rel w b a i (At x bit) e n h =
      let d = n.0 in
      by_slot a d (w d n.1) (subst (λ s. NamesAtomOf s d) (sym e) n.2)
      (rel b d i (w d n.1) (ap (under os b.dot) (sym (dot_in d x n.2)) ∙ h))

  relates_at : (a : Insertion) (os : List Insertion) → AllFollow (a ∷ os) → Relates os
      → ((d : Insertion) → In d (a ∷ os) → IsInsertionOf ops d) → (b c : Insertion) → IsInsertionOf ops b
      → IsInsertionOf ops c
      → under (a ∷ os) b.dot c.dot ≡ true → (same_dot a.dot c.dot ≡ true) ⊎ (same_dot a.dot c.dot ≡ false)
      → IsUnder ops b c
  relates_at a os F rel w b c i j h t =
      ⊎_elim
      (λ (e : same_dot a.dot c.dot ≡ true).
      let one : a ≡ c = one_insertion a c (w a (inl refl)) j (same_dot_true a.dot c.dot e) in
      let here : (same_dot c.dot b.dot || names_under (under os b.dot) a.slot) ≡ true =
      sym (ap (λ v. cond v (same_dot c.dot b.dot || names_under (under os b.dot) a.slot) (under os b.dot c.dot)) e)
      ∙ h in
      ⊎_elim
      (λ (k : same_dot c.dot b.dot ≡ true). subst (λ z. IsUnder ops b z)
      (sym (one_insertion c b j i (same_dot_true c.dot b.dot k))) itself)
      (λ (k : names_under (under os b.dot) a.slot ≡ true). subst (λ z. IsUnder ops b z) one
      (by_names os rel (λ d l. w d (inr l)) b a i a.slot refl F.0.rooted k))
      (or_cases _ _ here))
      (λ (e : same_dot a.dot c.dot ≡ false).
      rel b c i j (sym (ap (λ v. cond v (same_dot c.dot b.dot || names_under (under os b.dot) a.slot)
      (under os b.dot c.dot)) e) ∙ h))
      t

  relates : (os : List Insertion) → AllFollow os → ((d : Insertion) → In d os → IsInsertionOf ops d) → Relates os
  relates [] F w b c i j h = absurd (true≢false (sym h))
  relates (a ∷ os) F w b c i j h = relates_at a os F (relates os F.1 (λ d l. w d (inr l))) w b c i j h
      (cases_Bool (same_dot a.dot c.dot))

  pub one_relation : (b c : Insertion) → IsInsertionOf ops b → IsInsertionOf ops c
      → IsTrue (under (insertions (line_up ops)) b.dot c.dot) ↔ IsUnder ops b c
  one_relation b c i j = (relates (insertions (line_up ops)) follows of_line b c i j, λ u. from_relation b c u i j)

pub under_by_slots : (ops : List OpValue) → IsWellRooted ops → (b c : Insertion) → IsInsertionOf ops b
    → IsInsertionOf ops c → IsTrue (under (insertions (line_up ops)) b.dot c.dot) ↔ IsUnder ops b c
under_by_slots ops W b c i j = one_relation ops W b c i j
