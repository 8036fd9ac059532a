-- A part of the operations of a family has the order of the whole.
use Rattle.std.proofs.Common.{◌≡◌, ◌≢◌, ◌<◌, ℕ, List, [], ◌∷◌, true, sum, Option, Some, None, refl}
use Rattle.std.proofs.Common.{sym, ◌∙◌, subst, inl, inr, ⊎_elim, true≢false, arith}
use Rattle.std.specs.List.{cons_option}
use Rattle.td_path.specs.declared.slot.Slot.{Slot}
use Rattle.td_path.specs.declared.slot.Slot.TheVariants.{Root, At}
use Rattle.td_clock.specs.Vector.{vector_has}
use Rattle.td_op.specs.Op.{OpValue}
use Rattle.td_op.specs.Past.{in_past}
use Rattle.std.specs.Prelude.{IsTrue}
use Rattle.std.proofs.lemmas.Bool.{cases_Bool}
use Rattle.td_base.specs.Lists.{In, Successive, IsSublist}
use Rattle.td_base.proofs.Lists.{all_in, all_of}
use Rattle.td_op.proofs.PastLemmas.{not_in_own_past, past_along, past_sum as sums_grow}
use Rattle.td_op.specs.declared.insertion.Insertion.{Insertion}
use Rattle.td_order.specs.Insertions.{IsInsertionOf}
use Rattle.td_op.specs.Insertion.{insertion_of, insertions}
use Rattle.td_order.specs.LineUp.{comes_before, line_up, DotsDiffer}
use Rattle.td_order.specs.Place.{precedes, has_some}
use Rattle.td_order.specs.Order.{order}
use Rattle.td_order.specs.Causal.{HasEpochs, IsCausal, IsPart, IsRootedIn, IsWellRooted}
use Rattle.td_order.proofs.Family.{IsRooted, AllFollow, HasPasts}
use Rattle.td_op.proofs.InsertionLemmas.{from_op, In-insertions, insertions-In}
use Rattle.td_order.proofs.LineUpLemmas.{NotBefore, smaller_sum, falls, In-line_up, line_up-In, apart_line_up, OtherDot}
use Rattle.td_order.proofs.Ranks.{placed_part}

-- operations that have the past of each of them, as far as one list is asked for
pub record IsClosed (ops : List OpValue) : Type 0 where
  pub apart : DotsDiffer ops
  pub rooted : (o : OpValue) (a : Insertion) → In o ops → insertion_of o ≡ Some a → IsRootedIn ops a a.slot
  pub full : (o : OpValue) (a : Insertion) → In o ops → insertion_of o ≡ Some a → has_some a.run ≡ true
  pub rising : (o p : OpValue) → In o ops → In p ops → vector_has p.deps o.dot ≡ true → sum o.deps < sum p.deps

module _ (ops : List OpValue) (P : IsClosed ops) where
  sum_before : (o p : OpValue) → sum o.deps < sum p.deps → comes_before o p ≡ true
  sum_before o p h = smaller_sum o p h

  past_sum : (o p : OpValue) (c a : Insertion) → In o ops → In p ops → insertion_of o ≡ Some c → insertion_of p
      ≡ Some a → precedes c a ≡ true → sum o.deps < sum p.deps
  past_sum o p c a i j e g h =
      let u = from_op o c e in
      let v = from_op p a g in
      P.rising o p i j (subst (λ x. vector_has x o.dot ≡ true) v.deps (subst (λ x. vector_has a.deps x ≡ true) u.dot h))

  -- what comes before one of these in line-up is one of these
  abbrev HasEarlier : List OpValue → Type 0
  HasEarlier os = (c o : OpValue) → In c ops → In o os → comes_before c o ≡ true → In c os

  earlier_tail : (o : OpValue) (os : List OpValue) → Successive NotBefore (o ∷ os) → HasEarlier (o ∷ os) → HasEarlier os
  earlier_tail o os r h c q i j e = ⊎_elim (λ (k : c ≡ o). absurd
      (true≢false (sym (subst (λ x. comes_before x q ≡ true) k e) ∙ all_in (NotBefore o) os r.0 q j))) (λ k. k)
      (h c q i (inr j) e)

  rooted_tail : (o : OpValue) (os : List OpValue) (a : Insertion) → In o ops → insertion_of o ≡ Some a
      → HasEarlier (o ∷ os) → (s : Slot) → IsRootedIn ops a s → IsRooted (insertions os) s
  rooted_tail o os a i e h Root r = tt
  rooted_tail o os a i e h (At x t) r =
      let put = r.0.inside in
      let lt = past_sum put.op o r.0.insertion a put.inside i put.is e r.1 in
      let k = h put.op o put.inside (inl refl) (sum_before put.op o lt) in (
        r.0.insertion,
        ⊎_elim (λ (q : put.op ≡ o). absurd (not_less (sum o.deps)
            (subst (λ (y : OpValue). sum y.deps < sum o.deps) q lt)))
            (λ q. insertions-In os put.op r.0.insertion q put.is) k,
        r.0.among,
      )
    where
      not_less : (n : ℕ) → n < n → ⊥
      not_less n h = omega arith

  causal_at : (o : OpValue) (os : List OpValue) (m : Option Insertion) → insertion_of o ≡ m → In o ops
      → ((q : OpValue) → In q os → In q ops) → Successive NotBefore (o ∷ os) → DotsDiffer (o ∷ os)
      → HasEarlier (o ∷ os) → AllFollow (insertions os) → AllFollow (cons_option m (insertions os))
  causal_at o os None e i w r n h rest = rest
  causal_at o os (Some a) e i w r n h rest = (
    record {
      rooted = rooted_tail o os a i e h a.slot (P.rooted o a i e);
      fresh = λ c k d. let q = In-insertions os c k in
          all_in (OtherDot o) os n.0 q.0 q.1 (sym (from_op o a e).dot ∙ (sym d ∙ (from_op q.0 c q.2).dot));
      later = λ c k. let q = In-insertions os c k in
          ⊎_elim (λ t. absurd (true≢false (sym (sum_before o q.0 (past_sum o q.0 a c i (w q.0 q.1) e q.2 t))
          ∙ all_in (NotBefore o) os r.0 q.0 q.1))) (λ t. t) (cases_Bool (precedes a c));
      full = P.full o a i e;
    },
    rest,
  )

  causal : (os : List OpValue) → ((q : OpValue) → In q os → In q ops) → Successive NotBefore os → DotsDiffer os
      → HasEarlier os → AllFollow (insertions os)
  causal [] w r n h = tt
  causal (o ∷ os) w r n h =
      causal_at o os (insertion_of o) refl (w o (inl refl)) (λ q i. w q (inr i)) r n h
      (causal os (λ q i. w q (inr i)) r.1 n.1 (earlier_tail o os r h))

  pub line_up_causal : AllFollow (insertions (line_up ops))
  line_up_causal = causal (line_up ops) (λ q i. In-line_up ops q i) (falls ops) (apart_line_up ops P.apart)
      (λ c o i j e. line_up-In ops c i)

some_of_full : {X : Type 0} (xs : List X) → xs ≢ [] → has_some xs ≡ true
some_of_full [] h = absurd (h refl)
some_of_full (x ∷ xs) h = refl

module _ (all : List OpValue) (F : IsWellRooted all) where
  rises : (o p : OpValue) → In o all → In p all → vector_has p.deps o.dot ≡ true → sum o.deps < sum p.deps
  rises o p i j h = sums_grow o p (F.causal.valid o i) (F.causal.one_size o p i j) (F.causal.knows o p i j h) h

  pub whole_is_closed : IsClosed all
  whole_is_closed = record {
    apart = F.apart;
    rooted = λ o a i e. F.rooted a (record { op = o; inside = i; is = e });
    full = λ o a i e. some_of_full a.run (F.full a (record { op = o; inside = i; is = e }));
    rising = rises;
  }

  -- between operations in place of their insertions
  pub past_of : (o p : OpValue) (c a : Insertion) → insertion_of o ≡ Some c → insertion_of p ≡ Some a → precedes c a
      ≡ true → vector_has p.deps o.dot ≡ true
  past_of o p c a e g h =
      subst (λ x. vector_has x o.dot ≡ true) (from_op p a g).deps
      (subst (λ x. vector_has a.deps x ≡ true) (from_op o c e).dot h)

  pub past_to : (o p : OpValue) (c a : Insertion) → insertion_of o ≡ Some c → insertion_of p ≡ Some a
      → vector_has p.deps o.dot ≡ true → precedes c a ≡ true
  past_to o p c a e g h =
      subst (λ x. vector_has x c.dot ≡ true) (sym (from_op p a g).deps)
      (subst (λ x. vector_has p.deps x ≡ true) (sym (from_op o c e).dot) h)

  rooted_part : (part : List OpValue) → IsPart part all → (o : OpValue) (a : Insertion) → In o part → insertion_of o
      ≡ Some a → (s : Slot) → IsRootedIn all a s → IsRootedIn part a s
  rooted_part part P o a i e Root r = tt
  rooted_part part P o a i e (At x b) r =
      let put = r.0.inside in
      let here : IsInsertionOf part r.0.insertion = record {
        op = put.op;
        inside = P.closed o put.op i put.inside (past_of put.op o r.0.insertion a put.is e r.1);
        is = put.is;
      } in
      (record { insertion = r.0.insertion; inside = here; among = r.0.among }, r.1)

  pub part_is_closed : (part : List OpValue) → IsPart part all → IsClosed part
  part_is_closed part P = record {
    apart = P.apart;
    rooted = λ o a i e. rooted_part part P o a i e a.slot
        (F.rooted a (record { op = o; inside = P.within o i; is = e }));
    full = λ o a i e. some_of_full a.run (F.full a (record { op = o; inside = P.within o i; is = e }));
    rising = λ o p i j h. rises o p (P.within o i) (P.within p j) h;
  }

  In-line : (c : Insertion) → In c (insertions (line_up all)) → (o : OpValue) × In o all × (insertion_of o ≡ Some c)
  In-line c i = let r = In-insertions (line_up all) c i in (r.0, In-line_up all r.0 r.1, r.2)

  not_own : (c : Insertion) → In c (insertions (line_up all)) → precedes c c ≡ true → ⊥
  not_own c i h = let o = In-line c i in not_in_own_past o.0 (F.causal.valid o.0 o.1) (past_of o.0 o.0 c c o.2 o.2 h)

  in_all : (c : Insertion) → In c (insertions (line_up all)) → IsInsertionOf all c
  in_all c i = let o = In-line c i in record { op = o.0; inside = o.1; is = o.2 }

  pub pasts : HasEpochs all → HasPasts (insertions (line_up all))
  pasts E = record {
    onward = λ c d e i j k h g.
        let o = In-line c i in
        let p = In-line d j in
        let q = In-line e k in
        past_to o.0 q.0 c e o.2 q.2
        (past_along o.0 p.0 q.0 (past_of o.0 p.0 c d o.2 p.2 h)
        (F.causal.knows p.0 q.0 p.1 q.1 (past_of p.0 q.0 d e p.2 q.2 g)));
    apart = λ c i. ⊎_elim (λ t. absurd (not_own c i t)) (λ f. f) (cases_Bool (precedes c c));
    epochs = λ c d e i j k s t h. E c d e (in_all c i) (in_all d j) (in_all e k) s t h;
  }

  pub part_in_order : (part : List OpValue) → HasEpochs all → IsPart part all → IsSublist (order part) (order all)
  part_in_order part E P =
      placed_part (insertions (line_up all)) (insertions (line_up part)) (line_up_causal all whole_is_closed)
      (pasts E) (line_up_causal part (part_is_closed part P))
      (λ c i. let r = In-insertions (line_up part) c i in
      insertions-In (line_up all) r.0 c (line_up-In all r.0 (P.within r.0 (In-line_up part r.0 r.1))) r.2)

pub a_part_in_order : (all part : List OpValue) → IsWellRooted all → HasEpochs all → IsPart part all
    → IsSublist (order part) (order all)
a_part_in_order all part F E P = part_in_order all F part E P

after_past : (ops line : List OpValue) → IsCausal ops → ((o : OpValue) → In o line → In o ops)
    → Successive NotBefore line → Successive (λ (x y : OpValue). ¬ IsTrue (in_past x y)) line
after_past ops [] C w r = tt
after_past ops (x ∷ line) C w r = (
  all_of (λ (y : OpValue). ¬ IsTrue (in_past x y)) line (λ y i past.
      let rises = sums_grow x y (C.valid x (w x (inl refl))) (C.one_size x y (w x (inl refl)) (w y (inr i)))
      (C.knows x y (w x (inl refl)) (w y (inr i)) past) past in
      true≢false (sym (smaller_sum x y rises) ∙ all_in (NotBefore x) line r.0 y i)),
  after_past ops line C (λ o i. w o (inr i)) r.1,
)

-- no operation is in the past of one that stands before it in line-up
pub past_before : (ops : List OpValue) → IsCausal ops
    → Successive (λ (x y : OpValue). ¬ IsTrue (in_past x y)) (line_up ops)
past_before ops C = after_past ops (line_up ops) C (λ o i. In-line_up ops o i) (falls ops)
