-- Where nobody is ready and everybody knows what was sent, all sites have the same operations and each proposal is
-- decided.
use Rattle.std.proofs.Common.{◌≡◌, ◌≢◌, ◌<◌, ◌≤◌, ◌-◌, ℕ, zero, suc, List, [], ◌∷◌, Bool, true, false, not}
use Rattle.std.proofs.Common.{◌||◌, if◌then◌else◌, nat_eq, nat_le, get_or, length, Option, Some, None, refl}
use Rattle.std.proofs.Common.{sym, ap, ◌∙◌, subst, inl, inr, true≢false, arith}
use Rattle.std.proofs.lemmas.Bool.{eqb-true, eqb-false, eq-eqb, leb-true, leb-false, le-leb, and_from}
use Rattle.std.proofs.Math.ListN.{get_or-eq_default}
use Rattle.std.specs.Prelude.{IsTrue}
use Rattle.std.specs.List.{list_any}
use Rattle.std.specs.Option.{is_some, is_none}
use Rattle.td_base.specs.Value.{DotValue}
use Rattle.td_base.specs.Equality.{same_dot}
use Rattle.td_base.proofs.Equals.{same_dot_true}
use Rattle.td_base.specs.Lists.{In}
use Rattle.td_base.proofs.Lists.{any_found}
use Rattle.td_base.proofs.Searches.{filter_none}
use Rattle.td_clock.specs.Vector.{vector_get, vector_has, vector_covers}
use Rattle.td_clock.proofs.VectorLemmas.{covers_from_dots, same_from_covers}
use Rattle.td_path.specs.declared.slot.Slot.{Slot}
use Rattle.td_op.specs.declared.body.Body.TheVariants.{Propose}
use Rattle.td_op.specs.declared.message.Message.{Message}
use Rattle.td_op.specs.declared.message.Message.TheVariants.{Op as AnOp, Vote as AVote}
use Rattle.td_op.specs.declared.vote.Vote.{Vote}
use Rattle.td_op.specs.Op.{OpValue}
use Rattle.td_op.specs.Past.{in_past, op_sum}
use Rattle.td_machine.specs.Counts.{counts, ops_of}
use Rattle.td_machine.specs.Decision.{Ballot, is_open}
use Rattle.td_machine.specs.Log.{proposed, proposed_slot}
use Rattle.td_machine.specs.Machine.{undecided}
use Rattle.td_machine.specs.Ready.{is_had, is_ready, waits, is_dot_of}
use Rattle.td_machine.specs.History.{Family, IsConsistent, IsOpOf, machine, log_of}
use Rattle.td_machine.proofs.Ballots.{find_ballot}
use Rattle.td_machine.proofs.Counting.{total, found, Found}
use Rattle.td_machine.proofs.Family.{made_at, unique, log_in_turn, sent_ops, size_of, past_is_smaller}
use Rattle.td_machine.proofs.Induction.{IsSent, the_end}
use Rattle.td_machine.proofs.Naming.{own_ballots}
use Rattle.td_machine.proofs.OwnProposals.{logged_had, open_proposed}
use Rattle.td_machine.specs.Parts.{IsOffered, IsBuilt}
use Rattle.td_machine.proofs.Reached.{of_sites}
use Rattle.td_machine.proofs.Turns.{counted, length_have}
use Rattle.td_machine.proofs.Walk.{offered}
use Rattle.td_op.specs.Message.{is_for}
use Rattle.td_replica.specs.Replica.{knows_message, has_ready}
use Rattle.td_world.proofs.Balloting.{balloting, few_yes, one_ballot, as_many}
use Rattle.td_world.proofs.Known.{repeat_op, repeat_vote, IsCountedAt}
use Rattle.td_world.proofs.Named.{built_end, reached_end, site_is, size_is, sending_end, past_there}
use Rattle.td_world.proofs.Nexts.{nothing_next, none_ready}
use Rattle.td_world.proofs.Sending.{proposal_of}

-- everybody knows what was sent to it
abbrev pub AllKnown : Family → Type 0
AllKnown family =
    (s t : ℕ) → 0 < s → s ≤ length family → 0 < t → t ≤ length family → (message : Message)
    → In message (machine family s).sent → is_for t message ≡ true → knows_message message (machine family t) ≡ true

abbrev pub NoneReady : Family → Type 0
NoneReady family = (t : ℕ) → 0 < t → t ≤ length family → has_ready (machine family t) ≡ false

-- site 0 is none, and its number is that of site 1
pub get_same : (v : List ℕ) (site : ℕ) → vector_get v (suc (site - 1)) ≡ vector_get v site
get_same v site = ap (λ (k : ℕ). get_or v k 0) (same site)
  where
    same : (k : ℕ) → suc (k - 1) - 1 ≡ k - 1
    same k = omega arith

proposal_found : (p : DotValue) (log : List OpValue) → is_some (proposed_slot p log) ≡ true
    → (q : OpValue) × (slot : Slot) × In q log × (q.dot ≡ p) × (q.body ≡ Propose slot)
proposal_found p [] h = absurd (true≢false (sym h))
proposal_found p (x ∷ log) h = at (same_dot x.dot p) refl h (λ k. proposal_found p log k)
  where
    slot_found : (o : Option Slot) → proposed x.body ≡ o → is_some o ≡ true → (slot : Slot) × (x.body ≡ Propose slot)
    slot_found None e k = absurd (true≢false (sym k))
    slot_found (Some slot) e k = (slot, proposal_of slot x.body e)

    at : (b : Bool) → same_dot x.dot p ≡ b → is_some (if b then proposed x.body else proposed_slot p log) ≡ true
        → (is_some (proposed_slot p log) ≡ true
        → (q : OpValue) × (slot : Slot) × In q log × (q.dot ≡ p) × (q.body ≡ Propose slot))
        → (q : OpValue) × (slot : Slot) × In q (x ∷ log) × (q.dot ≡ p) × (q.body ≡ Propose slot)
    at true e k ih =
        let s = slot_found (proposed x.body) refl k in (x, s.0, inl refl, same_dot_true x.dot p e, s.1)
    at false e k ih = let q = ih k in (q.0, q.1, inr q.2, q.3, q.4)

apart : (a b : ℕ) → (a ≡ b → ⊥) → (t : Bool) → nat_eq a b ≡ t → not (nat_eq a b) ≡ true
apart a b d true e = absurd (d (eqb-true a b e))
apart a b d false e = ap (λ (t : Bool). not t) e

module _ (family : Family) (c : IsConsistent family) where
  abbrev n : ℕ
  n = length family

  abbrev HasAt : ℕ → OpValue → Type 0
  HasAt t x = IsTrue (vector_has (machine family t).have x.dot)

  in_turn : (t : ℕ) (some : 0 < t) (within : t ≤ n) → (machine family t).have ≡ counts n (log_of family t)
  in_turn t some within =
      (counted (machine family t) (built_end family c t some within)).0
      ∙ ap (λ (k : ℕ). counts k (log_of family t)) (size_is family c t some within)

  long : (t : ℕ) → 0 < t → t ≤ n → length (machine family t).have ≡ n
  long t some within =
      length_have (machine family t) (built_end family c t some within) ∙ size_is family c t some within

  -- a number of a vector is that of an operation
  had_found : (t : ℕ) → 0 < t → t ≤ n → (u : ℕ) → 0 < u → 0 < vector_get (machine family t).have u
      → (y : OpValue) × In y (log_of family t) × (y.dot
      ≡ record { site = u; seq = vector_get (machine family t).have u })
  had_found t some within u up less = at (nat_le u n) refl
    where
      at : (b : Bool) → nat_le u n ≡ b
          → (y : OpValue) × In y (log_of family t)
          × (y.dot ≡ record { site = u; seq = vector_get (machine family t).have u })
      at true e =
          let turn = log_in_turn family c (the_end family t some within) in
          let all : vector_get (machine family t).have u ≡ length (ops_of u (log_of family t)) =
          ap (λ (v : List ℕ). vector_get v u) (in_turn t some within)
          ∙ total n u (log_of family t) up (leb-true u n e) turn in
          let f : Found (record { site = u; seq = vector_get (machine family t).have u }) (log_of family t) =
          found n u (vector_get (machine family t).have u) (log_of family t) less turn (omega (arith, all)) in
          (f.op, f.inside, f.is)
      at false e =
          let far : n < u = leb-false u n e in
          let size : length (machine family t).have ≡ n = long t some within in
          let none : vector_get (machine family t).have u ≡ 0 =
          get_or-eq_default (machine family t).have 0 (past (length (machine family t).have) u size far) in
          absurd (omega (arith, none, less))
        where
          past : (a s : ℕ) → a ≡ n → n < s → a ≤ s - 1
          past a s q l = omega arith

  -- an operation with a dot is the one of the family
  pub same_op : (x y : OpValue) → IsOpOf family x → IsOpOf family y → y.dot ≡ x.dot → y ≡ x
  same_op x y o q e =
      let hx = made_at family c x o in
      let hy = made_at family c y q in
      unique n y x (log_of family x.dot.site) (log_in_turn family c (the_end family x.dot.site hx.0 hx.1))
      (subst (λ (d : DotValue). In y (log_of family d.site)) e hy.2) hx.2 e

  pub op_in : (t : ℕ) → 0 < t → t ≤ n → (x : OpValue) → In x (log_of family t) → IsOpOf family x
  op_in t some within x i = record { site = t; some = some; within = within; inside = i }

  -- what waits is an operation of the family
  pub waits_op : (t : ℕ) → 0 < t → t ≤ n → (y : OpValue) → In y (machine family t).waiting → IsOpOf family y
  waits_op t some within y i =
      let o : IsOffered (IsSent family t) (machine family t).site (machine family t).size y =
      offered (machine family t) (built_end family c t some within) y i in
      let size : (machine family t).size ≡ n = size_is family c t some within in
      let own : y.dot.site ≤ length y.deps = o.valid.op.own in
      let sized : length y.deps ≡ (machine family t).size = o.sized in
      let up : 0 < y.dot.site = o.valid.dot.site.least in
      let low : y.dot.site ≤ n = omega (arith, size, own, sized) in
      op_in y.dot.site up low y
      (sent_ops (machine family y.dot.site) (built_end family c y.dot.site up low) y o.came.sent).0

  -- what an operation depends on is had, where each operation of its past is
  covered : (t : ℕ) → 0 < t → t ≤ n → (x : OpValue) → IsOpOf family x
      → ((y : OpValue) → IsOpOf family y → IsTrue (in_past y x) → HasAt t y)
      → IsTrue (vector_covers (machine family t).have x.deps)
  covered t some within x o ih =
      covers_from_dots (machine family t).have x.deps (omega (arith, same_long))
      (λ d has. at d (leb-true d.seq (vector_get x.deps d.site) has) (nat_eq (vector_get x.deps (suc (d.site - 1))) 0)
      refl)
    where
      same_long : length x.deps ≡ length (machine family t).have
      same_long = size_of family c x o ∙ sym (long t some within)

      at : (d : DotValue) → d.seq ≤ vector_get x.deps d.site → (b : Bool)
          → nat_eq (vector_get x.deps (suc (d.site - 1))) 0 ≡ b → IsTrue (vector_has (machine family t).have d)
      at d h true e =
          let none : vector_get x.deps (suc (d.site - 1)) ≡ 0 = eqb-true (vector_get x.deps (suc (d.site - 1))) 0 e in
          let same : vector_get x.deps (suc (d.site - 1)) ≡ vector_get x.deps d.site = get_same x.deps d.site in
          le-leb d.seq (vector_get (machine family t).have d.site) (omega (arith, none, same, h))
      at d h false e =
          let other = eqb-false (vector_get x.deps (suc (d.site - 1))) 0 e in
          let home = made_at family c x o in
          let y =
          past_there family c x.dot.site home.0 home.1 x home.2 (suc (d.site - 1)) (omega arith)
          (positive (vector_get x.deps (suc (d.site - 1))) other) in
          let had : vector_get x.deps (suc (d.site - 1)) ≤ vector_get (machine family t).have (suc (d.site - 1)) =
          leb-true (vector_get x.deps (suc (d.site - 1))) (vector_get (machine family t).have (suc (d.site - 1)))
          (subst (λ (z : DotValue). IsTrue (vector_has (machine family t).have z)) y.2 (ih y.0 y.1 y.3)) in
          let same : vector_get x.deps (suc (d.site - 1)) ≡ vector_get x.deps d.site = get_same x.deps d.site in
          let now : vector_get (machine family t).have (suc (d.site - 1)) ≡ vector_get (machine family t).have d.site =
          get_same (machine family t).have d.site in
          le-leb d.seq (vector_get (machine family t).have d.site) (omega (arith, h, had, same, now))
        where
          positive : (k : ℕ) → (k ≡ 0 → ⊥) → 0 < k
          positive k a = omega (arith, a)

-- a site where nothing is ready, which knows those operations that came early: the past of each of them is among them
module _ (family : Family) (c : IsConsistent family) (early : OpValue → Type 0)
    (closed : (x y : OpValue) → IsOpOf family x → early x → IsOpOf family y → IsTrue (in_past y x) → early y)
    (t : ℕ) (some : 0 < t) (within : t ≤ length family) (idle : has_ready (machine family t) ≡ false)
    (known : (x : OpValue) → IsOpOf family x → early x → is_for t (AnOp x) ≡ true
    → knows_message (AnOp x) (machine family t) ≡ true) where
  abbrev Had : OpValue → Type 0
  Had x = IsTrue (vector_has (machine family t).have x.dot)

  -- what waits and has all its past could be taken, and nothing can
  not_waiting : (x : OpValue) → In x (machine family t).waiting
      → IsTrue (vector_covers (machine family t).have x.deps) → Had x
  not_waiting x i covers =
      at (is_had (machine family t).have x) refl
      (none_ready (machine family t).have (machine family t).waiting (nothing_next (machine family t) idle) x i)
    where
      at : (b : Bool) → is_had (machine family t).have x ≡ b → is_ready (machine family t).have x ≡ false
          → is_had (machine family t).have x ≡ true
      at true e r = e
      at false e r =
          absurd (true≢false (sym (and_from (not (is_had (machine family t).have x))
          (vector_covers (machine family t).have x.deps) (ap (λ (b : Bool). not b) e) covers) ∙ r))

  -- the site has an early operation, where it has each one of its past
  one_more : (x : OpValue) → IsOpOf family x → early x
      → ((y : OpValue) → IsOpOf family y → IsTrue (in_past y x) → Had y)
      → Had x
  one_more x o soon ih = at (nat_eq x.dot.site t) refl
    where
      home : (0 < x.dot.site) × (x.dot.site ≤ length family) × In x (log_of family x.dot.site)
      home = made_at family c x o

      waited : waits x.dot (machine family t).waiting ≡ true → Had x
      waited w =
          let f = any_found (is_dot_of x.dot) (machine family t).waiting w in
          let same : f.0 ≡ x =
          same_op family c x f.0 o (waits_op family c t some within f.0 f.1) (same_dot_true f.0.dot x.dot f.2) in
          not_waiting x (subst (λ (z : OpValue). In z (machine family t).waiting) same f.1)
          (covered family c t some within x o ih)

      cases : (b : Bool) → is_had (machine family t).have x ≡ b
          → (is_had (machine family t).have x || waits x.dot (machine family t).waiting) ≡ true → Had x
      cases true e r = e
      cases false e r =
          waited (sym (ap (λ (b : Bool). b || waits x.dot (machine family t).waiting) e) ∙ r)

      at : (b : Bool) → nat_eq x.dot.site t ≡ b → Had x
      at true e =
          subst (λ (k : ℕ). IsTrue (vector_has (machine family k).have x.dot)) (eqb-true x.dot.site t e)
          (logged_had (machine family x.dot.site) (built_end family c x.dot.site home.0 home.1) x home.2)
      at false e =
          cases (is_had (machine family t).have x) refl
          (repeat_op x (machine family t) (known x o soon (ap (λ (b : Bool). not b) e)))

  had_below : (bound : ℕ) (x : OpValue) → IsOpOf family x → early x → op_sum x < bound → Had x
  had_below zero x o soon few = absurd (omega (arith, few))
  had_below (suc bound) x o soon few =
      one_more x o soon
      (λ y q past.
      let less : op_sum y < op_sum x = past_is_smaller family c y x q o past in
      had_below bound y q (closed x y o soon q past) (omega (arith, less, few)))

  -- the site has each early operation
  pub had_early : (x : OpValue) → IsOpOf family x → early x → Had x
  had_early x o soon = had_below (suc (op_sum x)) x o soon (omega arith)

module _ (family : Family) (c : IsConsistent family) (idle : NoneReady family) (known : AllKnown family) where
  -- each site has each operation
  pub had_by_all : (x : OpValue) → IsOpOf family x → (t : ℕ) → 0 < t → t ≤ length family
      → IsTrue (vector_has (machine family t).have x.dot)
  had_by_all x o t some within =
      had_early family c (λ y. Unit {0}) (λ y z q soon p past. tt) t some within (idle t some within)
      (λ y q soon to.
      let home = made_at family c y q in
      known y.dot.site t home.0 home.1 some within (AnOp y)
      ((sending_end family c y.dot.site home.0 home.1).made y home.2
      (sym (site_is family c y.dot.site home.0 home.1))) to)
      x o tt

  pub log_of_all : (x : OpValue) → IsOpOf family x → (t : ℕ) → 0 < t → t ≤ length family → In x (log_of family t)
  log_of_all x o t some within =
      let home = made_at family c x o in
      let had : x.dot.seq ≤ vector_get (machine family t).have x.dot.site =
      leb-true x.dot.seq (vector_get (machine family t).have x.dot.site) (had_by_all x o t some within) in
      let turn = log_in_turn family c (the_end family t some within) in
      let all : vector_get (machine family t).have x.dot.site ≡ length (ops_of x.dot.site (log_of family t)) =
      ap (λ (v : List ℕ). vector_get v x.dot.site) (in_turn family c t some within)
      ∙ total (length family) x.dot.site (log_of family t) home.0 home.1 turn in
      let f : Found (record { site = x.dot.site; seq = x.dot.seq }) (log_of family t) =
      found (length family) x.dot.site x.dot.seq (log_of family t) (positive x home.2 home.0 home.1) turn
      (omega (arith, had, all)) in
      subst (λ (z : OpValue). In z (log_of family t))
      (same_op family c x f.op o (op_in family c t some within f.op f.inside) f.is) f.inside
    where
      positive : (y : OpValue) → In y (log_of family y.dot.site) → 0 < y.dot.site → y.dot.site ≤ length family
          → 0 < y.dot.seq
      positive y i up low = (of_sites_of y i up low)
        where
          of_sites_of : (z : OpValue) → In z (log_of family z.dot.site) → 0 < z.dot.site → z.dot.site ≤ length family
              → 0 < z.dot.seq
          of_sites_of z j a b = (of_sites (machine family z.dot.site) (reached_end family c z.dot.site a b) z j).2

  pub same_vectors : (r s : ℕ) → 0 < r → r ≤ length family → 0 < s → s ≤ length family → (machine family r).have
      ≡ (machine family s).have
  same_vectors r s a b d e =
      same_from_covers (machine family r).have (machine family s).have (covers r s a b d e) (covers s r d e a b)
    where
      covers : (t u : ℕ) → 0 < t → t ≤ length family → 0 < u → u ≤ length family
          → IsTrue (vector_covers (machine family t).have (machine family u).have)
      covers t u some within up low =
          covers_from_dots (machine family t).have (machine family u).have (omega (arith, same_long))
          (λ d has.
          at d (leb-true d.seq (vector_get (machine family u).have d.site) has)
          (nat_eq (vector_get (machine family u).have (suc (d.site - 1))) 0) refl)
        where
          same_long : length (machine family u).have ≡ length (machine family t).have
          same_long = long family c u up low ∙ sym (long family c t some within)

          at : (d : DotValue) → d.seq ≤ vector_get (machine family u).have d.site → (z : Bool)
              → nat_eq (vector_get (machine family u).have (suc (d.site - 1))) 0 ≡ z
              → IsTrue (vector_has (machine family t).have d)
          at d h true z =
              let none : vector_get (machine family u).have (suc (d.site - 1)) ≡ 0 =
              eqb-true (vector_get (machine family u).have (suc (d.site - 1))) 0 z in
              let same : vector_get (machine family u).have (suc (d.site - 1))
              ≡ vector_get (machine family u).have d.site =
              get_same (machine family u).have d.site in
              le-leb d.seq (vector_get (machine family t).have d.site) (omega (arith, none, same, h))
          at d h false z =
              let other = eqb-false (vector_get (machine family u).have (suc (d.site - 1))) 0 z in
              let y =
              had_found family c u up low (suc (d.site - 1)) (omega arith)
              (positive (vector_get (machine family u).have (suc (d.site - 1))) other) in
              let had : vector_get (machine family u).have (suc (d.site - 1))
              ≤ vector_get (machine family t).have (suc (d.site - 1)) =
              leb-true (vector_get (machine family u).have (suc (d.site - 1)))
              (vector_get (machine family t).have (suc (d.site - 1)))
              (subst (λ (q : DotValue). IsTrue (vector_has (machine family t).have q)) y.2
              (had_by_all y.0 (op_in family c u up low y.0 y.1) t some within)) in
              let same : vector_get (machine family u).have (suc (d.site - 1))
              ≡ vector_get (machine family u).have d.site =
              get_same (machine family u).have d.site in
              let now : vector_get (machine family t).have (suc (d.site - 1))
              ≡ vector_get (machine family t).have d.site =
              get_same (machine family t).have d.site in
              le-leb d.seq (vector_get (machine family t).have d.site) (omega (arith, h, had, same, now))
            where
              positive : (k : ℕ) → (k ≡ 0 → ⊥) → 0 < k
              positive k p = omega (arith, p)

  -- ---- votes

  -- each site's Yes is counted on an open ballot
  all_yes : (s : ℕ) (some : 0 < s) (within : s ≤ length family) (b : Ballot) → In b (machine family s).ballots
      → is_open b ≡ true
      → (t : ℕ) → 0 < t → t ≤ length family → In t b.yes
  all_yes s some within b i opened t up low = at (nat_eq t s) refl
    where
      built : IsBuilt (IsSent family s) s (length family) (machine family s)
      built = built_end family c s some within

      own : b.proposal.site ≡ s
      own = own_ballots (machine family s) built b i ∙ site_is family c s some within

      q : (q : OpValue) × (slot : Slot) × In q (log_of family s) × (q.dot ≡ b.proposal) × (q.body ≡ Propose slot)
      q = proposal_found b.proposal (log_of family s) (open_proposed (machine family s) built b i opened)

      counted_yes : (v : Vote) → v.proposal ≡ b.proposal → v.voter ≡ t → IsCountedAt v (machine family s) → In t b.yes
      counted_yes v e voter k =
          let f = find_ballot v.proposal (machine family s).ballots k.ballot k.found in
          let same : k.ballot ≡ b =
          one_ballot (machine family s).ballots (balloting (machine family s) built).apart k.ballot b f.0 i (f.1 ∙ e) in
          cases b.decision opened
          (ap (λ (z : Ballot). is_some z.decision || list_any (λ (site : ℕ). nat_eq v.voter site) z.yes) (sym same)
          ∙ k.counted)
        where
          cases : (o : Option Bool) → is_none o ≡ true
              → (is_some o || list_any (λ (site : ℕ). nat_eq v.voter site) b.yes) ≡ true → In t b.yes
          cases (Some d) a r = absurd (true≢false (sym a))
          cases None a r =
              let g = any_found (λ (site : ℕ). nat_eq v.voter site) b.yes r in
              subst (λ (z : ℕ). In z b.yes) (sym (eqb-true v.voter g.0 g.2) ∙ voter) g.1

      voted : (t ≡ s → ⊥) → In t b.yes
      voted other =
          let from : q.0.dot.site ≡ s = ap (λ (d : DotValue). d.site) q.3 ∙ own in
          let here : In q.0 (log_of family t) = log_of_all q.0 (op_in family c s some within q.0 q.2) t up low in
          let there : q.0.dot.site ≢ (machine family t).site =
          λ (e : q.0.dot.site ≡ (machine family t).site). other (sym (site_is family c t up low) ∙ sym e ∙ from) in
          let v = (sending_end family c t up low).voted q.0 q.1 here there q.4 in
          let voter : v.0.voter ≡ t = v.3 ∙ site_is family c t up low in
          let on : v.0.proposal.site ≡ s = ap (λ (d : DotValue). d.site) v.2 ∙ from in
          let to : is_for s (AVote v.0) ≡ true =
          and_from (not (nat_eq v.0.voter s)) (nat_eq v.0.proposal.site s)
          (apart v.0.voter s (λ (e : v.0.voter ≡ s). other (sym voter ∙ e)) (nat_eq v.0.voter s) refl)
          (eq-eqb v.0.proposal.site s on) in
          counted_yes v.0 (v.2 ∙ q.3) voter
          (repeat_vote v.0 (machine family s) (known t s up low some within (AVote v.0) v.1 to))

      at : (z : Bool) → nat_eq t s ≡ z → In t b.yes
      at true e =
          subst (λ (k : ℕ). In k b.yes) (site_is family c s some within ∙ sym (eqb-true t s e))
          ((balloting (machine family s) built).own b i)
      at false e = voted (eqb-false t s e)

  pub none_open : (s : ℕ) → 0 < s → s ≤ length family → (b : Ballot) → In b (machine family s).ballots → is_open b
      ≡ false
  none_open s some within b i = at (is_open b) refl
    where
      at : (z : Bool) → is_open b ≡ z → is_open b ≡ false
      at false e = e
      at true e =
          let many : length family ≤ length b.yes = as_many (length family) b.yes
          (λ t up low. all_yes s some within b i e t up low) in
          let few : length b.yes < (machine family s).size =
          few_yes (machine family s) (reached_end family c s some within) b i e in
          let size : (machine family s).size ≡ length family = size_is family c s some within in
          absurd (omega (arith, many, few, size))

  pub all_decided : (s : ℕ) → 0 < s → s ≤ length family → undecided (machine family s) ≡ 0
  all_decided s some within =
      ap (λ (l : List Ballot). length l)
      (filter_none is_open (machine family s).ballots (λ b i. none_open s some within b i))
