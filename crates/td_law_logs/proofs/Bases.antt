-- Where operations were made: the log of their base is their past.
use Rattle.std.proofs.Common.{◌≡◌, ◌↔◌, ◌⊎◌, ◌<◌, ◌≤◌, ◌-◌, ◌++◌, ℕ, zero, suc, List, [], ◌∷◌}
use Rattle.std.proofs.Common.{length, Bool, true, false, cond, Some, refl, sym, ap, ◌∙◌, subst, inl}
use Rattle.std.proofs.Common.{inr, ⊎_elim, true≢false, append_assoc, arith}
use Rattle.std.proofs.lemmas.Bool.{ltb-true, ltb-false, cases_Bool}
use Rattle.std.specs.Prelude.{IsTrue, nat_lt}
use Rattle.td_base.specs.Value.{DotValue}
use Rattle.td_base.specs.Lists.{In}
use Rattle.td_path.specs.declared.slot.Slot.{Slot}
use Rattle.td_op.specs.declared.body.Body.{Body}
use Rattle.td_op.specs.declared.body.Body.TheVariants.{Insert, Delete, Propose, Commit, Abort}
use Rattle.td_op.specs.Op.{OpValue}
use Rattle.td_op.specs.Past.{in_past}
use Rattle.td_base.specs.Equality.{same_dot}
use Rattle.td_machine.specs.Counts.{IsInTurn}
use Rattle.td_machine.specs.Log.{proposed, proposed_slot}
use Rattle.td_machine.specs.History.{Family, IsConsistent, IsOpOf, History, history_at, log_of, after}
use Rattle.td_machine.specs.Machine.{start}
use Rattle.td_base.proofs.Elements.{In-behind, cut_at, CutAt}
use Rattle.td_base.proofs.Equals.{same_dot_refl, same_dot_true}
use Rattle.td_base.proofs.Lists.{In-back}
use Rattle.td_machine.proofs.Family.{not_older, unique, not_own_past, past_of_past, made_at, older_in_past}
use Rattle.td_law_logs.proofs.Moments.{log_causal, past_in_older}
use Rattle.td_order.specs.Causal.{IsWellRooted}
use Rattle.td_law_logs.specs.Part.{IsPartOf}
use Rattle.td_law_logs.proofs.WellRooted.{dots_differ, part_rooted}
use Rattle.td_law_logs.specs.Logs.{IsLogOf, log_at, since, before, origin, base_from, base}
use Rattle.td_law_logs.proofs.Fitting.{IsDecisionIn, FitsBody, Fits, fits_back, fitting_of}

pub back_causal : (n : ℕ) (newer log : List OpValue) → IsInTurn n (newer ++ log) → IsInTurn n log
back_causal n [] log k = k
back_causal n (x ∷ newer) log k = back_causal n newer log k.1

in_head : (x : OpValue) (newer log : List OpValue) → In x (newer ++ x ∷ log)
in_head x [] log = inl refl
in_head x (y ∷ newer) log = inr (in_head x newer log)

-- the operation with a dot, in a log in which it stands
pub before_is : (n : ℕ) (newer : List OpValue) (x : OpValue) (older : List OpValue) → IsInTurn n (newer ++ x ∷ older)
    → (before x.dot (newer ++ x ∷ older) ≡ older) × (since x.dot (newer ++ x ∷ older) ≡ x ∷ older)
before_is n [] x older c = (
  ap (λ (b : Bool). cond b older (before x.dot older)) (same_dot_refl x.dot),
  ap (λ (b : Bool). cond b (x ∷ older) (since x.dot older)) (same_dot_refl x.dot),
)
before_is n (y ∷ newer) x older c =
    let r = before_is n newer x older c.1 in
    let e : same_dot y.dot x.dot ≡ false =
    ⊎_elim (λ (k : same_dot y.dot x.dot ≡ true). absurd
    (not_older n y x (newer ++ x ∷ older) c.0 c.1 (in_head x newer older) (same_dot_true y.dot x.dot k))) (λ k. k)
    (cases_Bool (same_dot y.dot x.dot)) in (
      ap (λ (b : Bool). cond b (newer ++ x ∷ older) (before x.dot (newer ++ x ∷ older))) e ∙ r.0,
      ap (λ (b : Bool). cond b (y ∷ newer ++ x ∷ older) (since x.dot (newer ++ x ∷ older))) e ∙ r.1,
    )

-- what is older than a dot is older than an operation that has it
pub record FoundAt (d : DotValue) (log : List OpValue) : Type 0 where
  pub op : OpValue
  pub dot : op.dot ≡ d
  pub newer : List OpValue
  pub is : log ≡ newer ++ op ∷ before d log

pub found_at : (d : DotValue) (log : List OpValue) (e : OpValue) → In e (before d log) → FoundAt d log
found_at d [] e i = absurd i
found_at d (x ∷ log) e i = at (same_dot x.dot d) refl i (λ j. found_at d log e j)
  where
    at : (b : Bool) → same_dot x.dot d ≡ b → In e (cond b log (before d log)) → (In e (before d log) → FoundAt d log)
        → FoundAt d (x ∷ log)
    at true k j ih =
        record {
          op = x;
          dot = same_dot_true x.dot d k;
          newer = [];
          is =
              ap (λ (b : Bool). x ∷ cond b log (before d log)) (sym k);
        }
    at false k j ih =
        let f = ih j in
        record {
          op = f.op;
          dot = f.dot;
          newer = x ∷ f.newer;
          is = (λ i. x ∷ f.is i)
              ∙ ap (λ (b : Bool). x ∷ f.newer ++ f.op ∷ cond b log (before d log)) (sym k);
        }

-- the slot of a proposal, where it stands in the log
pub slot_in : (n : ℕ) (log : List OpValue) (q : OpValue) → IsInTurn n log → In q log
    → proposed_slot q.dot log ≡ proposed q.body
slot_in n [] q c i = absurd i
slot_in n (x ∷ log) q c (inl e) =
    ap (λ (b : Bool). cond b (proposed x.body) (proposed_slot q.dot log))
    (subst (λ (z : OpValue). same_dot x.dot z.dot ≡ true) (sym e) (same_dot_refl x.dot))
    ∙ ap (λ (z : OpValue). proposed z.body) (sym e)
slot_in n (x ∷ log) q c (inr i) =
    let e : same_dot x.dot q.dot ≡ false =
    ⊎_elim (λ (k : same_dot x.dot q.dot ≡ true). absurd (not_older n x q log c.0 c.1 i (same_dot_true x.dot q.dot k)))
    (λ k. k) (cases_Bool (same_dot x.dot q.dot)) in
    ap (λ (b : Bool). cond b (proposed x.body) (proposed_slot q.dot log)) e ∙ slot_in n log q c.1 i

-- a slot that the log tells is that of a proposal in it
pub slot_from : (log : List OpValue) (d : DotValue) (slot : Slot) → proposed_slot d log ≡ Some slot
    → (q : OpValue) × In q log × (q.dot ≡ d) × (q.body ≡ Propose slot)
slot_from [] d slot e = absurd cc
slot_from (x ∷ log) d slot e = at (same_dot x.dot d) refl e (λ k. slot_from log d slot k)
  where
    asks : (b : Body) → proposed b ≡ Some slot → b ≡ Propose slot
    asks (Propose s) k = cc
    asks (Insert s run) k = absurd cc
    asks (Delete target) k = absurd cc
    asks (Commit p) k = absurd cc
    asks (Abort p) k = absurd cc

    at : (b : Bool) → same_dot x.dot d ≡ b → cond b (proposed x.body) (proposed_slot d log) ≡ Some slot
        → (proposed_slot d log ≡ Some slot → (q : OpValue) × In q log × (q.dot ≡ d) × (q.body ≡ Propose slot))
        → (q : OpValue) × In q (x ∷ log) × (q.dot ≡ d) × (q.body ≡ Propose slot)
    at true k h ih = (x, inl refl, same_dot_true x.dot d k, asks x.body h)
    at false k h ih = let r = ih h in (r.0, inr r.1, r.2, r.3)

pub history_past : (family : Family) (k : ℕ) → length family ≤ k → history_at family k ≡ []
history_past [] k h = refl
history_past (e ∷ family) zero h = absurd (omega (arith, h))
history_past (e ∷ family) (suc k) h = history_past family k (omega (arith, h))

module _ (family : Family) (c : IsConsistent family) where
  abbrev n : ℕ
  n = length family

  pub log_at_is : (site : ℕ) → 0 < site → log_at family site ≡ log_of family site
  log_at_is zero h = absurd (omega (arith, h))
  log_at_is (suc site) h = refl

  -- who stands in a log, stands in that of a site
  pub legal_at : (site : ℕ) (x : OpValue) → In x (log_at family site) → (0 < site) × (site ≤ n)
  legal_at zero x i = absurd i
  legal_at (suc site) x i = (omega arith, at (nat_lt site n) refl)
    where
      at : (b : Bool) → nat_lt site n ≡ b → suc site ≤ n
      at true e = let h : site < n = ltb-true site n e in omega (arith, h)
      at false e =
          let h : n ≤ site = ltb-false site n e in
          absurd (subst (λ (es : History). In x (after (start (suc site) n) es).log)
          (history_past family (suc site - 1) (omega (arith, h))) i)

  pub op_at : (site : ℕ) (x : OpValue) → In x (log_at family site) → IsOpOf family x
  op_at site x i = let l = legal_at site x i in
      record {
        site = site;
        some = l.0;
        within = l.1;
        inside =
            subst (λ (log : List OpValue). In x log) (log_at_is site l.0) i;
      }

  pub op_in : (log : List OpValue) → IsLogOf family log → (x : OpValue) → In x log → IsOpOf family x
  op_in log l x i =
      record {
        site = l.site;
        some = l.some;
        within = l.within;
        inside =
            subst (λ (z : List OpValue). In x z) (sym l.is) (In-back x l.newer log i);
      }

  pub tail : (x : OpValue) (log : List OpValue) → IsLogOf family (x ∷ log) → IsLogOf family log
  tail x log l =
      record {
        site = l.site;
        some = l.some;
        within = l.within;
        newer = l.newer ++ x ∷ [];
        is =
            l.is ∙ sym (append_assoc l.newer (x ∷ []) log);
      }

  pub causal : (log : List OpValue) → IsLogOf family log → IsInTurn n log
  causal log l =
      back_causal n l.newer log
      (subst (λ (z : List OpValue). IsInTurn n z) l.is (log_causal family c l.site l.some l.within))

  pub fits : (x : OpValue) (log : List OpValue) → IsLogOf family (x ∷ log) → FitsBody log x.dot.site x.body
  fits x log l =
      fits_back l.newer x log
      (subst (λ (z : List OpValue). Fits z) l.is (fitting_of family c l.site l.some l.within).fits)

  -- the past of an operation is older in each log
  pub past_older : (x : OpValue) (log : List OpValue) → IsLogOf family (x ∷ log) → (y : OpValue) → IsOpOf family y
      → IsTrue (in_past y x) → In y log
  past_older x log l y o past = past_in_older family c l.site l.some l.within l.newer x log l.is y o past

  pub past_in : (log : List OpValue) → IsLogOf family log → (x y : OpValue) → In x log → IsOpOf family y
      → IsTrue (in_past y x) → In y log
  past_in log l x y i o past =
      let s : CutAt x log = cut_at x log i in
      let part : IsLogOf family (x ∷ s.back) =
      record {
        site = l.site;
        some = l.some;
        within = l.within;
        newer = l.newer ++ s.front;
        is =
            l.is ∙ ap (λ (z : List OpValue). l.newer ++ z) s.is ∙ sym (append_assoc l.newer s.front (x ∷ s.back));
      } in
      subst (λ (z : List OpValue). In y z) (sym s.is)
      (In-behind y s.front x s.back (past_older x s.back part y o past))

  -- one dot, one operation
  pub one_op : (x y : OpValue) → IsOpOf family x → IsOpOf family y → x.dot ≡ y.dot → x ≡ y
  one_op x y o p e =
      let mx = made_at family c x o in
      let my = made_at family c y p in
      unique n x y (log_of family y.dot.site) (log_causal family c y.dot.site my.0 my.1)
      (subst (λ (d : DotValue). In x (log_of family d.site)) e mx.2) my.2 e

  -- where an operation was made
  pub record Home (x : OpValue) : Type 0 where
    pub some : 0 < x.dot.site
    pub within : x.dot.site ≤ n
    pub newer : List OpValue
    pub is : log_of family x.dot.site ≡ newer ++ x ∷ base_from family x.dot
    pub since_is : since x.dot (log_at family x.dot.site) ≡ x ∷ base_from family x.dot

  pub home : (x : OpValue) → IsOpOf family x → Home x
  home x o =
      let m = made_at family c x o in
      let s : CutAt x (log_of family x.dot.site) = cut_at x (log_of family x.dot.site) m.2 in
      let l : log_at family x.dot.site ≡ s.front ++ x ∷ s.back = log_at_is x.dot.site m.0 ∙ s.is in
      let k = before_is n s.front x s.back
      (subst (λ (z : List OpValue). IsInTurn n z) s.is (log_causal family c x.dot.site m.0 m.1)) in
      let b : base_from family x.dot ≡ s.back = ap (before x.dot) l ∙ k.0 in
      record {
        some = m.0;
        within = m.1;
        newer = s.front;
        is = s.is ∙ ap (λ (z : List OpValue). s.front ++ x ∷ z) (sym b);
        since_is = ap (since x.dot) l ∙ (k.1 ∙ ap (λ (z : List OpValue). x ∷ z) (sym b));
      }

  -- a log that ends with the operation, where it was made
  pub home_log : (x : OpValue) → IsOpOf family x → IsLogOf family (x ∷ base_from family x.dot)
  home_log x o = let h = home x o in
      record { site = x.dot.site; some = h.some; within = h.within; newer = h.newer; is = h.is }

  pub in_base : (x y : OpValue) → IsOpOf family x → IsOpOf family y → IsTrue (in_past y x)
      → In y (base_from family x.dot)
  in_base x y o p past = past_older x (base_from family x.dot) (home_log x o) y p past

  pub base_past : (x y : OpValue) → IsOpOf family x → In y (base_from family x.dot) → IsTrue (in_past y x)
  base_past x y o i = let h = home x o in older_in_past family c h.newer x (base_from family x.dot) h.is o y i

  pub home_fits : (x : OpValue) → IsOpOf family x → FitsBody (base_from family x.dot) x.dot.site x.body
  home_fits x o = fits x (base_from family x.dot) (home_log x o)

  -- the operation at whose making the base ends: of a commit its proposal, of others itself
  pub record Anchor (o : OpValue) : Type 0 where
    pub op : OpValue
    pub of : IsOpOf family op
    pub dot : op.dot ≡ origin o.dot o.body
    pub how : (op ≡ o) ⊎ IsTrue (in_past op o)

  -- a commit's proposal
  pub record Proposed (o : OpValue) (p : DotValue) : Type 0 where
    pub op : OpValue
    pub of : IsOpOf family op
    pub dot : op.dot ≡ p
    pub slot : Slot
    pub asks : op.body ≡ Propose slot
    pub past : IsTrue (in_past op o)
    pub site : p.site ≡ o.dot.site

  pub proposal_of : (o : OpValue) (p : DotValue) → IsOpOf family o → o.body ≡ Commit p → Proposed o p
  proposal_of o p k e =
      let f : IsDecisionIn (base_from family o.dot) o.dot.site p =
      subst (λ (b : Body). FitsBody (base_from family o.dot) o.dot.site b) e (home_fits o k) in
      let q = slot_from (base_from family o.dot) p f.slot f.is in
      record {
        op = q.0;
        of = op_in (base_from family o.dot) (tail o (base_from family o.dot) (home_log o k)) q.0 q.1;
        dot = q.2;
        slot = f.slot;
        asks = q.3;
        past = base_past o q.0 k q.1;
        site = f.own;
      }

  pub anchor : (o : OpValue) → IsOpOf family o → Anchor o
  anchor o k = at o.body refl
    where
      same : origin o.dot o.body ≡ o.dot → Anchor o
      same e = record { op = o; of = k; dot = sym e; how = inl refl }

      at : (b : Body) → o.body ≡ b → Anchor o
      at (Insert slot run) e = same (ap (origin o.dot) e)
      at (Delete target) e = same (ap (origin o.dot) e)
      at (Propose slot) e = same (ap (origin o.dot) e)
      at (Abort p) e = same (ap (origin o.dot) e)
      at (Commit p) e = let q = proposal_of o p k e in
          record { op = q.op; of = q.of; dot = q.dot ∙ sym (ap (origin o.dot) e); how = inr q.past }

  anchor_base : (o : OpValue) (a : Anchor o) → base_from family a.op.dot ≡ base family o
  anchor_base o a = ap (base_from family) a.dot

  pub base_log : (o : OpValue) → IsOpOf family o → IsLogOf family (base family o)
  base_log o k = let a = anchor o k in
      subst (λ (z : List OpValue). IsLogOf family z) (anchor_base o a)
      (tail a.op (base_from family a.op.dot) (home_log a.op a.of))

  pub past_of_base : (o e : OpValue) → IsOpOf family o → In e (base family o) → IsTrue (in_past e o)
  past_of_base o e k i =
      let a = anchor o k in
      let j : In e (base_from family a.op.dot) = subst (λ (z : List OpValue). In e z) (sym (anchor_base o a)) i in
      let p = base_past a.op e a.of j in
      let oe = op_in (base family o) (base_log o k) e i in
      ⊎_elim (λ (q : a.op ≡ o). subst (λ (z : OpValue). IsTrue (in_past e z)) q p)
      (λ (q : IsTrue (in_past a.op o)). past_of_past family c e a.op o oe a.of k p q) a.how

  -- an operation, whatever it is, in whose base something stands, has an anchor of the family
  pub base_anchor : (o e : OpValue) → In e (base family o)
      → (q : OpValue) × IsOpOf family q × (q.dot ≡ origin o.dot o.body)
  base_anchor o e i =
      let d = origin o.dot o.body in
      let f = found_at d (log_at family d.site) e i in
      (f.op, op_at d.site f.op (subst (λ (z : List OpValue). In f.op z) (sym f.is) (in_head f.op f.newer _)), f.dot)

  pub base_member : (o e : OpValue) → In o (base family e) → IsOpOf family o
  base_member o e i =
      let d = origin e.dot e.body in
      let f = found_at d (log_at family d.site) o i in
      op_at d.site o
      (subst (λ (z : List OpValue). In o z) (sym f.is)
      (In-behind o f.newer f.op (before d (log_at family d.site)) i))

  pub base_not : (o : OpValue) → In o (base family o) → ⊥
  base_not o i = let k = base_member o o i in not_own_past family c o k (past_of_base o o k i)

  pub base_one_way : (o e : OpValue) → In o (base family e) → In e (base family o) → ⊥
  base_one_way o e i j =
      let ko = base_member o e i in
      let ke = base_member e o j in
      not_own_past family c o ko
      (past_of_past family c o e o ko ke ko (past_of_base e o ke i) (past_of_base o e ko j))

  pub base_onward : (o e d : OpValue) → In o (base family e) → In e (base family d) → In o (base family d)
  base_onward o e d i j =
      let ko = base_member o e i in
      let ke = base_member e d j in
      let q = base_anchor d e j in
      let pe : IsTrue (in_past e q.0) =
      base_past q.0 e q.1 (subst (λ (z : DotValue). In e (base_from family z)) (sym q.2) j) in
      subst (λ (z : DotValue). In o (base_from family z)) q.2
      (in_base q.0 o q.1 ko (past_of_past family c o e q.0 ko ke q.1 (past_of_base e o ke i) pe))

  -- what is known of one operation in a log
  pub known : (e : OpValue) (log : List OpValue) → IsOpOf family e → IsLogOf family log → In e log ⊎ (In e log → ⊥)
  known e log o l = at log (λ x i. op_in log l x i)
    where
      at : (rest : List OpValue) → ((x : OpValue) → In x rest → IsOpOf family x) → In e rest ⊎ (In e rest → ⊥)
      at [] h = inr (λ i. i)
      at (x ∷ rest) h =
          ⊎_elim (λ (k : same_dot e.dot x.dot ≡ true). inl
          (inl (one_op e x o (h x (inl refl)) (same_dot_true e.dot x.dot k))))
          (λ (k : same_dot e.dot x.dot ≡ false).
          ⊎_elim (λ (i : In e rest). inl (inr i))
          (λ (m : In e rest → ⊥).
          inr (λ (i : (e ≡ x) ⊎ In e rest). ⊎_elim
          (λ (q : e ≡ x). true≢false
          (sym (subst (λ (z : OpValue). same_dot e.dot z.dot ≡ true) q (same_dot_refl e.dot)) ∙ k)) m i))
          (at rest (λ y j. h y (inr j))))
          (cases_Bool (same_dot e.dot x.dot))

  -- a log is a part of the family
  pub log_part : (log : List OpValue) → IsLogOf family log → IsPartOf family log
  log_part log l = record { apart = dots_differ n log (causal log l); inside = op_in log l; pasts = past_in log l }

  pub log_rooted : (log : List OpValue) → IsLogOf family log → IsWellRooted log
  log_rooted log l = part_rooted family c log (log_part log l)

  -- what was there where an operation was made is its past
  pub base_is_past : (o x : OpValue) → IsOpOf family o
      → In x (base_from family o.dot) ↔ (IsOpOf family x × IsTrue (in_past x o))
  base_is_past o x k = (
    (λ i. (op_in (base_from family o.dot) (tail o (base_from family o.dot) (home_log o k)) x i, base_past o x k i)),
    (λ p. in_base o x k p.0 p.1),
  )
