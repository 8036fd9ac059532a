-- Each proposal has one decision; every site voted on the proposal of a commit, and holds it until it has the commit.
use Rattle.std.proofs.Common.{◌≡◌, ◌≢◌, ◌⊎◌, ◌<◌, ◌≤◌, ◌++◌, ℕ, List, [], ◌∷◌, length, Bool, true, false, cond}
use Rattle.std.proofs.Common.{nat_eq, Option, Some, None, refl, sym, ap, ◌∙◌, subst, inl, inr, ⊎_elim, true≢false}
use Rattle.std.proofs.lemmas.Bool.{eqb-true, eq-eqb}
use Rattle.std.specs.Prelude.{IsTrue}
use Rattle.std.specs.Option.{option_or}
use Rattle.td_base.specs.Value.{DotValue}
use Rattle.td_base.specs.Lists.{In}
use Rattle.td_base.proofs.Lists.{In-front, any_found}
use Rattle.td_path.specs.declared.slot.Slot.{Slot}
use Rattle.td_op.specs.declared.body.Body.{Body}
use Rattle.td_op.specs.declared.body.Body.TheVariants.{Insert, Delete, Propose, Commit, Abort}
use Rattle.td_op.specs.declared.message.Message.{Message}
use Rattle.td_op.specs.declared.message.Message.TheVariants.{Vote as AVote}
use Rattle.td_op.specs.declared.vote.Vote.{Vote}
use Rattle.td_op.specs.Op.{OpValue}
use Rattle.td_op.specs.Past.{in_past}
use Rattle.td_doc.specs.Document.{DocRow}
use Rattle.td_doc.specs.Slots.{overlaps}
use Rattle.td_base.specs.Equality.{same_dot}
use Rattle.td_machine.specs.Hold.{Hold, is_of, is_held}
use Rattle.td_machine.specs.Log.{decides, decision, proposed_slot}
use Rattle.td_machine.specs.Machine.{Machine, start}
use Rattle.td_machine.specs.Step.{step}
use Rattle.td_doc.specs.Answers.{is_rooted}
use Rattle.td_machine.specs.History.{History, Family, IsConsistent, machine_at, IsOpOf, after}
use Rattle.td_machine.specs.History.{history, machine, machine_after, log_of}
use Rattle.td_base.proofs.Equals.{same_dot_refl, same_dot_true}
use Rattle.td_machine.proofs.Family.{made_at}
use Rattle.td_law_logs.proofs.Moments.{past_in_log, log_after, moment_log}
use Rattle.td_machine.proofs.Holding.{apart_pair}
use Rattle.td_machine.proofs.Growing.{step_sends}
use Rattle.td_machine.proofs.Induction.{after_both}
use Rattle.td_machine.specs.Replay.{doc_of}
use Rattle.td_law_logs.specs.Logs.{IsLogOf, base_from, IsCommit}
use Rattle.td_law_commitment.specs.Voted.{IsHeld}
use Rattle.td_law_commitment.specs.Promises.{OneDecision, DecisionsAgree}
use Rattle.td_law_commitment.proofs.Ballots.{Open}
use Rattle.td_law_logs.proofs.Fitting.{IsDecisionIn, FitsBody}
use Rattle.td_law_logs.proofs.Bases.{op_in, one_op, home_fits, proposal_of}
use Rattle.td_law_logs.proofs.Steps.{slot_known}
use Rattle.td_law_commitment.proofs.Traces.{Yes, Polled, Came, Trace, traced_at, traced_end}
use Rattle.std.proofs.lemmas.Option.{same_Some}

-- ---- what was sent stays sent

abbrev Keeps : List Message → Machine → Type 0
Keeps sent m = (message : Message) → In message sent → In message m.sent

after_keeps : (sent : List Message) (m : Machine) (entries : History) → Keeps sent m → Keeps sent (after m entries)
after_keeps sent m [] h = h
after_keeps sent m (e ∷ entries) h =
    let s = step_sends m e.input in
    after_keeps sent (step m e.input).machine entries
    (λ message i. subst (λ (l : List Message). In message l) (sym s.1) (In-front message m.sent s.0 (h message i)))

module _ (family : Family) (c : IsConsistent family) where
  abbrev n : ℕ
  n = length family

  sent_later : (site : ℕ) → 0 < site → site ≤ n → (front back : History) → history family site ≡ front ++ back
      → Keeps (machine_after family site front).sent (machine family site)
  sent_later site some within front back e =
      let s : Machine = start site n in
      subst (λ (m : Machine). Keeps (after s front).sent m)
      (sym (ap (λ (es : History). after s es) e ∙ after_both s front back))
      (after_keeps (after s front).sent (after s front) back (λ message i. i))

  -- ---- one decision

  decider : (x : OpValue) (p : DotValue) (d : Bool) → IsOpOf family x → decides p x.body ≡ Some d
      → p.site ≡ x.dot.site
  decider x p d k e = from x.body refl e
    where
      by_dot : (t : Bool) (q : DotValue) (r : Bool) → same_dot q p ≡ t → cond t (Some r) None ≡ Some d → q ≡ p
      by_dot true q r g h = same_dot_true q p g
      by_dot false q r g h = absurd cc

      own : (b : Body) → x.body ≡ b → FitsBody (base_from family x.dot) x.dot.site b
      own b f = subst (λ (z : Body). FitsBody (base_from family x.dot) x.dot.site z) f (home_fits family c x k)

      from : (b : Body) → x.body ≡ b → decides p b ≡ Some d → p.site ≡ x.dot.site
      from (Commit q) f h = let o : IsDecisionIn (base_from family x.dot) x.dot.site q = own (Commit q) f in
          ap (λ (z : DotValue). z.site) (sym (by_dot (same_dot q p) q true refl h)) ∙ o.own
      from (Abort q) f h = let o : IsDecisionIn (base_from family x.dot) x.dot.site q = own (Abort q) f in
          ap (λ (z : DotValue). z.site) (sym (by_dot (same_dot q p) q false refl h)) ∙ o.own
      from (Insert slot run) f h = absurd cc
      from (Delete target) f h = absurd cc
      from (Propose slot) f h = absurd cc

  pub one_decision : OneDecision family
  one_decision p x y a b kx ky dx dy =
      let m = made_at family c x kx in
      let w = made_at family c y ky in
      let same : y.dot.site ≡ x.dot.site = sym (decider y p b ky dy) ∙ decider x p a kx dx in
      let t = traced_end family c x.dot.site m.0 m.1 in
      t.good.core.once x y p a b m.2 (subst (λ (s : ℕ). In y (log_of family s)) same w.2) refl same dx dy

  -- at each moment a site knows that decision of the proposal, or none
  told : (p : DotValue) (x : OpValue) (a : Bool) → IsOpOf family x → decides p x.body ≡ Some a → (log : List OpValue)
      → ((y : OpValue) → In y log → IsOpOf family y) → (decision p log ≡ None) ⊎ (decision p log ≡ Some a)
  told p x a kx dx [] up = inl refl
  told p x a kx dx (y ∷ log) up = from (decides p y.body) refl (told p x a kx dx log (λ z i. up z (inr i)))
    where
      from : (o : Option Bool) → decides p y.body ≡ o → (decision p log ≡ None) ⊎ (decision p log ≡ Some a)
          → (option_or o (decision p log) ≡ None) ⊎ (option_or o (decision p log) ≡ Some a)
      from None e h = h
      from (Some b) e h =
          let same : x ≡ y = one_decision p x y a b kx (up y (inl refl)) dx e in
          inr (sym e ∙ (ap (λ (z : OpValue). decides p z.body) (sym same) ∙ dx))

  pub decisions_agree : DecisionsAgree family
  decisions_agree p x a kx dx t =
      told p x a kx dx (machine_at family t).log (op_in family c (machine_at family t).log (moment_log family c t))

  pub decides_own : (p : DotValue) → decides p (Commit p) ≡ Some true
  decides_own p = ap (λ (t : Bool). cond t (Some true) None) (same_dot_refl p)

  -- ---- every site said Yes

  commit_past : (d q : OpValue) (slot : Slot) → IsCommit family d q slot
      → IsTrue (in_past q d) × (q.dot.site ≡ d.dot.site)
  commit_past d q slot k =
      let p = proposal_of family c d q.dot k.inside k.is in
      let same : p.op ≡ q = one_op family c p.op q p.of k.proposed p.dot in
      (subst (λ (z : OpValue). IsTrue (in_past z d)) same p.past, p.site)

  pub said_yes : (d q : OpValue) (slot : Slot) → IsCommit family d q slot → (site : ℕ) → 0 < site → site ≤ n
      → (site ≡ d.dot.site) ⊎ Yes family c site q.dot
  said_yes d q slot k site some within =
      let m = made_at family c d k.inside in
      (traced_end family c d.dot.site m.0 m.1).good.core.commits d q.dot m.2 refl k.is site some within

  pub everywhere : (d q : OpValue) (slot : Slot) → IsCommit family d q slot → (site : ℕ) → 0 < site → site ≤ n
      → In q (log_of family site)
  everywhere d q slot k site some within =
      ⊎_elim
      (λ (e : site ≡ d.dot.site).
      let m = made_at family c d k.inside in
      subst (λ (s : ℕ). In q (log_of family s)) (sym e)
      (past_in_log family c d.dot.site m.0 m.1 d q m.2 k.proposed (commit_past d q slot k).0))
      (λ (y : Yes family c site q.dot).
      let t = traced_end family c site some within in
      let p = t.good.voting.votes y.0 y.1 in
      let same : p.0 ≡ q =
      one_op family c p.0 q (record { site = site; some = some; within = within; inside = p.2 }) k.proposed
      (p.3 ∙ y.2) in
      subst (λ (z : OpValue). In z (log_of family site)) same p.2)
      (said_yes d q slot k site some within)

  -- ---- a hold lasts until the commit comes

  module _ (site : ℕ) (some : 0 < site) (within : site ≤ n) where
    pub held_there : (d q : OpValue) (slot : Slot) → IsCommit family d q slot → (m : Machine) → Polled family c site m
        → Keeps m.sent (machine family site) → ((x : OpValue) → In x m.log → IsOpOf family x) → In q m.log
        → (In d m.log → ⊥) → is_held q.dot m.holds ≡ true
    held_there d q slot k m s up ops i out = held (own (nat_eq q.dot.site site) refl)
      where
        held : Open n site (Yes family c) m.log m.holds q.dot → is_held q.dot m.holds ≡ true
        held (inl h) = h
        held (inr (y, r, j, e)) =
            let same : d ≡ y =
            one_decision q.dot d y true r k.inside (ops y j) (ap (decides q.dot) k.is ∙ decides_own q.dot) e in
            absurd (out (subst (λ (z : OpValue). In z m.log) (sym same) j))

        own : (t : Bool) → nat_eq q.dot.site site ≡ t → Open n site (Yes family c) m.log m.holds q.dot
        own true e = s.core.open_own q slot i (eqb-true q.dot.site site e) k.asks
        own false e = yes (said_yes d q slot k site some within)
          where
            other : q.dot.site ≢ site
            other g = true≢false (sym (eq-eqb q.dot.site site g) ∙ e)

            yes : (site ≡ d.dot.site) ⊎ Yes family c site q.dot → Open n site (Yes family c) m.log m.holds q.dot
            yes (inl g) = absurd (other ((commit_past d q slot k).1 ∙ sym g))
            yes (inr y) =
                let u = s.answered q slot i other k.asks in
                let t = traced_end family c site some within in
                let same : u.0 ≡ y.0 = t.good.core.one_vote u.0 y.0 (up (AVote u.0) u.1) y.1 (u.2 ∙ sym y.2) in
                subst (λ (p : DotValue). Open n site (Yes family c) m.log m.holds p) u.2
                (s.core.open_yes u.0 u.1 (ap (λ (z : Vote). z.yes) same ∙ y.3))

  pub kept : (d q : OpValue) (slot : Slot) → IsCommit family d q slot → (site : ℕ) → 0 < site → site ≤ n
      → (front back : History) → history family site ≡ front ++ back
      → In q (machine_after family site front).log → (In d (machine_after family site front).log → ⊥)
      → is_held q.dot (machine_after family site front).holds ≡ true
  kept d q slot k site some within front back e i out =
      held_there site some within d q slot k (machine_after family site front)
      (traced_at family c site some within front back e).good (sent_later site some within front back e)
      (op_in family c (machine_after family site front).log (log_after family c site some within front back e)) i out

  -- ---- the machine right after each operation of a log

  pub came_at : (site : ℕ) (sent : List Message) (newer : List OpValue) (x : OpValue) (rest : List OpValue)
      → Trace family c site sent (newer ++ x ∷ rest) → Came family c site sent x rest
  came_at site sent [] x rest t = t.0
  came_at site sent (y ∷ newer) x rest t = came_at site sent newer x rest t.1

  pub came : (x : OpValue) (rest : List OpValue) → (l : IsLogOf family (x ∷ rest))
      → Came family c l.site (machine family l.site).sent x rest
  came x rest l = came_at l.site (machine family l.site).sent l.newer x rest
      (subst (λ (log : List OpValue). Trace family c l.site (machine family l.site).sent log) l.is
      (traced_end family c l.site l.some l.within).trace)

  -- the machine of a log that is not empty
  pub record At (log : List OpValue) (l : IsLogOf family log) : Type 0 where
    pub m : Machine
    pub log_is : m.log ≡ log
    pub good : Polled family c l.site m
    pub sent : Keeps m.sent (machine family l.site)

  at_log : (log : List OpValue) → (l : IsLogOf family log) → (q : OpValue) → In q log → At log l
  at_log [] l q i = absurd i
  at_log (x ∷ rest) l q i = let k = came x rest l in
      record { m = k.to; log_is = k.to_log; good = k.to_good; sent = k.to_sent }

  -- the hold of a commit that has not come
  pub record HoldAt (q : OpValue) (slot : Slot) (m : Machine) : Type 0 where
    pub hold : Hold
    pub inside : In hold m.holds
    pub of : hold.proposal ≡ q.dot
    pub slot_is : hold.slot ≡ slot

  pub hold_at : (d q : OpValue) (slot : Slot) (log : List OpValue) → (k : IsHeld family d q slot log)
      → (a : At log k.of) → HoldAt q slot a.m
  hold_at d q slot log k a =
      let i : In q a.m.log = subst (λ (z : List OpValue). In q z) (sym a.log_is) k.proposed in
      let h = held_there k.of.site k.of.some k.of.within d q slot k.commit a.m a.good a.sent
      (λ x j. op_in family c log k.of x (subst (λ (z : List OpValue). In x z) a.log_is j)) i
      (λ j. k.open_yet (subst (λ (z : List OpValue). In d z) a.log_is j)) in
      let f = any_found (is_of q.dot) a.m.holds h in
      let same : f.0.proposal ≡ q.dot = same_dot_true f.0.proposal q.dot f.2 in
      let told : proposed_slot q.dot a.m.log ≡ Some f.0.slot =
      subst (λ (z : DotValue). proposed_slot z a.m.log ≡ Some f.0.slot) same (a.good.fit.holding.known f.0 f.1) in
      let asked : proposed_slot q.dot a.m.log ≡ Some slot =
      subst (λ (z : List OpValue). proposed_slot q.dot z ≡ Some slot) (sym a.log_is)
      (slot_known family c q slot k.commit.proposed k.commit.asks log k.of k.proposed) in
      record { hold = f.0; inside = f.1; of = same; slot_is = same_Some f.0.slot slot (sym told ∙ asked) }

  doc_at : (log : List OpValue) → (l : IsLogOf family log) → (a : At log l) → a.m.doc ≡ doc_of log
  doc_at log l a = a.good.fit.logged ∙ ap doc_of a.log_is

  pub rooted : (d q : OpValue) (slot : Slot) (log : List OpValue) → IsHeld family d q slot log
      → is_rooted (doc_of log) slot ≡ true
  rooted d q slot log k =
      let a = at_log log k.of q k.proposed in
      let h = hold_at d q slot log k a in
      subst (λ (rows : List DocRow). is_rooted rows slot ≡ true) (doc_at log k.of a)
      (subst (λ (s : Slot). is_rooted a.m.doc s ≡ true) h.slot_is (a.good.fit.holding.rooted h.hold h.inside))

  pub apart : (d q e p : OpValue) (s t : Slot) (log : List OpValue) → IsHeld family d q s log
      → IsHeld family e p t log → (q ≡ p → ⊥) → overlaps (doc_of log) s t ≡ false
  apart d q e p s t log k j differ =
      let a = at_log log k.of q k.proposed in
      let h = hold_at d q s log k a in
      let g = hold_at e p t log
      (record { of = k.of; commit = j.commit; proposed = j.proposed; open_yet = j.open_yet }) a in
      let other : h.hold ≢ g.hold =
      λ f. differ
      (one_op family c q p k.commit.proposed j.commit.proposed
      (sym h.of ∙ (ap (λ (z : Hold). z.proposal) f ∙ g.of))) in
      let free : overlaps a.m.doc h.hold.slot g.hold.slot ≡ false =
      apart_pair a.m.doc h.hold g.hold a.m.holds a.good.fit.holding.apart h.inside g.inside other in
      subst (λ (rows : List DocRow). overlaps rows s t ≡ false) (doc_at log k.of a)
      ((λ i. overlaps a.m.doc (sym h.slot_is i) (sym g.slot_is i)) ∙ free)
