-- A request makes nobody ready: what waits at a site of a world names no operation of that site that it has still to
-- make.
use Rattle.std.proofs.Common.{◌≡◌, ◌≢◌, ◌<◌, ◌≤◌, ◌-◌, ℕ, suc, List, Bool, true, false, not, nat_eq, nat_le, length}
use Rattle.std.proofs.Common.{Option, Some, None, refl, sym, ap, ◌∙◌, subst, true≢false, arith}
use Rattle.std.proofs.lemmas.Bool.{eqb-true, eqb-false, leb-true, le-leb, and_parts, and_from}
use Rattle.std.specs.Prelude.{IsTrue}
use Rattle.td_base.specs.Value.{DotValue}
use Rattle.td_base.specs.Lists.{In}
use Rattle.td_clock.specs.Vector.{vector_get, vector_has, vector_covers}
use Rattle.td_clock.proofs.VectorLemmas.{covered_dots, covers_from_dots}
use Rattle.td_op.specs.declared.body.Body.{Body}
use Rattle.td_op.specs.declared.body.Body.TheVariants.{Insert, Delete, Propose, Commit, Abort}
use Rattle.td_op.specs.declared.input.Input.TheVariants.{Local}
use Rattle.td_op.specs.declared.message.Message.TheVariants.{Op as AnOp}
use Rattle.td_op.specs.declared.request.Request.{Request}
use Rattle.td_op.specs.Op.{OpValue}
use Rattle.td_machine.specs.Decision.{outcome, new_ballot}
use Rattle.td_machine.specs.Machine.{Machine, made, undecided, next_dot}
use Rattle.td_machine.specs.Making.{make, decide}
use Rattle.td_machine.specs.Ready.{is_had, is_ready}
use Rattle.td_machine.specs.Request.{Aim, Refuse, Do, GiveUp, aim, aim_step, attempt_step}
use Rattle.td_machine.specs.Request.{is_past_limit, perform, request_step}
use Rattle.td_machine.specs.Step.{step}
use Rattle.td_machine.specs.Taking.{Stepped, stepped}
use Rattle.td_op.specs.declared.reply.Reply.TheVariants.{Made, Limit}
use Rattle.td_base.proofs.Elements.{either}
use Rattle.td_machine.specs.History.{Family, machine}
use Rattle.td_machine.proofs.Induction.{IsSent}
use Rattle.td_machine.specs.Parts.{IsOffered, proposed_here}
use Rattle.td_machine.proofs.Turns.{length_have}
use Rattle.td_machine.proofs.Vectors.{bump_other}
use Rattle.td_machine.proofs.Walk.{offered}
use Rattle.td_replica.specs.Replica.{ReplicaValue, has_ready}
use Rattle.td_world.specs.World.{WorldValue, Move, IsWorld, size, machine_of, family_of, moved}
use Rattle.td_world.specs.Promises.{NobodyReady}
use Rattle.td_world.proofs.Moves.{size_family, size_moved, moved_here, moved_there}
use Rattle.td_world.proofs.Named.{built_end, site_is, size_is, own_named}
use Rattle.td_world.proofs.Settled.{get_same}
use Rattle.td_world.proofs.Nexts.{nothing_next, none_ready, ready_none, idle_from, still_nobody}

-- nothing but the own number of the vector is changed
record IsOwnChange (m n : Machine) : Type 0 where
  pub site : n.site ≡ m.site
  pub waiting : n.waiting ≡ m.waiting
  pub others : (k : ℕ) → 0 < k → k ≢ m.site → vector_get n.have k ≡ vector_get m.have k

no_change : (m : Machine) → IsOwnChange m m
no_change m = record { site = refl; waiting = refl; others = λ k up other. refl }

made_change : (body : Body) (m n : Machine) → 0 < n.site → IsOwnChange m n → IsOwnChange m (make body n)
made_change body m n some c =
    record {
      site = c.site;
      waiting = c.waiting;
      others = λ k up other.
          bump_other n.have n.site k some up (λ (e : n.site ≡ k). other (sym e ∙ c.site)) ∙ c.others k up other;
    }

decide_change : (p : DotValue) (o : Option Bool) (m n : Machine) → 0 < n.site → IsOwnChange m n
    → IsOwnChange m (decide p o n)
decide_change p None m n some c = c
decide_change p (Some true) m n some c = made_change (Commit p) m n some c
decide_change p (Some false) m n some c = made_change (Abort p) m n some c

perform_change : (body : Body) (m : Machine) → 0 < m.site → IsOwnChange m (perform body m)
perform_change (Insert slot run) m some = made_change (Insert slot run) m m some (no_change m)
perform_change (Delete x) m some = made_change (Delete x) m m some (no_change m)
perform_change (Commit p) m some = made_change (Commit p) m m some (no_change m)
perform_change (Abort p) m some = made_change (Abort p) m m some (no_change m)
perform_change (Propose slot) m some =
    let c = made_change (Propose slot) m m some (no_change m) in
    decide_change (next_dot m) (outcome m.size true (new_ballot (next_dot m))) m (proposed_here slot m) some
    (record { site = c.site; waiting = c.waiting; others = c.others })

request_change : (request : Request) (m : Machine) → 0 < m.site → IsOwnChange m (request_step request m).machine
request_change request m some = at (aim request m)
  where
    at : (a : Aim) → IsOwnChange m (aim_step a m).machine
    at (Refuse reply) = no_change m
    at (GiveUp p) = decide_change p (Some false) m m some (no_change m)
    at (Do a) = cases a.held
      where
        cases : (held : Option DotValue) → IsOwnChange m (attempt_step held a m).machine
        cases (Some by_) = no_change m
        cases None =
            either (λ (s : Stepped). IsOwnChange m s.machine) (is_past_limit a.room m)
            (stepped (Limit (made m) (undecided m)) m) (stepped (Made (next_dot m)) (perform a.body m))
            (λ e. no_change m) (λ e. perform_change a.body m some)

-- what is ready then was ready before, if it waits for no own operation
still_late : (m n : Machine) → IsOwnChange m n → (x : OpValue) → 0 < x.dot.site → x.dot.site ≢ m.site
    → vector_get x.deps m.site ≤ vector_get m.have m.site → length x.deps ≤ length m.have → 0 < m.site
    → is_ready m.have x ≡ false → is_ready n.have x ≡ false
still_late m n c x up foreign own long some late = at (is_ready n.have x) refl
  where
    had : is_had n.have x ≡ is_had m.have x
    had = ap (λ (k : ℕ). nat_le x.dot.seq k) (c.others x.dot.site up foreign)

    covers : IsTrue (vector_covers n.have x.deps) → IsTrue (vector_covers m.have x.deps)
    covers h =
        covers_from_dots m.have x.deps long
        (λ d has. cases d (leb-true d.seq (vector_get x.deps d.site) has) (nat_eq (suc (d.site - 1)) m.site) refl)
      where
        cases : (d : DotValue) → d.seq ≤ vector_get x.deps d.site → (b : Bool) → nat_eq (suc (d.site - 1)) m.site ≡ b
            → IsTrue (vector_has m.have d)
        cases d less true e =
            let same : suc (d.site - 1) ≡ m.site = eqb-true (suc (d.site - 1)) m.site e in
            let first : vector_get x.deps (suc (d.site - 1)) ≡ vector_get x.deps d.site = get_same x.deps d.site in
            let second : vector_get m.have (suc (d.site - 1)) ≡ vector_get m.have d.site = get_same m.have d.site in
            let known : vector_get x.deps (suc (d.site - 1)) ≤ vector_get m.have (suc (d.site - 1)) =
            subst (λ (k : ℕ). vector_get x.deps k ≤ vector_get m.have k) (sym same) own in
            le-leb d.seq (vector_get m.have d.site) (omega (arith, less, first, second, known))
        cases d less false e =
            let other = eqb-false (suc (d.site - 1)) m.site e in
            let had_d : d.seq ≤ vector_get n.have d.site =
            leb-true d.seq (vector_get n.have d.site)
            (covered_dots n.have x.deps h d (le-leb d.seq (vector_get x.deps d.site) less)) in
            let first : vector_get n.have (suc (d.site - 1)) ≡ vector_get n.have d.site = get_same n.have d.site in
            let second : vector_get m.have (suc (d.site - 1)) ≡ vector_get m.have d.site = get_same m.have d.site in
            let same : vector_get n.have (suc (d.site - 1)) ≡ vector_get m.have (suc (d.site - 1)) =
            c.others (suc (d.site - 1)) (omega arith) other in
            le-leb d.seq (vector_get m.have d.site) (omega (arith, had_d, first, second, same))

    at : (b : Bool) → is_ready n.have x ≡ b → is_ready n.have x ≡ false
    at false e = e
    at true e =
        let p = and_parts (not (is_had n.have x)) (vector_covers n.have x.deps) e in
        absurd (true≢false (sym (and_from (not (is_had m.have x)) (vector_covers m.have x.deps)
        (sym (ap (λ (b : Bool). not b) had) ∙ p.0) (covers p.1)) ∙ late))

module _ (w : WorldValue) (i : IsWorld w) (nobody : NobodyReady w) (site : ℕ) (some : 0 < site) (within : site ≤ size w)
    (request : Request) where
  abbrev move : Move
  move = record { site = site; input = Local request }

  abbrev m : Machine
  m = machine_of w site

  abbrev f : Family
  f = family_of w

  low : site ≤ length (family_of w)
  low = let e : length (family_of w) ≡ size w = size_family w in omega (arith, e, within)

  same : machine_of w site ≡ machine (family_of w) site
  same = i.machines site some within

  at_site : (machine_of w site).site ≡ site
  at_site = ap (λ (n : Machine). n.site) same ∙ site_is (family_of w) i.consistent site some low

  late : (x : OpValue) → In x (machine_of w site).waiting
      → is_ready (step (machine_of w site) (Local request)).machine.have x ≡ false
  late x j =
      let o : IsOffered (IsSent (family_of w) site) (machine (family_of w) site).site
      (machine (family_of w) site).size x =
      offered (machine (family_of w) site) (built_end (family_of w) i.consistent site some low) x
      (subst (λ (n : Machine). In x n.waiting) same j) in
      let named : vector_get x.deps site ≤ made (machine (family_of w) site) =
      own_named (family_of w) i.consistent x.dot.site o.valid.dot.site.least (sender_low x o) site some low (AnOp x)
      o.came.sent tt in
      let known : vector_get x.deps (machine_of w site).site ≤ vector_get (machine_of w site).have
      (machine_of w site).site =
      subst (λ (k : ℕ). vector_get x.deps k ≤ vector_get (machine_of w site).have (machine_of w site).site)
      (sym at_site)
      (subst (λ (n : Machine). vector_get x.deps site ≤ made n) (sym same) named) in
      let sized : length x.deps ≡ length (machine_of w site).have =
      o.sized ∙ sym (ap (λ (n : Machine). length n.have) same
      ∙ length_have (machine (family_of w) site) (built_end (family_of w) i.consistent site some low)) in
      still_late (machine_of w site) (step (machine_of w site) (Local request)).machine
      (request_change request (machine_of w site) (subst (λ (k : ℕ). 0 < k) (sym at_site) some)) x
      o.valid.dot.site.least
      (λ (e : x.dot.site ≡ (machine_of w site).site). o.other (e ∙ ap (λ (n : Machine). n.site) same))
      known (omega (arith, sized)) (subst (λ (k : ℕ). 0 < k) (sym at_site) some)
      (none_ready (machine_of w site).have (machine_of w site).waiting
      (nothing_next (machine_of w site) (nobody site some within)) x j)
    where
      sender_low : (y : OpValue)
          → IsOffered (IsSent (family_of w) site) (machine (family_of w) site).site (machine (family_of w) site).size y
          → y.dot.site ≤ length (family_of w)
      sender_low y o =
          let own : y.dot.site ≤ length y.deps = o.valid.op.own in
          let sized : length y.deps ≡ (machine (family_of w) site).size = o.sized in
          let size : (machine (family_of w) site).size ≡ length (family_of w) =
          size_is (family_of w) i.consistent site some low in
          omega (arith, own, sized, size)

  pub asked_nobody : NobodyReady (moved (record { site = site; input = Local request }) w)
  asked_nobody =
      still_nobody w (moved move w) site some (size_moved w move) (moved_there w move some)
      (subst (λ (r : ReplicaValue). has_ready r.machine ≡ false) (sym (moved_here w move some within))
      (idle_from (step (machine_of w site) (Local request)).machine
      (ready_none (step (machine_of w site) (Local request)).machine.have
      (step (machine_of w site) (Local request)).machine.waiting
      (λ x j.
      late x
      (subst (λ (l : List OpValue). In x l)
      (request_change request (machine_of w site) (subst (λ (k : ℕ). 0 < k) (sym at_site) some)).waiting j)))))
      nobody
