-- In a consistent family no Take answers Unfit, and no Next answers Dropped.
use Rattle.std.proofs.Common.{◌≡◌, ◌≢◌, ◌<◌, ◌≤◌, ◌+◌, ◌++◌, ◌||◌, ◌&&◌, ℕ, List, [], ◌∷◌, length, filter, Bool}
use Rattle.std.proofs.Common.{true, false, cond, not, nat_eq, nat_lt, Option, Some, None, refl, sym, ap, ◌∙◌}
use Rattle.std.proofs.Common.{subst, inl, inr, ⊎_elim, true≢false, if◌then◌else◌, arith}
use Rattle.std.proofs.lemmas.Bool.{leb-true, leb-false, le-leb, and_parts, not-true}
use Rattle.std.proofs.lemmas.Bool.{eqb-true, eq-eqb, ltb-true, or_from}
use Rattle.std.specs.Prelude.{IsTrue}
use Rattle.std.specs.List.{find}
use Rattle.std.specs.Option.{is_some, is_none, option_or}
use Rattle.td_base.specs.Value.{DotValue, AtomIdValue}
use Rattle.td_base.specs.Lists.{In}
use Rattle.td_base.proofs.Lists.{In-filter}
use Rattle.td_clock.specs.Vector.{vector_get, vector_has, vector_covers}
use Rattle.td_clock.proofs.VectorLemmas.{covered_dots}
use Rattle.td_path.specs.declared.slot.Slot.{Slot}
use Rattle.td_path.specs.declared.slot.Slot.TheVariants.{Root, At as AtSlot}
use Rattle.td_op.specs.declared.body.Body.{Body}
use Rattle.td_op.specs.declared.body.Body.TheVariants.{Insert as InsertIn, Delete as DeleteOf}
use Rattle.td_op.specs.declared.body.Body.TheVariants.{Propose as ProposeOf, Commit, Abort}
use Rattle.td_op.specs.declared.entry.Entry.{Entry}
use Rattle.td_op.specs.declared.input.Input.{Input}
use Rattle.td_op.specs.declared.input.Input.TheVariants.{Local, Take, Next}
use Rattle.td_op.specs.declared.message.Message.{Message}
use Rattle.td_op.specs.declared.message.Message.TheVariants.{Op as AnOp, Vote as AVote}
use Rattle.td_op.specs.declared.request.Request.{Request}
use Rattle.td_op.specs.declared.request.Request.TheVariants.{Insert, InsertAfter, Paste, PasteAfter, Delete}
use Rattle.td_op.specs.declared.request.Request.TheVariants.{DeleteAtom, Propose, ProposeAt, Cancel}
use Rattle.td_op.specs.declared.reply.Reply.{Reply}
use Rattle.td_op.specs.declared.reply.Reply.TheVariants.{Made, Cancelled, Held, Position, Gone, Limit, NotOpen, New}
use Rattle.td_op.specs.declared.reply.Reply.TheVariants.{Later, Repeat, Unfit, Taken, Dropped, Idle}
use Rattle.td_op.specs.declared.reply.Why.{Why}
use Rattle.td_op.specs.declared.reply.Why.TheVariants.{Size, Own, Atom, Proposal, Vote as NoHold, Address}
use Rattle.td_op.specs.declared.vote.Vote.{Vote}
use Rattle.td_op.specs.Op.{OpValue, named_atom}
use Rattle.td_op.specs.Past.{in_past}
use Rattle.td_op.specs.Input.{IsInput}
use Rattle.td_op.specs.Message.{IsOpValue}
use Rattle.td_doc.specs.Document.{DocRow, find_row, live_id_at}
use Rattle.td_machine.specs.Ready.{is_had, is_ready, next_ready, waits}
use Rattle.td_base.specs.Equality.{same_dot}
use Rattle.td_machine.specs.Counts.{counts, ops_of, IsNext, IsInTurn}
use Rattle.td_machine.specs.Decision.{Ballot, is_on, is_open, is_counted}
use Rattle.td_machine.specs.Hold.{is_held}
use Rattle.td_machine.specs.Log.{proposed_slot, decides, decision, is_undecided_of}
use Rattle.td_machine.specs.Machine.{Machine, start, made, undecided, next_dot}
use Rattle.td_machine.specs.Request.{Aim, Refuse, Do, GiveUp, Attempt, aim, aim_step, attempt_step}
use Rattle.td_machine.specs.Request.{is_past_limit, perform, insert_aim_at, insert_aim_after, live_aim}
use Rattle.td_machine.specs.Request.{delete_aim, propose_aim, propose_aim_of, cancel_aim, len}
use Rattle.td_doc.specs.Answers.{is_live_id, is_rooted}
use Rattle.td_machine.specs.Taking.{Stepped, stepped, body_misfit, misfit, fit_step, op_step, keep_waiting}
use Rattle.td_machine.specs.Taking.{ballot_step, vote_step, count, waited, next_of, forget}
use Rattle.td_machine.specs.Step.{step}
use Rattle.td_machine.specs.History.{History, Family, IsConsistent, IsLegalFrom, IsOpOf, MayCome}
use Rattle.td_machine.specs.History.{after, history, machine, machine_after}
use Rattle.td_base.proofs.Elements.{either}
use Rattle.td_base.proofs.Equals.{same_dot_refl}
use Rattle.td_machine.proofs.StepKinds.{least_in}
use Rattle.td_machine.specs.Parts.{IsOffered, IsBuilt}
use Rattle.td_machine.proofs.Walk.{offered}
use Rattle.td_machine.proofs.Turns.{length_have}
use Rattle.td_machine.proofs.Induction.{IsSent, sent_of, the_end, built_at}
use Rattle.td_machine.proofs.Counting.{Found, found, past_found, total}
use Rattle.td_machine.proofs.Family.{sent_ops, counted_had, made_at, size_of, valid_of}
use Rattle.td_law_logs.proofs.Moments.{legal_entry, moment_of, log_after}
use Rattle.td_law_logs.proofs.Fitting.{IsFitting, fitting_at, IsDecisionIn, FitsBody}
use Rattle.td_machine.specs.Replay.{doc_of}
use Rattle.td_law_logs.specs.Logs.{IsLogOf, base_from}
use Rattle.td_law_logs.specs.Places.{is_edit}
use Rattle.td_law_commitment.specs.Voted.{IsVoted}
use Rattle.td_law_commitment.specs.Promises.{OneDecision}
use Rattle.td_law_agreement.specs.Unfit.{NothingUnfit}
use Rattle.td_law_logs.proofs.Rows.{standing}
use Rattle.td_law_logs.proofs.Bases.{op_in, one_op, home_fits, home_log, tail, base_past, slot_from}
use Rattle.td_law_logs.proofs.Steps.{slot_known}
use Rattle.td_law_agreement.proofs.FamilyRecord.{CanCome}
use Rattle.td_law_agreement.proofs.Meeting.{edit_meets}
use Rattle.td_law_commitment.proofs.VotesSent.{IsVoting, voting_at, voting_of, HasProposal, HasBallot}
use Rattle.td_law_commitment.proofs.Traces.{sender_legal}

abbrev pub IsFine : Reply → Type 0
IsFine (Made dot) = Unit {0}
IsFine Cancelled = Unit {0}
IsFine (Held by) = Unit {0}
IsFine (Position len) = Unit {0}
IsFine (Gone x) = Unit {0}
IsFine (Limit made undecided) = Unit {0}
IsFine (NotOpen p) = Unit {0}
IsFine New = Unit {0}
IsFine Later = Unit {0}
IsFine Repeat = Unit {0}
IsFine (Unfit why) = ⊥
IsFine (Taken dot) = Unit {0}
IsFine (Dropped dot why) = ⊥
IsFine Idle = Unit {0}

abbrev FineStep : Stepped → Type 0
FineStep s = IsFine s.reply

-- ---- requests

abbrev FineAim : Aim → Type 0
FineAim (Refuse reply) = IsFine reply
FineAim (Do a) = Unit {0}
FineAim (GiveUp p) = Unit {0}

one_of : (b : Bool) (x y : Aim) → FineAim x → FineAim y → FineAim (if b then x else y)
one_of true x y f g = f
one_of false x y f g = g

fine_insert_at : (run : List (List ℕ)) (index : ℕ) (m : Machine) → FineAim (insert_aim_at run index m)
fine_insert_at run index m = one_of (nat_lt (len m) index) _ _ tt tt

fine_insert_after : (run : List (List ℕ)) (x : Option AtomIdValue) (m : Machine) → FineAim (insert_aim_after run x m)
fine_insert_after run None m = tt
fine_insert_after run (Some x) m = one_of (is_live_id m.doc x) _ _ tt tt

fine_live : (aim : AtomIdValue → Machine → Aim) (m : Machine) → ((x : AtomIdValue) → FineAim (aim x m))
    → (x : Option AtomIdValue) → FineAim (live_aim aim x m)
fine_live aim m f None = tt
fine_live aim m f (Some x) = f x

fine_propose_of : (slot : Slot) (m : Machine) → FineAim (propose_aim_of slot m)
fine_propose_of Root m = tt
fine_propose_of (AtSlot x bit) m = one_of (is_rooted m.doc (AtSlot x bit)) _ _ tt tt

fine_cancel : (p : DotValue) (b : Option Ballot) → FineAim (cancel_aim p b)
fine_cancel p None = tt
fine_cancel p (Some b) = one_of (is_open b) _ _ tt tt

fine_aim : (request : Request) (m : Machine) → FineAim (aim request m)
fine_aim (Insert index atom) m = fine_insert_at (atom ∷ []) index m
fine_aim (InsertAfter x atom) m = fine_insert_after (atom ∷ []) x m
fine_aim (Paste index run) m = fine_insert_at run index m
fine_aim (PasteAfter x run) m = fine_insert_after run x m
fine_aim (Delete index) m = fine_live delete_aim m (λ x. tt) (live_id_at m.doc index)
fine_aim (DeleteAtom x) m = one_of (is_live_id m.doc x) _ _ tt tt
fine_aim (Propose slot) m = fine_propose_of slot m
fine_aim (ProposeAt index bit) m = fine_live (λ (y : AtomIdValue). propose_aim (AtSlot y bit)) m (λ x. tt)
    (live_id_at m.doc index)
fine_aim (Cancel p) m = fine_cancel p (find (is_on p) m.ballots)

fine_attempt : (held : Option DotValue) (a : Attempt) (m : Machine) → FineStep (attempt_step held a m)
fine_attempt (Some d) a m = tt
fine_attempt None a m = either FineStep (is_past_limit a.room m) (stepped (Limit (made m) (undecided m)) m)
    (stepped (Made (next_dot m)) (perform a.body m)) (λ e. tt) (λ e. tt)

fine_judge : (a : Aim) (m : Machine) → FineAim a → FineStep (aim_step a m)
fine_judge (Refuse reply) m f = f
fine_judge (Do a) m f = fine_attempt a.held a m
fine_judge (GiveUp p) m f = tt

-- ---- a ready operation of this size has the next number of its site, whether it fits or not

ready_next : {Came : Message → Type 0} (m : Machine) (x : OpValue) → length m.have ≡ m.size
    → IsOffered Came m.site m.size x → is_ready m.have x ≡ true → IsNext m.have x
ready_next m x long o ready =
    let parts = and_parts (not (is_had m.have x)) (vector_covers m.have x.deps) ready in
    let late : vector_get m.have x.dot.site < x.dot.seq =
    leb-false x.dot.seq (vector_get m.have x.dot.site) (not-true (is_had m.have x) parts.0) in
    let last : ℕ = vector_get x.deps x.dot.site in
    let known : DotValue = record { site = x.dot.site; seq = last } in
    let had : last ≤ vector_get m.have x.dot.site =
    leb-true last (vector_get m.have x.dot.site)
    (covered_dots m.have x.deps parts.1 known (le-leb last last (omega arith))) in
    let number : last + 1 ≡ x.dot.seq = o.valid.op.next in
    let own : x.dot.site ≤ length x.deps = o.valid.op.own in
    let sized : length x.deps ≡ m.size = o.sized in
    record {
      some = o.valid.dot.site.least;
      within = omega (arith, own, sized, long);
      size = sized ∙ sym long;
      next =
          omega (arith, late, had, number);
      past = parts.1;
    }

not_less : (a b : ℕ) → b ≤ a → nat_lt a b ≡ false
not_less a b k = test (nat_lt a b) refl
  where
    test : (t : Bool) → nat_lt a b ≡ t → nat_lt a b ≡ false
    test true e = let h : a < b = ltb-true a b e in absurd (omega (arith, h, k))
    test false e = e

-- ---- what a decision in the log tells

decided_by : (p : DotValue) (log : List OpValue) (b : Bool) → decision p log ≡ Some b
    → (y : OpValue) × In y log × (decides p y.body ≡ Some b)
decided_by p [] b e = absurd cc
decided_by p (x ∷ log) b e = from (decides p x.body) refl e (λ k. decided_by p log b k)
  where
    from : (o : Option Bool) → decides p x.body ≡ o → option_or o (decision p log) ≡ Some b
        → (decision p log ≡ Some b → (y : OpValue) × In y log × (decides p y.body ≡ Some b))
        → (y : OpValue) × In y (x ∷ log) × (decides p y.body ≡ Some b)
    from (Some d) f k ih = (x, inl refl, f ∙ k)
    from None f k ih = let r = ih k in (r.0, inr r.1, r.2)

module _ (family : Family) (c : IsConsistent family) (v : IsVoted family) (decided : OneDecision family) where
  abbrev n : ℕ
  n = length family

  -- ---- one moment of a site

  module _ (site : ℕ) (some : 0 < site) (within : site ≤ n) (front back : History)
      (split : history family site ≡ front ++ back) where
    abbrev m : Machine
    m = machine_after family site front

    built : IsBuilt (IsSent family site) site n (machine_after family site front)
    built = built_at family c (moment_of family site some within front back split)

    fit : IsFitting site n (machine_after family site front)
    fit = fitting_at family c site some within front back split

    here : m.site ≡ site
    here = fit.here

    sized : m.size ≡ n
    sized = fit.sized

    log_is : IsLogOf family m.log
    log_is = log_after family c site some within front back split

    have_is : m.have ≡ counts n m.log
    have_is = fit.is ∙ ap (λ (k : ℕ). counts k m.log) sized

    causal_log : IsInTurn n m.log
    causal_log = subst (λ (k : ℕ). IsInTurn k m.log) sized fit.turn

    -- a ready operation of the family can come
    can_come : (x : OpValue) → IsOpOf family x → IsOffered (IsSent family site) m.site m.size x
        → is_ready m.have x ≡ true → CanCome family c v x m.log
    can_come x o came ready =
        let parts = and_parts (not (is_had m.have x)) (vector_covers m.have x.deps) ready in
        let next : IsNext m.have x = ready_next m x (length_have m built) came ready in
        record {
          of = o;
          is = log_is;
          new = λ i. true≢false
              (sym (subst (λ (h : List ℕ). vector_has h x.dot ≡ true) (sym have_is)
              (counted_had n x m.log causal_log i)) ∙ not-true (is_had m.have x) parts.0);
          past = λ y k p. past_there x next y k p;
          covers = subst (λ (h : List ℕ). vector_covers h x.deps ≡ true) have_is parts.1;
        }
      where
        past_there : (x : OpValue) → IsNext m.have x → (y : OpValue) → IsOpOf family y → IsTrue (in_past y x)
            → In y m.log
        past_there x next y k p =
            let my = made_at family c y k in
            let number : vector_get y.deps y.dot.site + 1 ≡ y.dot.seq = (valid_of family c y k).next in
            let f : Found y.dot m.log =
            past_found n x m.log (subst (λ (h : List ℕ). IsNext h x) have_is next) causal_log y.dot my.0
            (omega (arith, number)) p in
            subst (λ (z : OpValue). In z m.log)
            (one_op family c f.op y (op_in family c m.log log_is f.op f.inside) k f.is) f.inside

    -- the atom that an edit names is a row
    row_here : (x : OpValue) → CanCome family c v x m.log → is_edit x.body ≡ true → (z : AtomIdValue)
        → named_atom x.body ≡ Some z → is_some (find_row z m.doc) ≡ true
    row_here x k edit z named =
        let r = edit_meets family c v x m.log k edit z named in
        let s = standing (doc_of m.log) z r.0 r.1 in
        subst (λ (rows : List DocRow). is_some (find_row z rows) ≡ true) (sym fit.logged)
        (ap (λ (o : Option DocRow). is_some o) s.found)

    -- the proposal that a decision is of is here, and is undecided
    undecided_here : (x : OpValue) (p : DotValue) (b : Bool) → CanCome family c v x m.log
        → IsDecisionIn (base_from family x.dot) x.dot.site p → decides p x.body ≡ Some b
        → is_undecided_of x.dot.site p m.log ≡ true
    undecided_here x p b k f says =
        let q = slot_from (base_from family x.dot) p f.slot f.is in
        let kq = op_in family c (base_from family x.dot)
        (tail family c x (base_from family x.dot) (home_log family c x k.of)) q.0 q.1 in
        let i : In q.0 m.log = k.past q.0 kq (base_past family c x q.0 k.of q.1) in
        let slot : proposed_slot p m.log ≡ Some f.slot =
        subst (λ (d : DotValue). proposed_slot d m.log ≡ Some f.slot) q.2
        (slot_known family c q.0 f.slot kq q.3 m.log log_is i) in
        both (eq-eqb p.site x.dot.site f.own) (ap (λ (o : Option Slot). is_some o) slot)
        (none (decision p m.log) refl)
      where
        both : {a b d : Bool} → a ≡ true → b ≡ true → d ≡ true → (a && b && d) ≡ true
        both {a = true} {b = true} {d = true} e f g = refl
        both {a = true} {b = true} {d = false} e f g = g
        both {a = true} {b = false} {d = d} e f g = absurd (true≢false (sym f))
        both {a = false} {b = b} {d = d} e f g = absurd (true≢false (sym e))

        none : (o : Option Bool) → decision p m.log ≡ o → is_none (decision p m.log) ≡ true
        none None e = ap (λ (z : Option Bool). is_none z) e
        none (Some d) e =
            let y = decided_by p m.log d e in
            let same : x ≡ y.0 = decided p x y.0 b d k.of (op_in family c m.log log_is y.0 y.1) says y.2 in
            absurd (k.new (subst (λ (z : OpValue). In z m.log) (sym same) y.1))

    misfit_none : (x : OpValue) → CanCome family c v x m.log → misfit x m ≡ None
    misfit_none x k = from x.body refl
      where
        with_body : (b : Body) → x.body ≡ b → body_misfit x.dot.site b m ≡ None → misfit x m ≡ None
        with_body b e h = ap (λ (z : Body). body_misfit x.dot.site z m) e ∙ h

        fits : (b : Body) → x.body ≡ b → FitsBody (base_from family x.dot) x.dot.site b
        fits b e = subst (λ (z : Body). FitsBody (base_from family x.dot) x.dot.site z) e (home_fits family c x k.of)

        decides_own : (p : DotValue) → decides p (Commit p) ≡ Some true
        decides_own p = ap (λ (b : Bool). cond b (Some true) None) (same_dot_refl p)

        aborts_own : (p : DotValue) → decides p (Abort p) ≡ Some false
        aborts_own p = ap (λ (b : Bool). cond b (Some false) None) (same_dot_refl p)

        kept : (p : DotValue) → x.body ≡ Commit p → is_held p m.holds ≡ true
        kept p e =
            let f = fits (Commit p) e in
            let q = slot_from (base_from family x.dot) p f.slot f.is in
            let kq = op_in family c (base_from family x.dot)
            (tail family c x (base_from family x.dot) (home_log family c x k.of)) q.0 q.1 in
            let i : In q.0 m.log = k.past q.0 kq (base_past family c x q.0 k.of q.1) in
            subst (λ (d : DotValue). is_held d m.holds ≡ true) q.2
            (v.kept x q.0 f.slot
            (record {
              inside = k.of;
              proposed = kq;
              asks = q.3;
              is =
                  e ∙ ap (λ (d : DotValue). Commit d) (sym q.2);
            }) site some within front back split i k.new)

        from : (b : Body) → x.body ≡ b → misfit x m ≡ None
        from (InsertIn Root run) e = with_body (InsertIn Root run) e refl
        from (InsertIn (AtSlot z bit) run) e =
            with_body (InsertIn (AtSlot z bit) run) e
            (ap (λ (b : Bool). cond b None (Some Atom)) (row_here x k (ap is_edit e) z (ap named_atom e)))
        from (DeleteOf z) e =
            with_body (DeleteOf z) e
            (ap (λ (b : Bool). cond b None (Some Atom)) (row_here x k (ap is_edit e) z (ap named_atom e)))
        from (ProposeOf slot) e = with_body (ProposeOf slot) e refl
        from (Commit p) e =
            let u = undecided_here x p true k (fits (Commit p) e) (ap (decides p) e ∙ decides_own p) in
            with_body (Commit p) e
            (ap (λ (b : Bool). cond b (cond (is_held p m.holds) None (Some NoHold)) (Some Proposal)) u
            ∙ ap (λ (b : Bool). cond b None (Some NoHold)) (kept p e))
        from (Abort p) e =
            let u = undecided_here x p false k (fits (Abort p) e) (ap (decides p) e ∙ aborts_own p) in
            with_body (Abort p) e (ap (λ (b : Bool). cond b None (Some Proposal)) u)

    -- ---- an operation that is offered

    fine_op : (x : OpValue) → IsOpValue x → MayCome family site m (AnOp x) → FineStep (op_step x m)
    fine_op x valid may =
        let up : 0 < x.dot.site = valid.dot.site.least in
        let low = sender_legal family c x.dot.site (AnOp x) up may.sent in
        let sent = sent_ops (machine family x.dot.site) (built_at family c (the_end family x.dot.site up low)) x
        may.sent in
        let o : IsOpOf family x = record { site = x.dot.site; some = up; within = low; inside = sent.0 } in
        let long : length x.deps ≡ m.size = size_of family c x o ∙ sym sized in
        let other : nat_eq x.dot.site site ≡ false = not_same x.dot.site site may.another in
        let came : IsOffered (IsSent family site) m.site m.size x =
        record {
          valid = valid;
          came = sent_of family site m (AnOp x) may;
          other = λ e. may.another (e ∙ here);
          sized = long;
        } in
        let named : vector_get x.deps site ≤ made m = may.own_made in
        let no_own : (nat_eq x.dot.site m.site || nat_lt (made m) (vector_get x.deps m.site)) ≡ false =
        or_from (nat_eq x.dot.site m.site) (nat_lt (made m) (vector_get x.deps m.site))
        (subst (λ (k : ℕ). nat_eq x.dot.site k ≡ false) (sym here) other)
        (not_less (made m) (vector_get x.deps m.site)
        (subst (λ (k : ℕ). vector_get x.deps k ≤ made m) (sym here) named)) in
        let fitting : Stepped = fit_step (misfit x m) x m in
        let late : Stepped = cond (not (is_ready m.have x)) (stepped Later (keep_waiting x m)) fitting in
        let own : Stepped = cond (nat_eq x.dot.site m.site || nat_lt (made m) (vector_get x.deps m.site))
        (stepped (Unfit Own) m) late in
        let again : Stepped = cond (is_had m.have x || waits x.dot m.waiting) (stepped Repeat m) own in
        either FineStep (not (nat_eq (length x.deps) m.size)) (stepped (Unfit Size) m) again
        (λ (e : not (nat_eq (length x.deps) m.size) ≡ true). absurd
        (true≢false (sym e ∙ ap not (eq-eqb (length x.deps) m.size long))))
        (λ e. either FineStep (is_had m.have x || waits x.dot m.waiting) (stepped Repeat m) own (λ f. tt)
        (λ f. either FineStep (nat_eq x.dot.site m.site || nat_lt (made m) (vector_get x.deps m.site))
        (stepped (Unfit Own) m) late
        (λ (g : (nat_eq x.dot.site m.site || nat_lt (made m) (vector_get x.deps m.site)) ≡ true). absurd
        (true≢false (sym g ∙ no_own)))
        (λ g. either FineStep (not (is_ready m.have x)) (stepped Later (keep_waiting x m)) fitting (λ h. tt)
        (λ (h : not (is_ready m.have x) ≡ false).
        subst (λ (w : Option Why). FineStep (fit_step w x m))
        (sym (misfit_none x (can_come x o came (not_false (is_ready m.have x) h)))) tt))))
      where
        not_same : (a b : ℕ) → a ≢ b → nat_eq a b ≡ false
        not_same a b k = test (nat_eq a b) refl
          where
            test : (t : Bool) → nat_eq a b ≡ t → nat_eq a b ≡ false
            test true e = absurd (k (eqb-true a b e))
            test false e = e

        not_false : (b : Bool) → not b ≡ false → b ≡ true
        not_false true e = refl
        not_false false e = absurd (true≢false e)

    -- ---- a vote

    voting_here : IsVoting site n (machine_after family site front)
    voting_here = voting_at family c site some within front back split

    fine_vote : (u : Vote) → 0 < u.voter → 0 < u.proposal.seq → MayCome family site m (AVote u)
        → FineStep (vote_step u m)
    fine_vote u up pos may =
        let low = sender_legal family c u.voter (AVote u) up may.sent in
        let sv : IsVoting u.voter n (machine family u.voter) = voting_of family c u.voter up low in
        let q : HasProposal (machine family u.voter).log u.proposal = sv.votes u may.sent in
        let kq : IsOpOf family q.0 = record { site = u.voter; some = up; within = low; inside = q.2 } in
        let addressed : u.proposal.site ≡ site = may.addressed in
        let named : u.proposal.seq ≤ made m = may.own_made in
        let had : vector_get m.have m.site ≡ length (ops_of site m.log) =
        subst (λ (s : ℕ). vector_get m.have s ≡ length (ops_of site m.log)) (sym here)
        (subst (λ (h : List ℕ). vector_get h site ≡ length (ops_of site m.log)) (sym have_is)
        (total n site m.log some within causal_log)) in
        let f : Found (record { site = site; seq = u.proposal.seq }) m.log =
        found n site u.proposal.seq m.log pos causal_log (omega (arith, named, had)) in
        let same : f.op ≡ q.0 = one_op family c f.op q.0 (op_in family c m.log log_is f.op f.inside) kq
        (f.is ∙ (λ i. record { site = sym addressed i; seq = u.proposal.seq }) ∙ sym q.3) in
        let i : In q.0 m.log = subst (λ (z : OpValue). In z m.log) same f.inside in
        let ballot : HasBallot m.ballots q.0.dot =
        voting_here.ballots q.0 q.1 i (ap (λ (d : DotValue). d.site) q.3 ∙ addressed) q.4 in
        let voter_ok : nat_lt m.size u.voter ≡ false =
        not_less m.size u.voter (subst (λ (k : ℕ). u.voter ≤ k) (sym sized) low) in
        let site_ok : nat_lt m.size u.proposal.site ≡ false =
        not_less m.size u.proposal.site
        (subst (λ (k : ℕ). u.proposal.site ≤ k) (sym sized) (subst (λ (k : ℕ). k ≤ n) (sym addressed) within)) in
        let size_ok : (nat_lt m.size u.voter || nat_lt m.size u.proposal.site) ≡ false =
        or_from (nat_lt m.size u.voter) (nat_lt m.size u.proposal.site) voter_ok site_ok in
        let counted : Stepped = ballot_step (find (is_on u.proposal) m.ballots) u m in
        let addr : Stepped = cond (not (nat_eq u.proposal.site m.site)) (stepped (Unfit Address) m) counted in
        either FineStep (nat_lt m.size u.voter || nat_lt m.size u.proposal.site) (stepped (Unfit Size) m) addr
        (λ (e : (nat_lt m.size u.voter || nat_lt m.size u.proposal.site) ≡ true). absurd
        (true≢false (sym e ∙ size_ok)))
        (λ e. either FineStep (not (nat_eq u.proposal.site m.site)) (stepped (Unfit Address) m) counted
        (λ (g : not (nat_eq u.proposal.site m.site) ≡ true). absurd
        (true≢false (sym g ∙ ap not (eq-eqb u.proposal.site m.site (addressed ∙ sym here)))))
        (λ g. counting (find (is_on u.proposal) m.ballots) refl ballot q.3))
      where
        unfound : (p : DotValue) (ballots : List Ballot) (b : Ballot) → find (is_on p) ballots ≡ None → In b ballots
            → b.proposal ≡ p → ⊥
        unfound p [] b e i k = i
        unfound p (x ∷ ballots) b e i k = look (is_on p x) refl e (λ h j. unfound p ballots b h j k)
          where
            look : (t : Bool) → is_on p x ≡ t → cond t (Some x) (find (is_on p) ballots) ≡ None
                → (find (is_on p) ballots ≡ None → In b ballots → ⊥) → ⊥
            look true f h ih = cc
            look false f h ih =
                ⊎_elim (λ (g : b ≡ x). true≢false
                (sym (subst (λ (z : Ballot). is_on p z ≡ true) g
                (ap (λ (d : DotValue). same_dot d p) k ∙ same_dot_refl p)) ∙ f)) (λ j. ih h j) i

        counting : (o : Option Ballot) → find (is_on u.proposal) m.ballots ≡ o → {d : DotValue}
            → HasBallot m.ballots d → d ≡ u.proposal → FineStep (ballot_step o u m)
        counting None e b g = absurd (unfound u.proposal m.ballots b.0 e b.1 (b.2 ∙ g))
        counting (Some x) e b g =
            either FineStep (is_counted u.voter x) (stepped Repeat m) (stepped New (count u x m)) (λ h. tt) (λ h. tt)

    -- ---- the next of those that wait

    fine_next : FineStep (next_of (next_ready m.have m.waiting) m)
    fine_next = from (next_ready m.have m.waiting) refl
      where
        from : (o : Option OpValue) → next_ready m.have m.waiting ≡ o → FineStep (next_of o m)
        from None e = tt
        from (Some x) e =
            let w = In-filter (is_ready m.have) x m.waiting (least_in (filter (is_ready m.have) m.waiting) x e) in
            let came : IsOffered (IsSent family site) m.site m.size x = offered m built x w.0 in
            let up : 0 < x.dot.site = came.valid.dot.site.least in
            let low = sender_legal family c x.dot.site (AnOp x) up came.came.sent in
            let sent = sent_ops (machine family x.dot.site) (built_at family c (the_end family x.dot.site up low)) x
            came.came.sent in
            let o : IsOpOf family x = record { site = x.dot.site; some = up; within = low; inside = sent.0 } in
            subst (λ (y : Option Why). FineStep (waited y x (forget x m)))
            (sym (misfit_none x (can_come x o came w.1))) tt

  -- ---- each entry

  fine_step : (site : ℕ) → (l : (0 < site) × (site ≤ n)) → (front : History) (e : Entry) (back : History)
      → history family site ≡ front ++ e ∷ back → (input : Input) → e.input ≡ input → IsInput input
      → FineStep (step (machine_after family site front) input)
  fine_step site l front e back split (Local request) k i = fine_judge (aim request (machine_after family site front))
      (machine_after family site front) (fine_aim request (machine_after family site front))
  fine_step site l front e back split (Take (AnOp x)) k i =
      fine_op site l.0 l.1 front (e ∷ back) split x i (c.takes site front e back (AnOp x) l.0 l.1 split k)
  fine_step site l front e back split (Take (AVote u)) k i =
      fine_vote site l.0 l.1 front (e ∷ back) split u i.voter.least i.proposal.least
      (c.takes site front e back (AVote u) l.0 l.1 split k)
  fine_step site l front e back split Next k i = fine_next site l.0 l.1 front (e ∷ back) split

  legal_reply : (s : Machine) (front : History) (e : Entry) (back : History) → IsLegalFrom s (front ++ e ∷ back)
      → (step (after s front) e.input).reply ≡ e.reply
  legal_reply s [] e back l = l.1
  legal_reply s (f ∷ front) e back l = legal_reply (step s f.input).machine front e back l.2

  fine_entry : (site : ℕ) → (l : (0 < site) × (site ≤ n)) → (front : History) (e : Entry) (back : History)
      → history family site ≡ front ++ e ∷ back → IsFine e.reply
  fine_entry site l front e back split =
      let legal : IsLegalFrom (start site n) (front ++ e ∷ back) =
      subst (λ (h : History). IsLegalFrom (start site n) h) split (c.legal.legal site l.0 l.1) in
      subst IsFine (legal_reply (start site n) front e back legal)
      (fine_step site l front e back split e.input refl (legal_entry (start site n) front e back legal))

  fine_not : (r : Reply) → IsFine r → (d : DotValue) (why : Why) → (r ≢ Unfit why) × (r ≢ Dropped d why)
  fine_not r f d why = ((λ e. subst IsFine e f), (λ e. subst IsFine e f))

  -- no Take answers Unfit, and no Next answers Dropped
  pub nothing_unfit : NothingUnfit family
  nothing_unfit t d why =
      fine_not t.entry.reply (fine_entry t.site (t.some, t.within) t.front t.entry t.back t.splits) d why
