-- What a site did, operation by operation: the machine before each, and what was known there.
use Rattle.std.proofs.Common.{◌≡◌, ◌≢◌, ◌<◌, ◌≤◌, ◌-◌, ◌++◌, ℕ, List, [], ◌∷◌, length, Bool, true}
use Rattle.std.proofs.Common.{false, nat_lt, Some, None, refl, sym, ap, ◌∙◌, subst, inl, inr, ⊎_elim}
use Rattle.std.proofs.Common.{true≢false, append-nil, if◌then◌else◌, arith}
use Rattle.std.proofs.lemmas.Bool.{ltb-true, ltb-false, or_left}
use Rattle.td_base.specs.Value.{DotValue}
use Rattle.td_base.specs.Lists.{In}
use Rattle.td_base.proofs.Lists.{In-front}
use Rattle.td_path.specs.declared.slot.Slot.{Slot}
use Rattle.td_op.specs.declared.body.Body.{Body}
use Rattle.td_op.specs.declared.body.Body.TheVariants.{Insert, Delete, Propose, Commit, Abort}
use Rattle.td_op.specs.declared.message.Message.{Message}
use Rattle.td_op.specs.declared.message.Message.TheVariants.{Vote as AVote}
use Rattle.td_op.specs.declared.vote.Vote.{Vote}
use Rattle.td_op.specs.Op.{OpValue}
use Rattle.td_doc.specs.Slots.{contains_slot, is_within}
use Rattle.td_base.specs.Equality.{same_dot}
use Rattle.td_machine.specs.Counts.{IsNext}
use Rattle.td_machine.specs.Hold.{Hold}
use Rattle.td_machine.specs.Log.{decides, proposed}
use Rattle.td_machine.specs.Machine.{Machine, start, next_op, next_dot}
use Rattle.td_machine.specs.Making.{done, make}
use Rattle.td_machine.specs.Decision.{revise, counted as counted_vote}
use Rattle.td_machine.specs.Taking.{answer, vote_on, keep_waiting, forget}
use Rattle.td_machine.specs.History.{History, Family, IsConsistent, after, history, machine, machine_after}
use Rattle.td_machine.specs.Parts.{MayMake, IsOpenAt, IsFit, IsCounting, IsBuilt, Goes, Part, Makes, Proposes, Counts}
use Rattle.td_machine.specs.Parts.{Takes, Agrees, Declines, Delays, Forgets, Begins, proposed_here}
use Rattle.td_machine.proofs.Parts.{IsDone}
use Rattle.td_machine.proofs.Parts.{Own, Other, by_parts}
use Rattle.td_machine.proofs.Turns.{counted, comes_next}
use Rattle.td_machine.proofs.Induction.{IsSent, built_at}
use Rattle.td_machine.proofs.Ballots.{find_ballot}
use Rattle.td_machine.proofs.Family.{not_older}
use Rattle.td_machine.proofs.Holding.{held_none}
use Rattle.td_base.proofs.Equals.{same_dot_refl, same_dot_true}
use Rattle.td_law_logs.proofs.Moments.{moment_of}
use Rattle.td_law_commitment.proofs.Ballots.{all_numbers, Core, NewOp, core_done, core_send}
use Rattle.td_law_commitment.proofs.Ballots.{core_hold, core_vote, core_count, core_propose}
use Rattle.td_law_logs.proofs.Fitting.{IsFitting, fitted, IsDecisionIn, FitsBody, Fits}
use Rattle.td_law_commitment.proofs.VotesSent.{IsVoting, voting, no_slot}
use Rattle.td_law_logs.proofs.Bases.{slot_from, history_past}
use Rattle.std.proofs.lemmas.Option.{same_Some}

abbrev decision_of : DotValue → Bool → Body
decision_of p true = Commit p
decision_of p false = Abort p

-- a decision in a log has its proposal there
pub decided_known : (log : List OpValue) → Fits log → (x : OpValue) → In x log → (p : DotValue) (d : Bool)
    → decides p x.body ≡ Some d → (q : OpValue) × In q log × (q.dot ≡ p)
decided_known [] f x i p d e = absurd i
decided_known (y ∷ log) f x (inr i) p d e = let h = decided_known log f.1 x i p d e in (h.0, inr h.1, h.2)
decided_known (y ∷ log) f x (inl q) p d e = from y.body f.0 (ap (λ (z : OpValue). decides p z.body) (sym q) ∙ e)
  where
    known : (o : DotValue) → IsDecisionIn log y.dot.site o → o ≡ p → (z : OpValue) × In z (y ∷ log) × (z.dot ≡ p)
    known o g same = let s = slot_from log o g.slot g.is in (s.0, inr s.1, s.2 ∙ same)

    by_dot : (t : Bool) (o : DotValue) (r : Bool) → same_dot o p ≡ t → (if t then Some r else None) ≡ Some d → o ≡ p
    by_dot true o r g h = same_dot_true o p g
    by_dot false o r g h = absurd cc

    from : (b : Body) → FitsBody log y.dot.site b → decides p b ≡ Some d
        → (z : OpValue) × In z (y ∷ log) × (z.dot ≡ p)
    from (Commit o) g h = known o g (by_dot (same_dot o p) o true refl h)
    from (Abort o) g h = known o g (by_dot (same_dot o p) o false refl h)
    from (Insert slot run) g h = absurd cc
    from (Delete target) g h = absurd cc
    from (Propose slot) g h = absurd cc

module _ (family : Family) (c : IsConsistent family) where
  abbrev pub n : ℕ
  n = length family

  -- the site k said Yes to the proposal
  abbrev pub Yes : ℕ → DotValue → Type 0
  Yes k p = (v : Vote) × In (AVote v) (machine family k).sent × (v.proposal ≡ p) × (v.yes ≡ true)

  pub record Polled (site : ℕ) (m : Machine) : Type 0 where
    pub fit : IsFitting site n m
    pub voting : IsVoting site n m
    pub core : Core n site Yes m.log m.holds m.ballots m.sent
    -- a vote was sent on each proposal of another site
    pub answered : (q : OpValue) (slot : Slot) → In q m.log → q.dot.site ≢ site → q.body ≡ Propose slot
        → (u : Vote) × In (AVote u) m.sent × (u.proposal ≡ q.dot)

  -- no hold stands against an edit made here
  abbrev pub IsClear : Body → Machine → Type 0
  IsClear (Insert slot run) m = (h : Hold) → In h m.holds → contains_slot m.doc h.slot slot ≡ false
  IsClear (Delete target) m = (h : Hold) → In h m.holds → is_within m.doc target h.slot ≡ false
  IsClear (Propose slot) m = Unit {0}
  IsClear (Commit p) m = Unit {0}
  IsClear (Abort p) m = Unit {0}

  -- an operation as it came
  pub record Came (site : ℕ) (sent : List Message) (x : OpValue) (log : List OpValue) : Type 0 where
    pub from : Machine
    pub from_log : from.log ≡ log
    pub from_good : Polled site from
    pub from_sent : (message : Message) → In message from.sent → In message sent
    pub to : Machine
    pub to_log : to.log ≡ x ∷ log
    pub to_good : Polled site to
    pub to_sent : (message : Message) → In message to.sent → In message sent
    pub clear : x.dot.site ≡ site → IsClear x.body from
    -- a vote on a proposal of another site is by what was known before it
    pub vote : (slot : Slot) → x.dot.site ≢ site → x.body ≡ Propose slot
        → (u : Vote) × In (AVote u) to.sent × (u.proposal ≡ x.dot) × (u.yes ≡ vote_on x slot from)

  abbrev pub Trace : ℕ → List Message → List OpValue → Type 0
  Trace site sent [] = Unit {0}
  Trace site sent (x ∷ log) = Came site sent x log × Trace site sent log

  pub record Traced (site : ℕ) (m : Machine) : Type 0 where
    pub good : Polled site m
    pub trace : Trace site m.sent m.log

  more_sent : (site : ℕ) (sent others : List Message) → ((message : Message) → In message sent → In message others)
      → (log : List OpValue) → Trace site sent log → Trace site others log
  more_sent site sent others up [] t = tt
  more_sent site sent others up (x ∷ log) t = (
    record {
      from = t.0.from;
      from_log = t.0.from_log;
      from_good = t.0.from_good;
      from_sent = λ message i. up message (t.0.from_sent message i);
      to = t.0.to;
      to_log = t.0.to_log;
      to_good = t.0.to_good;
      to_sent = λ message i. up message (t.0.to_sent message i);
      clear = t.0.clear;
      vote = t.0.vote;
    },
    more_sent site sent others up log t.1,
  )

  -- what is known of a message that comes to the site
  abbrev Sent : ℕ → Message → Type 0
  Sent site message = IsSent family site message

  module _ (site : ℕ) (some : 0 < site) (within : site ≤ n) where
    -- one operation more
    next_traced : (x : OpValue) (m to : Machine) → Traced site m → Polled site to → to.log ≡ x ∷ m.log
        → ((message : Message) → In message m.sent → In message to.sent) → (x.dot.site ≡ site → IsClear x.body m)
        → ((slot : Slot) → x.dot.site ≢ site → x.body ≡ Propose slot
        → (u : Vote) × In (AVote u) to.sent × (u.proposal ≡ x.dot) × (u.yes ≡ vote_on x slot m)) → Traced site to
    next_traced x m to s good e up clear vote =
        record {
          good = good;
          trace = subst (λ (log : List OpValue). Trace site to.sent log) (sym e) (
            record {
              from = m;
              from_log = refl;
              from_good = s.good;
              from_sent = up;
              to = to;
              to_log = e;
              to_good =
                  good;
              to_sent = λ message i. i;
              clear = clear;
              vote = vote;
            },
            more_sent site m.sent to.sent up m.log s.trace,
          );
        }

    answered_own : (body : Body) (m : Machine) (sent : List Message) → Polled site m
        → ((message : Message) → In message m.sent → In message sent) → (q : OpValue) (slot : Slot)
        → In q (next_op m body ∷ m.log) → q.dot.site ≢ site → q.body ≡ Propose slot
        → (u : Vote) × In (AVote u) sent × (u.proposal ≡ q.dot)
    answered_own body m sent s up q slot (inl e) out k =
        absurd (out (ap (λ (z : OpValue). z.dot.site) e ∙ s.fit.here))
    answered_own body m sent s up q slot (inr i) out k = let u = s.answered q slot i out k in
        (u.0, up (AVote u.0) u.1, u.2)

    fresh : (m : Machine) → IsBuilt (Sent site) site n m → (x : OpValue) → IsDone (Sent site) m x → (y : OpValue)
        → In y m.log → y.dot ≡ x.dot → ⊥
    fresh m b x k y i e =
        let t = counted m b in
        not_older m.size x y m.log (subst (λ (v : List ℕ). IsNext v x) t.0 (comes_next m b x k)) t.1 i (sym e)

    here : (m : Machine) → Polled site m → m.site ≡ site
    here m s = s.fit.here

    clear_of : (body : Body) (m : Machine) → MayMake body m → IsClear body m
    clear_of (Insert slot run) m may =
        λ h i. held_none (λ (t : Slot). contains_slot m.doc t slot) m.holds may.free h i
    clear_of (Delete target) m may = λ h i. held_none (λ (t : Slot). is_within m.doc target t) m.holds may.free h i
    clear_of (Propose slot) m may = tt
    clear_of (Commit p) m may = tt
    clear_of (Abort p) m may = tt

    made_core : (body : Body) (m : Machine) → NewOp n site Yes (next_op m body) m.log
        → ((slot : Slot) → body ≡ Propose slot → ⊥) → Polled site m
        → Core n site Yes (make body m).log (make body m).holds (make body m).ballots (make body m).sent
    made_core body m new other s =
        core_send n site Yes (next_op m body) (make body m).log (make body m).holds (make body m).ballots m.sent
        (core_done n site Yes (next_op m body) m.log m.holds m.ballots m.sent new
        (λ slot own e. other slot e) s.core)

    not_here : (x : OpValue) (m : Machine) → Polled site m → (body : Body) → x ≡ next_op m body → x.dot.site ≢ site
        → ⊥
    not_here x m s body e out = out (ap (λ (z : OpValue). z.dot.site) e ∙ here m s)

    decision_new : (p : DotValue) (commit : Bool) (m : Machine) → (b : IsOpenAt p m)
        → (commit ≡ true → length b.ballot.yes ≡ m.size) → Polled site m
        → NewOp n site Yes (next_op m (decision_of p commit)) m.log
    decision_new p commit m b all s =
        record {
          commit = λ q own e k up low. let f = find_ballot p m.ballots b.ballot b.found in
              let voters = s.core.voters b.ballot f.0 in
              let is = committed commit q e in
              let long : length b.ballot.yes ≡ n = all is.0 ∙ s.fit.sized in
              let i = all_numbers n b.ballot.yes voters.apart (λ j l. let h = voters.from j l in (h.0, h.1)) long k up
              low in
              ⊎_elim (λ z. inl z)
              (λ (z : Yes k b.ballot.proposal). inr (subst (λ (r : DotValue). Yes k r) (f.1 ∙ is.1) z))
              (voters.from k i).2;
          first = λ q d own e y r i away g. let f = find_ballot p m.ballots b.ballot b.found in
              let same : b.ballot.proposal ≡ q = f.1 ∙ decided commit q d e in
              true≢false (sym b.open_ ∙ s.core.closed y q r i away g b.ballot f.0 same);
        }
      where
        committed : (t : Bool) (q : DotValue) → decision_of p t ≡ Commit q → (t ≡ true) × (p ≡ q)
        committed true q e = (refl, cc)
        committed false q e = absurd cc

        by_dot : (t : Bool) (q : DotValue) (r d : Bool) → same_dot p q ≡ t → (if t then Some r else None) ≡ Some d
            → p ≡ q
        by_dot true q r d g h = same_dot_true p q g
        by_dot false q r d g h = absurd cc

        decided : (t : Bool) (q : DotValue) (d : Bool) → decides q (decision_of p t) ≡ Some d → p ≡ q
        decided true q d e = by_dot (same_dot p q) q true d refl e
        decided false q d e = by_dot (same_dot p q) q false d refl e

    made_new : (body : Body) (m : Machine) → proposed body ≡ None → MayMake body m → Polled site m
        → NewOp n site Yes (next_op m body) m.log
    made_new (Insert slot run) m e may s = record { commit = λ p own k. absurd cc; first = λ p d own k. absurd cc }
    made_new (Delete target) m e may s = record { commit = λ p own k. absurd cc; first = λ p d own k. absurd cc }
    made_new (Propose slot) m e may s = absurd cc
    made_new (Commit p) m e may s = decision_new p true m may.opened (λ t. may.all) s
    made_new (Abort p) m e may s = decision_new p false m may (λ t. absurd (true≢false (sym t))) s

    other_site : (x : OpValue) (m : Machine) → Polled site m → IsFit (Sent site) m x → x.dot.site ≡ site → ⊥
    other_site x m s fit own = fit.offered.other (own ∙ sym (here m s))

    other_new : (x : OpValue) (m : Machine) → Polled site m → IsFit (Sent site) m x → NewOp n site Yes x m.log
    other_new x m s fit =
        record {
          commit = λ p own. absurd (other_site x m s fit own);
          first =
              λ p d own. absurd (other_site x m s fit own);
        }

    abbrev Done : OpValue → Machine → Type 0
    Done x m = Core n site Yes (done x m).log (done x m).holds (done x m).ballots (done x m).sent

    vote_core : (x : OpValue) (slot : Slot) (says : Bool) (m : Machine) → Polled site m → IsBuilt (Sent site) site n m
        → IsFit (Sent site) m x → Done x m
        → Core n site Yes (answer x.dot slot says (done x m)).log (answer x.dot slot says (done x m)).holds
        (answer x.dot slot says (done x m)).ballots (answer x.dot slot says (done x m)).sent
    vote_core x slot true m s b fit d =
        core_vote n site Yes (record { proposal = x.dot; voter = m.site; yes = true }) (done x m).log
        ((record { proposal = x.dot; slot = slot }) ∷ (done x m).holds) (done x m).ballots m.sent
        (λ e. inl (or_left (same_dot x.dot x.dot) _ (same_dot_refl x.dot))) (λ v i e. let q = s.voting.votes v i in
        fresh m b x (Other x fit) q.0 q.2 (q.3 ∙ e))
        (core_hold n site Yes (record { proposal = x.dot; slot = slot }) (done x m).log (done x m).holds
        (done x m).ballots m.sent d)
    vote_core x slot false m s b fit d =
        core_vote n site Yes (record { proposal = x.dot; voter = m.site; yes = false }) (done x m).log
        (done x m).holds (done x m).ballots m.sent
        (λ e. absurd (true≢false (sym e))) (λ v i e. let q = s.voting.votes v i in
        fresh m b x (Other x fit) q.0 q.2 (q.3 ∙ e)) d

    answer_sent : (x : OpValue) (slot : Slot) (says : Bool) (m : Machine) (message : Message) → In message m.sent
        → In message (answer x.dot slot says (done x m)).sent
    answer_sent x slot true m message i = In-front message m.sent _ i
    answer_sent x slot false m message i = In-front message m.sent _ i

    in_last : (x : Message) (xs : List Message) → In x (xs ++ x ∷ [])
    in_last x [] = inl refl
    in_last x (y ∷ xs) = inr (in_last x xs)

    answer_vote : (x : OpValue) (slot : Slot) (says : Bool) (m : Machine) → vote_on x slot m ≡ says
        → (u : Vote) × In (AVote u) (answer x.dot slot says (done x m)).sent × (u.proposal ≡ x.dot)
        × (u.yes ≡ vote_on x slot m)
    answer_vote x slot true m e =
        (record { proposal = x.dot; voter = m.site; yes = true }, in_last _ m.sent, refl, sym e)
    answer_vote x slot false m e =
        (record { proposal = x.dot; voter = m.site; yes = false }, in_last _ m.sent, refl, sym e)

    answer_log : (x : OpValue) (slot : Slot) (says : Bool) (m : Machine)
        → (answer x.dot slot says (done x m)).log ≡ x ∷ m.log
    answer_log x slot true m = refl
    answer_log x slot false m = refl

    answered_more : (x : OpValue) (slot : Slot) (says : Bool) (m : Machine) → Polled site m
        → proposed x.body ≡ Some slot → vote_on x slot m ≡ says → (q : OpValue) (t : Slot) → In q (x ∷ m.log)
        → q.dot.site ≢ site → q.body ≡ Propose t
        → (u : Vote) × In (AVote u) (answer x.dot slot says (done x m)).sent × (u.proposal ≡ q.dot)
    answered_more x slot says m s e k q t (inl g) out h = let u = answer_vote x slot says m k in
        (u.0, u.1, u.2 ∙ ap (λ (z : OpValue). z.dot) (sym g))
    answered_more x slot says m s e k q t (inr g) out h = let u = s.answered q t g out h in
        (u.0, answer_sent x slot says m (AVote u.0) u.1, u.2)

    made_traced : (body : Body) (m : Machine) → IsBuilt (Sent site) site n (make body m) → proposed body ≡ None
        → MayMake body m → Traced site m → Traced site (make body m)
    made_traced body m b e may s =
        next_traced (next_op m body) m (make body m) s
        (record {
          fit = fitted (make body m) b;
          voting = voting (make body m) b;
          core = made_core body m (made_new body m e may s.good) (λ slot k. no_slot body slot e k) s.good;
          answered = answered_own body m (make body m).sent s.good (λ message i. In-front message m.sent _ i);
        })
        refl (λ message i. In-front message m.sent _ i) (λ own. clear_of body m may)
        (λ slot out k. absurd (not_here (next_op m body) m s.good body refl out))

    said_traced : (x : OpValue) (slot : Slot) (says : Bool) (m : Machine) → IsBuilt (Sent site) site n m
        → IsBuilt (Sent site) site n (answer x.dot slot says (done x m)) → proposed x.body ≡ Some slot
        → IsFit (Sent site) m x → vote_on x slot m ≡ says → Traced site m
        → Traced site (answer x.dot slot says (done x m))
    said_traced x slot says m b next e fit k s =
        next_traced x m (answer x.dot slot says (done x m)) s
        (record {
          fit = fitted (answer x.dot slot says (done x m)) next;
          voting = voting (answer x.dot slot says (done x m)) next;
          core = vote_core x slot says m s.good b fit
              (core_done n site Yes x m.log m.holds m.ballots m.sent (other_new x m s.good fit)
              (λ t own q. other_site x m s.good fit own) s.good.core);
          answered =
              λ q t i out g. answered_more x slot says m s.good e k q t
              (subst (λ (log : List OpValue). In q log) (answer_log x slot says m) i) out g;
        })
        (answer_log x slot says m) (answer_sent x slot says m) (λ own. absurd (other_site x m s.good fit own))
        (λ t out q. voted t q)
      where
        voted : (t : Slot) → x.body ≡ Propose t → (u : Vote) × In (AVote u) (answer x.dot slot says (done x m)).sent
            × (u.proposal ≡ x.dot) × (u.yes ≡ vote_on x t m)
        voted t q =
            let same : slot ≡ t = same_Some slot t (sym e ∙ ap proposed q) in
            let u = answer_vote x slot says m k in
            (u.0, u.1, u.2, u.3 ∙ ap (λ (z : Slot). vote_on x z m) same)

    counted_core : (u : Vote) (m : Machine) → IsCounting (Sent site) u m → Polled site m
        → Core n site Yes m.log m.holds (revise u.proposal (counted_vote u.voter u.yes) m.ballots) m.sent
    counted_core u m k s =
        let i = find_ballot u.proposal m.ballots k.ballot k.found in
        let within : u.voter ≤ n = subst (λ (z : ℕ). u.voter ≤ z) s.fit.sized k.within in
        core_count n site Yes u k.ballot m.log m.holds m.ballots m.sent i.0 i.1 k.new
        (λ y. (k.valid.voter.least, within, inr (u, k.came.sent, refl, y))) s.core

    keeps : (m to : Machine) → IsBuilt (Sent site) site n m → Part (Sent site) m to → Traced site m → Traced site to
    keeps m to b (Makes body e may) s = made_traced body m (Goes b (Makes body e may)) e may s
    keeps m to b (Proposes slot may) s =
        let next : IsBuilt (Sent site) site n (proposed_here slot m) = Goes b (Proposes slot may) in
        next_traced (next_op m (Propose slot)) m (proposed_here slot m) s
        (record {
          fit = fitted (proposed_here slot m) next;
          voting = voting (proposed_here slot m) next;
          core = core_send n site Yes (next_op m (Propose slot)) (proposed_here slot m).log
              (proposed_here slot m).holds (proposed_here slot m).ballots m.sent
              (core_propose n site Yes (next_op m (Propose slot)) slot m.log m.holds m.ballots m.sent some within
              (here m s.good) refl (fresh m b (next_op m (Propose slot)) (Own (Propose slot) may))
              (λ y d i e. let q = decided_known m.log s.good.fit.fits y i (next_dot m) d e in
              fresh m b (next_op m (Propose slot)) (Own (Propose slot) may) q.0 q.1 q.2) s.good.core);
          answered = answered_own (Propose slot) m (proposed_here slot m).sent s.good
              (λ message i. In-front message m.sent _ i);
        })
        refl (λ message i. In-front message m.sent _ i) (λ own. tt)
        (λ t out e. absurd (not_here (next_op m (Propose slot)) m s.good (Propose slot) refl out))
    keeps m to b (Counts u k) s =
        let next : IsBuilt (Sent site) site n
        (record m { ballots = revise u.proposal (counted_vote u.voter u.yes) m.ballots }) = Goes b (Counts u k) in
        record {
          good = record {
            fit = fitted _ next;
            voting = voting _ next;
            core = counted_core u m k s.good;
            answered =
                s.good.answered;
          };
          trace = s.trace;
        }
    keeps m to b (Takes x e fit) s =
        let next : IsBuilt (Sent site) site n (done x m) = Goes b (Takes x e fit) in
        next_traced x m (done x m) s
        (record {
          fit = fitted (done x m) next;
          voting = voting (done x m) next;
          core = core_done n site Yes x m.log m.holds m.ballots m.sent (other_new x m s.good fit)
              (λ slot own k. other_site x m s.good fit own) s.good.core;
          answered =
              λ q slot i out k. ⊎_elim
              (λ (g : q ≡ x). absurd (no_slot x.body slot e (ap (λ (z : OpValue). z.body) (sym g) ∙ k)))
              (λ (g : In q m.log). s.good.answered q slot g out k) i;
        })
        refl (λ message i. i) (λ own. absurd (other_site x m s.good fit own))
        (λ slot out k. absurd (no_slot x.body slot e k))
    keeps m to b (Agrees x slot e fit says) s =
        said_traced x slot true m b (Goes b (Agrees x slot e fit says)) e fit says s
    keeps m to b (Declines x slot e fit says) s =
        said_traced x slot false m b (Goes b (Declines x slot e fit says)) e fit says s
    keeps m to b (Delays x o new late) s =
        let next : IsBuilt (Sent site) site n (keep_waiting x m) = Goes b (Delays x o new late) in
        record {
          good =
              record {
                fit = fitted (keep_waiting x m) next;
                voting = voting (keep_waiting x m) next;
                core =
                    s.good.core;
                answered = s.good.answered;
              };
          trace = s.trace;
        }
    keeps m to b (Forgets x i ready) s =
        let next : IsBuilt (Sent site) site n (forget x m) = Goes b (Forgets x i ready) in
        record {
          good =
              record {
                fit = fitted (forget x m) next;
                voting = voting (forget x m) next;
                core = s.good.core;
                answered =
                    s.good.answered;
              };
          trace = s.trace;
        }

    start_traced : Traced site (start site n)
    start_traced =
        record {
          good = record {
            fit = fitted {Came = Sent site} (start site n) (Begins some within);
            voting = voting {Came = Sent site} (start site n) (Begins some within);
            core = record {
              voters = λ b i. absurd i;
              one_ballot = λ b d i. absurd i;
              known = λ b i. absurd i;
              commits = λ x p i. absurd i;
              closed = λ x p d i. absurd i;
              once = λ x y p d e i. absurd i;
              open_yes = λ u i. absurd i;
              open_own = λ q slot i. absurd i;
              one_vote = λ u w i. absurd i;
            };
            answered = λ q slot i. absurd i;
          };
          trace = tt;
        }

    traced : (m : Machine) → IsBuilt (Sent site) site n m → Traced site m
    traced = by_parts (λ (m : Machine). Traced site m) (λ up low. start_traced) keeps

  -- ---- the family

  pub sender_legal : (s : ℕ) (message : Message) → 0 < s → In message (machine family s).sent → s ≤ n
  sender_legal s message up i = test (nat_lt n s) refl
    where
      test : (b : Bool) → nat_lt n s ≡ b → s ≤ n
      test true e =
          let h : n < s = ltb-true n s e in
          absurd (subst (λ (es : History). In message (after (start s n) es).sent)
          (history_past family (s - 1) (omega (arith, h))) i)
      test false e = ltb-false n s e

  pub traced_at : (site : ℕ) → 0 < site → site ≤ n → (front back : History) → history family site ≡ front ++ back
      → Traced site (machine_after family site front)
  traced_at site some within front back e =
      traced site some within (machine_after family site front)
      (built_at family c (moment_of family site some within front back e))

  pub traced_end : (site : ℕ) → 0 < site → site ≤ n → Traced site (machine family site)
  traced_end site some within =
      traced_at site some within (history family site) [] (sym (append-nil (history family site)))
