-- The ways of a step, told by their replies: what is shown of each way holds of the step.
use Rattle.std.proofs.Common.{◌≡◌, ◌≤◌, ℕ, subst, List, [], ◌∷◌, Bool, true, false, not, if◌then◌else◌}
use Rattle.std.proofs.Common.{◌||◌, nat_eq, nat_lt, length, filter, Option, Some, None, refl}
use Rattle.std.proofs.lemmas.Bool.{or_parts, eqb-true, eqb-false, ltb-false, not-false, not-true}
use Rattle.std.specs.List.{find}
use Rattle.td_base.specs.Value.{DotValue}
use Rattle.td_base.specs.Lists.{In}
use Rattle.td_base.proofs.Lists.{In-filter}
use Rattle.td_clock.specs.Vector.{vector_get}
use Rattle.td_op.specs.declared.input.Input.{Input}
use Rattle.td_op.specs.declared.input.Input.TheVariants.{Local, Take, Next}
use Rattle.td_op.specs.declared.message.Message.TheVariants.{Op as AnOp, Vote as AVote}
use Rattle.td_op.specs.declared.request.Request.{Request}
use Rattle.td_op.specs.declared.request.Request.TheVariants.{Insert, InsertAfter, Paste, PasteAfter, Delete}
use Rattle.td_op.specs.declared.request.Request.TheVariants.{DeleteAtom, Propose, ProposeAt, Cancel}
use Rattle.td_op.specs.declared.vote.Vote.{Vote}
use Rattle.td_op.specs.declared.reply.Reply.{Reply}
use Rattle.td_op.specs.declared.reply.Reply.TheVariants.{Made, Cancelled, Limit, New, Later, Repeat}
use Rattle.td_op.specs.declared.reply.Reply.TheVariants.{Unfit, Taken, Dropped}
use Rattle.td_op.specs.declared.reply.Why.{Why}
use Rattle.td_op.specs.declared.reply.Why.TheVariants.{Size, Own, Address}
use Rattle.td_op.specs.Op.{OpValue}
use Rattle.td_machine.specs.Ready.{is_had, is_ready, next_ready, waits}
use Rattle.td_machine.specs.Decision.{Ballot, is_on, is_counted}
use Rattle.td_machine.specs.Machine.{Machine, made, undecided, next_dot}
use Rattle.td_machine.specs.Making.{decide}
use Rattle.td_machine.specs.Taking.{Stepped, stepped, misfit, take, keep_waiting, fit_step, op_step}
use Rattle.td_machine.specs.Taking.{count, ballot_step, vote_step, forget, waited, next_of}
use Rattle.td_machine.specs.Request.{Aim, Attempt, Refuse, Do, GiveUp, aim, is_past_limit, attempt_step}
use Rattle.td_machine.specs.Request.{aim_step, perform, insert_aim_at, insert_aim_after, live_aim}
use Rattle.td_machine.specs.Request.{delete_aim, propose_aim, propose_aim_of, cancel_aim, len}
use Rattle.td_machine.specs.Decision.{is_open}
use Rattle.td_base.specs.Value.{AtomIdValue}
use Rattle.td_path.specs.declared.slot.Slot.{Slot}
use Rattle.td_path.specs.declared.slot.Slot.TheVariants.{Root, At}
use Rattle.td_op.specs.declared.body.Body.{Body}
use Rattle.td_op.specs.declared.body.Body.TheVariants.{Insert as InsertIn, Delete as DeleteOf}
use Rattle.td_op.specs.declared.body.Body.TheVariants.{Propose as ProposeOf, Commit, Abort}
use Rattle.td_doc.specs.Document.{live_id_at}
use Rattle.td_doc.specs.Answers.{is_live_id, is_rooted}
use Rattle.td_law_replay.specs.Counting.{is_proposal}
use Rattle.td_machine.specs.Step.{step, IsRefusal}
use Rattle.td_machine.proofs.StepKinds.{IsForeign, least_in}
use Rattle.td_base.proofs.Elements.{either}

pub record Ways (m : Machine) (input : Input) (P : Stepped → Type 0) : Type 0 where
  -- it is refused, and nothing is done
  pub stays : (reply : Reply) → IsRefusal reply → P (stepped reply m)
  -- what is asked for is made
  pub makes : (request : Request) (a : Attempt) → input ≡ Local request → aim request m ≡ Do a → a.held ≡ None
      → is_past_limit a.room m ≡ false → P (stepped (Made (next_dot m)) (perform a.body m))
  -- a proposal is given up
  pub cancels : (request : Request) (p : DotValue) → input ≡ Local request → aim request m ≡ GiveUp p
      → P (stepped Cancelled (decide p (Some false) m))
  -- an operation that comes waits
  pub delays : (x : OpValue) → input ≡ Take (AnOp x) → IsForeign m x → is_ready m.have x ≡ false
      → P (stepped Later (keep_waiting x m))
  -- or is taken
  pub takes : (x : OpValue) → input ≡ Take (AnOp x) → IsForeign m x → is_ready m.have x ≡ true → misfit x m ≡ None
      → P (stepped New (take x m))
  -- a vote that comes is counted
  pub counts : (v : Vote) (b : Ballot) → input ≡ Take (AVote v) → find (is_on v.proposal) m.ballots ≡ Some b
      → is_counted v.voter b ≡ false → v.voter ≤ m.size → v.proposal.site ≡ m.site → P (stepped New (count v b m))
  -- an operation that waited is dropped
  pub drops : (x : OpValue) (why : Why) → input ≡ Next → In x m.waiting → is_ready m.have x ≡ true
      → P (stepped (Dropped x.dot why) (forget x m))
  -- or taken
  pub resumes : (x : OpValue) → input ≡ Next → In x m.waiting → is_ready m.have x ≡ true → misfit x m ≡ None
      → P (stepped (Taken x.dot) (take x (forget x m)))

-- ---- what requests come down to

abbrev pub IsBodyOf : Bool → Body → Type 0
IsBodyOf proposal (InsertIn slot run) = proposal ≡ false
IsBodyOf proposal (DeleteOf x) = proposal ≡ false
IsBodyOf proposal (ProposeOf slot) = proposal ≡ true
IsBodyOf proposal (Commit p) = ⊥
IsBodyOf proposal (Abort p) = ⊥

abbrev pub IsAimOf : Bool → Aim → Type 0
IsAimOf proposal (Refuse reply) = IsRefusal reply
IsAimOf proposal (Do a) = IsBodyOf proposal a.body
IsAimOf proposal (GiveUp p) = proposal ≡ false

insert_at : (run : List (List ℕ)) (index : ℕ) (m : Machine) → IsAimOf false (insert_aim_at run index m)
insert_at run index m = either (λ (z : Aim). IsAimOf false z) (nat_lt (len m) index) _ _ (λ e. tt) (λ e. refl)

insert_after : (run : List (List ℕ)) (x : Option AtomIdValue) (m : Machine) → IsAimOf false (insert_aim_after run x m)
insert_after run None m = refl
insert_after run (Some x) m = either (λ (z : Aim). IsAimOf false z) (is_live_id m.doc x) _ _ (λ e. refl) (λ e. tt)

live : (t : Bool) (f : AtomIdValue → Machine → Aim) (m : Machine) → ((x : AtomIdValue) → IsAimOf t (f x m))
    → (x : Option AtomIdValue) → IsAimOf t (live_aim f x m)
live t f m h None = tt
live t f m h (Some x) = h x

propose_of : (slot : Slot) (m : Machine) → IsAimOf true (propose_aim_of slot m)
propose_of Root m = refl
propose_of (At x bit) m = either (λ (z : Aim). IsAimOf true z) (is_rooted m.doc (At x bit)) _ _ (λ e. refl) (λ e. tt)

cancel_of : (p : DotValue) (b : Option Ballot) → IsAimOf false (cancel_aim p b)
cancel_of p None = tt
cancel_of p (Some b) = either (λ (z : Aim). IsAimOf false z) (is_open b) _ _ (λ e. refl) (λ e. tt)

pub aimed : (request : Request) (m : Machine) → IsAimOf (is_proposal request) (aim request m)
aimed (Insert index atom) m = insert_at (atom ∷ []) index m
aimed (InsertAfter x atom) m = insert_after (atom ∷ []) x m
aimed (Paste index run) m = insert_at run index m
aimed (PasteAfter x run) m = insert_after run x m
aimed (Delete index) m = live false delete_aim m (λ x. refl) (live_id_at m.doc index)
aimed (DeleteAtom x) m = either (λ (z : Aim). IsAimOf false z) (is_live_id m.doc x) _ _ (λ e. refl) (λ e. tt)
aimed (Propose slot) m = propose_of slot m
aimed (ProposeAt index bit) m =
    live true (λ (y : AtomIdValue). propose_aim (At y bit)) m (λ x. refl) (live_id_at m.doc index)
aimed (Cancel p) m = cancel_of p (find (is_on p) m.ballots)

refused : (request : Request) (m : Machine) (reply : Reply) → aim request m ≡ Refuse reply → IsRefusal reply
refused request m reply e = subst (λ (a : Aim). IsAimOf (is_proposal request) a) e (aimed request m)

module _ (m : Machine) (P : Stepped → Type 0) where
  of_request : (request : Request) (a : Aim) → aim request m ≡ a → Ways m (Local request) P → P (aim_step a m)
  of_request request (Refuse reply) e k = k.stays reply (refused request m reply e)
  of_request request (GiveUp p) e k = k.cancels request p refl e
  of_request request (Do a) e k = at a.held refl
    where
      at : (held : Option DotValue) → a.held ≡ held → P (attempt_step held a m)
      at (Some by_) f = k.stays _ tt
      at None f =
          either P (is_past_limit a.room m) (stepped (Limit (made m) (undecided m)) m)
          (stepped (Made (next_dot m)) (perform a.body m)) (λ g. k.stays _ tt) (λ g. k.makes request a refl e f g)

  of_op : (x : OpValue) → Ways m (Take (AnOp x)) P → P (op_step x m)
  of_op x k =
      let is_sized : Bool = nat_eq (length x.deps) m.size in
      let is_again : Bool = is_had m.have x || waits x.dot m.waiting in
      let is_early : Bool = nat_lt (made m) (vector_get x.deps m.site) in
      let is_own : Bool = nat_eq x.dot.site m.site || is_early in
      let fit : Stepped = fit_step (misfit x m) x m in
      let late : Stepped = stepped Later (keep_waiting x m) in
      let ready : Stepped = if not (is_ready m.have x) then late else fit in
      let own : Stepped = if is_own then stepped (Unfit Own) m else ready in
      let again : Stepped = if is_again then stepped Repeat m else own in
      either P (not is_sized) (stepped (Unfit Size) m) again (λ e. k.stays _ tt)
      (λ (sized : not is_sized ≡ false). either P is_again (stepped Repeat m) own (λ e. k.stays _ tt)
      (λ (new : is_again ≡ false). either P is_own (stepped (Unfit Own) m) ready (λ f. k.stays _ tt)
      (λ (other : is_own ≡ false).
      let foreign : IsForeign m x = record {
        other = eqb-false x.dot.site m.site (or_parts (nat_eq x.dot.site m.site) is_early other).0;
        sized = eqb-true (length x.deps) m.size (not-false is_sized sized);
        new = new;
      } in
      either P (not (is_ready m.have x)) late fit (λ f. k.delays x refl foreign (not-true (is_ready m.have x) f))
      (λ (f : not (is_ready m.have x) ≡ false). fitted (misfit x m) refl foreign (not-false (is_ready m.have x) f)))))
    where
      fitted : (why : Option Why) → misfit x m ≡ why → IsForeign m x → is_ready m.have x ≡ true → P (fit_step why x m)
      fitted (Some why) e foreign ready = k.stays _ tt
      fitted None e foreign ready = k.takes x refl foreign ready e

  of_vote : (v : Vote) → Ways m (Take (AVote v)) P → P (vote_step v m)
  of_vote v k =
      let is_far : Bool = nat_lt m.size v.proposal.site in
      let is_here : Bool = nat_eq v.proposal.site m.site in
      let found : Stepped = ballot_step (find (is_on v.proposal) m.ballots) v m in
      let here : Stepped = if not is_here then stepped (Unfit Address) m else found in
      either P (nat_lt m.size v.voter || is_far) (stepped (Unfit Size) m) here (λ e. k.stays _ tt)
      (λ (near : (nat_lt m.size v.voter || is_far) ≡ false).
      either P (not is_here) (stepped (Unfit Address) m) found (λ e. k.stays _ tt)
      (λ (own : not is_here ≡ false).
      balloted (find (is_on v.proposal) m.ballots) refl
      (ltb-false m.size v.voter (or_parts (nat_lt m.size v.voter) is_far near).0)
      (eqb-true v.proposal.site m.site (not-false is_here own))))
    where
      balloted : (o : Option Ballot) → find (is_on v.proposal) m.ballots ≡ o → v.voter ≤ m.size
          → v.proposal.site ≡ m.site
          → P (ballot_step o v m)
      balloted None e within own = k.stays _ tt
      balloted (Some b) e within own =
          either P (is_counted v.voter b) (stepped Repeat m) (stepped New (count v b m)) (λ f. k.stays _ tt)
          (λ f. k.counts v b refl e f within own)

  of_next : (o : Option OpValue) → next_ready m.have m.waiting ≡ o → Ways m Next P → P (next_of o m)
  of_next None e k = k.stays _ tt
  of_next (Some x) e k =
      let found = In-filter (is_ready m.have) x m.waiting (least_in (filter (is_ready m.have) m.waiting) x e) in
      at (misfit x m) refl found.0 found.1
    where
      at : (why : Option Why) → misfit x m ≡ why → In x m.waiting → is_ready m.have x ≡ true
          → P (waited why x (forget x m))
      at (Some why) f i ready = k.drops x why refl i ready
      at None f i ready = k.resumes x refl i ready f

  pub by_ways : (input : Input) → Ways m input P → P (step m input)
  by_ways (Local request) k = of_request request (aim request m) refl k
  by_ways (Take (AnOp x)) k = of_op x k
  by_ways (Take (AVote v)) k = of_vote v k
  by_ways Next k = of_next (next_ready m.have m.waiting) refl k
