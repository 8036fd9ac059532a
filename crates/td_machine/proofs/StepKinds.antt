-- The kinds of a step: what is shown of each kind, with what the step knows then, holds of the step.
use Rattle.std.proofs.Common.{◌≡◌, ◌≢◌, ◌⊎◌, ◌≤◌, List, [], ◌∷◌, Bool, true, false, not, if◌then◌else◌, ◌||◌, nat_eq}
use Rattle.std.proofs.Common.{nat_lt, length, filter, Option, Some, None, refl, sym, ap, inl, inr, ⊎_elim}
use Rattle.std.proofs.lemmas.Bool.{or_parts, eqb-true, eqb-false, ltb-false, not-false, not-true}
use Rattle.std.specs.List.{find}
use Rattle.td_base.specs.Value.{DotValue}
use Rattle.td_base.specs.Order.{dot_lt}
use Rattle.td_base.specs.Lists.{In}
use Rattle.td_base.proofs.Lists.{In-filter}
use Rattle.td_clock.specs.Vector.{vector_get}
use Rattle.td_op.specs.declared.input.Input.{Input}
use Rattle.td_op.specs.declared.input.Input.TheVariants.{Local, Take, Next}
use Rattle.td_op.specs.declared.message.Message.TheVariants.{Op as AnOp, Vote as AVote}
use Rattle.td_op.specs.declared.request.Request.{Request}
use Rattle.td_op.specs.declared.vote.Vote.{Vote}
use Rattle.td_op.specs.declared.reply.Reply.{Reply}
use Rattle.td_op.specs.declared.reply.Reply.TheVariants.{Made, Cancelled, Limit, New, Later, Repeat}
use Rattle.td_op.specs.declared.reply.Reply.TheVariants.{Unfit, Taken, Dropped}
use Rattle.td_op.specs.declared.reply.Why.{Why}
use Rattle.td_op.specs.declared.reply.Why.TheVariants.{Size, Own, Address}
use Rattle.td_op.specs.Op.{OpValue}
use Rattle.td_machine.specs.Ready.{is_had, is_ready, smaller_op, least_op, next_ready, waits}
use Rattle.td_machine.specs.Decision.{Ballot, is_on, is_counted}
use Rattle.td_machine.specs.Machine.{Machine, made, undecided, next_dot}
use Rattle.td_machine.specs.Making.{decide}
use Rattle.td_machine.specs.Taking.{Stepped, stepped, misfit, take, keep_waiting, fit_step, op_step}
use Rattle.td_machine.specs.Taking.{count, ballot_step, vote_step, forget, waited, next_of}
use Rattle.td_machine.specs.Request.{Aim, Attempt, Refuse, Do, GiveUp, aim, is_past_limit}
use Rattle.td_machine.specs.Request.{attempt_step, aim_step, perform}
use Rattle.td_machine.specs.Step.{step}
use Rattle.td_base.proofs.Elements.{either}
use Rattle.std.proofs.lemmas.Option.{same_Some}

-- an operation is of another site, for so many sites, and new
pub record IsForeign (m : Machine) (x : OpValue) : Type 0 where
  pub other : x.dot.site ≢ m.site
  pub sized : length x.deps ≡ m.size
  pub new : (is_had m.have x || waits x.dot m.waiting) ≡ false

pub record Kinds (m : Machine) (input : Input) (P : Stepped → Type 0) : Type 0 where
  -- nothing is done
  pub stays : (reply : Reply) → P (stepped reply m)
  -- what is asked for is made
  pub makes : (request : Request) (a : Attempt) → input ≡ Local request → aim request m ≡ Do a → a.held ≡ None
      → is_past_limit a.room m ≡ false → P (stepped (Made (next_dot m)) (perform a.body m))
  -- a proposal is given up
  pub cancels : (request : Request) (p : DotValue) → input ≡ Local request → aim request m ≡ GiveUp p
      → P (stepped Cancelled (decide p (Some false) m))
  -- an operation that comes waits
  pub delays : (x : OpValue) → input ≡ Take (AnOp x) → IsForeign m x → is_ready m.have x ≡ false
      → P (stepped Later (keep_waiting x m))
  -- or is taken
  pub takes : (x : OpValue) → input ≡ Take (AnOp x) → IsForeign m x → is_ready m.have x ≡ true → misfit x m ≡ None
      → P (stepped New (take x m))
  -- a vote that comes is counted
  pub counts : (v : Vote) (b : Ballot) → input ≡ Take (AVote v) → find (is_on v.proposal) m.ballots ≡ Some b
      → is_counted v.voter b ≡ false → v.voter ≤ m.size → v.proposal.site ≡ m.site → P (stepped New (count v b m))
  -- an operation that waited is dropped
  pub drops : (x : OpValue) (why : Why) → In x m.waiting → is_ready m.have x ≡ true
      → P (stepped (Dropped x.dot why) (forget x m))
  -- or taken
  pub resumes : (x : OpValue) → In x m.waiting → is_ready m.have x ≡ true → misfit x m ≡ None
      → P (stepped (Taken x.dot) (take x (forget x m)))

smaller_in : (x : OpValue) (o : Option OpValue) (y : OpValue) → smaller_op x o ≡ y → (y ≡ x) ⊎ (o ≡ Some y)
smaller_in x None y e = inl (sym e)
smaller_in x (Some z) y e = at (dot_lt z.dot x.dot) e
  where
    at : (b : Bool) → (if b then z else x) ≡ y → (y ≡ x) ⊎ (Some z ≡ Some y)
    at true k = inr (ap (λ (w : OpValue). Some w) k)
    at false k = inl (sym k)

pub least_in : (ops : List OpValue) (y : OpValue) → least_op ops ≡ Some y → In y ops
least_in [] y e = absurd cc
least_in (x ∷ ops) y e =
    ⊎_elim (λ (k : y ≡ x). inl k) (λ (k : least_op ops ≡ Some y). inr (least_in ops y k))
    (smaller_in x (least_op ops) y (same_Some (smaller_op x (least_op ops)) y e))

module _ (m : Machine) (P : Stepped → Type 0) where
  of_request : (request : Request) (a : Aim) → aim request m ≡ a → Kinds m (Local request) P → P (aim_step a m)
  of_request request (Refuse reply) e k = k.stays reply
  of_request request (GiveUp p) e k = k.cancels request p refl e
  of_request request (Do a) e k = at a.held refl
    where
      at : (held : Option DotValue) → a.held ≡ held → P (attempt_step held a m)
      at (Some by_) f = k.stays _
      at None f =
          either P (is_past_limit a.room m) (stepped (Limit (made m) (undecided m)) m)
          (stepped (Made (next_dot m)) (perform a.body m)) (λ g. k.stays _) (λ g. k.makes request a refl e f g)

  of_op : (x : OpValue) → Kinds m (Take (AnOp x)) P → P (op_step x m)
  of_op x k =
      let is_sized : Bool = nat_eq (length x.deps) m.size in
      let is_again : Bool = is_had m.have x || waits x.dot m.waiting in
      let is_early : Bool = nat_lt (made m) (vector_get x.deps m.site) in
      let is_own : Bool = nat_eq x.dot.site m.site || is_early in
      let fit : Stepped = fit_step (misfit x m) x m in
      let late : Stepped = stepped Later (keep_waiting x m) in
      let ready : Stepped = if not (is_ready m.have x) then late else fit in
      let own : Stepped = if is_own then stepped (Unfit Own) m else ready in
      let again : Stepped = if is_again then stepped Repeat m else own in
      either P (not is_sized) (stepped (Unfit Size) m) again (λ e. k.stays _)
      (λ (sized : not is_sized ≡ false). either P is_again (stepped Repeat m) own (λ e. k.stays _)
      (λ (new : is_again ≡ false). either P is_own (stepped (Unfit Own) m) ready (λ f. k.stays _)
      (λ (other : is_own ≡ false).
      let foreign : IsForeign m x = record {
        other = eqb-false x.dot.site m.site (or_parts (nat_eq x.dot.site m.site) is_early other).0;
        sized = eqb-true (length x.deps) m.size (not-false is_sized sized);
        new = new;
      } in
      either P (not (is_ready m.have x)) late fit (λ f. k.delays x refl foreign (not-true (is_ready m.have x) f))
      (λ (f : not (is_ready m.have x) ≡ false). fitted (misfit x m) refl foreign (not-false (is_ready m.have x) f)))))
    where
      fitted : (why : Option Why) → misfit x m ≡ why → IsForeign m x → is_ready m.have x ≡ true → P (fit_step why x m)
      fitted (Some why) e foreign ready = k.stays _
      fitted None e foreign ready = k.takes x refl foreign ready e

  of_vote : (v : Vote) → Kinds m (Take (AVote v)) P → P (vote_step v m)
  of_vote v k =
      let is_far : Bool = nat_lt m.size v.proposal.site in
      let is_here : Bool = nat_eq v.proposal.site m.site in
      let found : Stepped = ballot_step (find (is_on v.proposal) m.ballots) v m in
      let here : Stepped = if not is_here then stepped (Unfit Address) m else found in
      either P (nat_lt m.size v.voter || is_far) (stepped (Unfit Size) m) here (λ e. k.stays _)
      (λ (near : (nat_lt m.size v.voter || is_far) ≡ false).
      either P (not is_here) (stepped (Unfit Address) m) found (λ e. k.stays _)
      (λ (own : not is_here ≡ false).
      balloted (find (is_on v.proposal) m.ballots) refl
      (ltb-false m.size v.voter (or_parts (nat_lt m.size v.voter) is_far near).0)
      (eqb-true v.proposal.site m.site (not-false is_here own))))
    where
      balloted : (o : Option Ballot) → find (is_on v.proposal) m.ballots ≡ o → v.voter ≤ m.size
          → v.proposal.site ≡ m.site
          → P (ballot_step o v m)
      balloted None e within own = k.stays _
      balloted (Some b) e within own =
          either P (is_counted v.voter b) (stepped Repeat m) (stepped New (count v b m)) (λ f. k.stays _)
          (λ f. k.counts v b refl e f within own)

  of_next : (o : Option OpValue) → next_ready m.have m.waiting ≡ o → Kinds m Next P → P (next_of o m)
  of_next None e k = k.stays _
  of_next (Some x) e k =
      let found = In-filter (is_ready m.have) x m.waiting (least_in (filter (is_ready m.have) m.waiting) x e) in
      at (misfit x m) refl found.0 found.1
    where
      at : (why : Option Why) → misfit x m ≡ why → In x m.waiting → is_ready m.have x ≡ true
          → P (waited why x (forget x m))
      at (Some why) f i ready = k.drops x why i ready
      at None f i ready = k.resumes x i ready f

  pub by_kinds : (input : Input) → Kinds m input P → P (step m input)
  by_kinds (Local request) k = of_request request (aim request m) refl k
  by_kinds (Take (AnOp x)) k = of_op x k
  by_kinds (Take (AVote v)) k = of_vote v k
  by_kinds Next k = of_next (next_ready m.have m.waiting) refl k
