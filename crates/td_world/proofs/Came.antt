-- What a machine does with a message: it knows it from then on; and what it sends then are votes on proposals that it
-- takes, and decisions of its own that votes bring.
use Rattle.std.proofs.Common.{◌≡◌, ◌≢◌, ◌⊎◌, ◌++◌, ◌||◌, ℕ, List, [], ◌∷◌, Bool, true, false, not}
use Rattle.std.proofs.Common.{if◌then◌else◌, nat_eq, nat_lt, length, drop, Option, Some, None}
use Rattle.std.proofs.Common.{refl, sym, ap, ◌∙◌, subst, inl, inr, ⊎_elim}
use Rattle.std.proofs.lemmas.Bool.{eqb-true, eqb-false, eq-eqb, and_parts, or_parts, not-false, not-true}
use Rattle.std.proofs.Math.Seq.{drop-append_seam, drop-length}
use Rattle.std.specs.List.{find, list_any}
use Rattle.std.specs.Option.{is_some}
use Rattle.td_base.specs.Value.{DotValue}
use Rattle.td_base.specs.Lists.{In}
use Rattle.td_base.specs.Order.{dot_lt}
use Rattle.td_base.proofs.Elements.{either}
use Rattle.td_base.proofs.Equals.{same_dot_refl}
use Rattle.td_clock.specs.Vector.{vector_get, vector_covers}
use Rattle.td_path.specs.declared.slot.Slot.{Slot}
use Rattle.td_op.specs.declared.body.Body.TheVariants.{Propose, Commit, Abort}
use Rattle.td_op.specs.declared.input.Input.{Input}
use Rattle.td_op.specs.declared.input.Input.TheVariants.{Local, Take}
use Rattle.td_op.specs.declared.message.Message.{Message}
use Rattle.td_op.specs.declared.message.Message.TheVariants.{Op as AnOp, Vote as AVote}
use Rattle.td_op.specs.declared.reply.Reply.TheVariants.{New, Later, Repeat, Unfit}
use Rattle.td_op.specs.declared.reply.Why.{Why}
use Rattle.td_op.specs.declared.reply.Why.TheVariants.{Size, Own, Address, Proposal}
use Rattle.td_op.specs.declared.request.Request.{Request}
use Rattle.td_op.specs.declared.vote.Vote.{Vote}
use Rattle.td_op.specs.Input.{IsInput}
use Rattle.td_op.specs.Op.{OpValue}
use Rattle.td_machine.specs.Decision.{Ballot, is_on, is_counted, counted, outcome, revise}
use Rattle.td_machine.specs.History.{IsReached}
use Rattle.td_machine.specs.Log.{proposed}
use Rattle.td_machine.specs.Machine.{Machine, made, next_op}
use Rattle.td_machine.specs.Making.{done, make, decide}
use Rattle.td_machine.specs.Ready.{is_had, is_ready, waits, is_dot_of, put_waiting}
use Rattle.td_machine.specs.Step.{step}
use Rattle.td_machine.specs.Taking.{Stepped, stepped, misfit, answer, vote_on, take_as, take, keep_waiting}
use Rattle.td_machine.specs.Taking.{forget, fit_step, op_step, vote_step, ballot_step, count}
use Rattle.td_machine.proofs.Ballots.{found_counted}
use Rattle.td_machine.proofs.Induction.{built_of}
use Rattle.td_machine.proofs.Parts.{Other}
use Rattle.td_machine.proofs.StepKinds.{by_kinds}
use Rattle.td_machine.proofs.Turns.{comes_next}
use Rattle.td_law_replay.proofs.Matching.{take_parts}
use Rattle.td_replica.specs.Replica.{knows_message}
use Rattle.td_world.proofs.Known.{from_op, from_vote, IsPlaced}
use Rattle.td_world.proofs.Sending.{proposal_of}
use Rattle.td_world.proofs.Steps.{IsCountedIn, as_much, decide_more, found_closed, had_taken}

-- ---- what came is known

-- what is put among those that wait waits
put_there : (x : OpValue) (waiting : List OpValue) → waits x.dot (put_waiting x waiting) ≡ true
put_there x [] = ap (λ (b : Bool). b || false) (same_dot_refl x.dot)
put_there x (y ∷ waiting) = at (dot_lt y.dot x.dot) (put_there x waiting)
  where
    second : (b c : Bool) → c ≡ true → (b || c) ≡ true
    second true c e = refl
    second false c e = e

    at : (b : Bool) → waits x.dot (put_waiting x waiting) ≡ true
        → waits x.dot (if b then y ∷ put_waiting x waiting else x ∷ y ∷ waiting) ≡ true
    at true h = second (is_dot_of x.dot y) (waits x.dot (put_waiting x waiting)) h
    at false h = ap (λ (b : Bool). b || waits x.dot (y ∷ waiting)) (same_dot_refl x.dot)

-- a step that is not refused leads where the message is known
abbrev Knows : Message → Stepped → Type 0
Knows message s = ((why : Why) → s.reply ≡ Unfit why → ⊥) → knows_message message s.machine ≡ true

module _ (m : Machine) (r : IsReached m) where
  op_known : (x : OpValue) → IsInput (Take (AnOp x)) → Knows (AnOp x) (op_step x m)
  op_known x valid =
      let again : Bool = is_had m.have x || waits x.dot m.waiting in
      let early : Bool = nat_lt (made m) (vector_get x.deps m.site) in
      let own : Bool = nat_eq x.dot.site m.site || early in
      let fit : Stepped = fit_step (misfit x m) x m in
      let late : Stepped = stepped Later (keep_waiting x m) in
      let ready : Stepped = if not (is_ready m.have x) then late else fit in
      let mine : Stepped = if own then stepped (Unfit Own) m else ready in
      let rest : Stepped = if again then stepped Repeat m else mine in
      either (λ (s : Stepped). Knows (AnOp x) s) (not (nat_eq (length x.deps) m.size)) (stepped (Unfit Size) m) rest
      (λ e h. absurd (h Size refl))
      (λ (e : not (nat_eq (length x.deps) m.size) ≡ false).
      let sized : length x.deps ≡ m.size =
      eqb-true (length x.deps) m.size (not-false (nat_eq (length x.deps) m.size) e) in
      either (λ (s : Stepped). Knows (AnOp x) s) again (stepped Repeat m) mine
      (λ (f : again ≡ true) h. from_op x m sized f)
      (λ (f : again ≡ false).
      either (λ (s : Stepped). Knows (AnOp x) s) own (stepped (Unfit Own) m) ready
      (λ g h. absurd (h Own refl))
      (λ (g : own ≡ false).
      either (λ (s : Stepped). Knows (AnOp x) s) (not (is_ready m.have x)) late fit
      (λ k h.
      from_op x (keep_waiting x m) sized
      (second (is_had m.have x) (waits x.dot (put_waiting x m.waiting)) (put_there x m.waiting)))
      (λ (k : not (is_ready m.have x) ≡ false).
      fitted (misfit x m) refl sized (eqb-false x.dot.site m.site (or_parts (nat_eq x.dot.site m.site) early g).0)
      (not-false (is_ready m.have x) k)))))
    where
      second : (b c : Bool) → c ≡ true → (b || c) ≡ true
      second true c e = refl
      second false c e = e

      fitted : (why : Option Why) → misfit x m ≡ why → length x.deps ≡ m.size → x.dot.site ≢ m.site
          → is_ready m.have x ≡ true → Knows (AnOp x) (fit_step why x m)
      fitted (Some why) e sized other ready h = absurd (h why refl)
      fitted None e sized other ready h =
          let next = comes_next m (built_of m r).built x
          (Other x (record {
            offered = record { valid = valid; came = tt; other = other; sized = sized };
            ready = ready;
            fit = e;
          })) in
          from_op x (take x m) (sized ∙ sym (take_parts x m).3)
          (ap (λ (b : Bool). b || waits x.dot (take x m).waiting) (had_taken x m next))

  vote_known : (v : Vote) → Knows (AVote v) (vote_step v m)
  vote_known v =
      let far : Bool = nat_lt m.size v.voter || nat_lt m.size v.proposal.site in
      let found : Stepped = ballot_step (find (is_on v.proposal) m.ballots) v m in
      let here : Stepped = if not (nat_eq v.proposal.site m.site) then stepped (Unfit Address) m else found in
      either (λ (s : Stepped). Knows (AVote v) s) far (stepped (Unfit Size) m) here (λ e h. absurd (h Size refl))
      (λ (e : far ≡ false).
      either (λ (s : Stepped). Knows (AVote v) s) (not (nat_eq v.proposal.site m.site)) (stepped (Unfit Address) m)
      found
      (λ f h. absurd (h Address refl))
      (λ (f : not (nat_eq v.proposal.site m.site) ≡ false).
      balloted (find (is_on v.proposal) m.ballots) refl
      (record { near = e; own = not-false (nat_eq v.proposal.site m.site) f })))
    where
      balloted : (o : Option Ballot) → find (is_on v.proposal) m.ballots ≡ o → IsPlaced v m
          → Knows (AVote v) (ballot_step o v m)
      balloted None e p h = absurd (h Proposal refl)
      balloted (Some b) e p h =
          either (λ (s : Stepped). Knows (AVote v) s) (is_counted v.voter b) (stepped Repeat m)
          (stepped New (count v b m))
          (λ f k. from_vote v m p (record { ballot = b; found = e; counted = f })) (λ f k. both v.yes) h
        where
          there : (says : Bool) → find (is_on v.proposal) (revise v.proposal (counted v.voter says) m.ballots)
              ≡ Some (counted v.voter says b)
          there says = found_counted v.proposal v.voter says b m.ballots e

          known_from : (n : Machine) → n.site ≡ m.site → n.size ≡ m.size → IsCountedIn v.proposal v.voter n.ballots
              → knows_message (AVote v) n ≡ true
          known_from n site size k =
              from_vote v n
              (record {
                near = ap (λ (s : ℕ). nat_lt s v.voter || nat_lt s v.proposal.site) size ∙ p.near;
                own = ap (λ (s : ℕ). nat_eq v.proposal.site s) site ∙ p.own;
              })
              (record { ballot = k.0; found = k.1; counted = k.2 })

          both : (y : Bool) → knows_message (AVote v)
              (decide v.proposal (outcome m.size y (counted v.voter y b))
              (record m { ballots = revise v.proposal (counted v.voter y) m.ballots })) ≡ true
          both true =
              let n : Machine = record m { ballots = revise v.proposal (counted v.voter true) m.ballots } in
              let k = decide_more v.proposal (outcome m.size true (counted v.voter true b)) n n (as_much n) in
              known_from (decide v.proposal (outcome m.size true (counted v.voter true b)) n) k.site k.size
              (k.ballots v.proposal v.voter
              (counted v.voter true b, there true, second (is_some b.decision)))
            where
              second : (c : Bool) → (c || (nat_eq v.voter v.voter || list_any (λ (site : ℕ). nat_eq v.voter site)
                  b.yes)) ≡ true
              second true = refl
              second false =
                  ap (λ (t : Bool). t || list_any (λ (site : ℕ). nat_eq v.voter site) b.yes)
                  (eq-eqb v.voter v.voter refl)
          both false =
              let n : Machine = record m { ballots = revise v.proposal (counted v.voter false) m.ballots } in
              known_from (make (Abort v.proposal) n) refl refl
              (found_closed v.proposal v.voter false (counted v.voter false b)
              (revise v.proposal (counted v.voter false) m.ballots) (there false))

  -- a message that is not refused is known from then on
  pub came_known : (message : Message) → IsInput (Take message)
      → ((why : Why) → (step m (Take message)).reply ≡ Unfit why → ⊥)
      → knows_message message (step m (Take message)).machine ≡ true
  came_known (AnOp x) valid = op_known x valid
  came_known (AVote v) valid = vote_known v

-- ---- what a step sends that is no request

-- the vote on a proposal that was new, and is taken
pub record IsAnswer (m : Machine) (input : Input) (message : Message) : Type 0 where
  pub vote : Vote
  pub is : message ≡ AVote vote
  pub op : OpValue
  pub slot : Slot
  pub asks : op.body ≡ Propose slot
  pub new : is_had m.have op ≡ false
  pub from : (input ≡ Take (AnOp op)) ⊎ In op m.waiting

-- a decision that a vote brings
pub record IsVerdict (input : Input) (message : Message) : Type 0 where
  pub vote : Vote
  pub from : input ≡ Take (AVote vote)
  pub op : OpValue
  pub is : message ≡ AnOp op
  pub decides : proposed op.body ≡ None

abbrev pub IsNews : Machine → Input → Message → Type 0
IsNews m input message = IsAnswer m input message ⊎ IsVerdict input message

module _ (m : Machine) (input : Input) where
  abbrev AllNews : Machine → Type 0
  AllNews n = (message : Message) → In message (drop (length m.sent) n.sent) → IsNews m input message

  no_news : (n : Machine) → n.sent ≡ m.sent → AllNews n
  no_news n e message i =
      absurd (subst (λ (l : List Message). In message l)
      (ap (λ (l : List Message). drop (length m.sent) l) e ∙ drop-length m.sent) i)

  one_news : (n : Machine) (last : Message) → n.sent ≡ m.sent ++ last ∷ [] → IsNews m input last → AllNews n
  one_news n last e news message i =
      ⊎_elim
      (λ (k : message ≡ last). subst (λ (z : Message). IsNews m input z) (sym k) news)
      (λ (j : In message []). absurd j)
      (subst (λ (l : List Message). In message l)
      (ap (λ (l : List Message). drop (length m.sent) l) e ∙ drop-append_seam m.sent (last ∷ [])) i)

  decided_news : (v : Vote) → input ≡ Take (AVote v) → (p : DotValue) (o : Option Bool) (n : Machine) → n.sent ≡ m.sent
      → AllNews (decide p o n)
  decided_news v from p None n e = no_news n e
  decided_news v from p (Some true) n e =
      one_news (make (Commit p) n) (AnOp (next_op n (Commit p)))
      (ap (λ (l : List Message). l ++ AnOp (next_op n (Commit p)) ∷ []) e)
      (inr (record { vote = v; from = from; op = next_op n (Commit p); is = refl; decides = refl }))
  decided_news v from p (Some false) n e =
      one_news (make (Abort p) n) (AnOp (next_op n (Abort p)))
      (ap (λ (l : List Message). l ++ AnOp (next_op n (Abort p)) ∷ []) e)
      (inr (record { vote = v; from = from; op = next_op n (Abort p); is = refl; decides = refl }))

  taken_news : (x : OpValue) → is_had m.have x ≡ false → (input ≡ Take (AnOp x)) ⊎ In x m.waiting → (n : Machine)
      → n.sent ≡ m.sent → (o : Option Slot) → proposed x.body ≡ o → AllNews (take_as o x n)
  taken_news x new from n e None f = no_news (take_as None x n) e
  taken_news x new from n e (Some slot) f = at (vote_on x slot n)
    where
      news : (v : Vote) → IsNews m input (AVote v)
      news v =
          inl (record {
            vote = v;
            is = refl;
            op = x;
            slot = slot;
            asks = proposal_of slot x.body f;
            new = new;
            from = from;
          })

      at : (says : Bool) → AllNews (answer x.dot slot says (done x n))
      at true =
          one_news (answer x.dot slot true (done x n)) (AVote (record { proposal = x.dot; voter = n.site; yes = true }))
          (ap (λ (l : List Message). l ++ AVote (record { proposal = x.dot; voter = n.site; yes = true }) ∷ []) e)
          (news (record { proposal = x.dot; voter = n.site; yes = true }))
      at false =
          one_news (answer x.dot slot false (done x n)) (AVote
          (record { proposal = x.dot; voter = n.site; yes = false }))
          (ap (λ (l : List Message). l ++ AVote (record { proposal = x.dot; voter = n.site; yes = false }) ∷ []) e)
          (news (record { proposal = x.dot; voter = n.site; yes = false }))

  pub step_news : ((request : Request) → input ≡ Local request → ⊥) → AllNews (step m input).machine
  step_news other =
      by_kinds m (λ (s : Stepped). AllNews s.machine) input
      (record {
        stays = λ reply. no_news m refl;
        makes = λ request a e is free room. absurd (other request e);
        cancels = λ request p e is. absurd (other request e);
        delays = λ x e foreign late. no_news (keep_waiting x m) refl;
        takes = λ x e foreign ready fit.
            taken_news x (not_had x ready) (inl e) m refl (proposed x.body) refl;
        counts = λ v b e found new within own.
            decided_news v e v.proposal (outcome m.size v.yes (counted v.voter v.yes b))
            (record m { ballots = revise v.proposal (counted v.voter v.yes) m.ballots }) refl;
        drops = λ x why i ready. no_news (forget x m) refl;
        resumes = λ x i ready fit.
            taken_news x (not_had x ready) (inr i) (forget x m) refl (proposed x.body) refl;
      })
    where
      not_had : (x : OpValue) → is_ready m.have x ≡ true → is_had m.have x ≡ false
      not_had x ready =
          not-true (is_had m.have x) (and_parts (not (is_had m.have x)) (vector_covers m.have x.deps) ready).0
