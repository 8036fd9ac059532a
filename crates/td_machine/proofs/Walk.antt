-- Each step is built of parts.
use Rattle.std.proofs.Common.{◌≡◌, ◌+◌, ◌++◌, ℕ, List, [], ◌∷◌, Bool, true, false, not, if◌then◌else◌}
use Rattle.std.proofs.Common.{nat_eq, length, Option, Some, None, refl, ap, ◌∙◌, subst}
use Rattle.std.proofs.lemmas.Bool.{or_parts, eqb-true, ltb-false}
use Rattle.std.specs.List.{find, list_any}
use Rattle.std.specs.Option.{is_some}
use Rattle.td_base.specs.Value.{DotValue}
use Rattle.td_base.specs.declared.dot.TheConstants.{MAX_SEQ}
use Rattle.td_base.specs.Lists.{In}
use Rattle.td_base.proofs.Lists.{In-filter}
use Rattle.td_path.specs.declared.slot.Slot.{Slot}
use Rattle.td_op.specs.declared.body.Body.{Body}
use Rattle.td_op.specs.declared.body.Body.TheVariants.{Insert, Delete, Propose, Commit, Abort}
use Rattle.td_op.specs.declared.input.Input.{Input}
use Rattle.td_op.specs.declared.input.Input.TheVariants.{Local, Take}
use Rattle.td_op.specs.declared.message.Message.{Message}
use Rattle.td_op.specs.declared.message.Message.TheVariants.{Op as AnOp, Vote as AVote}
use Rattle.td_op.specs.declared.request.Request.{Request}
use Rattle.td_op.specs.declared.vote.Vote.{Vote}
use Rattle.td_op.specs.Op.{OpValue}
use Rattle.td_op.specs.Input.{IsInput}
use Rattle.td_machine.specs.Ready.{is_dot_of}
use Rattle.td_machine.specs.Log.{proposed}
use Rattle.td_machine.specs.Decision.{is_on, is_open, counted, outcome, revise, new_ballot}
use Rattle.td_machine.specs.Machine.{Machine, made, undecided, next_dot, next_op}
use Rattle.td_machine.specs.Making.{done, decide}
use Rattle.td_machine.specs.Taking.{Stepped, answer, body_misfit, misfit, vote_on, take_as, count, forget}
use Rattle.td_machine.specs.Request.{Aim, Do, GiveUp, aim, perform}
use Rattle.td_machine.specs.Step.{step}
use Rattle.td_base.proofs.Elements.{one_more}
use Rattle.td_machine.specs.Parts.{MayMake, IsOpenAt, IsOffered, IsFit, IsCounting, Part, Makes, Proposes, Counts}
use Rattle.td_machine.specs.Parts.{Takes, Agrees, Declines, Delays, Forgets, IsBuilt, Goes, proposed_here}
use Rattle.td_machine.proofs.Parts.{by_parts}
use Rattle.td_machine.proofs.Aims.{FitsAim, aimed}
use Rattle.td_machine.proofs.StepKinds.{IsForeign, by_kinds}
use Rattle.td_base.proofs.Equals.{same_dot_refl}
use Rattle.td_machine.proofs.Ballots.{counted_same, found_counted}
use Rattle.td_machine.proofs.Waiting.{In-put_waiting}

-- what it names is here or not, whatever waits
misfit_same : (x y : OpValue) (m : Machine) → misfit x (forget y m) ≡ misfit x m
misfit_same x y m = at x.body
  where
    at : (body : Body) → body_misfit x.dot.site body (forget y m) ≡ body_misfit x.dot.site body m
    at (Insert slot run) = refl
    at (Delete target) = refl
    at (Propose slot) = refl
    at (Commit p) = refl
    at (Abort p) = refl

-- what each part keeps, a step keeps
module _ (Came : Message → Type 0) (P : Machine → Type 0) (goes : (m n : Machine) → Part Came m n → P m → P n) where
  -- the decision that is due
  due : (p : DotValue) (says : Bool) (m : Machine) (o : IsOpenAt p m) → P m
      → P (decide p (outcome m.size says o.ballot) m)
  due p false m o h = goes _ _ (Makes (Abort p) refl o) h
  due p true m o h = at (nat_eq (length o.ballot.yes) m.size) refl
    where
      at : (t : Bool) → nat_eq (length o.ballot.yes) m.size ≡ t → P (decide p (if t then Some true else None) m)
      at true e =
          goes _ _ (Makes (Commit p) refl (record { opened = o; all = eqb-true (length o.ballot.yes) m.size e })) h
      at false e = h

  performed : (body : Body) (m : Machine) → MayMake body m → P m → P (perform body m)
  performed (Insert slot run) m may h = goes _ _ (Makes (Insert slot run) refl may) h
  performed (Delete target) m may h = goes _ _ (Makes (Delete target) refl may) h
  performed (Commit p) m may h = goes _ _ (Makes (Commit p) refl may) h
  performed (Abort p) m may h = goes _ _ (Makes (Abort p) refl may) h
  performed (Propose slot) m may h =
      let p : DotValue = next_dot m in
      due p true (proposed_here slot m)
      (record {
        ballot = new_ballot p;
        found = ap (λ (t : Bool). if t then Some (new_ballot p) else find (is_on p) m.ballots) (same_dot_refl p);
        open_ = refl;
      })
      (goes _ _ (Proposes slot may) h)

  took : (o : Option Slot) (x : OpValue) (m : Machine) → proposed x.body ≡ o → IsFit Came m x → P m → P (take_as o x m)
  took None x m e fit h = goes _ _ (Takes x e fit) h
  took (Some slot) x m e fit h = at (vote_on x slot m) refl
    where
      at : (says : Bool) → vote_on x slot m ≡ says → P (answer x.dot slot says (done x m))
      at true k = goes _ _ (Agrees x slot e fit k) h
      at false k = goes _ _ (Declines x slot e fit k) h

  vote_counted : (v : Vote) (m : Machine) (k : IsCounting Came v m) → P m → P (count v k.ballot m)
  vote_counted v m k h =
      let is_old : Bool = list_any (nat_eq v.voter) k.ballot.yes in
      let open_ : is_open k.ballot ≡ true = ap not (or_parts (is_some k.ballot.decision) is_old k.new).0 in
      due v.proposal v.yes (record m { ballots = revise v.proposal (counted v.voter v.yes) m.ballots })
      (record {
        ballot = counted v.voter v.yes k.ballot;
        found = found_counted v.proposal v.voter v.yes k.ballot m.ballots k.found;
        open_ = (counted_same v.voter v.yes k.ballot).1 ∙ open_;
      })
      (goes _ _ (Counts v k) h)

  pub walk : (m : Machine) (input : Input) → IsInput input → ((message : Message) → input ≡ Take message → Came message)
      → ((x : OpValue) → In x m.waiting → IsOffered Came m.site m.size x) → P m → P (step m input).machine
  walk m input valid came old h =
      by_kinds m (λ (s : Stepped). P s.machine) input
      (record {
        stays = λ reply. h;
        makes = λ request a e is free room.
            performed a.body m
            (fits request (Do a) e is free (ltb-false MAX_SEQ (made m + undecided m + a.room) room)) h;
        cancels = λ request p e is. goes _ _ (Makes (Abort p) refl (fits request (GiveUp p) e is)) h;
        delays = λ x e foreign late. goes _ _ (Delays x (offer x e foreign) foreign.new late) h;
        takes = λ x e foreign ready fit.
            took (proposed x.body) x m refl (record { offered = offer x e foreign; ready = ready; fit = fit }) h;
        counts = λ v b e found new within own.
            vote_counted v m
            (record {
              valid = subst (λ (i : Input). IsInput i) e valid;
              came = came (AVote v) e;
              ballot = b;
              found = found;
              new = new;
              within = within;
              own = own;
            })
            h;
        drops = λ x why i ready. goes _ _ (Forgets x i ready) h;
        resumes = λ x i ready fit.
            took (proposed x.body) x (forget x m) refl
            (record { offered = old x i; ready = ready; fit = misfit_same x x m ∙ fit })
            (goes _ _ (Forgets x i ready) h);
      })
    where
      fits : (request : Request) (a : Aim) → input ≡ Local request → aim request m ≡ a → FitsAim m a
      fits request a e is = subst (FitsAim m) is (aimed request m (subst (λ (i : Input). IsInput i) e valid))

      offer : (x : OpValue) → input ≡ Take (AnOp x) → IsForeign m x → IsOffered Came m.site m.size x
      offer x e foreign =
          record {
            valid = subst (λ (i : Input). IsInput i) e valid;
            came = came (AnOp x) e;
            other = foreign.other;
            sized = foreign.sized;
          }

module _ {Came : Message → Type 0} {site size : ℕ} where
  -- what waits was offered
  pub offered : (m : Machine) → IsBuilt Came site size m → (x : OpValue) → In x m.waiting
      → IsOffered Came m.site m.size x
  offered =
      by_parts (λ (m : Machine). (x : OpValue) → In x m.waiting → IsOffered Came m.site m.size x)
      (λ some within x i. absurd i) keeps
    where
      keeps : (m n : Machine) → IsBuilt Came site size m → Part Came m n
          → ((x : OpValue) → In x m.waiting → IsOffered Came m.site m.size x)
          → (x : OpValue) → In x n.waiting → IsOffered Came n.site n.size x
      keeps m n b (Delays y o new late) h =
          λ x i. one_more (IsOffered Came m.site m.size) y m.waiting o h x (In-put_waiting y m.waiting x i)
      keeps m n b (Forgets y i ready) h =
          λ x j. h x (In-filter (λ (z : OpValue). not (is_dot_of y.dot z)) x m.waiting j).0
      keeps m n b part h = h

  pub built_step : (m : Machine) (input : Input) → IsInput input
      → ((message : Message) → input ≡ Take message → Came message)
      → IsBuilt Came site size m → IsBuilt Came site size (step m input).machine
  built_step m input valid came b =
      walk Came (λ (n : Machine). IsBuilt Came site size n) (λ k n part h. Goes h part) m input valid came
      (offered m b) b

  -- a step only adds to the log
  pub step_grows : (m : Machine) (input : Input) → IsInput input
      → ((message : Message) → input ≡ Take message → Came message)
      → IsBuilt Came site size m → (newer : List OpValue) × ((step m input).machine.log ≡ newer ++ m.log)
  step_grows m input valid came b =
      walk Came (λ (n : Machine). (newer : List OpValue) × (n.log ≡ newer ++ m.log)) grows m input valid came
      (offered m b)
      ([], refl)
    where
      grows : (k n : Machine) → Part Came k n → (newer : List OpValue) × (k.log ≡ newer ++ m.log)
          → (newer : List OpValue) × (n.log ≡ newer ++ m.log)
      grows k n (Makes body e may) h = (next_op k body ∷ h.0, ap (λ (log : List OpValue). next_op k body ∷ log) h.1)
      grows k n (Proposes slot may) h =
          (next_op k (Propose slot) ∷ h.0, ap (λ (log : List OpValue). next_op k (Propose slot) ∷ log) h.1)
      grows k n (Takes x e fit) h = (x ∷ h.0, ap (λ (log : List OpValue). x ∷ log) h.1)
      grows k n (Agrees x slot e fit says) h = (x ∷ h.0, ap (λ (log : List OpValue). x ∷ log) h.1)
      grows k n (Declines x slot e fit says) h = (x ∷ h.0, ap (λ (log : List OpValue). x ∷ log) h.1)
      grows k n part h = h
