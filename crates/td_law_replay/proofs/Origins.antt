-- Where what a machine has came from: what a step adds to the log and to what waits.
use Rattle.std.proofs.Common.{◌≡◌, ◌⊎◌, ◌≤◌, ◌+◌, ◌++◌, ◌||◌, List, ◌∷◌, ℕ, Bool, true, false, not}
use Rattle.std.proofs.Common.{if◌then◌else◌, nat_eq, nat_lt, length, Option, Some, None, refl, sym}
use Rattle.std.proofs.Common.{ap, ◌∙◌, subst, inl, inr, ⊎_elim, arith}
use Rattle.std.proofs.lemmas.Bool.{ltb-false, leb-true}
use Rattle.std.proofs.lemmas.List.{length-append}
use Rattle.std.proofs.lemmas.List.Elements.{filter-append}
use Rattle.std.specs.List.{find}
use Rattle.td_base.specs.Value.{DotValue}
use Rattle.td_base.specs.Equality.{same_dot}
use Rattle.td_base.specs.Lists.{In}
use Rattle.td_base.proofs.Lists.{any_found, In-filter}
use Rattle.td_base.proofs.Equals.{same_dot_true}
use Rattle.td_clock.specs.Vector.{vector_get}
use Rattle.td_op.specs.declared.body.Body.{Body}
use Rattle.td_op.specs.declared.body.Body.TheVariants.{Insert as InsertIn, Delete as DeleteOf}
use Rattle.td_op.specs.declared.body.Body.TheVariants.{Propose as ProposeOf, Commit, Abort}
use Rattle.td_op.specs.declared.input.Input.{Input}
use Rattle.td_op.specs.declared.input.Input.TheVariants.{Take}
use Rattle.td_op.specs.declared.message.Message.TheVariants.{Op as AnOp, Vote as AVote}
use Rattle.td_op.specs.declared.vote.Vote.{Vote}
use Rattle.td_op.specs.declared.reply.Reply.TheVariants.{Unfit, Taken}
use Rattle.td_op.specs.declared.reply.Why.{Why}
use Rattle.td_op.specs.declared.reply.Why.TheVariants.{Size, Address}
use Rattle.td_op.specs.Op.{OpValue}
use Rattle.td_op.specs.Input.{IsInput}
use Rattle.td_machine.specs.Counts.{ops_of}
use Rattle.td_machine.specs.Ready.{is_had, is_ready, next_ready, is_dot_of, waits}
use Rattle.td_machine.specs.Decision.{Ballot, is_on, outcome, new_ballot, counted as counted_vote, revise}
use Rattle.td_machine.specs.Machine.{Machine, made, next_dot}
use Rattle.td_machine.specs.Making.{make, decide, hold, open_ballot}
use Rattle.td_machine.specs.Taking.{Stepped, stepped, misfit, take, forget, waited, ballot_step}
use Rattle.td_machine.specs.Request.{perform}
use Rattle.td_machine.specs.Step.{step}
use Rattle.td_machine.specs.History.{IsReached}
use Rattle.td_machine.proofs.Waiting.{In-put_waiting}
use Rattle.td_machine.proofs.Turns.{placed}
use Rattle.td_machine.proofs.Induction.{built_of, reached_step}
use Rattle.td_machine.proofs.Reached.{counted_of, ballots_of}
use Rattle.td_machine.proofs.Ballots.{find_ballot}
use Rattle.td_law_replay.specs.Judging.{take_waiting, take_waiting_as}
use Rattle.td_law_replay.specs.Replies.{NotUnfit}
use Rattle.td_law_replay.proofs.Ways.{by_ways}
use Rattle.td_law_replay.proofs.Outlined.{decide_with, perform_with, take_keeps, offered_to}
use Rattle.td_law_replay.proofs.Matching.{take_parts}
use Rattle.td_law_replay.proofs.Telling.{More, more, same_site}

-- ---- the log

abbrev OwnOrOld : Machine → Machine → Type 0
OwnOrOld m n = (y : OpValue) → In y n.log → (y.dot.site ≡ m.site) ⊎ In y m.log

own_make : (body : Body) (m : Machine) → OwnOrOld m (make body m)
own_make body m y (inl e) = inl (ap (λ (z : OpValue). z.dot.site) e)
own_make body m y (inr i) = inr i

own_decide : (p : DotValue) (o : Option Bool) (m n : Machine) → n.log ≡ m.log → n.site ≡ m.site
    → OwnOrOld m (decide p o n)
own_decide p None m n log site y i = inr (subst (λ (l : List OpValue). In y l) log i)
own_decide p (Some true) m n log site y (inl e) = inl (ap (λ (z : OpValue). z.dot.site) e ∙ site)
own_decide p (Some true) m n log site y (inr i) = inr (subst (λ (l : List OpValue). In y l) log i)
own_decide p (Some false) m n log site y (inl e) = inl (ap (λ (z : OpValue). z.dot.site) e ∙ site)
own_decide p (Some false) m n log site y (inr i) = inr (subst (λ (l : List OpValue). In y l) log i)

own_perform : (body : Body) (m : Machine) → OwnOrOld m (perform body m)
own_perform (InsertIn slot run) m = λ y i. own_make (InsertIn slot run) m y i
own_perform (DeleteOf x) m = λ y i. own_make (DeleteOf x) m y i
own_perform (Commit p) m = λ y i. own_make (Commit p) m y i
own_perform (Abort p) m = λ y i. own_make (Abort p) m y i
own_perform (ProposeOf slot) m =
    λ y i.
    ⊎_elim (λ (e : y.dot.site ≡ m.site). inl e)
    (λ (j : In y (make (ProposeOf slot) m).log). own_make (ProposeOf slot) m y j)
    (own_decide (next_dot m) (outcome m.size true (new_ballot (next_dot m))) (make (ProposeOf slot) m)
    (open_ballot (next_dot m) (hold (next_dot m) slot (make (ProposeOf slot) m))) refl refl y i)

-- what a step has that is of another site, and what waits then, was there, or comes
pub record Origin (m : Machine) (input : Input) (n : Machine) : Type 0 where
  pub log : (y : OpValue) → In y n.log
      → (y.dot.site ≡ m.site) ⊎ ((In y m.log ⊎ In y m.waiting) ⊎ (input ≡ Take (AnOp y)))
  pub waiting : (y : OpValue) → In y n.waiting → In y m.waiting ⊎ (input ≡ Take (AnOp y))

origin_own : (m : Machine) (input : Input) (n : Machine) → OwnOrOld m n → n.waiting ≡ m.waiting → Origin m input n
origin_own m input n own waiting =
    record {
      log =
          λ y i.
          ⊎_elim (λ (e : y.dot.site ≡ m.site). inl e) (λ (j : In y m.log). inr (inl (inl j))) (own y i);
      waiting = λ y i. inl (subst (λ (l : List OpValue). In y l) waiting i);
    }

origin_take : (m : Machine) (input : Input) (x : OpValue) (n : Machine) → n.log ≡ m.log
    → ((y : OpValue) → In y n.waiting → In y m.waiting)
    → (In x m.waiting ⊎ (input ≡ Take (AnOp x))) → Origin m input (take x n)
origin_take m input x n log waiting from =
    record {
      log = λ y i. at y (subst (λ (l : List OpValue). In y l) (take_parts x n).4 i);
      waiting = λ y i. inl (waiting y (subst (λ (l : List OpValue). In y l) (take_keeps x n) i));
    }
  where
    at : (y : OpValue) → In y (x ∷ n.log)
        → (y.dot.site ≡ m.site) ⊎ ((In y m.log ⊎ In y m.waiting) ⊎ (input ≡ Take (AnOp y)))
    at y (inl e) =
        ⊎_elim (λ (j : In x m.waiting). inr (inl (inr (subst (λ (z : OpValue). In z m.waiting) (sym e) j))))
        (λ (k : input ≡ Take (AnOp x)). inr (inr (k ∙ ap (λ (z : OpValue). Take (AnOp z)) (sym e)))) from
    at y (inr i) = inr (inl (inl (subst (λ (l : List OpValue). In y l) log i)))

pub origin : (m : Machine) (input : Input) → Origin m input (step m input).machine
origin m input =
    by_ways m (λ (s : Stepped). Origin m input s.machine) input
    (record {
      stays = λ reply q. origin_own m input m (λ y i. inr i) refl;
      makes =
          λ request a e f held room.
          origin_own m input (perform a.body m) (own_perform a.body m)
          (ap (λ (n : Machine). n.waiting) (perform_with a.body m.waiting m));
      cancels =
          λ request p e f.
          origin_own m input (decide p (Some false) m) (own_decide p (Some false) m m refl refl)
          (ap (λ (n : Machine). n.waiting) (decide_with p (Some false) m.waiting m));
      delays =
          λ x e foreign late.
          record {
            log = λ y i. inr (inl (inl i));
            waiting =
                λ y i.
                ⊎_elim (λ (k : y ≡ x). inr (e ∙ ap (λ (z : OpValue). Take (AnOp z)) (sym k)))
                (λ (j : In y m.waiting). inl j) (In-put_waiting x m.waiting y i);
          };
      takes = λ x e foreign ready fits. origin_take m input x m refl (λ y i. i) (inr e);
      counts =
          λ v b e f g far here.
          let n : Machine = record m { ballots = revise v.proposal (counted_vote v.voter v.yes) m.ballots } in
          let o : Option Bool = outcome m.size v.yes (counted_vote v.voter v.yes b) in
          origin_own m input (decide v.proposal o n) (own_decide v.proposal o m n refl refl)
          (ap (λ (k : Machine). k.waiting) (decide_with v.proposal o m.waiting n));
      drops =
          λ x why e i ready.
          record {
            log = λ y j. inr (inl (inl j));
            waiting = λ y j. inl (In-filter (λ (z : OpValue). not (is_dot_of x.dot z)) y m.waiting j).0;
          };
      resumes =
          λ x e i ready fits.
          origin_take m input x (forget x m) refl
          (λ y j. (In-filter (λ (z : OpValue). not (is_dot_of x.dot z)) y m.waiting j).0) (inl i);
    })

-- a log keeps what it has
log_decide : (x : OpValue) (p : DotValue) (o : Option Bool) (n : Machine) → In x n.log → In x (decide p o n).log
log_decide x p None n i = i
log_decide x p (Some true) n i = inr i
log_decide x p (Some false) n i = inr i

log_perform : (x : OpValue) (body : Body) (m : Machine) → In x m.log → In x (perform body m).log
log_perform x (InsertIn slot run) m i = inr i
log_perform x (DeleteOf y) m i = inr i
log_perform x (Commit p) m i = inr i
log_perform x (Abort p) m i = inr i
log_perform x (ProposeOf slot) m i =
    log_decide x (next_dot m) (outcome m.size true (new_ballot (next_dot m)))
    (open_ballot (next_dot m) (hold (next_dot m) slot (make (ProposeOf slot) m))) (inr i)

log_take : (x y : OpValue) (n : Machine) → In x n.log → In x (take y n).log
log_take x y n i = subst (λ (l : List OpValue). In x l) (sym (take_parts y n).4) (inr i)

pub log_step : (m : Machine) (input : Input) (x : OpValue) → In x m.log → In x (step m input).machine.log
log_step m input x i =
    by_ways m (λ (s : Stepped). In x s.machine.log) input
    (record {
      stays = λ reply q. i;
      makes = λ request a e f held room. log_perform x a.body m i;
      cancels = λ request p e f. inr i;
      delays = λ y e foreign late. i;
      takes = λ y e foreign ready fits. log_take x y m i;
      counts =
          λ v b e f g far here.
          log_decide x v.proposal (outcome m.size v.yes (counted_vote v.voter v.yes b))
          (record m { ballots = revise v.proposal (counted_vote v.voter v.yes) m.ballots }) i;
      drops = λ y why e j ready. i;
      resumes = λ y e j ready fits. log_take x y (forget y m) i;
    })

pub log_resumed : (m : Machine) (y x : OpValue) → In x m.log → In x (take_waiting y m).machine.log
log_resumed m y x i = at (next_ready m.have m.waiting)
  where
    fitted : (why : Option Why) → In x (waited why y (forget y m)).machine.log
    fitted (Some why) = i
    fitted None = log_take x y (forget y m) i

    at : (o : Option OpValue) → In x (take_waiting_as o y m).machine.log
    at None = i
    at (Some z) = same (same_dot z.dot y.dot)
      where
        same : (b : Bool)
            → In x (if b then waited (misfit y m) y (forget y m) else stepped (Taken z.dot) m).machine.log
        same true = fitted (misfit y m)
        same false = i

-- ---- numbers

pub made_up : (m : Machine) (input : Input) → IsReached m → IsInput input → made m ≤ made (step m input).machine
made_up m input r valid =
    let n : Machine = (step m input).machine in
    let q : IsReached n = reached_step m input r valid in
    let same = same_site m input r valid in
    let p = placed m (built_of m r).built in
    let a : More m n = more m input r in
    let old : made m ≡ length (ops_of m.site m.log) = counted_of m r m.site p.0 p.1 in
    let new : vector_get n.have m.site ≡ length (ops_of m.site n.log) =
    counted_of n q m.site p.0 (subst (λ (k : ℕ). m.site ≤ k) (sym same.1) p.1) in
    let there : made n ≡ vector_get n.have m.site = ap (λ (k : ℕ). vector_get n.have k) same.0 in
    let parts : length (ops_of m.site n.log) ≡ length (ops_of m.site a.ops) + length (ops_of m.site m.log) =
    ap (λ (l : List OpValue). length (ops_of m.site l)) a.is ∙ both m.site a.ops m.log in
    omega (arith, old, new, there, parts)
  where
    both : (s : ℕ) (xs ys : List OpValue)
        → length (ops_of s (xs ++ ys)) ≡ length (ops_of s xs) + length (ops_of s ys)
    both s xs ys =
        ap (λ (l : List OpValue). length l) (filter-append (λ (x : OpValue). nat_eq x.dot.site s) xs ys)
        ∙ length-append (ops_of s xs) (ops_of s ys)

-- a vote that is not unfit is on a proposal that was made
pub vote_had : (m : Machine) (v : Vote) → IsReached m → NotUnfit (step m (Take (AVote v))).reply
    → v.proposal.site ≡ m.site → v.proposal.seq ≤ made m
vote_had m v r f here =
    at (nat_lt m.size v.voter || nat_lt m.size v.proposal.site) (not (nat_eq v.proposal.site m.site)) f
  where
    found : (o : Option Ballot) → find (is_on v.proposal) m.ballots ≡ o → NotUnfit (ballot_step o v m).reply
        → v.proposal.seq ≤ made m
    found None e g = absurd g
    found (Some b) e g =
        let k = find_ballot v.proposal m.ballots b e in
        let o = ballots_of m r b k.0 in
        let low : b.proposal.seq ≤ vector_get m.have b.proposal.site =
        leb-true b.proposal.seq (vector_get m.have b.proposal.site) o.1 in
        let there : vector_get m.have b.proposal.site ≡ made m = ap (λ (s : ℕ). vector_get m.have s) o.0 in
        let seq : b.proposal.seq ≡ v.proposal.seq = ap (λ (d : DotValue). d.seq) k.1 in
        omega (arith, low, there, seq)

    at : (far other : Bool)
        → NotUnfit (if far then stepped (Unfit Size) m
        else (if other then stepped (Unfit Address) m
        else ballot_step (find (is_on v.proposal) m.ballots) v m)).reply
        → v.proposal.seq ≤ made m
    at true other g = absurd g
    at false true g = absurd g
    at false false g = found (find (is_on v.proposal) m.ballots) refl g

-- what is known of an operation that is neither unfit nor ready
pub data Standing (x : OpValue) (m : Machine) : Type 0 where
  Had : is_had m.have x ≡ true → Standing x m
  Held : waits x.dot m.waiting ≡ true → Standing x m
  Low : vector_get x.deps m.site ≤ made m → Standing x m

pub stands : (x : OpValue) (m : Machine) → NotUnfit (step m (Take (AnOp x))).reply → Standing x m
stands x m =
    at (nat_eq (length x.deps) m.size) (is_had m.have x) (waits x.dot m.waiting) (nat_eq x.dot.site m.site)
    (nat_lt (made m) (vector_get x.deps m.site)) (is_ready m.have x) (misfit x m) refl refl refl
  where
    at : (sized had waiting own early ready : Bool) (why : Option Why) → is_had m.have x ≡ had
        → waits x.dot m.waiting ≡ waiting → nat_lt (made m) (vector_get x.deps m.site) ≡ early
        → NotUnfit (offered_to sized (had || waiting) (own || early) ready why x m).reply → Standing x m
    at false had waiting own early ready why e f g k = absurd k
    at true true waiting own early ready why e f g k = Had e
    at true false true own early ready why e f g k = Held f
    at true false false true early ready why e f g k = absurd k
    at true false false false true ready why e f g k = absurd k
    at true false false false false ready why e f g k = Low (ltb-false (made m) (vector_get x.deps m.site) g)

-- a dot that waits is that of an operation that waits
pub waits_in : (d : DotValue) (w : List OpValue) → waits d w ≡ true → (y : OpValue) × In y w × (y.dot ≡ d)
waits_in d w e = let r = any_found (is_dot_of d) w e in (r.0, r.1, same_dot_true r.0.dot d r.2)
