-- What a step keeps: a message that is known stays known, until an operation that waited is dropped; and no step sends
-- more than two messages.
use Rattle.std.proofs.Common.{◌≡◌, ◌⊎◌, ◌≤◌, ◌+◌, ◌-◌, ◌++◌, ◌||◌, ℕ, zero, suc, List, [], ◌∷◌, Bool, true, false}
use Rattle.std.proofs.Common.{not, if◌then◌else◌, nat_eq, nat_le, nat_lt, get_or, set, length, Option, Some, None}
use Rattle.std.proofs.Common.{refl, sym, ap, ◌∙◌, subst, inl, inr, ⊎_elim, true≢false, arith}
use Rattle.std.proofs.lemmas.Bool.{leb-true, le-leb, and_from}
use Rattle.std.proofs.lemmas.List.{length-append}
use Rattle.std.specs.Prelude.{IsTrue}
use Rattle.std.specs.List.{find, list_any}
use Rattle.std.specs.Option.{is_some}
use Rattle.td_base.specs.Value.{DotValue}
use Rattle.td_base.specs.Equality.{same_dot}
use Rattle.td_base.specs.Order.{dot_lt}
use Rattle.td_base.proofs.Equals.{same_dot_true}
use Rattle.td_base.specs.Lists.{In}
use Rattle.td_base.proofs.Lists.{any_found, any_from, filter_In}
use Rattle.td_clock.specs.Vector.{vector_get, vector_has, vector_bump, vector_covers}
use Rattle.td_clock.proofs.VectorLemmas.{covers_itself, covers_along, covered_dots}
use Rattle.td_path.specs.declared.slot.Slot.{Slot}
use Rattle.td_op.specs.declared.body.Body.{Body}
use Rattle.td_op.specs.declared.body.Body.TheVariants.{Insert, Delete, Propose, Commit, Abort}
use Rattle.td_op.specs.declared.input.Input.{Input}
use Rattle.td_op.specs.declared.message.Message.{Message}
use Rattle.td_op.specs.declared.message.Message.TheVariants.{Op as AnOp, Vote as AVote}
use Rattle.td_op.specs.declared.vote.Vote.{Vote}
use Rattle.td_op.specs.Op.{OpValue}
use Rattle.td_machine.specs.Decision.{Ballot, is_on, is_counted, counted, outcome, revise, close, new_ballot}
use Rattle.td_machine.specs.Counts.{IsNext}
use Rattle.td_machine.specs.Log.{proposed}
use Rattle.td_machine.specs.Machine.{Machine, made, next_dot, next_op}
use Rattle.td_machine.specs.Making.{done, make, decide, ballots_after}
use Rattle.td_machine.specs.Ready.{is_had, is_ready, waits, is_dot_of, put_waiting, without}
use Rattle.td_machine.specs.Request.{perform}
use Rattle.td_machine.specs.Step.{step}
use Rattle.td_machine.specs.Taking.{Stepped, answer, vote_on, take_as, take, keep_waiting, forget, misfit, count}
use Rattle.td_machine.specs.History.{IsReached}
use Rattle.td_machine.specs.Parts.{Anything, IsBuilt, proposed_here}
use Rattle.td_machine.proofs.Induction.{built_of}
use Rattle.td_machine.proofs.Ballots.{find_ballot}
use Rattle.td_machine.proofs.OwnProposals.{polls}
use Rattle.td_machine.proofs.Parts.{Other}
use Rattle.td_machine.proofs.StepKinds.{by_kinds}
use Rattle.td_machine.proofs.Turns.{comes_next}
use Rattle.td_machine.proofs.Growing.{step_sends}
use Rattle.td_machine.proofs.Vectors.{bump_same}
use Rattle.td_machine.proofs.Walk.{offered}
use Rattle.td_law_replay.proofs.Matching.{take_parts}
use Rattle.td_replica.specs.Replica.{knows_message}
use Rattle.td_world.specs.Parts.{is_dropped}
use Rattle.td_world.proofs.Known.{repeat_op, repeat_vote, repeat_sized, repeat_fits, from_op, from_vote}

-- ---- vectors grow

bumped_covers : (v : List ℕ) (k : ℕ) → IsTrue (vector_covers (set v k (get_or v k 0 + 1)) v)
bumped_covers [] k = refl
bumped_covers (x ∷ v) zero =
    and_from (nat_le x (x + 1)) (vector_covers v v) (le-leb x (x + 1) (omega arith)) (covers_itself v)
bumped_covers (x ∷ v) (suc k) =
    and_from (nat_le x x) (vector_covers (set v k (get_or v k 0 + 1)) v) (le-leb x x (omega arith)) (bumped_covers v k)

-- ---- counted votes stay counted

abbrev pub IsCountedIn : DotValue → ℕ → List Ballot → Type 0
IsCountedIn p voter ballots = (b : Ballot) × (find (is_on p) ballots ≡ Some b) × (is_counted voter b ≡ true)

-- a change that keeps what is counted
record KeepsCounted (change : Ballot → Ballot) : Type 0 where
  same : (b : Ballot) → (change b).proposal ≡ b.proposal
  kept : (b : Ballot) (voter : ℕ) → is_counted voter b ≡ true → is_counted voter (change b) ≡ true

close_keeps : (commit : Bool) → KeepsCounted (close commit)
close_keeps commit = record { same = λ b. refl; kept = λ b voter e. refl }

counted_keeps : (voter : ℕ) (says : Bool) → KeepsCounted (counted voter says)
counted_keeps voter false = record { same = λ b. refl; kept = λ b k e. e }
counted_keeps voter true =
    record {
      same = λ b. refl;
      kept = λ b k e. more b k (is_some b.decision) (list_any (λ (site : ℕ). nat_eq k site) b.yes) e;
    }
  where
    more : (b : Ballot) (k : ℕ) (c d : Bool) → (c || d) ≡ true → (c || (nat_eq k voter || d)) ≡ true
    more b k true d e = refl
    more b k false d e = at (nat_eq k voter)
      where
        at : (t : Bool) → (t || d) ≡ true
        at true = refl
        at false = e

find_revised : (p q : DotValue) (change : Ballot → Ballot) → KeepsCounted change → (voter : ℕ) (ballots : List Ballot)
    → IsCountedIn p voter ballots → IsCountedIn p voter (revise q change ballots)
find_revised p q change keeps voter [] h = absurd (none_some h.0 h.1)
  where
    none_some : (b : Ballot) → ◌≡◌ {A = Option Ballot} None (Some b) → ⊥
    none_some b e = cc
find_revised p q change keeps voter (x ∷ ballots) (b, found, is_in) =
    at (is_on p x) refl found (λ e. find_revised p q change keeps voter ballots (b, e, is_in))
  where
    changed : Ballot
    changed = if is_on q x then change x else x

    same : changed.proposal ≡ x.proposal
    same = cases (is_on q x)
      where
        cases : (t : Bool) → (if t then change x else x).proposal ≡ x.proposal
        cases true = keeps.same x
        cases false = refl

    kept : is_counted voter x ≡ true → is_counted voter changed ≡ true
    kept e = cases (is_on q x)
      where
        cases : (t : Bool) → is_counted voter (if t then change x else x) ≡ true
        cases true = keeps.kept x voter e
        cases false = e

    at : (t : Bool) → is_on p x ≡ t → (if t then Some x else find (is_on p) ballots) ≡ Some b
        → (find (is_on p) ballots ≡ Some b → IsCountedIn p voter (revise q change ballots))
        → IsCountedIn p voter (changed ∷ revise q change ballots)
    at true e f ih =
        let on : is_on p changed ≡ true = ap (λ (d : DotValue). same_dot d p) same ∙ e in (
          changed,
          ap (λ (t : Bool). if t then Some changed else find (is_on p) (revise q change ballots)) on,
          kept (subst (λ (c : Ballot). is_counted voter c ≡ true) (sym (some_same x b f)) is_in),
        )
      where
        some_same : (c d : Ballot) → Some c ≡ Some d → c ≡ d
        some_same c d g = cc
    at false e f ih =
        let off : is_on p changed ≡ false = ap (λ (d : DotValue). same_dot d p) same ∙ e in
        let r = ih f in (
          r.0,
          ap (λ (t : Bool). if t then Some changed else find (is_on p) (revise q change ballots)) off ∙ r.1,
          r.2,
        )

-- on a ballot that is closed each vote is counted
pub found_closed : (p : DotValue) (voter : ℕ) (commit : Bool) (b : Ballot) (ballots : List Ballot)
    → find (is_on p) ballots ≡ Some b → IsCountedIn p voter (revise p (close commit) ballots)
found_closed p voter commit b [] f = absurd cc
found_closed p voter commit b (x ∷ ballots) f =
    at (is_on p x) refl f (λ k. found_closed p voter commit b ballots k)
  where
    at : (t : Bool) → is_on p x ≡ t → (if t then Some x else find (is_on p) ballots) ≡ Some b
        → (find (is_on p) ballots ≡ Some b → IsCountedIn p voter (revise p (close commit) ballots))
        → IsCountedIn p voter ((if t then close commit x else x) ∷ revise p (close commit) ballots)
    at true e k ih = (
      close commit x,
      ap (λ (t : Bool). if t then Some (close commit x) else find (is_on p) (revise p (close commit) ballots)) e,
      refl,
    )
    at false e k ih =
        let r = ih k in (
          r.0,
          ap (λ (t : Bool). if t then Some x else find (is_on p) (revise p (close commit) ballots)) e ∙ r.1,
          r.2,
        )

-- ---- one step after another

-- the second machine knows what the first one knew
pub record KnowsMore (m n : Machine) : Type 0 where
  pub site : n.site ≡ m.site
  pub size : n.size ≡ m.size
  pub have : IsTrue (vector_covers n.have m.have)
  pub waiting : (d : DotValue) → waits d m.waiting ≡ true
      → (waits d n.waiting ≡ true) ⊎ IsTrue (vector_has n.have d)
  pub ballots : (p : DotValue) (voter : ℕ) → IsCountedIn p voter m.ballots → IsCountedIn p voter n.ballots

pub as_much : (m : Machine) → KnowsMore m m
as_much m =
    record {
      site = refl;
      size = refl;
      have = covers_itself m.have;
      waiting = λ d e. inl e;
      ballots = λ p voter h. h;
    }

counted_after : (body : Body) (p : DotValue) (voter : ℕ) (ballots : List Ballot) → IsCountedIn p voter ballots
    → IsCountedIn p voter (ballots_after body ballots)
counted_after (Insert slot run) p voter ballots h = h
counted_after (Delete x) p voter ballots h = h
counted_after (Propose slot) p voter ballots h = h
counted_after (Commit q) p voter ballots h = find_revised p q (close true) (close_keeps true) voter ballots h
counted_after (Abort q) p voter ballots h = find_revised p q (close false) (close_keeps false) voter ballots h

made_more : (body : Body) (m n : Machine) → KnowsMore m n → KnowsMore m (make body n)
made_more body m n k =
    record {
      site = k.site;
      size = k.size;
      have = covers_along (vector_bump n.have n.site) n.have m.have (bumped_covers n.have (n.site - 1)) k.have;
      waiting = λ d e.
          ⊎_elim (λ (f : waits d n.waiting ≡ true). inl f)
          (λ (f : IsTrue (vector_has n.have d)).
          inr (covered_dots (vector_bump n.have n.site) n.have (bumped_covers n.have (n.site - 1)) d f))
          (k.waiting d e);
      ballots = λ p voter h. counted_after body p voter n.ballots (k.ballots p voter h);
    }

pub decide_more : (p : DotValue) (o : Option Bool) (m n : Machine) → KnowsMore m n → KnowsMore m (decide p o n)
decide_more p None m n k = k
decide_more p (Some true) m n k = made_more (Commit p) m n k
decide_more p (Some false) m n k = made_more (Abort p) m n k

-- a new ballot is on a new proposal
proposed_more : (slot : Slot) (m : Machine) → IsReached m → KnowsMore m (proposed_here slot m)
proposed_more slot m r =
    let k = made_more (Propose slot) m m (as_much m) in
    record {
      site = refl;
      size = refl;
      have = k.have;
      waiting = k.waiting;
      ballots = λ p voter h. opened p voter h (is_on p (new_ballot (next_dot m))) refl;
    }
  where
    not_new : (p : DotValue) (voter : ℕ) → IsCountedIn p voter m.ballots → next_dot m ≡ p → ⊥
    not_new p voter h e =
        let f = found_in m.ballots h.0 h.1 in
        let had : IsTrue (vector_has m.have (next_dot m)) =
        subst (λ (d : DotValue). IsTrue (vector_has m.have d)) (f.1 ∙ sym e)
        ((polls m (built_of m r).built).had h.0 f.0) in
        let less : made m + 1 ≤ made m = leb-true (made m + 1) (made m) had in
        omega (arith, less)
      where
        found_in : (ballots : List Ballot) (b : Ballot) → find (is_on p) ballots ≡ Some b
            → In b ballots × (b.proposal ≡ p)
        found_in ballots b g = find_ballot p ballots b g

    opened : (p : DotValue) (voter : ℕ) → IsCountedIn p voter m.ballots → (t : Bool)
        → is_on p (new_ballot (next_dot m)) ≡ t → IsCountedIn p voter (new_ballot (next_dot m) ∷ m.ballots)
    opened p voter h true e = absurd (not_new p voter h (same_dot_true (next_dot m) p e))
    opened p voter h false e = (
      h.0,
      ap (λ (t : Bool). if t then Some (new_ballot (next_dot m)) else find (is_on p) m.ballots) e ∙ h.1,
      h.2,
    )

performed_more : (body : Body) (m : Machine) → IsReached m → KnowsMore m (perform body m)
performed_more (Insert slot run) m r = made_more (Insert slot run) m m (as_much m)
performed_more (Delete x) m r = made_more (Delete x) m m (as_much m)
performed_more (Commit p) m r = made_more (Commit p) m m (as_much m)
performed_more (Abort p) m r = made_more (Abort p) m m (as_much m)
performed_more (Propose slot) m r =
    decide_more (next_dot m) (outcome m.size true (new_ballot (next_dot m))) m (proposed_here slot m)
    (proposed_more slot m r)

done_more : (x : OpValue) (m : Machine) → KnowsMore m (done x m)
done_more x m =
    record {
      site = refl;
      size = refl;
      have = bumped_covers m.have (x.dot.site - 1);
      waiting = λ d e. inl e;
      ballots = λ p voter h. counted_after x.body p voter m.ballots h;
    }

taken_more : (slot : Option Slot) (x : OpValue) (m : Machine) → KnowsMore m (take_as slot x m)
taken_more None x m = done_more x m
taken_more (Some slot) x m = at (vote_on x slot m)
  where
    at : (says : Bool) → KnowsMore m (answer x.dot slot says (done x m))
    at true =
        let k = done_more x m in
        record { site = k.site; size = k.size; have = k.have; waiting = k.waiting; ballots = k.ballots }
    at false =
        let k = done_more x m in
        record { site = k.site; size = k.size; have = k.have; waiting = k.waiting; ballots = k.ballots }

put_waits : (d : DotValue) (x : OpValue) (waiting : List OpValue) → waits d waiting ≡ true
    → waits d (put_waiting x waiting) ≡ true
put_waits d x [] e = absurd (true≢false (sym e))
put_waits d x (y ∷ waiting) e = at (dot_lt y.dot x.dot) e (λ f. put_waits d x waiting f)
  where
    at : (b : Bool) → (is_dot_of d y || waits d waiting) ≡ true
        → (waits d waiting ≡ true → waits d (put_waiting x waiting) ≡ true)
        → waits d (if b then y ∷ put_waiting x waiting else x ∷ y ∷ waiting) ≡ true
    at true f ih = first (is_dot_of d y) f ih
      where
        first : (c : Bool) → (c || waits d waiting) ≡ true
            → (waits d waiting ≡ true → waits d (put_waiting x waiting) ≡ true)
            → (c || waits d (put_waiting x waiting)) ≡ true
        first true g k = refl
        first false g k = k g
    at false f ih = first (is_dot_of d x)
      where
        first : (c : Bool) → (c || (is_dot_of d y || waits d waiting)) ≡ true
        first true = refl
        first false = f

delayed_more : (x : OpValue) (m : Machine) → KnowsMore m (keep_waiting x m)
delayed_more x m =
    record {
      site = refl;
      size = refl;
      have = covers_itself m.have;
      waiting = λ d e. inl (put_waits d x m.waiting e);
      ballots = λ p voter h. h;
    }

counts_more : (v : Vote) (b : Ballot) (m : Machine) → KnowsMore m (count v b m)
counts_more v b m =
    decide_more v.proposal (outcome m.size v.yes (counted v.voter v.yes b)) m
    (record m { ballots = revise v.proposal (counted v.voter v.yes) m.ballots })
    (record {
      site = refl;
      size = refl;
      have = covers_itself m.have;
      waiting = λ d e. inl e;
      ballots = λ p voter h.
          find_revised p v.proposal (counted v.voter v.yes) (counted_keeps v.voter v.yes) voter m.ballots h;
    })

-- what is taken is had
pub had_taken : (x : OpValue) (m : Machine) → IsNext m.have x → IsTrue (vector_has (take x m).have x.dot)
had_taken x m next =
    let number : x.dot.seq ≡ vector_get m.have x.dot.site + 1 = next.next in
    let now : vector_get (vector_bump m.have x.dot.site) x.dot.site ≡ vector_get m.have x.dot.site + 1 =
    bump_same m.have x.dot.site next.some next.within in
    subst (λ (v : List ℕ). IsTrue (vector_has v x.dot)) (sym (take_parts x m).0)
    (le-leb x.dot.seq (vector_get (vector_bump m.have x.dot.site) x.dot.site) (omega (arith, number, now)))

-- what waited and is taken is had
resumed_more : (x : OpValue) (m : Machine) → IsReached m → In x m.waiting → is_ready m.have x ≡ true
    → misfit x m ≡ None → KnowsMore m (take x (forget x m))
resumed_more x m r i ready fit =
    let k = taken_more (proposed x.body) x (forget x m) in
    record {
      site = k.site;
      size = k.size;
      have = k.have;
      waiting = λ d e.
          ⊎_elim (λ (f : waits d (without x.dot m.waiting) ≡ true). k.waiting d f)
          (λ (f : d ≡ x.dot). inr (subst (λ (z : DotValue). IsTrue (vector_has (take x (forget x m)).have z)) (sym f)
          had))
          (still d m.waiting e);
      ballots = k.ballots;
    }
  where
    built : IsBuilt Anything (built_of m r).site (built_of m r).size m
    built = (built_of m r).built

    next : IsNext m.have x
    next =
        comes_next m built x
        (Other x (record { offered = offered m built x i; ready = ready; fit = fit }))

    had : IsTrue (vector_has (take x (forget x m)).have x.dot)
    had = had_taken x (forget x m) next

    still : (d : DotValue) (waiting : List OpValue) → waits d waiting ≡ true
        → (waits d (without x.dot waiting) ≡ true) ⊎ (d ≡ x.dot)
    still d waiting e =
        let f = any_found (is_dot_of d) waiting e in at f.0 f.1 f.2 (same_dot f.0.dot x.dot) refl
      where
        at : (y : OpValue) → In y waiting → same_dot y.dot d ≡ true → (b : Bool) → same_dot y.dot x.dot ≡ b
            → (waits d (without x.dot waiting) ≡ true) ⊎ (d ≡ x.dot)
        at y j g true h = inr (sym (same_dot_true y.dot d g) ∙ same_dot_true y.dot x.dot h)
        at y j g false h =
            inl
            (any_from (is_dot_of d) (without x.dot waiting) y
            (filter_In (λ (z : OpValue). not (is_dot_of x.dot z)) y waiting j (ap (λ (b : Bool). not b) h)) g)

-- ---- each step

pub step_more : (m : Machine) (input : Input) → IsReached m → is_dropped (step m input).reply ≡ false
    → KnowsMore m (step m input).machine
step_more m input r =
    by_kinds m (λ (s : Stepped). is_dropped s.reply ≡ false → KnowsMore m s.machine) input
    (record {
      stays = λ reply e. as_much m;
      makes = λ request a e is free room f. performed_more a.body m r;
      cancels = λ request p e is f. made_more (Abort p) m m (as_much m);
      delays = λ x e foreign late f. delayed_more x m;
      takes = λ x e foreign ready fit f. taken_more (proposed x.body) x m;
      counts = λ v b e found new within own f. counts_more v b m;
      drops = λ x why i ready f. absurd (true≢false f);
      resumes = λ x i ready fit f. resumed_more x m r i ready fit;
    })

pub known_more : (message : Message) (m n : Machine) → KnowsMore m n → knows_message message m ≡ true
    → knows_message message n ≡ true
known_more (AnOp x) m n k e =
    from_op x n (repeat_sized x m e ∙ sym k.size) (at (is_had m.have x) refl (repeat_op x m e))
  where
    had : is_had n.have x ≡ true → (is_had n.have x || waits x.dot n.waiting) ≡ true
    had f = ap (λ (b : Bool). b || waits x.dot n.waiting) f

    waited : (b : Bool) → waits x.dot n.waiting ≡ true → (b || waits x.dot n.waiting) ≡ true
    waited true f = refl
    waited false f = f

    at : (b : Bool) → is_had m.have x ≡ b → (is_had m.have x || waits x.dot m.waiting) ≡ true
        → (is_had n.have x || waits x.dot n.waiting) ≡ true
    at true f g = had (covered_dots n.have m.have k.have x.dot f)
    at false f g =
        ⊎_elim (λ (h : waits x.dot n.waiting ≡ true). waited (is_had n.have x) h)
        (λ (h : IsTrue (vector_has n.have x.dot)). had h)
        (k.waiting x.dot (sym (ap (λ (b : Bool). b || waits x.dot m.waiting) f) ∙ g))
known_more (AVote v) m n k e =
    let p = repeat_fits v m e in
    let q = repeat_vote v m e in
    let b = k.ballots v.proposal v.voter (q.ballot, q.found, q.counted) in
    from_vote v n
    (record {
      near = ap (λ (s : ℕ). nat_lt s v.voter || nat_lt s v.proposal.site) k.size ∙ p.near;
      own = ap (λ (s : ℕ). nat_eq v.proposal.site s) k.site ∙ p.own;
    })
    (record { ballot = b.0; found = b.1; counted = b.2 })

-- ---- no step sends more than two messages

abbrev SendsFew : ℕ → Machine → Machine → Type 0
SendsFew k m n = length n.sent ≤ length m.sent + k

one_more_sent : (k : ℕ) (message : Message) (m n : Machine) → SendsFew k m n
    → length (n.sent ++ message ∷ []) ≤ length m.sent + suc k
one_more_sent k message m n h =
    let long : length (n.sent ++ message ∷ []) ≡ length n.sent + 1 = length-append n.sent (message ∷ []) in
    omega (arith, h, long)

decide_few : (k : ℕ) (p : DotValue) (o : Option Bool) (m n : Machine) → SendsFew k m n
    → SendsFew (suc k) m (decide p o n)
decide_few k p None m n h = omega (arith, h)
decide_few k p (Some true) m n h = one_more_sent k (AnOp (next_op n (Commit p))) m n h
decide_few k p (Some false) m n h = one_more_sent k (AnOp (next_op n (Abort p))) m n h

none_yet : (m : Machine) → SendsFew 0 m m
none_yet m = omega arith

upto_two : (m n : Machine) → SendsFew 1 m n → SendsFew 2 m n
upto_two m n h = omega (arith, h)

perform_few : (body : Body) (m : Machine) → SendsFew 2 m (perform body m)
perform_few (Insert slot run) m =
    upto_two m (make (Insert slot run) m) (one_more_sent 0 (AnOp (next_op m (Insert slot run))) m m (none_yet m))
perform_few (Delete x) m = upto_two m (make (Delete x) m)
    (one_more_sent 0 (AnOp (next_op m (Delete x))) m m (none_yet m))
perform_few (Commit p) m = upto_two m (make (Commit p) m)
    (one_more_sent 0 (AnOp (next_op m (Commit p))) m m (none_yet m))
perform_few (Abort p) m = upto_two m (make (Abort p) m) (one_more_sent 0 (AnOp (next_op m (Abort p))) m m (none_yet m))
perform_few (Propose slot) m =
    decide_few 1 (next_dot m) (outcome m.size true (new_ballot (next_dot m))) m (proposed_here slot m)
    (one_more_sent 0 (AnOp (next_op m (Propose slot))) m m (none_yet m))

take_few : (slot : Option Slot) (x : OpValue) (m n : Machine) → n.sent ≡ m.sent → SendsFew 2 m (take_as slot x n)
take_few None x m n e = let same : length n.sent ≡ length m.sent = ap (λ (l : List Message). length l) e in
    omega (arith, same)
take_few (Some slot) x m n e = at (vote_on x slot n)
  where
    few : SendsFew 0 m n
    few = let same : length n.sent ≡ length m.sent = ap (λ (l : List Message). length l) e in omega (arith, same)

    at : (says : Bool) → SendsFew 2 m (answer x.dot slot says (done x n))
    at true = let h = one_more_sent 0 (AVote (record { proposal = x.dot; voter = n.site; yes = true })) m n few in
        omega (arith, h)
    at false = let h = one_more_sent 0 (AVote (record { proposal = x.dot; voter = n.site; yes = false })) m n few in
        omega (arith, h)

pub step_few : (m : Machine) (input : Input) → length (step m input).machine.sent ≤ length m.sent + 2
step_few m input =
    by_kinds m (λ (s : Stepped). SendsFew 2 m s.machine) input
    (record {
      stays = λ reply. omega arith;
      makes = λ request a e is free room. perform_few a.body m;
      cancels = λ request p e is. upto_two m (decide p (Some false) m) (decide_few 0 p (Some false) m m (none_yet m));
      delays = λ x e foreign late. omega arith;
      takes = λ x e foreign ready fit. take_few (proposed x.body) x m m refl;
      counts = λ v b e found new within own.
          upto_two m (count v b m)
          (decide_few 0 v.proposal (outcome m.size v.yes (counted v.voter v.yes b)) m
          (record m { ballots = revise v.proposal (counted v.voter v.yes) m.ballots }) (omega arith));
      drops = λ x why i ready. omega arith;
      resumes = λ x i ready fit. take_few (proposed x.body) x m (forget x m) refl;
    })

pub step_order : (m : Machine) (input : Input) → length m.sent ≤ length (step m input).machine.sent
step_order m input =
    let s = step_sends m input in
    let long : length (step m input).machine.sent ≡ length m.sent + length s.0 =
    ap (λ (l : List Message). length l) s.1 ∙ length-append m.sent s.0 in
    omega (arith, long)
