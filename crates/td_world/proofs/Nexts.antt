-- A site goes on until no operation that waits can be taken; each that is taken or dropped is one fewer to wait.
use Rattle.std.proofs.Common.{◌≡◌, ◌≢◌, ◌<◌, ◌≤◌, ◌+◌, ◌++◌, ℕ, zero, suc, List, [], ◌∷◌, Bool, true}
use Rattle.std.proofs.Common.{false, if◌then◌else◌, not, nat_eq, length, filter, Option, Some, None, refl}
use Rattle.std.proofs.Common.{sym, ap, ◌∙◌, subst, inl, inr, true≢false, arith}
use Rattle.std.proofs.lemmas.Bool.{eqb-true, eqb-false}
use Rattle.std.specs.List.{AllByRecursion}
use Rattle.td_base.proofs.Equals.{same_dot_refl}
use Rattle.td_base.specs.Lists.{In}
use Rattle.td_base.proofs.Lists.{In-filter, filter_In}
use Rattle.td_base.proofs.Passing.{filter_fewer}
use Rattle.td_path.specs.declared.slot.Slot.{Slot}
use Rattle.td_op.specs.declared.input.Input.TheVariants.{Next}
use Rattle.td_op.specs.declared.message.Message.{Message}
use Rattle.td_op.specs.declared.reply.Why.{Why}
use Rattle.td_op.specs.Op.{OpValue}
use Rattle.td_machine.specs.Log.{proposed}
use Rattle.td_machine.specs.Machine.{Machine}
use Rattle.td_machine.specs.Making.{done}
use Rattle.td_machine.specs.Ready.{is_ready, next_ready, least_op, is_dot_of}
use Rattle.td_machine.specs.Step.{step}
use Rattle.td_machine.specs.Taking.{misfit, forget, waited, next_of, take_as, answer, vote_on}
use Rattle.td_machine.proofs.StepKinds.{least_in}
use Rattle.td_replica.specs.Replica.{ReplicaValue, is_idle, has_ready}
use Rattle.td_world.specs.World.{WorldValue, Move, size, replica, machine_of, moved, moved_all}
use Rattle.td_op.specs.Message.{is_for}
use Rattle.td_world.specs.Calls.{next, take, nexts, nexts_after, give_moves, found_moves, wanted_moves}
use Rattle.td_world.specs.Calls.{is_wanted, moves_of, give_all_moves, pass_from, pass, passes}
use Rattle.td_world.specs.Promises.{NobodyReady}
use Rattle.td_world.proofs.Moves.{size_moved, size_after, moved_here, moved_there, moved_both}

-- ---- one machine

ready_some : (m : Machine) (o : Option OpValue) → not (is_idle (next_of o m).reply) ≡ false → o ≡ None
ready_some m None e = refl
ready_some m (Some x) e = at (misfit x m) e
  where
    at : (why : Option Why) → not (is_idle (waited why x (forget x m)).reply) ≡ false → Some x ≡ None
    at None k = absurd (true≢false k)
    at (Some why) k = absurd (true≢false k)

pub nothing_next : (m : Machine) → has_ready m ≡ false → next_ready m.have m.waiting ≡ None
nothing_next m e = ready_some m (next_ready m.have m.waiting) e

pub idle_from : (m : Machine) → next_ready m.have m.waiting ≡ None → has_ready m ≡ false
idle_from m e = ap (λ (o : Option OpValue). not (is_idle (next_of o m).reply)) e

least_none : (ops : List OpValue) → least_op ops ≡ None → ops ≡ []
least_none [] e = refl
least_none (x ∷ ops) e = absurd cc

-- where none is the least ready one, none is ready
pub none_ready : (have : List ℕ) (waiting : List OpValue) → next_ready have waiting ≡ None → (x : OpValue)
    → In x waiting → is_ready have x ≡ false
none_ready have waiting e x i = at (is_ready have x) refl
  where
    at : (b : Bool) → is_ready have x ≡ b → is_ready have x ≡ false
    at false f = f
    at true f =
        absurd (subst (λ (l : List OpValue). In x l) (least_none (filter (is_ready have) waiting) e)
        (filter_In (is_ready have) x waiting i f))

pub ready_none : (have : List ℕ) (waiting : List OpValue) → ((x : OpValue) → In x waiting → is_ready have x ≡ false)
    → next_ready have waiting ≡ None
ready_none have waiting h = ap least_op (nothing waiting h)
  where
    nothing : (ops : List OpValue) → ((x : OpValue) → In x ops → is_ready have x ≡ false)
        → filter (is_ready have) ops ≡ []
    nothing [] g = refl
    nothing (y ∷ ops) g =
        ap (λ (b : Bool). if b then y ∷ filter (is_ready have) ops else filter (is_ready have) ops)
        (g y (inl refl))
        ∙ nothing ops (λ x i. g x (inr i))

take_waiting : (slot : Option Slot) (x : OpValue) (m : Machine) → (take_as slot x m).waiting ≡ m.waiting
take_waiting None x m = refl
take_waiting (Some slot) x m = at (vote_on x slot m)
  where
    at : (says : Bool) → (answer x.dot slot says (done x m)).waiting ≡ m.waiting
    at true = refl
    at false = refl

-- one fewer waits
pub next_fewer : (m : Machine) → has_ready m ≡ true → length (step m Next).machine.waiting < length m.waiting
next_fewer m e = at (next_ready m.have m.waiting) refl e
  where
    fewer : (x : OpValue) → In x m.waiting → length (forget x m).waiting < length m.waiting
    fewer x i =
        filter_fewer (λ (y : OpValue). not (is_dot_of x.dot y)) x m.waiting i
        (ap (λ (b : Bool). not b) (same_dot_refl x.dot))

    at : (o : Option OpValue) → next_ready m.have m.waiting ≡ o → not (is_idle (next_of o m).reply) ≡ true
        → length (next_of o m).machine.waiting < length m.waiting
    at None f k = absurd (true≢false (sym k))
    at (Some x) f k =
        cases (misfit x m)
        (fewer x
        (In-filter (is_ready m.have) x m.waiting (least_in (filter (is_ready m.have) m.waiting) x f)).0)
      where
        cases : (why : Option Why) → length (forget x m).waiting < length m.waiting
            → length (waited why x (forget x m)).machine.waiting < length m.waiting
        cases (Some why) h = h
        cases None h =
            subst (λ (l : List OpValue). length l < length m.waiting)
            (sym (take_waiting (proposed x.body) x (forget x m))) h

nobody_waits : (m : Machine) → length m.waiting ≤ 0 → has_ready m ≡ false
nobody_waits m few = idle_from m (ap (λ (l : List OpValue). next_ready m.have l) (at m.waiting few))
  where
    at : (l : List OpValue) → length l ≤ 0 → l ≡ []
    at [] h = refl
    at (x ∷ l) h = absurd (omega (arith, h))

-- ---- so often is enough

pub drained : (k site : ℕ) (w : WorldValue) → 0 < site → site ≤ size w
    → length (machine_of w site).waiting ≤ k
    → has_ready (machine_of (moved_all (nexts k site w) w) site) ≡ false
drained zero site w some within few = nobody_waits (machine_of w site) few
drained (suc k) site w some within few =
    at (has_ready (machine_of w site)) refl
    (λ (e : has_ready (machine_of w site) ≡ true).
    let here : machine_of (moved (next site) w) site ≡ (step (machine_of w site) Next).machine =
    ap (λ (r : ReplicaValue). r.machine) (moved_here w (next site) some within) in
    let less : length (step (machine_of w site) Next).machine.waiting < length (machine_of w site).waiting =
    next_fewer (machine_of w site) e in
    let same : size (moved (next site) w) ≡ size w = size_moved w (next site) in
    drained k site (moved (next site) w) some (omega (arith, same, within))
    (subst (λ (m : Machine). length m.waiting ≤ k) (sym here) (omega (arith, less, few))))
  where
    at : (b : Bool) → has_ready (machine_of w site) ≡ b
        → (has_ready (machine_of w site) ≡ true
        → has_ready (machine_of (moved_all (nexts k site (moved (next site) w)) (moved (next site) w)) site) ≡ false)
        → has_ready
        (machine_of
        (moved_all (if b then next site ∷ nexts k site (moved (next site) w) else []) w) site)
        ≡ false
    at true e on = on e
    at false e on = e

-- ---- moves at one site

abbrev pub AreAt : ℕ → List Move → Type 0
AreAt site moves = AllByRecursion (λ (move : Move). move.site ≡ site) moves

pub at_both : (site : ℕ) (front back : List Move) → AreAt site front → AreAt site back → AreAt site (front ++ back)
at_both site [] back f b = b
at_both site (move ∷ front) back f b = (f.0, at_both site front back f.1 b)

pub nexts_at : (k site : ℕ) (w : WorldValue) → AreAt site (nexts k site w)
nexts_at zero site w = tt
nexts_at (suc k) site w = at (has_ready (machine_of w site)) (nexts_at k site (moved (next site) w))
  where
    at : (b : Bool) → AreAt site (nexts k site (moved (next site) w))
        → AreAt site (if b then next site ∷ nexts k site (moved (next site) w) else [])
    at true h = (refl, h)
    at false h = tt

pub there_after : (moves : List Move) (site : ℕ) (w : WorldValue) → 0 < site → AreAt site moves → (s : ℕ) → 0 < s
    → s ≢ site → replica (moved_all moves w) s ≡ replica w s
there_after [] site w some at s up other = refl
there_after (move ∷ moves) site w some at s up other =
    there_after moves site (moved move w) some at.1 s up other
    ∙ moved_there w move (subst (λ (k : ℕ). 0 < k) (sym at.0) some) s up (λ (e : s ≡ move.site). other (e ∙ at.0))

-- ---- nobody is ready after a message is given

pub give_at : (site : ℕ) (message : Message) (w : WorldValue) → AreAt site (give_moves site message w)
give_at site message w =
    (refl, nexts_at (length (machine_of (moved (take site message) w) site).waiting) site (moved (take site message) w))

pub give_drains : (site : ℕ) (message : Message) (w : WorldValue) → 0 < site → site ≤ size w
    → has_ready (machine_of (moved_all (give_moves site message w) w) site) ≡ false
give_drains site message w some within =
    let same : size (moved (take site message) w) ≡ size w = size_moved w (take site message) in
    drained (length (machine_of (moved (take site message) w) site).waiting) site (moved (take site message) w) some
    (omega (arith, same, within)) (omega arith)

-- what leaves one site with nobody ready, and the others as they were
pub still_nobody : (w new : WorldValue) (site : ℕ) → 0 < site → size new ≡ size w
    → ((s : ℕ) → 0 < s → s ≢ site → replica new s ≡ replica w s) → has_ready (machine_of new site) ≡ false
    → NobodyReady w → NobodyReady new
still_nobody w new site some same others here h s up within = at (nat_eq s site) refl
  where
    at : (b : Bool) → nat_eq s site ≡ b → has_ready (machine_of new s) ≡ false
    at true e = subst (λ (t : ℕ). has_ready (machine_of new t) ≡ false) (sym (eqb-true s site e)) here
    at false e =
        subst (λ (r : ReplicaValue). has_ready r.machine ≡ false) (sym (others s up (eqb-false s site e)))
        (h s up (omega (arith, within, same)))

-- a site where nothing is ready stays so
give_awake : (site : ℕ) (message : Message) (w : WorldValue) → 0 < site → site ≤ size w → (s : ℕ) → 0 < s
    → has_ready (machine_of w s) ≡ false → has_ready (machine_of (moved_all (give_moves site message w) w) s) ≡ false
give_awake site message w some within s up h = at (nat_eq s site) refl
  where
    at : (b : Bool) → nat_eq s site ≡ b → has_ready (machine_of (moved_all (give_moves site message w) w) s) ≡ false
    at true e =
        subst (λ (t : ℕ). has_ready (machine_of (moved_all (give_moves site message w) w) t) ≡ false)
        (sym (eqb-true s site e)) (give_drains site message w some within)
    at false e =
        subst (λ (r : ReplicaValue). has_ready r.machine ≡ false)
        (sym (there_after (give_moves site message w) site w some (give_at site message w) s up (eqb-false s site e))) h

wanted_awake : (site : ℕ) (message : Message) (w : WorldValue) → 0 < site → site ≤ size w → (s : ℕ) → 0 < s
    → has_ready (machine_of w s) ≡ false → has_ready (machine_of (moved_all (wanted_moves site message w) w) s) ≡ false
wanted_awake site message w some within s up h = at (is_wanted site message w)
  where
    at : (b : Bool) → has_ready (machine_of (moved_all (if b then give_moves site message w else []) w) s) ≡ false
    at true = give_awake site message w some within s up h
    at false = h

pub all_awake : (site : ℕ) (messages : List Message) (w : WorldValue) → 0 < site → site ≤ size w → (s : ℕ) → 0 < s
    → has_ready (machine_of w s) ≡ false → has_ready (machine_of (moved_all (moves_of site messages w) w) s) ≡ false
all_awake site [] w some within s up h = h
all_awake site (message ∷ messages) w some within s up h =
    let front : List Move = wanted_moves site message w in
    let back : List Move = moves_of site messages (moved_all (wanted_moves site message w) w) in
    let same : size (moved_all (wanted_moves site message w) w) ≡ size w = size_after (wanted_moves site message w) w in
    subst (λ (v : WorldValue). has_ready (machine_of v s) ≡ false) (sym (moved_both front back w))
    (all_awake site messages (moved_all (wanted_moves site message w) w) some (omega (arith, within, same)) s up
    (wanted_awake site message w some within s up h))

pub pass_awake : (k site : ℕ) (w : WorldValue) → 0 < site → site + k ≤ size w + 1 → (s : ℕ) → 0 < s
    → has_ready (machine_of w s) ≡ false → has_ready (machine_of (moved_all (pass_from k site w) w) s) ≡ false
pass_awake zero site w some within s up h = h
pass_awake (suc k) site w some within s up h =
    let front : List Move = give_all_moves site w in
    let back : List Move = pass_from k (suc site) (moved_all (give_all_moves site w) w) in
    let same : size (moved_all (give_all_moves site w) w) ≡ size w = size_after (give_all_moves site w) w in
    subst (λ (v : WorldValue). has_ready (machine_of v s) ≡ false) (sym (moved_both front back w))
    (pass_awake k (suc site) (moved_all (give_all_moves site w) w) (omega arith) (omega (arith, within, same)) s up
    (all_awake site w.sent w some (omega (arith, within)) s up h))

-- so nobody is ready after a message is given where nobody was
still_within : (moves : List Move) (w : WorldValue) (s : ℕ) → s ≤ size (moved_all moves w) → s ≤ size w
still_within moves w s low = subst (λ (n : ℕ). s ≤ n) (size_after moves w) low

pub give_nobody : (site : ℕ) (message : Message) (w : WorldValue) → 0 < site → site ≤ size w → NobodyReady w
    → NobodyReady (moved_all (give_moves site message w) w)
give_nobody site message w some within h s up low =
    give_awake site message w some within s up (h s up (still_within (give_moves site message w) w s low))

pub wanted_nobody : (site : ℕ) (message : Message) (w : WorldValue) → 0 < site → site ≤ size w → NobodyReady w
    → NobodyReady (moved_all (wanted_moves site message w) w)
wanted_nobody site message w some within h s up low =
    wanted_awake site message w some within s up (h s up (still_within (wanted_moves site message w) w s low))

pub all_nobody : (site : ℕ) (messages : List Message) (w : WorldValue) → 0 < site → site ≤ size w → NobodyReady w
    → NobodyReady (moved_all (moves_of site messages w) w)
all_nobody site messages w some within h s up low =
    all_awake site messages w some within s up (h s up (still_within (moves_of site messages w) w s low))

pub passes_nobody : (k : ℕ) (w : WorldValue) → NobodyReady w → NobodyReady (moved_all (passes k w) w)
passes_nobody zero w h = h
passes_nobody (suc k) w h =
    subst NobodyReady (sym (moved_both (pass w) (passes k (moved_all (pass w) w)) w))
    (passes_nobody k (moved_all (pass w) w)
    (λ s up low.
    pass_awake (size w) 1 w (omega arith) (omega arith) s up (h s up (still_within (pass w) w s low))))

pub found_nobody : (site : ℕ) (message : Message) (w : WorldValue) → 0 < site → site ≤ size w → NobodyReady w
    → NobodyReady (moved_all (found_moves site (Some message) w) w)
found_nobody site message w some within h = at (is_for site message)
  where
    at : (b : Bool) → NobodyReady (moved_all (if b then give_moves site message w else []) w)
    at true = give_nobody site message w some within h
    at false = h

-- as many as wait are enough
pub all_drained : (w : WorldValue) (site : ℕ) → 0 < site → site ≤ size w
    → has_ready (machine_of (moved_all (nexts_after site w) w) site) ≡ false
all_drained w site some within = drained (length (machine_of w site).waiting) site w some within (omega arith)
