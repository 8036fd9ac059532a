-- What a site does, as moves of its world.
use Rattle.std.proofs.Common.{◌≡◌, ◌<◌, ◌≤◌, ◌+◌, ◌-◌, ◌++◌, ℕ, zero, suc, List, [], ◌∷◌, Bool, true, false}
use Rattle.std.proofs.Common.{if◌then◌else◌, length, map, set, refl, sym, ap, ◌∙◌, subst, append-nil}
use Rattle.std.proofs.Common.{append_assoc, arith}
use Rattle.std.specs.List.{AllByRecursion}
use Rattle.td_base.specs.Lists.{In}
use Rattle.td_op.specs.Input.{IsInput}
use Rattle.td_op.specs.Message.{is_for}
use Rattle.td_op.specs.declared.input.Input.{Input}
use Rattle.td_op.specs.declared.input.Input.TheVariants.{Take, Next}
use Rattle.td_op.specs.declared.message.Message.{Message}
use Rattle.td_replica.specs.Replica.{ReplicaValue, after_step, has_ready}
use Rattle.td_world.specs.World.{WorldValue, Move, IsWorld, IsFit, size, replica, replica_from, moved, moved_all}
use Rattle.td_world.specs.Calls.{next, nexts, give_moves}
use Rattle.td_world.proofs.Moves.{moved_here, size_moved, world_moved}
use Rattle.td_kept.specs.KeptWorld.{fits, all_fit, fitting}
use Rattle.td_kept.specs.Sites.{after_steps, leaves_to_take, given_inputs, fitting_inputs, all_inputs_fit, sent_since}
use Rattle.td_kept.proofs.Inputs.{sent_none, sent_both}

abbrev pub move_at : ℕ → Input → Move
move_at site input = record { site = site; input = input }

-- these inputs at this site
abbrev pub at_site : ℕ → List Input → List Move
at_site site inputs = map (move_at site) inputs

-- the world in which the site has done these inputs
abbrev pub with_steps : ℕ → List Input → WorldValue → WorldValue
with_steps site inputs w = record {
  replicas = set w.replicas (site - 1) (after_steps inputs (replica w site));
  sent = w.sent ++ sent_since (replica w site) (after_steps inputs (replica w site));
}

set_own : (replicas : List ReplicaValue) (k : ℕ) → set replicas k (replica_from replicas k) ≡ replicas
set_own [] k = refl
set_own (r ∷ replicas) zero = refl
set_own (r ∷ replicas) (suc k) = ap (λ (l : List ReplicaValue). r ∷ l) (set_own replicas k)

set_again : (replicas : List ReplicaValue) (k : ℕ) (a b : ReplicaValue)
    → set (set replicas k a) k b ≡ set replicas k b
set_again [] k a b = refl
set_again (r ∷ replicas) zero a b = refl
set_again (r ∷ replicas) (suc k) a b = ap (λ (l : List ReplicaValue). r ∷ l) (set_again replicas k a b)

pub moves_at : (site : ℕ) (inputs : List Input) (w : WorldValue) → 0 < site → site ≤ size w
    → moved_all (at_site site inputs) w ≡ with_steps site inputs w
moves_at site [] w some within =
    let r : ReplicaValue = replica w site in
    let sent : w.sent ≡ w.sent ++ sent_since r r =
    sym (ap (λ (l : List Message). w.sent ++ l) (sent_none r) ∙ append-nil w.sent) in
    λ k. record { replicas = sym (set_own w.replicas (site - 1)) k; sent = sent k }
moves_at site (i ∷ inputs) w some within =
    let move : Move = record { site = site; input = i } in
    let r : ReplicaValue = replica w site in
    let r_2 : ReplicaValue = after_step i r in
    let now : WorldValue = moved (record { site = site; input = i }) w in
    let here : replica (moved (record { site = site; input = i }) w) site ≡ after_step i (replica w site) =
    moved_here w move some within in
    let long : size (moved (record { site = site; input = i }) w) ≡ size w = size_moved w move in
    let rest : moved_all (at_site site inputs) now ≡ with_steps site inputs now =
    moves_at site inputs now some (omega (arith, long, within)) in
    let last : ReplicaValue = after_steps inputs (after_step i (replica w site)) in
    let replicas : set now.replicas (site - 1) (after_steps inputs (replica now site))
    ≡ set w.replicas (site - 1) (after_steps inputs (after_step i (replica w site))) =
    ap (λ (q : ReplicaValue). set now.replicas (site - 1) (after_steps inputs q)) here
    ∙ set_again w.replicas (site - 1) r_2 last in
    let sent : now.sent ++ sent_since (replica now site) (after_steps inputs (replica now site))
    ≡ w.sent ++ sent_since (replica w site) (after_steps inputs (after_step i (replica w site))) =
    ap (λ (q : ReplicaValue). now.sent ++ sent_since q (after_steps inputs q)) here
    ∙ append_assoc w.sent (sent_since r r_2) (sent_since r_2 last)
    ∙ ap (λ (l : List Message). w.sent ++ l) (sent_both i inputs r) in
    rest ∙ (λ k. record { replicas = replicas k; sent = sent k })

-- ---- what is given

one_next : (b c : Bool) (site : ℕ) (moves : List Move) (inputs : List Input) → b ≡ c → moves ≡ at_site site inputs
    → (if b then next site ∷ moves else []) ≡ at_site site (if c then Next ∷ inputs else [])
one_next b true site moves inputs e f =
    ap (λ (x : Bool). if x then next site ∷ moves else []) e ∙ ap (λ (l : List Move). next site ∷ l) f
one_next b false site moves inputs e f = ap (λ (x : Bool). if x then next site ∷ moves else []) e

pub nexts_at_site : (k site : ℕ) (w : WorldValue) (r : ReplicaValue) → 0 < site → site ≤ size w → replica w site ≡ r
    → nexts k site w ≡ at_site site (leaves_to_take k r)
nexts_at_site zero site w r some within is = refl
nexts_at_site (suc k) site w r some within is =
    let here : replica (moved (next site) w) site ≡ after_step Next r =
    moved_here w (next site) some within ∙ ap (after_step Next) is in
    let long : size (moved (next site) w) ≡ size w = size_moved w (next site) in
    one_next (has_ready (replica w site).machine) (has_ready r.machine) site (nexts k site (moved (next site) w))
    (leaves_to_take k (after_step Next r)) (ap (λ (q : ReplicaValue). has_ready q.machine) is)
    (nexts_at_site k site (moved (next site) w) (after_step Next r) some (omega (arith, long, within)) here)

pub give_at_site : (site : ℕ) (message : Message) (w : WorldValue) → 0 < site → site ≤ size w
    → give_moves site message w ≡ at_site site (given_inputs message (replica w site))
give_at_site site message w some within =
    let move : Move = record { site = site; input = Take message } in
    let r : ReplicaValue = after_step (Take message) (replica w site) in
    let now : WorldValue = moved (record { site = site; input = Take message }) w in
    let here : replica (moved (record { site = site; input = Take message }) w) site
    ≡ after_step (Take message) (replica w site) = moved_here w move some within in
    let long : size (moved (record { site = site; input = Take message }) w) ≡ size w = size_moved w move in
    ap (λ (l : List Move). move ∷ l)
    (ap (λ (q : ReplicaValue). nexts (length q.machine.waiting) site now) here
    ∙ nexts_at_site (length r.machine.waiting) site now r some (omega (arith, long, within)) here)

-- ---- room

pub fit_at_site : (site : ℕ) (inputs : List Input) (w : WorldValue) (r : ReplicaValue) → 0 < site → site ≤ size w
    → replica w site ≡ r → all_fit (at_site site inputs) w ≡ all_inputs_fit inputs r
fit_at_site site [] w r some within is = refl
fit_at_site site (i ∷ inputs) w r some within is =
    let move : Move = record { site = site; input = i } in
    let here : replica (moved (record { site = site; input = i }) w) site ≡ after_step i r =
    moved_here w move some within ∙ ap (after_step i) is in
    let long : size (moved (record { site = site; input = i }) w) ≡ size w = size_moved w move in
    ap (λ (q : ReplicaValue). if fits i q then all_fit (at_site site inputs) (moved move w) else false) is
    ∙ ap (λ (b : Bool). if fits i r then b else false)
    (fit_at_site site inputs (moved move w) (after_step i r) some (omega (arith, long, within)) here)

one_fitting : (b : Bool) (site : ℕ) (i : Input) (moves : List Move) (inputs : List Input)
    → moves ≡ at_site site inputs
    → (if b then record { site = site; input = i } ∷ moves else []) ≡ at_site site (if b then i ∷ inputs else [])
one_fitting true site i moves inputs e = ap (λ (l : List Move). record { site = site; input = i } ∷ l) e
one_fitting false site i moves inputs e = refl

pub fitting_at_site : (site : ℕ) (inputs : List Input) (w : WorldValue) (r : ReplicaValue) → 0 < site
    → site ≤ size w → replica w site ≡ r
    → fitting (at_site site inputs) w ≡ at_site site (fitting_inputs inputs r)
fitting_at_site site [] w r some within is = refl
fitting_at_site site (i ∷ inputs) w r some within is =
    let move : Move = record { site = site; input = i } in
    let here : replica (moved (record { site = site; input = i }) w) site ≡ after_step i r =
    moved_here w move some within ∙ ap (after_step i) is in
    let long : size (moved (record { site = site; input = i }) w) ≡ size w = size_moved w move in
    ap (λ (q : ReplicaValue). if fits i q then move ∷ fitting (at_site site inputs) (moved move w) else []) is
    ∙ one_fitting (fits i r) site i (fitting (at_site site inputs) (moved move w))
    (fitting_inputs inputs (after_step i r))
    (fitting_at_site site inputs (moved move w) (after_step i r) some (omega (arith, long, within)) here)

-- ---- worlds

abbrev IsNext : Input → Type 0
IsNext input = input ≡ Next

leaves_next : (k : ℕ) (r : ReplicaValue) → AllByRecursion IsNext (leaves_to_take k r)
leaves_next zero r = tt
leaves_next (suc k) r = at (has_ready r.machine) (leaves_next k (after_step Next r))
  where
    at : (b : Bool) → AllByRecursion IsNext (leaves_to_take k (after_step Next r))
        → AllByRecursion IsNext (if b then Next ∷ leaves_to_take k (after_step Next r) else [])
    at true all = (refl, all)
    at false all = tt

fitting_next : (inputs : List Input) (r : ReplicaValue) → AllByRecursion IsNext inputs
    → AllByRecursion IsNext (fitting_inputs inputs r)
fitting_next [] r all = tt
fitting_next (i ∷ inputs) r all = at (fits i r) (fitting_next inputs (after_step i r) all.1)
  where
    at : (b : Bool) → AllByRecursion IsNext (fitting_inputs inputs (after_step i r))
        → AllByRecursion IsNext (if b then i ∷ fitting_inputs inputs (after_step i r) else [])
    at true rest = (all.0, rest)
    at false rest = tt

-- leave to take what waits may always be given
world_nexts : (site : ℕ) (inputs : List Input) (w : WorldValue) → 0 < site → site ≤ size w → IsWorld w
    → AllByRecursion IsNext inputs → IsWorld (moved_all (at_site site inputs) w)
world_nexts site [] w some within i all = i
world_nexts site (input ∷ inputs) w some within i all =
    let move : Move = record { site = site; input = input } in
    let long : size (moved (record { site = site; input = input }) w) ≡ size w = size_moved w move in
    let fit : IsFit w move = record {
      some = some;
      within = within;
      valid = subst IsInput (sym all.0) tt;
      came = λ message e. absurd (no_message message (sym all.0 ∙ e));
    } in
    world_nexts site inputs (moved move w) some (omega (arith, long, within)) (world_moved w i move fit) all.1
  where
    no_message : (message : Message) → Next ≡ Take message → ⊥
    no_message message e = cc

-- a world in which a site has done one input that it may be given
pub world_stepped : (site : ℕ) (input : Input) (w : WorldValue) → 0 < site → site ≤ size w → IsWorld w
    → IsInput input → ((message : Message) → input ≡ Take message → In message w.sent × (is_for site message ≡ true))
    → IsWorld (moved_all (at_site site (input ∷ [])) w)
world_stepped site input w some within i valid came =
    world_moved w i (record { site = site; input = input })
    (record { some = some; within = within; valid = valid; came = came })

world_taken : (site : ℕ) (message : Message) (inputs : List Input) (w : WorldValue) → 0 < site → site ≤ size w
    → IsWorld w → IsInput (Take message) → In message w.sent → is_for site message ≡ true
    → AllByRecursion IsNext inputs → IsWorld (moved_all (at_site site (Take message ∷ inputs)) w)
world_taken site message inputs w some within i valid sent here all =
    let move : Move = record { site = site; input = Take message } in
    let long : size (moved (record { site = site; input = Take message }) w) ≡ size w = size_moved w move in
    world_nexts site inputs (moved move w) some (omega (arith, long, within))
    (world_stepped site (Take message) w some within i valid
    (λ other e. (
      subst (λ (m : Message). In m w.sent) (same message other e) sent,
      subst (λ (m : Message). is_for site m ≡ true) (same message other e) here,
    ))) all
  where
    same : (message other : Message) → Take message ≡ Take other → message ≡ other
    same message other e = cc

pub world_given : (site : ℕ) (message : Message) (w : WorldValue) → 0 < site → site ≤ size w → IsWorld w
    → IsInput (Take message) → In message w.sent → is_for site message ≡ true
    → IsWorld (moved_all (at_site site (given_inputs message (replica w site))) w)
world_given site message w some within i valid sent here =
    let r : ReplicaValue = after_step (Take message) (replica w site) in
    world_taken site message (leaves_to_take (length r.machine.waiting) r) w some within i valid sent here
    (leaves_next (length r.machine.waiting) r)

pub world_cut_off : (site : ℕ) (message : Message) (w : WorldValue) → 0 < site → site ≤ size w → IsWorld w
    → IsInput (Take message) → In message w.sent → is_for site message ≡ true
    → IsWorld (moved_all (at_site site (fitting_inputs (given_inputs message (replica w site)) (replica w site))) w)
world_cut_off site message w some within i valid sent here =
    let r : ReplicaValue = after_step (Take message) (replica w site) in
    let rest : List Input = fitting_inputs (leaves_to_take (length r.machine.waiting) r) r in
    at (fits (Take message) (replica w site)) rest
    (fitting_next (leaves_to_take (length r.machine.waiting) r) r (leaves_next (length r.machine.waiting) r))
  where
    at : (b : Bool) (rest : List Input) → AllByRecursion IsNext rest
        → IsWorld (moved_all (at_site site (if b then Take message ∷ rest else [])) w)
    at true rest all = world_taken site message rest w some within i valid sent here all
    at false rest all = i
