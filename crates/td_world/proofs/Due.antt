-- What passes move: what waits, and messages that were sent and are wanted when their turn comes. In a world each such
-- move fits it; a site where nothing is ready at the end is the only one to which any were given.
use Rattle.std.proofs.Common.{◌≡◌, ◌⊎◌, ◌<◌, ◌≤◌, ◌+◌, ◌++◌, ℕ, zero, suc, List, [], ◌∷◌, Bool, true, false, not}
use Rattle.std.proofs.Common.{if◌then◌else◌, length, refl, sym, subst, inl, inr, ⊎_elim, arith}
use Rattle.std.proofs.lemmas.Bool.{and_parts, eq-eqb}
use Rattle.std.specs.List.{AllByRecursion}
use Rattle.td_base.specs.Value.{DotValue, IsDot}
use Rattle.td_base.specs.declared.site.TheConstants.{MAX_SITE}
use Rattle.td_base.specs.Lists.{In}
use Rattle.td_base.proofs.Lists.{filter_In}
use Rattle.td_op.specs.declared.input.Input.TheVariants.{Local, Take, Next}
use Rattle.td_op.specs.declared.message.Message.{Message}
use Rattle.td_op.specs.declared.message.Message.TheVariants.{Op as AnOp, Vote as AVote}
use Rattle.td_op.specs.declared.request.Request.{Request}
use Rattle.td_op.specs.Input.{IsInput}
use Rattle.td_machine.specs.Machine.{Machine}
use Rattle.td_machine.specs.History.{machine}
use Rattle.td_op.specs.Message.{sender, is_for}
use Rattle.td_machine.proofs.Family.{sent_ops}
use Rattle.td_law_replay.proofs.Values.{values_of}
use Rattle.td_world.specs.World.{WorldValue, Move, IsWorld, IsFit, size, machine_of}
use Rattle.td_world.specs.World.{family_of, is_sent_by, moved, moved_all}
use Rattle.td_replica.specs.Replica.{knows_message, has_ready}
use Rattle.td_world.specs.Calls.{is_wanted, next, take, nexts, give_moves}
use Rattle.td_world.specs.Calls.{wanted_moves, moves_of, give_all_moves, pass_from, pass, passes}
use Rattle.td_world.proofs.Moves.{low, size_moved, size_after, still_sent, moved_both, world_moved}
use Rattle.td_world.proofs.Named.{built_end, reached_end, sending_end}
use Rattle.td_world.proofs.Nexts.{AreAt, at_both, give_at, give_drains, all_awake, pass_awake}

-- ---- what a pass may move

pub data IsDue (w : WorldValue) : Move → Type 0 where
  -- what waits is taken
  Waited : (site : ℕ) → 0 < site → site ≤ size w → IsDue w (next site)
  -- a message is given
  Given : (site : ℕ) (message : Message) → 0 < site → site ≤ size w → In message w.sent
      → is_wanted site message w ≡ true → IsDue w (take site message)

abbrev pub AreDue : List Move → WorldValue → Type 0
AreDue [] w = Unit {0}
AreDue (move ∷ moves) w = IsDue w move × AreDue moves (moved move w)

due_both : (front back : List Move) (w : WorldValue) → AreDue front w → AreDue back (moved_all front w)
    → AreDue (front ++ back) w
due_both [] back w f b = b
due_both (move ∷ front) back w f b = (f.0, due_both front back (moved move w) f.1 b)

pub due_front : (front back : List Move) (w : WorldValue) → AreDue (front ++ back) w → AreDue front w
due_front [] back w f = tt
due_front (move ∷ front) back w f = (f.0, due_front front back (moved move w) f.1)

due_nexts : (k site : ℕ) (w : WorldValue) → 0 < site → site ≤ size w → AreDue (nexts k site w) w
due_nexts zero site w some within = tt
due_nexts (suc k) site w some within =
    at (has_ready (machine_of w site))
    (due_nexts k site (moved (next site) w) some (subst (λ (n : ℕ). site ≤ n) (sym (size_moved w (next site))) within))
  where
    at : (b : Bool) → AreDue (nexts k site (moved (next site) w)) (moved (next site) w)
        → AreDue (if b then next site ∷ nexts k site (moved (next site) w) else []) w
    at true h = (Waited site some within, h)
    at false h = tt

pub due_wanted : (site : ℕ) (message : Message) (w : WorldValue) → 0 < site → site ≤ size w → In message w.sent
    → AreDue (wanted_moves site message w) w
due_wanted site message w some within sent = at (is_wanted site message w) refl
  where
    low_now : site ≤ size (moved (take site message) w)
    low_now = subst (λ (n : ℕ). site ≤ n) (sym (size_moved w (take site message))) within

    at : (b : Bool) → is_wanted site message w ≡ b → AreDue (if b then give_moves site message w else []) w
    at true e = (
      Given site message some within sent e,
      due_nexts (length (machine_of (moved (take site message) w) site).waiting) site (moved (take site message) w)
          some low_now,
    )
    at false e = tt

pub due_moves : (site : ℕ) (messages : List Message) (w : WorldValue) → 0 < site → site ≤ size w
    → ((message : Message) → In message messages → In message w.sent) → AreDue (moves_of site messages w) w
due_moves site [] w some within sent = tt
due_moves site (message ∷ messages) w some within sent =
    let front : List Move = wanted_moves site message w in
    due_both front (moves_of site messages (moved_all front w)) w
    (due_wanted site message w some within (sent message (inl refl)))
    (due_moves site messages (moved_all front w) some (subst (λ (n : ℕ). site ≤ n) (sym (size_after front w)) within)
    (λ other i. still_sent front w other (sent other (inr i))))

pub due_from : (k site : ℕ) (w : WorldValue) → 0 < site → site + k ≤ size w + 1 → AreDue (pass_from k site w) w
due_from zero site w some within = tt
due_from (suc k) site w some within =
    let front : List Move = give_all_moves site w in
    let same : size (moved_all (give_all_moves site w) w) ≡ size w = size_after (give_all_moves site w) w in
    due_both front (pass_from k (suc site) (moved_all front w)) w
    (due_moves site w.sent w some (omega (arith, within)) (λ message i. i))
    (due_from k (suc site) (moved_all front w) (omega arith) (omega (arith, within, same)))

pub due_pass : (w : WorldValue) → AreDue (pass w) w
due_pass w = due_from (size w) 1 w (omega arith) (omega arith)

pub due_passes : (k : ℕ) (w : WorldValue) → AreDue (passes k w) w
due_passes zero w = tt
due_passes (suc k) w = due_both (pass w) (passes k (moved_all (pass w) w)) w (due_pass w)
    (due_passes k (moved_all (pass w) w))

pub due_site : (w : WorldValue) (move : Move) → IsDue w move → (0 < move.site) × (move.site ≤ size w)
due_site w move (Waited site some within) = (some, within)
due_site w move (Given site message some within sent wanted) = (some, within)

-- no request is made
pub due_other : (w : WorldValue) (move : Move) → IsDue w move → (request : Request) → move.input ≡ Local request → ⊥
due_other w move (Waited site some within) request e = absurd cc
due_other w move (Given site message some within sent wanted) request e = absurd cc

-- ---- and it fits a world

module _ (w : WorldValue) (i : IsWorld w) where
  pub sent_there : (message : Message) → In message w.sent → In message (machine_of w (sender message)).sent
  sent_there message inside =
      let from = i.senders message inside in
      subst (λ (l : List Message). In message l) (i.sent (sender message) from.0 from.1)
      (filter_In (is_sent_by (sender message)) message w.sent inside (eq-eqb (sender message) (sender message) refl))

  -- what is sent is a value of its type
  pub sent_valid : (message : Message) → In message w.sent → IsInput (Take message)
  sent_valid message inside =
      let from = i.senders message inside in
      let within = low w i (sender message) from.1 in
      let there : In message (machine_of w (sender message)).sent = sent_there message inside in
      at message from.0 within
      (subst (λ (m : Machine). In message m.sent) (i.machines (sender message) from.0 from.1) there)
    where
      at : (m : Message) → 0 < sender m → sender m ≤ length (family_of w)
          → In m (machine (family_of w) (sender m)).sent → IsInput (Take m)
      at (AnOp x) some within j =
          let built = built_end (family_of w) i.consistent x.dot.site some within in
          values_of (machine (family_of w) x.dot.site) (reached_end (family_of w) i.consistent x.dot.site some within) x
          (sent_ops (machine (family_of w) x.dot.site) built x j).0
      at (AVote v) some within j =
          let q = (sending_end (family_of w) i.consistent v.voter some within).votes v j in
          let few : length (family_of w) ≤ MAX_SITE = i.consistent.legal.few in
          record {
            voter = record { least = some; greatest = omega (arith, few, within) };
            proposal = subst (λ (d : DotValue). IsDot d) q.2
                (values_of (machine (family_of w) v.voter) (reached_end (family_of w) i.consistent v.voter some
                within) q.0 q.1).dot;
          }

  pub due_fit : (move : Move) → IsDue w move → IsFit w move
  due_fit move (Waited site some within) =
      record { some = some; within = within; valid = tt; came = λ message e. absurd (none message e) }
    where
      none : (message : Message) → Next ≡ Take message → ⊥
      none message e = cc
  due_fit move (Given site message some within sent wanted) =
      record {
        some = some;
        within = within;
        valid = sent_valid message sent;
        came = λ other e.
            subst (λ (m : Message). In m w.sent × (is_for site m ≡ true)) (same other e)
            (sent, (and_parts (is_for site message) (not (knows_message message (machine_of w site))) wanted).0);
      }
    where
      same : (other : Message) → Take message ≡ Take other → message ≡ other
      same other e = cc

  pub due_moved : (move : Move) → IsDue w move → IsWorld (moved move w)
  due_moved move d = world_moved w i move (due_fit move d)

pub world_due : (moves : List Move) (w : WorldValue) → IsWorld w → AreDue moves w → IsWorld (moved_all moves w)
world_due [] w i d = i
world_due (move ∷ moves) w i d = world_due moves (moved move w) (due_moved w i move d.0) d.1

-- ---- where moves were made, nothing is ready afterwards

abbrev pub AreAwake : WorldValue → List Move → Type 0
AreAwake end moves = AllByRecursion (λ (move : Move). has_ready (machine_of end move.site) ≡ false) moves

awake_both : (end : WorldValue) (front back : List Move) → AreAwake end front → AreAwake end back
    → AreAwake end (front ++ back)
awake_both end [] back f b = b
awake_both end (move ∷ front) back f b = (f.0, awake_both end front back f.1 b)

awake_at : (end : WorldValue) (site : ℕ) (moves : List Move) → AreAt site moves
    → has_ready (machine_of end site) ≡ false → AreAwake end moves
awake_at end site [] a h = tt
awake_at end site (move ∷ moves) a h =
    (subst (λ (s : ℕ). has_ready (machine_of end s) ≡ false) (sym a.0) h, awake_at end site moves a.1 h)

moves_at : (site : ℕ) (messages : List Message) (w : WorldValue) → AreAt site (moves_of site messages w)
moves_at site [] w = tt
moves_at site (message ∷ messages) w =
    at_both site (wanted_moves site message w) (moves_of site messages (moved_all (wanted_moves site message w) w))
    (wanted (is_wanted site message w)) (moves_at site messages (moved_all (wanted_moves site message w) w))
  where
    wanted : (b : Bool) → AreAt site (if b then give_moves site message w else [])
    wanted true = give_at site message w
    wanted false = tt

none_or_awake : (site : ℕ) (messages : List Message) (w : WorldValue) → 0 < site → site ≤ size w
    → (moves_of site messages w ≡ []) ⊎ (has_ready (machine_of (moved_all (moves_of site messages w) w) site) ≡ false)
none_or_awake site [] w some within = inl refl
none_or_awake site (message ∷ messages) w some within =
    at (is_wanted site message w) refl (none_or_awake site messages w some within)
  where
    given : List Move
    given = give_moves site message w

    at : (b : Bool) → is_wanted site message w ≡ b
        → (moves_of site messages w ≡ []) ⊎ (has_ready (machine_of (moved_all (moves_of site messages w) w) site)
        ≡ false)
        → ((if b then given else []) ++ moves_of site messages (moved_all (if b then given else []) w) ≡ [])
        ⊎ (has_ready (machine_of (moved_all ((if b then given else [])
        ++ moves_of site messages (moved_all (if b then given else []) w)) w) site) ≡ false)
    at false e h = h
    at true e h =
        inr
        (subst (λ (v : WorldValue). has_ready (machine_of v site) ≡ false)
        (sym (moved_both (give_moves site message w) (moves_of site messages
        (moved_all (give_moves site message w) w)) w))
        (all_awake site messages (moved_all (give_moves site message w) w) some
        (subst (λ (n : ℕ). site ≤ n) (sym (size_after (give_moves site message w) w)) within) site some
        (give_drains site message w some within)))

awake_from : (k site : ℕ) (w : WorldValue) → 0 < site → site + k ≤ size w + 1
    → AreAwake (moved_all (pass_from k site w) w) (pass_from k site w)
awake_from zero site w some within = tt
awake_from (suc k) site w some within =
    subst (λ (v : WorldValue). AreAwake v (front ++ back)) (sym (moved_both front back w))
    (awake_both (moved_all back (moved_all front w)) front back here
    (awake_from k (suc site) (moved_all front w) (omega arith) (omega (arith, within, same))))
  where
    front : List Move
    front = give_all_moves site w

    back : List Move
    back = pass_from k (suc site) (moved_all (give_all_moves site w) w)

    same : size (moved_all (give_all_moves site w) w) ≡ size w
    same = size_after (give_all_moves site w) w

    here : AreAwake (moved_all back (moved_all front w)) front
    here =
        ⊎_elim
        (λ (e : front ≡ []). subst (λ (l : List Move). AreAwake (moved_all back (moved_all front w)) l) (sym e) tt)
        (λ (h : has_ready (machine_of (moved_all front w) site) ≡ false).
        awake_at (moved_all back (moved_all front w)) site front (moves_at site w.sent w)
        (pass_awake k (suc site) (moved_all front w) (omega arith) (omega (arith, within, same)) site some h))
        (none_or_awake site w.sent w some (omega (arith, within)))

pub awake_pass : (w : WorldValue) → AreAwake (moved_all (pass w) w) (pass w)
awake_pass w = awake_from (size w) 1 w (omega arith) (omega arith)
