-- In a world nothing is unfit and nothing is dropped, so what a site knows it knows from then on. After a pass all that
-- was sent before it is known; and where all that was sent is known, a pass gives nothing.
use Rattle.std.proofs.Common.{◌≡◌, ◌<◌, ◌≤◌, ◌-◌, ◌+◌, ◌++◌, ℕ, zero, suc, List, [], ◌∷◌, Bool, true, false}
use Rattle.std.proofs.Common.{if◌then◌else◌, nat_eq, length, refl, sym, ap, ◌∙◌, subst, inl, inr, ⊎_elim, arith}
use Rattle.std.proofs.lemmas.Bool.{eqb-true, eqb-false}
use Rattle.std.specs.Prelude.{IsTrue}
use Rattle.td_base.specs.Value.{DotValue}
use Rattle.td_base.specs.Lists.{In}
use Rattle.td_clock.specs.Vector.{vector_has}
use Rattle.td_clock.proofs.VectorLemmas.{covered_dots}
use Rattle.td_op.specs.declared.message.Message.{Message}
use Rattle.td_op.specs.declared.reply.Reply.{Reply}
use Rattle.td_op.specs.declared.reply.Reply.TheVariants.{Made, Cancelled, Held, Position, Gone, Limit, NotOpen, New}
use Rattle.td_op.specs.declared.reply.Reply.TheVariants.{Later, Repeat, Unfit, Taken, Dropped, Idle}
use Rattle.td_op.specs.declared.reply.Why.{Why}
use Rattle.td_machine.specs.Step.{step}
use Rattle.td_law_logs.specs.Entries.{EntryOf}
use Rattle.td_replica.specs.Replica.{ReplicaValue, knows_message}
use Rattle.td_world.specs.World.{WorldValue, Move, IsWorld, IsFit, size, replica}
use Rattle.td_world.specs.World.{machine_of, family_of, reply_to, moved, moved_all}
use Rattle.td_op.specs.Message.{is_for}
use Rattle.td_world.specs.Calls.{is_wanted, take, give_moves, nexts_after}
use Rattle.td_world.specs.Calls.{wanted_moves, moves_of, give_all_moves, pass_from, pass}
use Rattle.td_world.specs.Parts.{is_dropped}
use Rattle.td_world.proofs.Came.{came_known}
use Rattle.td_world.proofs.Due.{AreDue, due_fit, due_moved, due_wanted, due_moves, due_from, world_due, sent_valid}
use Rattle.td_world.proofs.Kept.{reached_in}
use Rattle.td_world.proofs.Moves.{size_family, size_moved, size_after, moved_here}
use Rattle.td_world.proofs.Moves.{moved_there, moved_both, still_sent, world_moved}
use Rattle.td_world.proofs.Passed.{unwanted_known, not_wanted}
use Rattle.td_world.proofs.Promised.{promised}
use Rattle.td_world.proofs.Replicas.{history_from}
use Rattle.td_world.proofs.Steps.{KnowsMore, as_much, step_more, known_more}

dropped_is : (reply : Reply) → ((d : DotValue) (why : Why) → reply ≡ Dropped d why → ⊥) → is_dropped reply ≡ false
dropped_is (Dropped d why) h = absurd (h d why refl)
dropped_is (Made d) h = refl
dropped_is Cancelled h = refl
dropped_is (Held d) h = refl
dropped_is (Position len) h = refl
dropped_is (Gone x) h = refl
dropped_is (Limit made undecided) h = refl
dropped_is (NotOpen d) h = refl
dropped_is New h = refl
dropped_is Later h = refl
dropped_is Repeat h = refl
dropped_is (Unfit why) h = refl
dropped_is (Taken d) h = refl
dropped_is Idle h = refl

-- ---- one move

module _ (w : WorldValue) (i : IsWorld w) (move : Move) (fit : IsFit w move) where
  low_size : (site : ℕ) → site ≤ size w → site ≤ length (family_of (moved move w))
  low_size site within =
      let e : length (family_of (moved move w)) ≡ size (moved move w) = size_family (moved move w) in
      let f : size (moved move w) ≡ size w = size_moved w move in
      omega (arith, e, f, within)

  -- the entry of the move
  entry_now : EntryOf (family_of (moved move w))
  entry_now =
      record {
        site = move.site;
        some = fit.some;
        within = low_size move.site fit.within;
        front = (replica w move.site).entries;
        entry = record { input = move.input; reply = (step (machine_of w move.site) move.input).reply };
        back = [];
        splits = history_from (moved move w).replicas (move.site - 1)
            ∙ ap (λ (r : ReplicaValue). r.entries) (moved_here w move fit.some fit.within);
      }

  pub not_unfit : (why : Why) → reply_to move w ≡ Unfit why → ⊥
  unfolding entry_now
  not_unfit why =
      ((promised (moved move w) (world_moved w i move fit)).nothing_unfit entry_now (record { site = 0; seq = 0 })
      why).0

  not_dropped : is_dropped (reply_to move w) ≡ false
  unfolding entry_now
  not_dropped =
      dropped_is (reply_to move w)
      (λ d why. ((promised (moved move w) (world_moved w i move fit)).nothing_unfit entry_now d why).1)

  -- the machine of each site knows what it knew
  more_known : (s : ℕ) → 0 < s → s ≤ size w → KnowsMore (machine_of w s) (machine_of (moved move w) s)
  more_known s up within = at (nat_eq s move.site) refl
    where
      at : (b : Bool) → nat_eq s move.site ≡ b → KnowsMore (machine_of w s) (machine_of (moved move w) s)
      at true e =
          subst (λ (t : ℕ). KnowsMore (machine_of w t) (machine_of (moved move w) t)) (sym (eqb-true s move.site e))
          (subst (λ (r : ReplicaValue). KnowsMore (machine_of w move.site) r.machine)
          (sym (moved_here w move fit.some fit.within))
          (step_more (machine_of w move.site) move.input (reached_in w i move.site fit.some fit.within) not_dropped))
      at false e =
          subst (λ (r : ReplicaValue). KnowsMore (machine_of w s) r.machine)
          (sym (moved_there w move fit.some s up (eqb-false s move.site e))) (as_much (machine_of w s))

  pub stays_known : (s : ℕ) → 0 < s → s ≤ size w → (message : Message) → knows_message message (machine_of w s) ≡ true
      → knows_message message (machine_of (moved move w) s) ≡ true
  stays_known s up within message e =
      known_more message (machine_of w s) (machine_of (moved move w) s) (more_known s up within) e

  pub stays_had : (s : ℕ) → 0 < s → s ≤ size w → (d : DotValue) → IsTrue (vector_has (machine_of w s).have d)
      → IsTrue (vector_has (machine_of (moved move w) s).have d)
  stays_had s up within d e =
      covered_dots (machine_of (moved move w) s).have (machine_of w s).have (more_known s up within).have d e

low_after : (moves : List Move) (w : WorldValue) (s : ℕ) → s ≤ size w → s ≤ size (moved_all moves w)
low_after moves w s within = subst (λ (n : ℕ). s ≤ n) (sym (size_after moves w)) within

known_after : (moves : List Move) (w : WorldValue) → IsWorld w → AreDue moves w → (s : ℕ) → 0 < s → s ≤ size w
    → (message : Message) → knows_message message (machine_of w s) ≡ true
    → knows_message message (machine_of (moved_all moves w) s) ≡ true
known_after [] w i d s up within message e = e
known_after (move ∷ moves) w i d s up within message e =
    known_after moves (moved move w) (due_moved w i move d.0) d.1 s up
    (subst (λ (n : ℕ). s ≤ n) (sym (size_moved w move)) within) message
    (stays_known w i move (due_fit w i move d.0) s up within message e)

pub had_after : (moves : List Move) (w : WorldValue) → IsWorld w → AreDue moves w → (s : ℕ) → 0 < s → s ≤ size w
    → (d : DotValue) → IsTrue (vector_has (machine_of w s).have d)
    → IsTrue (vector_has (machine_of (moved_all moves w) s).have d)
had_after [] w i d s up within dot e = e
had_after (move ∷ moves) w i d s up within dot e =
    had_after moves (moved move w) (due_moved w i move d.0) d.1 s up
    (subst (λ (n : ℕ). s ≤ n) (sym (size_moved w move)) within) dot
    (stays_had w i move (due_fit w i move d.0) s up within dot e)

-- ---- one message

-- what was offered to a site that is to have it is known there
wanted_known : (site : ℕ) (message : Message) (w : WorldValue) → IsWorld w → 0 < site → site ≤ size w
    → In message w.sent → is_for site message ≡ true
    → knows_message message (machine_of (moved_all (wanted_moves site message w) w) site) ≡ true
wanted_known site message w i some within sent to = at (is_wanted site message w) refl
  where
    move : Move
    move = take site message

    at : (b : Bool) → is_wanted site message w ≡ b
        → knows_message message (machine_of (moved_all (if b then give_moves site message w else []) w) site) ≡ true
    at false e = unwanted_known site message w e to
    at true e =
        let due : AreDue (give_moves site message w) w =
        subst (λ (b : Bool). AreDue (if b then give_moves site message w else []) w) e
        (due_wanted site message w some within sent) in
        let fit : IsFit w (take site message) = due_fit w i (take site message) due.0 in
        let same : size (moved (take site message) w) ≡ size w = size_moved w (take site message) in
        known_after (nexts_after site (moved (take site message) w)) (moved (take site message) w)
        (due_moved w i (take site message) due.0) due.1 site some (omega (arith, within, same)) message
        (subst (λ (r : ReplicaValue). knows_message message r.machine ≡ true)
        (sym (moved_here w (take site message) some within))
        (came_known (machine_of w site) (reached_in w i site some within) message (sent_valid w i message sent)
        (not_unfit w i (take site message) fit)))

-- ---- all that was sent

moves_known : (site : ℕ) (messages : List Message) (w : WorldValue) → IsWorld w → 0 < site → site ≤ size w
    → ((message : Message) → In message messages → In message w.sent)
    → (message : Message) → In message messages → is_for site message ≡ true
    → knows_message message (machine_of (moved_all (moves_of site messages w) w) site) ≡ true
moves_known site [] w i some within sent message j to = absurd j
moves_known site (first ∷ messages) w i some within sent message j to =
    subst (λ (v : WorldValue). knows_message message (machine_of v site) ≡ true)
    (sym (moved_both (wanted_moves site first w) (moves_of site messages middle) w))
    (⊎_elim
    (λ (e : message ≡ first).
    known_after (moves_of site messages middle) middle is (due_moves site messages middle some within_now sent_now)
    site some
    within_now message
    (subst (λ (m : Message). knows_message m (machine_of middle site) ≡ true) (sym e)
    (wanted_known site first w i some within (sent first (inl refl))
    (subst (λ (m : Message). is_for site m ≡ true) e to))))
    (λ (k : In message messages). moves_known site messages middle is some within_now sent_now message k to)
    j)
  where
    middle : WorldValue
    middle = moved_all (wanted_moves site first w) w

    is : IsWorld middle
    is = world_due (wanted_moves site first w) w i (due_wanted site first w some within (sent first (inl refl)))

    within_now : site ≤ size middle
    within_now = low_after (wanted_moves site first w) w site within

    sent_now : (other : Message) → In other messages → In other middle.sent
    sent_now other k = still_sent (wanted_moves site first w) w other (sent other (inr k))

from_known : (k site : ℕ) (w : WorldValue) → IsWorld w → 0 < site → site + k ≤ size w + 1
    → (s : ℕ) → site ≤ s → s < site + k → (message : Message) → In message w.sent → is_for s message ≡ true
    → knows_message message (machine_of (moved_all (pass_from k site w) w) s) ≡ true
from_known zero site w i some within s from to message j f = absurd (omega (arith, from, to))
from_known (suc k) site w i some within s from to message j f =
    let middle : WorldValue = moved_all (give_all_moves site w) w in
    let same : size (moved_all (give_all_moves site w) w) ≡ size w = size_after (give_all_moves site w) w in
    let low : site ≤ size w = omega (arith, within) in
    let is : IsWorld (moved_all (give_all_moves site w) w) =
    world_due (give_all_moves site w) w i (due_moves site w.sent w some low (λ m l. l)) in
    let within_now : suc site + k ≤ size (moved_all (give_all_moves site w) w) + 1 = omega (arith, within, same) in
    subst (λ (v : WorldValue). knows_message message (machine_of v s) ≡ true)
    (sym (moved_both (give_all_moves site w) (pass_from k (suc site) middle) w))
    (at low is within_now (nat_eq s site) refl
    (λ (more : suc site ≤ s).
    from_known k (suc site) middle is (omega arith) within_now s more (omega (arith, to)) message
    (still_sent (give_all_moves site w) w message j) f))
  where
    at : site ≤ size w → IsWorld (moved_all (give_all_moves site w) w)
        → suc site + k ≤ size (moved_all (give_all_moves site w) w) + 1 → (b : Bool) → nat_eq s site ≡ b
        → (suc site ≤ s
        → knows_message message (machine_of (moved_all (pass_from k (suc site) (moved_all (give_all_moves site w) w))
        (moved_all (give_all_moves site w) w)) s) ≡ true)
        → knows_message message (machine_of (moved_all (pass_from k (suc site) (moved_all (give_all_moves site w) w))
        (moved_all (give_all_moves site w) w)) s) ≡ true
    at low is within_now true e rest =
        let here : s ≡ site = eqb-true s site e in
        subst (λ (t : ℕ). knows_message message (machine_of
        (moved_all (pass_from k (suc site) (moved_all (give_all_moves site w) w))
        (moved_all (give_all_moves site w) w)) t) ≡ true) (sym here)
        (known_after (pass_from k (suc site) (moved_all (give_all_moves site w) w))
        (moved_all (give_all_moves site w) w) is
        (due_from k (suc site) (moved_all (give_all_moves site w) w) (omega arith) within_now) site some
        (low_after (give_all_moves site w) w site low) message
        (moves_known site w.sent w i some low (λ m l. l) message j (subst (λ (t : ℕ). is_for t message ≡ true) here f)))
    at low is within_now false e rest = let other = eqb-false s site e in rest (omega (arith, from, other))

-- after a pass each site knows what was sent to it before
pub pass_known : (w : WorldValue) → IsWorld w → (s : ℕ) → 0 < s → s ≤ size w → (message : Message)
    → In message w.sent → is_for s message ≡ true → knows_message message (machine_of (moved_all (pass w) w) s) ≡ true
pass_known w i s up within message j to =
    from_known (size w) 1 w i (omega arith) (omega arith) s (omega (arith, up)) (omega (arith, within)) message j to

-- ---- where all is known

nothing_wanted : (site : ℕ) (messages : List Message) (w : WorldValue)
    → ((message : Message) → In message messages → is_wanted site message w ≡ false) → moves_of site messages w ≡ []
nothing_wanted site [] w h = refl
nothing_wanted site (message ∷ messages) w h =
    ap (λ (b : Bool). (if b then give_moves site message w else [])
    ++ moves_of site messages (moved_all (if b then give_moves site message w else []) w)) (h message (inl refl))
    ∙ nothing_wanted site messages w (λ other j. h other (inr j))

nothing_from : (k site : ℕ) (w : WorldValue)
    → ((s : ℕ) → site ≤ s → s < site + k → (message : Message) → In message w.sent → is_wanted s message w ≡ false)
    → pass_from k site w ≡ []
nothing_from zero site w h = refl
nothing_from (suc k) site w h =
    ap (λ (moves : List Move). moves ++ pass_from k (suc site) (moved_all moves w))
    (nothing_wanted site w.sent w (h site (omega arith) (omega arith)))
    ∙ nothing_from k (suc site) w (λ s from to. h s (omega (arith, from)) (omega (arith, to)))

pub known_pass : (w : WorldValue)
    → ((s : ℕ) → 0 < s → s ≤ size w → (message : Message) → In message w.sent → is_for s message ≡ true
    → knows_message message (machine_of w s) ≡ true)
    → pass w ≡ []
known_pass w h =
    nothing_from (size w) 1 w
    (λ s from to message j. not_wanted s message w (h s (omega (arith, from)) (omega (arith, to)) message j))
