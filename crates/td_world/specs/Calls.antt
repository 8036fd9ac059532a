-- What the calls of a world do: moves, made one after another. Where one finds no memory, those before it are done.
use Rattle.std.specs.Prelude.{◌≡◌, ◌++◌, ◌&&◌, ℕ, zero, suc, List, [], ◌∷◌, Bool, true, false}
use Rattle.std.specs.Prelude.{not, length, Option, Some, None, if◌then◌else◌}
use Rattle.td_op.specs.declared.input.Input.{Input}
use Rattle.td_op.specs.declared.input.Input.TheVariants.{Local, Take, Next}
use Rattle.td_op.specs.declared.message.Message.{Message}
use Rattle.td_op.specs.declared.request.Request.{Request}
use Rattle.td_base.specs.Lists.{kth}
use Rattle.td_replica.specs.declared.given.Given.{Given}
use Rattle.td_replica.specs.declared.given.Given.TheVariants.{NoSuch, Stray, Took}
use Rattle.td_replica.specs.Replica.{knows_message, has_ready}
use Rattle.td_world.specs.World.{WorldValue, Move, size, machine_of, reply_to, moved, moved_all}
use Rattle.td_op.specs.Message.{is_for}

-- ---- call

abbrev pub ask : ℕ → Request → Move
ask site request = record { site = site; input = Local request }

-- ---- give

abbrev pub take : ℕ → Message → Move
take site message = record { site = site; input = Take message }

abbrev pub next : ℕ → Move
next site = record { site = site; input = Next }

-- as long as an operation that waits can be taken, and at most so often
abbrev pub nexts : ℕ → ℕ → WorldValue → List Move
nexts zero site w = []
nexts (suc k) site w =
    if has_ready (machine_of w site) then next site ∷ nexts k site (moved (next site) w) else []

-- after the message as many as wait then: each takes one away from those
abbrev pub nexts_after : ℕ → WorldValue → List Move
nexts_after site w = nexts (length (machine_of w site).waiting) site w

abbrev pub give_moves : ℕ → Message → WorldValue → List Move
give_moves site message w = take site message ∷ nexts_after site (moved (take site message) w)

abbrev pub took : ℕ → Message → WorldValue → Given
took site message w =
    Took (reply_to (take site message) w) (length (nexts_after site (moved (take site message) w)))

-- nothing is moved where no message has the number, and where it is not for the site
abbrev pub found_moves : ℕ → Option Message → WorldValue → List Move
found_moves site None w = []
found_moves site (Some message) w = if is_for site message then give_moves site message w else []

abbrev pub found_given : ℕ → Option Message → WorldValue → Given
found_given site None w = NoSuch
found_given site (Some message) w = if is_for site message then took site message w else Stray

-- the message with this number, from 1
abbrev pub numbered_moves : ℕ → ℕ → WorldValue → List Move
numbered_moves site number w = found_moves site (kth number w.sent) w

abbrev pub numbered_given : ℕ → ℕ → WorldValue → Given
numbered_given site number w = found_given site (kth number w.sent) w

-- ---- give_all

-- the message is for the site, and not known there
abbrev pub is_wanted : ℕ → Message → WorldValue → Bool
is_wanted site message w = is_for site message && not (knows_message message (machine_of w site))

abbrev pub wanted_moves : ℕ → Message → WorldValue → List Move
wanted_moves site message w = if is_wanted site message w then give_moves site message w else []

abbrev pub wanted_answer : ℕ → Message → WorldValue → Option Given
wanted_answer site message w = if is_wanted site message w then Some (took site message w) else None

-- the message with this number, where there is one and the site wants it
abbrev pub offered_by : ℕ → Option Message → WorldValue → Option Given
offered_by site None w = None
offered_by site (Some message) w = wanted_answer site message w

abbrev pub offered : ℕ → ℕ → WorldValue → Option Given
offered site number w = offered_by site (kth number w.sent) w

abbrev pub offer_moves_of : ℕ → Option Message → WorldValue → List Move
offer_moves_of site None w = []
offer_moves_of site (Some message) w = wanted_moves site message w

abbrev pub offer_moves : ℕ → ℕ → WorldValue → List Move
offer_moves site number w = offer_moves_of site (kth number w.sent) w

-- these messages in turn, those that are wanted when their turn comes
abbrev pub moves_of : ℕ → List Message → WorldValue → List Move
moves_of site [] w = []
moves_of site (message ∷ messages) w =
    wanted_moves site message w ++ moves_of site messages (moved_all (wanted_moves site message w) w)

abbrev pub wanted_given : ℕ → ℕ → Message → WorldValue → List (ℕ × Given)
wanted_given site number message w =
    if is_wanted site message w then (number, took site message w) ∷ [] else []

-- with the number of each, the first having this one
abbrev pub given_of : ℕ → ℕ → List Message → WorldValue → List (ℕ × Given)
given_of site number [] w = []
given_of site number (message ∷ messages) w =
    wanted_given site number message w
    ++ given_of site (suc number) messages (moved_all (wanted_moves site message w) w)

-- all that were sent before
abbrev pub give_all_moves : ℕ → WorldValue → List Move
give_all_moves site w = moves_of site w.sent w

abbrev pub give_all_given : ℕ → WorldValue → List (ℕ × Given)
give_all_given site w = given_of site 1 w.sent w

-- ---- settle

-- give_all for so many sites from this one on
abbrev pub pass_from : ℕ → ℕ → WorldValue → List Move
pass_from zero site w = []
pass_from (suc k) site w =
    give_all_moves site w ++ pass_from k (suc site) (moved_all (give_all_moves site w) w)

-- and for all
abbrev pub pass : WorldValue → List Move
pass w = pass_from (size w) 1 w

-- so many passes
abbrev pub passes : ℕ → WorldValue → List Move
passes zero w = []
passes (suc k) w = pass w ++ passes k (moved_all (pass w) w)

abbrev pub is_take : Input → Bool
is_take (Take message) = true
is_take (Local request) = false
is_take Next = false

-- how many messages are given
abbrev pub count_given : List Move → ℕ
count_given [] = 0
count_given (move ∷ moves) = if is_take move.input then suc (count_given moves) else count_given moves

-- passes until one gives nothing. After that one no further pass gives anything, so their number makes no difference
pub record IsSettled (old new : WorldValue) (given : ℕ) : Type 0 where
  pub number : ℕ
  pub after : new ≡ moved_all (passes number old) old
  pub still : pass new ≡ []
  pub count : given ≡ count_given (passes number old)

-- ---- want of memory

-- the moves before one that found no memory are done, and that one is not
pub record IsStopped (moves : List Move) (old new : WorldValue) : Type 0 where
  pub front : List Move
  pub wanting : Move
  pub back : List Move
  pub splits : moves ≡ front ++ wanting ∷ back
  pub after : new ≡ moved_all front old

-- a front of the moves is done: there may have been no memory to note the next one
pub record IsCutShort (moves : List Move) (old new : WorldValue) : Type 0 where
  pub front : List Move
  pub back : List Move
  pub splits : moves ≡ front ++ back
  pub after : new ≡ moved_all front old

-- so a move of some passes found no memory
pub record IsUnsettled (old new : WorldValue) : Type 0 where
  pub number : ℕ
  pub stopped : IsStopped (passes number old) old new
