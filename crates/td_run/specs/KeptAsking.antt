-- The requests that a command of a kept script hands to its site, up to the first that is not done: one that the
-- replica refuses, or one for whose record the disk of the site has no room.
use Rattle.std.specs.Prelude.{◌+◌, ℕ, List, [], ◌∷◌, Option, Some, None, if◌then◌else◌}
use Rattle.td_op.specs.declared.reply.Reply.{Reply}
use Rattle.td_op.specs.declared.request.Request.{Request}
use Rattle.td_world.specs.World.{WorldValue, replica, reply_to, moved}
use Rattle.td_world.specs.Calls.{ask}
use Rattle.td_kept.specs.KeptWorld.{has_room, journal_len}
use Rattle.td_run.specs.declared.kept.outcome.KeptOutcome.{KeptOutcome}
use Rattle.td_run.specs.declared.kept.outcome.Refusal.{Refusal}
use Rattle.td_run.specs.declared.kept.outcome.Refusal.TheVariants.{Refused, Full}
use Rattle.td_report.specs.Asking.{Edit, is_made}

-- what came of a request: the world behind it, and why it was not done
pub record KeptAnswer : Type 0 where
  pub world : WorldValue
  pub refusal : Option Refusal

abbrev pub refused_or_done : Reply → Option Refusal
refused_or_done reply = if is_made reply then None else Some (Refused reply)

abbrev pub asked_once : ℕ → Request → WorldValue → KeptAnswer
asked_once site request w =
    let move = ask site request in
    if has_room move w
    then record { world = moved move w; refusal = refused_or_done (reply_to move w) }
    else record { world = w; refusal = Some (Full (journal_len (replica w site))) }

-- what came of edits: the world behind them, how many atoms were edited, and why not all
pub record KeptAsked : Type 0 where
  pub world : WorldValue
  pub done : ℕ
  pub refusal : Option Refusal

-- told by what the code counts
abbrev pub kept_asked : WorldValue → KeptOutcome → KeptAsked
kept_asked w o = record { world = w; done = o.done; refusal = o.refusal }

-- so many atoms were edited before
abbrev pub done_before_kept : ℕ → KeptAsked → KeptAsked
done_before_kept count a = record { world = a.world; done = count + a.done; refusal = a.refusal }

-- by why the first was not done, the world behind it, how many atoms it edits, and what comes of the others there
abbrev pub goes_on_kept : Option Refusal → WorldValue → ℕ → KeptAsked → KeptAsked
goes_on_kept None w count others = done_before_kept count others
goes_on_kept (Some refusal) w count others = record { world = w; done = 0; refusal = Some refusal }

abbrev pub ask_kept : ℕ → List Edit → WorldValue → KeptAsked
ask_kept site [] w = record { world = w; done = 0; refusal = None }
ask_kept site (edit ∷ edits) w =
    let first = asked_once site edit.request w in
    goes_on_kept first.refusal first.world edit.atoms (ask_kept site edits first.world)
