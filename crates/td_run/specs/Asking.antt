-- The requests that a command hands to its site, up to the first that is refused.
use Rattle.std.specs.Prelude.{◌+◌, ℕ, List, [], ◌∷◌}
use Rattle.std.specs.Prelude.{Option, Some, None, if◌then◌else◌}
use Rattle.td_op.specs.declared.reply.Reply.{Reply}
use Rattle.td_report.specs.declared.asking.Outcome.{Outcome}
use Rattle.td_report.specs.Asking.{Edit, is_made}
use Rattle.td_world.specs.World.{WorldValue, reply_to, moved}
use Rattle.td_world.specs.Calls.{ask}

-- what came of edits: the world behind them, how many atoms were edited, and the reply to one that was refused
pub record Asked : Type 0 where
  pub world : WorldValue
  pub done : ℕ
  pub refused : Option Reply

-- told by what the code counts
abbrev pub asked : WorldValue → Outcome → Asked
asked w o = record { world = w; done = o.done; refused = o.refused }

-- so many atoms were edited before
abbrev pub done_before : ℕ → Asked → Asked
done_before count a = record { world = a.world; done = count + a.done; refused = a.refused }

-- by the reply to the first, the world behind it, and what comes of the others if they are asked there
abbrev pub goes_on : Reply → WorldValue → ℕ → Asked → Asked
goes_on reply w count others =
    if is_made reply then done_before count others else record { world = w; done = 0; refused = Some reply }

abbrev pub ask_all : ℕ → List Edit → WorldValue → Asked
ask_all site [] w = record { world = w; done = 0; refused = None }
ask_all site (edit ∷ edits) w =
    let move = ask site edit.request in
    goes_on (reply_to move w) (moved move w) edit.atoms (ask_all site edits (moved move w))
