-- What each command of a kept script does, and what it prints: the machines under the rule of crashes.
use Rattle.std.specs.Prelude.{◌≡◌, ◌<◌, ℕ, List, [], ◌∷◌, Option, Some, None, length, if◌then◌else◌}
use Rattle.td_base.specs.Value.{DotValue}
use Rattle.td_op.specs.declared.request.Request.{Request}
use Rattle.td_op.specs.declared.request.Request.TheVariants.{Insert, Cancel as GiveUp}
use Rattle.td_replica.specs.Replica.{ReplicaValue}
use Rattle.td_report.specs.Given.{give_line}
use Rattle.td_report.specs.Kept.{cancel_full_line, crash_full_line, crash_line, del_full_line, flat_full_line}
use Rattle.td_report.specs.Kept.{give_full_line, ins_full_line}
use Rattle.td_report.specs.Replies.{cancel_line, del_line, flat_line, ins_line}
use Rattle.td_report.specs.Tree.{show_line}
use Rattle.td_script.specs.declared.command.Place.{Place}
use Rattle.td_script.specs.declared.kept.command.KeptCommand.{KeptCommand}
use Rattle.td_script.specs.declared.kept.command.KeptCommand.TheVariants.{Sites, Ins, Del, Flat, Cancel, Give, Show}
use Rattle.td_script.specs.declared.kept.command.KeptCommand.TheVariants.{Crash}
use Rattle.td_script.specs.declared.kept.script.KeptScript.{KeptScript}
use Rattle.td_world.specs.World.{WorldValue, Move, moved, moved_all, new_world, replica, reply_to}
use Rattle.td_world.specs.Calls.{ask, numbered_given, numbered_moves}
use Rattle.td_world.specs.Promises.{IsPromised}
use Rattle.td_kept.specs.KeptWorld.{all_fit, crashed, fitting, has_room, journal_len}
use Rattle.td_run.specs.declared.kept.outcome.Refusal.{Refusal}
use Rattle.td_run.specs.declared.kept.outcome.Refusal.TheVariants.{Refused, Full}
use Rattle.td_report.specs.Asking.{deletes, inserts}
use Rattle.td_run.specs.KeptAsking.{ask_kept}
use Rattle.td_report.specs.Asking.{proposal}
use Rattle.td_run.specs.Printing.{Effect, Shown, in_turn, line_and_events, only_line, own_text, taken_text}

-- ---- lines, by why not all was done

abbrev pub kept_ins_line : ℕ → ℕ → ℕ → Option Refusal → List ℕ
kept_ins_line site done all None = ins_line site done all None
kept_ins_line site done all (Some (Refused reply)) = ins_line site done all (Some reply)
kept_ins_line site done all (Some (Full len)) = ins_full_line site done all len

abbrev pub kept_del_line : ℕ → ℕ → ℕ → Option Refusal → List ℕ
kept_del_line site done all None = del_line site done all None
kept_del_line site done all (Some (Refused reply)) = del_line site done all (Some reply)
kept_del_line site done all (Some (Full len)) = del_full_line site done all len

-- ---- commands

abbrev pub kept_ins : ℕ → ℕ → List (List ℕ) → WorldValue → Effect
kept_ins site index atoms w =
    let asked = ask_kept site (inserts index atoms) w in
    line_and_events w asked.world (kept_ins_line site asked.done (length atoms) asked.refusal)

abbrev pub kept_del : ℕ → ℕ → ℕ → WorldValue → Effect
kept_del site index count w =
    let asked = ask_kept site (deletes index count) w in
    line_and_events w asked.world (kept_del_line site asked.done count asked.refusal)

-- where the disk of the site has room for the move, what comes of it; else a line alone
abbrev pub if_room : Move → WorldValue → Effect → List ℕ → Effect
if_room move w done full = if has_room move w then done else only_line w full

abbrev pub kept_flat : ℕ → Place → WorldValue → Effect
kept_flat site place w =
    let move = ask site (proposal place) in
    if_room move w (line_and_events w (moved move w) (flat_line site (reply_to move w)))
    (flat_full_line site (journal_len (replica w site)))

abbrev pub kept_cancel : ℕ → DotValue → WorldValue → Effect
kept_cancel site p w =
    let move = ask site (GiveUp p) in
    if_room move w (line_and_events w (moved move w) (cancel_line site p (reply_to move w)))
    (cancel_full_line site p (journal_len (replica w site)))

-- a message, and what waits and is ready; where not all of that has room, what is before
abbrev pub kept_give : ℕ → ℕ → WorldValue → Effect
kept_give site number w =
    let moves = numbered_moves site number w in
    let front = moved_all (fitting moves w) w in
    if all_fit moves w
    then line_and_events w (moved_all moves w) (give_line site number (numbered_given site number w))
    else line_and_events w front (give_full_line site number (journal_len (replica front site)))

-- how many entries a site has
abbrev pub entries : ℕ → WorldValue → ℕ
entries site w = length (replica w site).entries

abbrev pub kept_crash : ℕ → ℕ → ℕ → ℕ → List ℕ → WorldValue → Effect
kept_crash site k choice index atom w =
    let move = ask site (Insert index atom) in
    let back = crashed move k choice w in
    if_room move w (line_and_events w back (crash_line site (entries site back)))
    (crash_full_line site (journal_len (replica w site)))

abbrev pub kept_effect : Shown → KeptCommand → WorldValue → Effect
kept_effect shown (Sites n) w = only_line w []
kept_effect shown (Ins site index atoms) w = kept_ins site index atoms w
kept_effect shown (Del site index count) w = kept_del site index count w
kept_effect shown (Flat site place) w = kept_flat site place w
kept_effect shown (Cancel site proposal) w = kept_cancel site proposal w
kept_effect shown (Give site number) w = kept_give site number w
kept_effect shown (Show site) w = only_line w (show_line site (shown w site))
kept_effect shown (Crash site k choice index atom) w = kept_crash site k choice index atom w

-- of commands, one after another
abbrev pub kept_effects : Shown → List KeptCommand → WorldValue → Effect
kept_effects shown [] w = only_line w []
kept_effects shown (command ∷ commands) w =
    let first = kept_effect shown command w in in_turn first (kept_effects shown commands first.world)

-- of a kept script, beginning with sites that have done nothing
abbrev pub of_kept_script : Shown → KeptScript → Effect
of_kept_script shown script = kept_effects shown script.commands (new_world script.sites)

-- ---- what is promised of the bytes

-- the bytes are what a kept script prints
pub record IsKeptOutputOf (script : KeptScript) (bytes : List ℕ) : Type 0 where
  -- where `show` prints the text of the document that a site has
  pub own : bytes ≡ (of_kept_script own_text script).text
  -- and the same is printed where `show` prints the atoms inserted and not deleted by the operations that the site has
  -- taken, in the one order that the insertions alone fix
  pub taken : bytes ≡ (of_kept_script taken_text script).text
  -- and of all that happened the six promises hold (a script without a command has no site)
  pub promises : 0 < script.sites → IsPromised (of_kept_script own_text script).world
