-- A command of a kept script leaves as many sites as there are.
use Rattle.std.proofs.Common.{◌≡◌, ℕ, List, [], ◌∷◌, Bool, true, false, Option, Some, None, refl, ◌∙◌, if◌then◌else◌}
use Rattle.td_op.specs.declared.request.Request.{Request}
use Rattle.td_op.specs.declared.request.Request.TheVariants.{Insert, Cancel as GiveUp}
use Rattle.td_script.specs.declared.kept.command.KeptCommand.{KeptCommand}
use Rattle.td_script.specs.declared.kept.command.KeptCommand.TheVariants.{Sites, Ins, Del, Flat, Cancel, Give, Show}
use Rattle.td_script.specs.declared.kept.command.KeptCommand.TheVariants.{Crash}
use Rattle.td_world.specs.World.{Move, WorldValue, moved, moved_all, replica, reply_to, size}
use Rattle.td_world.specs.Calls.{ask, numbered_given, numbered_moves}
use Rattle.td_world.proofs.Moves.{size_after}
use Rattle.td_kept.specs.KeptWorld.{all_fit, crash_moves, fitting, has_room, journal_len}
use Rattle.td_report.specs.Given.{give_line}
use Rattle.td_report.specs.Kept.{give_full_line}
use Rattle.td_run.specs.declared.kept.outcome.Refusal.{Refusal}
use Rattle.td_run.specs.declared.kept.outcome.Refusal.TheVariants.{Full}
use Rattle.td_report.specs.Asking.{Edit, deletes, inserts}
use Rattle.td_run.specs.KeptAsking.{KeptAnswer, KeptAsked, ask_kept, asked_once, goes_on_kept, refused_or_done}
use Rattle.td_run.specs.KeptPrinting.{if_room, kept_effect}
use Rattle.td_report.specs.Asking.{proposal}
use Rattle.td_run.specs.Printing.{Effect, Shown, line_and_events, only_line}

asked : (site : ℕ) (request : Request) (w : WorldValue) → size (asked_once site request w).world ≡ size w
asked site request w = at (has_room (ask site request) w)
  where
    at : (b : Bool) → size (KeptAnswer.world (if b then record {
      world = moved (ask site request) w;
      refusal = refused_or_done (reply_to (ask site request) w);
    } else record { world = w; refusal = Some (Full (journal_len (replica w site))) })) ≡ size w
    at true = size_after (ask site request ∷ []) w
    at false = refl

gone_on : (refusal : Option Refusal) (v : WorldValue) (count : ℕ) (others : KeptAsked)
    → size others.world ≡ size v → size (goes_on_kept refusal v count others).world ≡ size v
gone_on None v count others same = same
gone_on (Some refusal) v count others same = refl

after_edits : (site : ℕ) (edits : List Edit) (w : WorldValue) → size (ask_kept site edits w).world ≡ size w
after_edits site [] w = refl
after_edits site (edit ∷ edits) w =
    let first : KeptAnswer = asked_once site edit.request w in
    gone_on first.refusal first.world edit.atoms (ask_kept site edits first.world) (after_edits site edits first.world)
    ∙ asked site edit.request w

where_room : (move : Move) (w : WorldValue) (done : Effect) (full : List ℕ) → size done.world ≡ size w
    → size (if_room move w done full).world ≡ size w
where_room move w done full same = at (has_room move w)
  where
    at : (b : Bool) → size (Effect.world (if b then done else only_line w full)) ≡ size w
    at true = same
    at false = refl

given : (site number : ℕ) (w : WorldValue) (b : Bool)
    → size (Effect.world (if b
    then line_and_events w (moved_all (numbered_moves site number w) w)
    (give_line site number (numbered_given site number w))
    else line_and_events w (moved_all (fitting (numbered_moves site number w) w) w)
    (give_full_line site number (journal_len (replica (moved_all (fitting (numbered_moves site number w) w) w) site)))))
    ≡ size w
given site number w true = size_after (numbered_moves site number w) w
given site number w false = size_after (fitting (numbered_moves site number w) w) w

pub size_kept : (shown : Shown) (command : KeptCommand) (w : WorldValue)
    → size (kept_effect shown command w).world ≡ size w
size_kept shown (Sites n) w = refl
size_kept shown (Ins site index atoms) w = after_edits site (inserts index atoms) w
size_kept shown (Del site index count) w = after_edits site (deletes index count) w
size_kept shown (Flat site place) w =
    where_room (ask site (proposal place)) w _ _ (size_after (ask site (proposal place) ∷ []) w)
size_kept shown (Cancel site p) w =
    where_room (ask site (GiveUp p)) w _ _ (size_after (ask site (GiveUp p) ∷ []) w)
size_kept shown (Give site number) w = given site number w (all_fit (numbered_moves site number w) w)
size_kept shown (Show site) w = refl
size_kept shown (Crash site k choice index atom) w =
    where_room (ask site (Insert index atom)) w _ _ (size_after (crash_moves (ask site (Insert index atom)) k choice) w)
