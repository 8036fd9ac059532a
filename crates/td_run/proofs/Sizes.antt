-- A command leaves as many sites as there are, and each its marks.
use Rattle.std.proofs.Common.{◌≡◌, ◌-◌, ℕ, suc, List, [], ◌∷◌, Bool, true, false, Option, Some, None, length, refl, ap}
use Rattle.std.proofs.Common.{◌∙◌, if◌then◌else◌}
use Rattle.td_idle.specs.Best.{best_slot}
use Rattle.std.proofs.lemmas.List.{length-set}
use Rattle.td_op.specs.declared.message.Message.{Message}
use Rattle.td_op.specs.declared.reply.Reply.{Reply}
use Rattle.td_path.specs.declared.slot.Slot.{Slot}
use Rattle.td_script.specs.declared.command.Command.{Command}
use Rattle.td_script.specs.declared.command.Command.TheVariants.{Sites, Ins, Paste, Del, Flat, FlatAuto, Cancel}
use Rattle.td_script.specs.declared.command.Command.TheVariants.{Give, GiveAll, Settle, Show, Tree, Count}
use Rattle.td_script.specs.declared.command.Command.TheVariants.{Mark, Meet, Marks}
use Rattle.td_op.specs.declared.request.Request.TheVariants.{Cancel as GiveUp, Propose}
use Rattle.td_world.specs.World.{WorldValue, machine_of, moved, moved_all, reply_to, size}
use Rattle.td_world.specs.Calls.{ask, numbered_moves, passes, wanted_moves}
use Rattle.td_world.proofs.Moves.{size_after}
use Rattle.td_report.specs.Asking.{Edit, deletes, inserts, is_made, pastes}
use Rattle.td_run.specs.Asking.{Asked, ask_all, done_before, goes_on}
use Rattle.td_report.specs.Asking.{proposal}
use Rattle.td_run.specs.Printing.{Printed, Prints, Shown, flat_slot, give_each}
use Rattle.td_text.specs.Runs.{runs_of}

one_move : (site : ℕ) (w : WorldValue) (edit : Edit) → size (moved (ask site edit.request) w) ≡ size w
one_move site w edit = size_after (ask site edit.request ∷ []) w

gone_on : (reply : Reply) (v : WorldValue) (count : ℕ) (others : Asked) → size others.world ≡ size v
    → size (goes_on reply v count others).world ≡ size v
gone_on reply v count others same = at (is_made reply)
  where
    at : (b : Bool)
        → size (if b then done_before count others else record { world = v; done = 0; refused = Some reply }).world
        ≡ size v
    at true = same
    at false = refl

after_edits : (site : ℕ) (edits : List Edit) (w : WorldValue) → size (ask_all site edits w).world ≡ size w
after_edits site [] w = refl
after_edits site (edit ∷ edits) w =
    gone_on (reply_to (ask site edit.request) w) (moved (ask site edit.request) w) edit.atoms
    (ask_all site edits (moved (ask site edit.request) w))
    (after_edits site edits (moved (ask site edit.request) w))
    ∙ one_move site w edit

after_given : (site number : ℕ) (messages : List Message) (w : WorldValue)
    → size (give_each site number messages w).world ≡ size w
after_given site number [] w = refl
after_given site number (m ∷ messages) w =
    after_given site (suc number) messages (moved_all (wanted_moves site m w) w) ∙ size_after (wanted_moves site m w) w

after_slot : (site : ℕ) (slot : Option Slot) (w : WorldValue) → size (flat_slot site slot w).world ≡ size w
after_slot site None w = refl
after_slot site (Some slot) w = size_after (ask site (Propose slot) ∷ []) w

pub size_stays : (shown : Shown) (old : Printed) (command : Command) (new : Printed) → Prints shown old command new
    → size new.world ≡ size old.world
size_stays shown old (Sites n) new is = ap (λ (p : Printed). size p.world) is
size_stays shown old (Ins site index atoms) new is =
    ap (λ (p : Printed). size p.world) is ∙ after_edits site (inserts index atoms) old.world
size_stays shown old (Paste site index atoms) new is =
    ap (λ (p : Printed). size p.world) is ∙ after_edits site (pastes index (runs_of atoms)) old.world
size_stays shown old (Del site index count) new is =
    ap (λ (p : Printed). size p.world) is ∙ after_edits site (deletes index count) old.world
size_stays shown old (Flat site place) new is =
    ap (λ (p : Printed). size p.world) is ∙ size_after (ask site (proposal place) ∷ []) old.world
size_stays shown old (FlatAuto site) new is =
    ap (λ (p : Printed). size p.world) is ∙ after_slot site (best_slot (machine_of old.world site)) old.world
size_stays shown old (Cancel site p) new is =
    ap (λ (q : Printed). size q.world) is ∙ size_after (ask site (GiveUp p) ∷ []) old.world
size_stays shown old (Give site number) new is =
    ap (λ (p : Printed). size p.world) is ∙ size_after (numbered_moves site number old.world) old.world
size_stays shown old (GiveAll site) new is =
    ap (λ (p : Printed). size p.world) is ∙ after_given site 1 old.world.sent old.world
size_stays shown old Settle new settles =
    ap (λ (p : Printed). size p.world) settles.2 ∙ ap size settles.1.1.after
    ∙ size_after (passes settles.1.1.number old.world) old.world
size_stays shown old (Show site) new is = ap (λ (p : Printed). size p.world) is
size_stays shown old (Tree site) new is = ap (λ (p : Printed). size p.world) is
size_stays shown old (Count site) new is = ap (λ (p : Printed). size p.world) is
size_stays shown old (Mark site add name index count) new is = ap (λ (p : Printed). size p.world) is
size_stays shown old (Meet site other) new is = ap (λ (p : Printed). size p.world) is
size_stays shown old (Marks site) new is = ap (λ (p : Printed). size p.world) is

-- and each its marks
pub marks_stay : (shown : Shown) (old : Printed) (command : Command) (new : Printed) → Prints shown old command new
    → length new.marks ≡ length old.marks
marks_stay shown old (Sites n) new is = ap (λ (p : Printed). length p.marks) is
marks_stay shown old (Ins site index atoms) new is = ap (λ (p : Printed). length p.marks) is
marks_stay shown old (Paste site index atoms) new is = ap (λ (p : Printed). length p.marks) is
marks_stay shown old (Del site index count) new is = ap (λ (p : Printed). length p.marks) is
marks_stay shown old (Flat site place) new is = ap (λ (p : Printed). length p.marks) is
marks_stay shown old (FlatAuto site) new is = ap (λ (p : Printed). length p.marks) is
marks_stay shown old (Cancel site p) new is = ap (λ (q : Printed). length q.marks) is
marks_stay shown old (Give site number) new is = ap (λ (p : Printed). length p.marks) is
marks_stay shown old (GiveAll site) new is = ap (λ (p : Printed). length p.marks) is
marks_stay shown old Settle new settles = ap (λ (p : Printed). length p.marks) settles.2
marks_stay shown old (Show site) new is = ap (λ (p : Printed). length p.marks) is
marks_stay shown old (Tree site) new is = ap (λ (p : Printed). length p.marks) is
marks_stay shown old (Count site) new is = ap (λ (p : Printed). length p.marks) is
marks_stay shown old (Mark site add name index count) new is =
    ap (λ (p : Printed). length p.marks) is ∙ length-set old.marks (site - 1) _
marks_stay shown old (Meet site other) new is =
    ap (λ (p : Printed). length p.marks) is ∙ length-set old.marks (site - 1) _
marks_stay shown old (Marks site) new is = ap (λ (p : Printed). length p.marks) is
