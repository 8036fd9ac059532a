-- What each command of a script does, and what it prints.
use Rattle.std.specs.Prelude.{◌≡◌, ℕ, suc, List, [], ◌∷◌, ◌++◌, Option, Some, None, length, drop, if◌then◌else◌}
use Rattle.std.specs.List.{flat_map}
use Rattle.td_base.specs.Value.{DotValue}
use Rattle.td_doc.specs.Document.{text_of}
use Rattle.td_op.specs.declared.message.Message.{Message}
use Rattle.td_op.specs.declared.request.Request.{Request}
use Rattle.td_op.specs.declared.request.Request.TheVariants.{Propose, Cancel as GiveUp}
use Rattle.td_order.specs.Show.{show}
use Rattle.td_idle.specs.Best.{best_slot}
use Rattle.td_marks.specs.Marks.{MarksValue}
use Rattle.td_path.specs.declared.slot.Slot.{Slot}
use Rattle.td_script.specs.declared.command.Command.{Command}
use Rattle.td_script.specs.declared.command.Command.TheVariants.{Sites, Ins, Paste, Del, Flat, FlatAuto, Cancel}
use Rattle.td_script.specs.declared.command.Command.TheVariants.{Give, GiveAll, Settle, Show, Tree, Count}
use Rattle.td_script.specs.declared.command.Command.TheVariants.{Mark, Meet, Marks}
use Rattle.td_script.specs.declared.command.Place.{Place}
use Rattle.td_script.specs.declared.script.Script.{Script}
use Rattle.td_base.specs.Lists.{kth}
use Rattle.td_report.specs.Replies.{ins_line, paste_line, del_line, flat_line, flat_none_line}
use Rattle.td_report.specs.Replies.{cancel_line, event_line}
use Rattle.td_report.specs.Given.{give_line, settle_line}
use Rattle.td_report.specs.Tree.{show_line, tree_lines}
use Rattle.td_report.specs.Numbers.{count_line}
use Rattle.td_world.specs.World.{WorldValue, machine_of, moved, moved_all, new_world, reply_to}
use Rattle.td_world.specs.Calls.{ask, is_wanted, numbered_given, numbered_moves, took, wanted_moves, IsSettled}
use Rattle.td_report.specs.Asking.{inserts, pastes, deletes, proposal}
use Rattle.td_run.specs.Asking.{ask_all}
use Rattle.td_run.specs.Marking.{Marking, mark, marked_lines, meet, new_marks}
use Rattle.td_text.specs.Runs.{runs_of}

-- the votes and decisions among the messages that were sent between two moments
abbrev pub events : WorldValue → WorldValue → List ℕ
events old new = flat_map event_line (drop (length old.sent) new.sent)

-- what is printed of the message with this number, where it is a vote or a decision
abbrev pub event_of : Option Message → List ℕ
event_of None = []
event_of (Some message) = event_line message

abbrev pub event_at : ℕ → WorldValue → List ℕ
event_at number w = event_of (kth number w.sent)

-- a world, the marks of its sites, from site 1 on, and what was printed on the way to them
pub record Printed : Type 0 where
  pub world : WorldValue
  pub marks : List MarksValue
  pub text : List ℕ

-- so many sites that have done nothing
abbrev pub start_of : ℕ → Printed
start_of n = record { world = new_world n; marks = new_marks n; text = [] }

abbrev pub with_text : List ℕ → Printed → Printed
with_text text p = record { world = p.world; marks = p.marks; text = text }

abbrev pub with_world : WorldValue → Printed → Printed
with_world w p = record { world = w; marks = p.marks; text = p.text }

abbrev pub with_line : List ℕ → Printed → Printed
with_line line p = with_text (p.text ++ line) p

-- behind these bytes, which were printed before
abbrev pub behind : List ℕ → Printed → Printed
behind front p = with_text (front ++ p.text) p

-- what comes of a command in a world: the world behind it, and what is printed
pub record Effect : Type 0 where
  pub world : WorldValue
  pub text : List ℕ

-- a line about what happened between two worlds, and then the events
abbrev pub line_and_events : WorldValue → WorldValue → List ℕ → Effect
line_and_events old new line = record { world = new; text = line ++ events old new }

-- a line about a world in which nothing happens
abbrev pub only_line : WorldValue → List ℕ → Effect
only_line w line = record { world = w; text = line }

-- one after another
abbrev pub in_turn : Effect → Effect → Effect
in_turn first second = record { world = second.world; text = first.text ++ second.text }

abbrev pub and_then : Printed → Effect → Printed
and_then p effect = record { world = effect.world; marks = p.marks; text = p.text ++ effect.text }

-- and what comes of a command on marks
abbrev pub and_marked : Printed → Marking → Printed
and_marked p m = record { world = p.world; marks = m.marks; text = p.text ++ m.line }

abbrev pub ins : ℕ → ℕ → List (List ℕ) → WorldValue → Effect
ins site index atoms w =
    let asked = ask_all site (inserts index atoms) w in
    line_and_events w asked.world (ins_line site asked.done (length atoms) asked.refused)

abbrev pub paste : ℕ → ℕ → List (List ℕ) → WorldValue → Effect
paste site index atoms w =
    let asked = ask_all site (pastes index (runs_of atoms)) w in
    line_and_events w asked.world (paste_line site asked.done (length atoms) asked.refused)

abbrev pub del : ℕ → ℕ → ℕ → WorldValue → Effect
del site index count w =
    let asked = ask_all site (deletes index count) w in
    line_and_events w asked.world (del_line site asked.done count asked.refused)

abbrev pub proposed_by : ℕ → Request → WorldValue → Effect
proposed_by site request w =
    let move = ask site request in
    line_and_events w (moved move w) (flat_line site (reply_to move w))

abbrev pub flat : ℕ → Place → WorldValue → Effect
flat site place w = proposed_by site (proposal place) w

-- the same of a slot, where there is one to propose
abbrev pub flat_slot : ℕ → Option Slot → WorldValue → Effect
flat_slot site None w = only_line w (flat_none_line site)
flat_slot site (Some slot) w = proposed_by site (Propose slot) w

-- of the largest part of which every site is known to have everything
abbrev pub flat_auto : ℕ → WorldValue → Effect
flat_auto site w = flat_slot site (best_slot (machine_of w site)) w

abbrev pub cancel : ℕ → DotValue → WorldValue → Effect
cancel site p w =
    let move = ask site (GiveUp p) in
    line_and_events w (moved move w) (cancel_line site p (reply_to move w))

abbrev pub give : ℕ → ℕ → WorldValue → Effect
give site number w =
    line_and_events w (moved_all (numbered_moves site number w) w)
    (give_line site number (numbered_given site number w))

-- the message with this number, where the site wants it
abbrev pub give_wanted : ℕ → ℕ → Message → WorldValue → Effect
give_wanted site number message w =
    if is_wanted site message w
    then line_and_events w (moved_all (wanted_moves site message w) w) (give_line site number (took site message w))
    else only_line w []

-- these messages, of which the first has this number, in turn: those that the site wants when their turn comes
abbrev pub give_each : ℕ → ℕ → List Message → WorldValue → Effect
give_each site number [] w = only_line w []
give_each site number (message ∷ messages) w =
    in_turn (give_wanted site number message w)
    (give_each site (suc number) messages (moved_all (wanted_moves site message w) w))

-- until nobody wants anything; there is no line for each message
abbrev pub IsSettling : WorldValue → Effect → Type 0
IsSettling w e = (given : ℕ) × IsSettled w e.world given × (e.text ≡ events w e.world ++ settle_line given)

-- how the text of a site is shown
abbrev pub Shown : Type 0
Shown = WorldValue → ℕ → List ℕ

-- the text of its document
abbrev pub own_text : Shown
own_text w site = text_of (machine_of w site).doc

-- what the operations that it has taken show
abbrev pub taken_text : Shown
taken_text w site = show (machine_of w site).log

-- what is had after all is settled, by what was had
abbrev pub Settles : Printed → Printed → Type 0
Settles old new = (effect : Effect) × IsSettling old.world effect × (new ≡ and_then old effect)

-- what is had after a command, by what was had
abbrev pub Prints : Shown → Printed → Command → Printed → Type 0
Prints shown old (Sites n) new = new ≡ old
Prints shown old (Ins site index atoms) new = new ≡ and_then old (ins site index atoms old.world)
Prints shown old (Paste site index atoms) new = new ≡ and_then old (paste site index atoms old.world)
Prints shown old (Del site index count) new = new ≡ and_then old (del site index count old.world)
Prints shown old (Flat site place) new = new ≡ and_then old (flat site place old.world)
Prints shown old (FlatAuto site) new = new ≡ and_then old (flat_auto site old.world)
Prints shown old (Cancel site proposal) new = new ≡ and_then old (cancel site proposal old.world)
Prints shown old (Give site number) new = new ≡ and_then old (give site number old.world)
Prints shown old (GiveAll site) new = new ≡ and_then old (give_each site 1 old.world.sent old.world)
Prints shown old Settle new = Settles old new
Prints shown old (Show site) new = new ≡ with_line (show_line site (shown old.world site)) old
Prints shown old (Tree site) new = new ≡ with_line (tree_lines site (machine_of old.world site).doc) old
Prints shown old (Count site) new = new ≡ with_line (count_line (machine_of old.world site)) old
Prints shown old (Mark site add name index count) new =
    new ≡ and_marked old (mark site add name index count (machine_of old.world site).doc old.marks)
Prints shown old (Meet site other) new = new ≡ and_marked old (meet site other old.marks)
Prints shown old (Marks site) new =
    new ≡ with_line (marked_lines site (machine_of old.world site).doc old.marks) old

-- after commands, one after another
abbrev pub PrintsAll : Shown → Printed → List Command → Printed → Type 0
PrintsAll shown old [] new = new ≡ old
PrintsAll shown old (command ∷ commands) new =
    (next : Printed) × Prints shown old command next × PrintsAll shown next commands new

-- what is had after a script, beginning with sites that have done nothing
abbrev pub PrintsScript : Shown → Script → Printed → Type 0
PrintsScript shown script p = PrintsAll shown (start_of script.sites) script.commands p
