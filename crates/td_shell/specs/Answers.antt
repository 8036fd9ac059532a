-- What a shell answers to a line, and what the line does at its site.
use Rattle.std.specs.Prelude.{ℕ, List, [], ◌∷◌, ◌++◌, ◌-◌, Option, Some, None, Result, Ok, Err}
use Rattle.std.specs.Prelude.{codes, length, if◌then◌else◌}
use Rattle.td_base.specs.Value.{DotValue}
use Rattle.td_doc.specs.Document.{text_of}
use Rattle.td_idle.specs.Best.{best_slot}
use Rattle.td_io.specs.Count.{counted}
use Rattle.td_machine.specs.Machine.{Machine}
use Rattle.td_op.specs.Message.{is_for}
use Rattle.td_op.specs.declared.input.Input.TheVariants.{Take}
use Rattle.td_op.specs.declared.message.Message.{Message}
use Rattle.td_op.specs.declared.request.Request.{Request}
use Rattle.td_op.specs.declared.request.Request.TheVariants.{Propose, Cancel as GiveUp}
use Rattle.td_machine.specs.Step.{step}
use Rattle.td_path.specs.declared.slot.Slot.{Slot}
use Rattle.td_replica.specs.Replica.{ReplicaValue, knows_message}
use Rattle.td_report.specs.Numbers.{count_line}
use Rattle.td_report.specs.Parts.{line}
use Rattle.td_report.specs.Replies.{ins_line, paste_line, del_line, flat_line, flat_none_line, cancel_line}
use Rattle.td_report.specs.Tree.{show_line, tree_lines}
use Rattle.td_script.specs.ShellFaults.{shell_judged}
use Rattle.td_script.specs.declared.kind.Kind.{Kind}
use Rattle.td_script.specs.declared.shell.command.ShellCommand.{ShellCommand}
use Rattle.td_script.specs.declared.shell.command.ShellCommand.TheVariants.{Ins, Paste, Del, Flat, FlatAuto, Cancel}
use Rattle.td_script.specs.declared.shell.command.ShellCommand.TheVariants.{Take as Receive, Send, Show, Tree, Count}
use Rattle.td_text.specs.Runs.{runs_of}
use Rattle.td_report.specs.Asking.{deletes, inserts, pastes, proposal}
use Rattle.td_shell.specs.Asking.{Edited, after_request, ask_all, reply_to}
use Rattle.td_shell.specs.Sending.{cut_answer, events_behind, fault_line, sent_behind}
use Rattle.td_shell.specs.Taking.{CaughtUp, after_take, message_of, took_part}

-- the replica behind, and what is printed
pub record Effect : Type 0 where
  pub replica : ReplicaValue
  pub text : List ℕ

-- nothing happens
abbrev pub only_text : List ℕ → ReplicaValue → Effect
only_text text r = record { replica = r; text = text }

-- one after another
abbrev pub in_turn : Effect → Effect → Effect
in_turn first second = record { replica = second.replica; text = first.text ++ second.text }

-- ---- the reply to a command

-- the line of edits, by how many atoms were edited
abbrev pub edits_effect : Edited → List ℕ → Effect
edits_effect a text = record { replica = a.replica; text = text }

abbrev pub ins : ℕ → List (List ℕ) → ReplicaValue → Effect
ins index atoms r =
    let a : Edited = ask_all (inserts index atoms) r in
    edits_effect a (ins_line r.machine.site a.done (length atoms) a.refused)

abbrev pub paste : ℕ → List (List ℕ) → ReplicaValue → Effect
paste index atoms r =
    let a : Edited = ask_all (pastes index (runs_of atoms)) r in
    edits_effect a (paste_line r.machine.site a.done (length atoms) a.refused)

abbrev pub del : ℕ → ℕ → ReplicaValue → Effect
del index count r =
    let a : Edited = ask_all (deletes index count) r in
    edits_effect a (del_line r.machine.site a.done count a.refused)

abbrev pub proposed_by : Request → ReplicaValue → Effect
proposed_by request r =
    record { replica = after_request request r; text = flat_line r.machine.site (reply_to request r) }

-- of a slot, where there is one to propose
abbrev pub flat_slot : Option Slot → ReplicaValue → Effect
flat_slot None r = only_text (flat_none_line r.machine.site) r
flat_slot (Some slot) r = proposed_by (Propose slot) r

abbrev pub cancel : DotValue → ReplicaValue → Effect
cancel p r =
    record {
      replica = after_request (GiveUp p) r;
      text = cancel_line r.machine.site p (reply_to (GiveUp p) r);
    }

-- what became of a packet
abbrev pub take_line : ℕ → List ℕ → List ℕ
take_line = line (codes "take")

abbrev pub taken_anew : Message → ReplicaValue → Effect
taken_anew message r =
    let went : CaughtUp = after_take message r in
    record {
      replica = went.replica;
      text = take_line r.machine.site (took_part (step r.machine (Take message)).reply went.count);
    }

-- what came before is no step
abbrev pub taken : Message → ReplicaValue → Effect
taken message r =
    if knows_message message r.machine then only_text (take_line r.machine.site (codes " repeat")) r
    else taken_anew message r

-- nothing is done where the bytes are no packet, and where it is not for the site
abbrev pub received : Option Message → ReplicaValue → Effect
received None r = only_text (take_line r.machine.site (codes " malformed")) r
received (Some message) r =
    if is_for r.machine.site message then taken message r
    else only_text (take_line r.machine.site (codes " stray")) r

abbrev pub replied : ShellCommand → ReplicaValue → Effect
replied (Ins index atoms) r = ins index atoms r
replied (Paste index atoms) r = paste index atoms r
replied (Del index count) r = del index count r
replied (Flat place) r = proposed_by (proposal place) r
replied FlatAuto r = flat_slot (best_slot r.machine) r
replied (Cancel p) r = cancel p r
replied (Receive packet) r = received (message_of packet) r
replied (Send from) r = only_text (sent_behind (from - 1) r.machine.sent) r
replied Show r = only_text (show_line r.machine.site (text_of r.machine.doc)) r
replied Tree r = only_text (tree_lines r.machine.site r.machine.doc) r
replied Count r = only_text (count_line r.machine) r

-- ---- the answer to a line

-- behind so many messages: the votes and decisions among those that were sent since, and then all of these
abbrev pub told_behind : ℕ → Machine → List ℕ
told_behind count m = events_behind count m.sent ++ sent_behind count m.sent

-- a reply, and then what was sent by it
abbrev pub with_sent : ReplicaValue → Effect → Effect
with_sent old e =
    record {
      replica = e.replica;
      text = e.text ++ told_behind (length old.machine.sent) e.replica.machine;
    }

-- by what the line with this number says
abbrev pub answered : ℕ → Result (Option ShellCommand) Kind → ReplicaValue → Effect
answered number (Ok (Some command)) r = with_sent r (replied command r)
answered number (Ok None) r = only_text [] r
answered number (Err kind) r = only_text (fault_line number kind) r

abbrev pub answer : ℕ → List ℕ → ReplicaValue → Effect
answer number said r = answered number (shell_judged r.machine.size said) r

-- lines one after another, of which the first has the number behind this one
abbrev pub answers : ℕ → List (List ℕ) → ReplicaValue → Effect
answers number [] r = only_text [] r
answers number (said ∷ lines) r =
    let first : Effect = answer (counted number) said r in
    in_turn first (answers (counted number) lines first.replica)

-- from line 1 on
abbrev pub all_answers : List (List ℕ) → ReplicaValue → Effect
all_answers lines r = answers 0 lines r

-- the number of the last of lines, of which the first has the number behind this one
abbrev pub numbered : ℕ → List (List ℕ) → ℕ
numbered number [] = number
numbered number (line ∷ lines) = numbered (counted number) lines

-- to an input of these lines, behind which stands a rest without LF
abbrev pub answers_to_end : List (List ℕ) → List ℕ → ReplicaValue → List ℕ
answers_to_end lines rest r = (all_answers lines r).text ++ cut_answer (numbered 0 lines) rest
