-- The histories that entries tell, once all operations are known: those of the last state of the replay.
use Rattle.std.specs.Prelude.{List, [], map, Option, Some, None}
use Rattle.td_base.specs.Value.{DotValue}
use Rattle.td_op.specs.declared.entry.Entry.{Entry}
use Rattle.td_op.specs.declared.input.Input.{Input}
use Rattle.td_op.specs.declared.input.Input.TheVariants.{Local, Take, Next}
use Rattle.td_op.specs.declared.message.Message.TheVariants.{Op as AnOp, Vote as AVote}
use Rattle.td_op.specs.Op.{OpValue}
use Rattle.td_machine.specs.History.{History, Family}
use Rattle.td_trace.specs.declared.entry.TraceEntry.{TraceEntry}
use Rattle.td_trace.specs.declared.told_input.ToldInput.{ToldInput}
use Rattle.td_trace.specs.declared.told_input.ToldInput.TheVariants.{Asked, TookOp, TookVote, Went}
use Rattle.td_law_replay.specs.Judging.{outline, States, made_op}

abbrev pub op_for : DotValue → Option OpValue → OpValue
op_for d None = outline d []
op_for d (Some x) = x

abbrev pub input_for : States → ToldInput → Input
input_for states (Asked request) = Local request
input_for states (TookOp d) = Take (AnOp (op_for d (made_op states d)))
input_for states (TookVote v) = Take (AVote v)
input_for states Went = Next

abbrev pub entry_for : States → TraceEntry → Entry
entry_for states e = record { input = input_for states e.told; reply = e.reply }

abbrev pub entries_for : States → List TraceEntry → History
entries_for states rest = map (entry_for states) rest

abbrev pub family_for : States → List (List TraceEntry) → Family
family_for states all = map (entries_for states) all
