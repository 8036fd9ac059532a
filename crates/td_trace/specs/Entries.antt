-- What a trace tells of the entries of a history.
use Rattle.std.specs.Prelude.{ℕ, zero, suc, List, map, Bool, true, false, Option, Some, None, slice_get}
use Rattle.td_op.specs.declared.entry.Entry.{Entry}
use Rattle.td_op.specs.declared.input.Input.{Input}
use Rattle.td_op.specs.declared.input.Input.TheVariants.{Local, Take, Next}
use Rattle.td_op.specs.declared.message.Message.TheVariants.{Op, Vote}
use Rattle.td_machine.specs.History.{History, Family}
use Rattle.td_trace.specs.declared.entry.TraceEntry.{TraceEntry}
use Rattle.td_trace.specs.declared.told_input.ToldInput.{ToldInput}
use Rattle.td_trace.specs.declared.told_input.ToldInput.TheVariants.{Asked, TookOp, TookVote, Went}

-- of an operation that was taken, its dot alone: its content stands where its own site made it
abbrev pub told_of : Input → ToldInput
told_of (Local request) = Asked request
told_of (Take (Op op)) = TookOp op.dot
told_of (Take (Vote vote)) = TookVote vote
told_of Next = Went

abbrev pub traced : Entry → TraceEntry
traced entry = record { told = told_of entry.input; reply = entry.reply }

-- what is told of the history of a site
abbrev pub traced_history : History → List TraceEntry
traced_history entries = map traced entries

-- what is told of the histories of a family, that of site s at place s - 1
abbrev pub traced_family : Family → List (List TraceEntry)
traced_family family = map traced_history family

abbrev pub is_request : ToldInput → Bool
is_request (Asked request) = true
is_request (TookOp dot) = false
is_request (TookVote vote) = false
is_request Went = false

abbrev pub tells_request : Option TraceEntry → Bool
tells_request None = false
tells_request (Some entry) = is_request entry.told

-- the entry with this number, from 1, is a request
abbrev pub is_request_at : List TraceEntry → ℕ → Bool
is_request_at entries zero = false
is_request_at entries (suc k) = tells_request (slice_get entries k)
