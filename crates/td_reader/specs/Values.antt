-- Which values a trace has: each part is in the range of its field.
use Rattle.std.specs.Prelude.{◌≡◌, ◌<◌, ◌≤◌, ◌^◌, ⊤, ℕ, List, length}
use Rattle.std.specs.List.{AllByRecursion}
use Rattle.std.specs.Str.{IsUtf8}
use Rattle.td_base.specs.Value.{IsDot, IsAtomId}
use Rattle.td_base.specs.declared.site.TheConstants.{MAX_SITE}
use Rattle.td_op.specs.Input.{IsRequest}
use Rattle.td_op.specs.Message.{IsVote}
use Rattle.td_op.specs.declared.reply.Reply.{Reply}
use Rattle.td_op.specs.declared.reply.Reply.TheVariants.{Made, Cancelled, Held, Position, Gone, Limit, NotOpen}
use Rattle.td_op.specs.declared.reply.Reply.TheVariants.{New, Later, Repeat, Unfit, Taken, Dropped, Idle}
use Rattle.td_op.specs.declared.request.Request.{Request}
use Rattle.td_op.specs.declared.request.Request.TheVariants.{Insert, InsertAfter, Paste, PasteAfter, Delete}
use Rattle.td_op.specs.declared.request.Request.TheVariants.{DeleteAtom}
use Rattle.td_op.specs.declared.request.Request.TheVariants.{Propose, ProposeAt, Cancel}
use Rattle.td_trace.specs.declared.entry.TraceEntry.{TraceEntry}
use Rattle.td_trace.specs.declared.log.Did.{Did}
use Rattle.td_trace.specs.declared.log.Did.TheVariants.{Call, Look}
use Rattle.td_trace.specs.declared.log.EditorLog.{EditorLog}
use Rattle.td_trace.specs.declared.told_input.ToldInput.{ToldInput}
use Rattle.td_trace.specs.declared.told_input.ToldInput.TheVariants.{Asked, TookOp, TookVote, Went}

-- an index, a length, a number of operations, and the number of an editor
abbrev pub IsShortNumber : ℕ → Type 0
IsShortNumber n = n < 2 ^ 32

-- the number of an entry and of a call
abbrev pub IsLong : ℕ → Type 0
IsLong n = n < 2 ^ 64

-- the index of a request, where it has one
abbrev pub IsIndexed : Request → Type 0
IsIndexed (Insert index atom) = IsShortNumber index
IsIndexed (InsertAfter after atom) = ⊤
IsIndexed (Paste index run) = IsShortNumber index
IsIndexed (PasteAfter after run) = ⊤
IsIndexed (Delete index) = IsShortNumber index
IsIndexed (DeleteAtom id) = ⊤
IsIndexed (Propose slot) = ⊤
IsIndexed (ProposeAt index bit) = IsShortNumber index
IsIndexed (Cancel proposal) = ⊤

abbrev pub FitsRequest : Request → Type 0
FitsRequest request = IsRequest request × IsIndexed request

abbrev pub FitsTold : ToldInput → Type 0
FitsTold (Asked request) = FitsRequest request
FitsTold (TookOp dot) = IsDot dot
FitsTold (TookVote vote) = IsVote vote
FitsTold Went = ⊤

abbrev pub FitsReply : Reply → Type 0
FitsReply (Made dot) = IsDot dot
FitsReply Cancelled = ⊤
FitsReply (Held by) = IsDot by
FitsReply (Position len) = IsShortNumber len
FitsReply (Gone id) = IsAtomId id
FitsReply (Limit made undecided) = IsShortNumber made × IsShortNumber undecided
FitsReply (NotOpen proposal) = IsDot proposal
FitsReply New = ⊤
FitsReply Later = ⊤
FitsReply Repeat = ⊤
FitsReply (Unfit why) = ⊤
FitsReply (Taken dot) = IsDot dot
FitsReply (Dropped dot why) = IsDot dot
FitsReply Idle = ⊤

abbrev pub FitsEntry : TraceEntry → Type 0
FitsEntry entry = FitsTold entry.told × FitsReply entry.reply

abbrev pub FitsDid : Did → Type 0
FitsDid (Call call entry) = IsLong call × IsLong entry
FitsDid (Look calls upto text) = IsLong calls × IsLong upto × IsUtf8 text

-- the history of a site
pub record FitsHistory (history : List TraceEntry) : Type 0 where
  pub each : AllByRecursion FitsEntry history
  pub few : IsLong (length history)

-- what an editor at one of so many sites did
pub record FitsLog (sites : ℕ) (log : EditorLog) : Type 0 where
  pub some : 1 ≤ log.home
  pub within : log.home ≤ sites
  pub did : AllByRecursion FitsDid log.did

-- what a trace tells: of so many sites the histories, what each editor did, and the texts at the end
pub record TraceValue : Type 0 where
  pub sites : ℕ
  -- that of site s at place s - 1
  pub histories : List (List TraceEntry)
  pub logs : List EditorLog
  -- that of site s at place s - 1
  pub texts : List (List ℕ)

-- the values of a trace: of 1 to 64 sites; or of none, where no editor has a site and nothing is told
pub record IsTraceValue (t : TraceValue) : Type 0 where
  pub few : t.sites ≤ MAX_SITE
  pub each_history : length t.histories ≡ t.sites
  pub histories : AllByRecursion FitsHistory t.histories
  pub logs : AllByRecursion (FitsLog t.sites) t.logs
  pub few_logs : IsShortNumber (length t.logs)
  pub each_text : length t.texts ≡ t.sites
  pub texts : AllByRecursion IsUtf8 t.texts
