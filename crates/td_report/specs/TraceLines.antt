-- One line of a trace: what it says, and how it is written.
use Rattle.std.specs.Prelude.{ℕ, List, [], ◌∷◌, ◌++◌, Option, Some, None, codes}
use Rattle.std.specs.Fmt.{decimal}
use Rattle.std.specs.List.{flat_map}
use Rattle.td_base.specs.Value.{AtomIdValue}
use Rattle.td_op.specs.declared.reply.Reply.{Reply}
use Rattle.td_op.specs.declared.reply.Reply.TheVariants.{Made, Cancelled, Held, Position, Gone, Limit, NotOpen}
use Rattle.td_op.specs.declared.reply.Reply.TheVariants.{New, Later, Repeat, Unfit, Taken, Dropped, Idle}
use Rattle.td_op.specs.declared.reply.Why.{Why}
use Rattle.td_op.specs.declared.reply.Why.TheVariants.{Size, Own, Atom, Proposal, Vote as OfVote, Address}
use Rattle.td_op.specs.declared.request.Request.{Request}
use Rattle.td_op.specs.declared.request.Request.TheVariants.{Insert, InsertAfter, Paste, PasteAfter, Delete, DeleteAtom}
use Rattle.td_op.specs.declared.request.Request.TheVariants.{Propose, ProposeAt, Cancel}
use Rattle.td_script.specs.Characters.{line_feed, space}
use Rattle.td_script.specs.Spelling.{spaced, spaced_bit, spaced_dot}
use Rattle.td_trace.specs.declared.entry.TraceEntry.{TraceEntry}
use Rattle.td_trace.specs.declared.told_input.ToldInput.{ToldInput}
use Rattle.td_trace.specs.declared.told_input.ToldInput.TheVariants.{Asked, TookOp, TookVote, Went}
use Rattle.td_report.specs.Parts.{identity, line, refusal, spaced_quoted, spaced_slot}
use Rattle.td_report.specs.Replies.{yes_or_no}

-- ---- what is told of an input

-- an identity, behind a space
abbrev pub spaced_identity : AtomIdValue → List ℕ
spaced_identity id = space ∷ identity id

-- the atom behind which something is put, or the start
abbrev pub spaced_after : Option AtomIdValue → List ℕ
spaced_after None = codes " start"
spaced_after (Some id) = spaced_identity id

-- a request, behind a space
abbrev pub request_part : Request → List ℕ
request_part (Insert index atom) = codes " insert" ++ (spaced index ++ spaced_quoted atom)
request_part (InsertAfter after atom) = codes " insertafter" ++ (spaced_after after ++ spaced_quoted atom)
request_part (Paste index run) = codes " paste" ++ (spaced index ++ flat_map spaced_quoted run)
request_part (PasteAfter after run) = codes " pasteafter" ++ (spaced_after after ++ flat_map spaced_quoted run)
request_part (Delete index) = codes " delete" ++ spaced index
request_part (DeleteAtom id) = codes " deleteatom" ++ spaced_identity id
request_part (Propose slot) = codes " propose" ++ spaced_slot slot
request_part (ProposeAt index bit) = codes " proposeat" ++ (spaced index ++ spaced_bit bit)
request_part (Cancel proposal) = codes " cancel" ++ spaced_dot proposal

-- an input, behind a space
abbrev pub told_part : ToldInput → List ℕ
told_part (Asked request) = request_part request
told_part (TookOp dot) = codes " take op" ++ spaced_dot dot
told_part (TookVote vote) =
    codes " take vote" ++ (spaced vote.voter ++ (spaced_dot vote.proposal ++ yes_or_no vote.yes))
told_part Went = codes " next"

-- ---- what is told of a reply

-- why something is unfit, behind a space
abbrev pub why_part : Why → List ℕ
why_part Size = codes " size"
why_part Own = codes " own"
why_part Atom = codes " atom"
why_part Proposal = codes " proposal"
why_part OfVote = codes " vote"
why_part Address = codes " address"

-- a reply, behind a space
abbrev pub reply_part : Reply → List ℕ
reply_part (Made dot) = codes " made" ++ spaced_dot dot
reply_part Cancelled = codes " cancelled"
reply_part (Held by) = refusal (Held by)
reply_part (Position len) = refusal (Position len)
reply_part (Gone id) = codes " gone" ++ spaced_identity id
reply_part (Limit made undecided) = refusal (Limit made undecided)
reply_part (NotOpen proposal) = codes " notopen" ++ spaced_dot proposal
reply_part New = codes " new"
reply_part Later = codes " later"
reply_part Repeat = codes " repeat"
reply_part (Unfit why) = codes " unfit" ++ why_part why
reply_part (Taken dot) = codes " taken" ++ spaced_dot dot
reply_part (Dropped dot why) = codes " dropped" ++ (spaced_dot dot ++ why_part why)
reply_part Idle = codes " idle"

-- ---- lines

-- what a line of a trace says
pub data TraceLine : Type 0 where
  -- how many sites there are
  SitesAre : (n : ℕ) → TraceLine
  -- what follows is the history of the site
  HistoryOf : (site : ℕ) → TraceLine
  -- the entry with this number in the history
  EntryIs : (number : ℕ) → (entry : TraceEntry) → TraceLine
  -- what follows is what the editor at the site did
  EditorAt : (number : ℕ) → (site : ℕ) → TraceLine
  -- the call with this number is this entry of the site
  CallIs : (number : ℕ) → (entry : ℕ) → TraceLine
  -- behind so many calls, a look at the text behind so many entries of the site
  LookIs : (calls : ℕ) → (upto : ℕ) → (text : List ℕ) → TraceLine
  -- the text of the site at the end
  TextIs : (site : ℕ) → (text : List ℕ) → TraceLine
  Ended : TraceLine

-- the entry with this number
abbrev pub entry_line : ℕ → TraceEntry → List ℕ
entry_line number entry =
    decimal number ++ (told_part entry.told ++ (codes " ->" ++ (reply_part entry.reply ++ line_feed ∷ [])))

-- the line as it is written, with its LF
abbrev pub written : TraceLine → List ℕ
written (SitesAre n) = line (codes "sites") n []
written (HistoryOf site) = line (codes "site") site []
written (EntryIs number entry) = entry_line number entry
written (EditorAt number site) = line (codes "editor") number (spaced site)
written (CallIs number entry) = line (codes "call") number (spaced entry)
written (LookIs calls upto text) = line (codes "look") calls (spaced upto ++ spaced_quoted text)
written (TextIs site text) = line (codes "text") site (spaced_quoted text)
written Ended = codes "end\n"
