-- A stage for worked examples: entries written out, and the states after the sites have done so many of them.
use Rattle.std.specs.Prelude.{ℕ, List, [], ◌∷◌}
use Rattle.td_base.specs.Value.{DotValue}
use Rattle.td_path.specs.declared.slot.Slot.TheVariants.{Root}
use Rattle.td_doc.specs.Document.{text_of}
use Rattle.td_op.specs.declared.vote.Vote.{Vote}
use Rattle.td_op.specs.declared.request.Request.TheVariants.{Insert, Propose}
use Rattle.td_op.specs.declared.reply.Reply.{Reply}
use Rattle.td_op.specs.declared.reply.Reply.TheVariants.{Made, New, Idle, Taken}
use Rattle.td_machine.specs.Taking.{Stepped, stepped}
use Rattle.td_machine.specs.Machine.{Machine}
use Rattle.td_trace.specs.declared.entry.TraceEntry.{TraceEntry}
use Rattle.td_trace.specs.declared.log.Did.{Did}
use Rattle.td_trace.specs.declared.log.EditorLog.{EditorLog}
use Rattle.td_trace.specs.declared.told_input.ToldInput.TheVariants.{Asked, TookOp, TookVote, Went}
use Rattle.td_law_replay.specs.Judging.{SiteState, States, begin, Judgement, Lost, Waits, Steps, judge}
use Rattle.td_law_replay.specs.Replay.{put}

-- the atom was put at the start, by the operation with this dot
abbrev pub puts : List ℕ → DotValue → TraceEntry
puts atom d = record { told = Asked (Insert 0 atom); reply = Made d }

-- the whole text was proposed for a flatten
abbrev pub proposes : DotValue → TraceEntry
proposes d = record { told = Asked (Propose Root); reply = Made d }

-- the vote was counted
abbrev pub takes_vote : Vote → TraceEntry
takes_vote v = record { told = TookVote v; reply = New }

-- the operation was taken, with this reply
abbrev pub takes : DotValue → Reply → TraceEntry
takes d reply = record { told = TookOp d; reply = reply }

-- the operation had waited and was taken
abbrev pub takes_up : DotValue → TraceEntry
takes_up d = record { told = Went; reply = Taken d }

-- what an editor of this site did
abbrev pub editor_at : ℕ → List Did → EditorLog
editor_at site did = record { home = site; did = did }

-- the machine after the entry, or as it was where the entry can't be done
abbrev pub stepped_as : Judgement → Machine → Stepped
stepped_as Lost m = stepped Idle m
stepped_as Waits m = stepped Idle m
stepped_as (Steps to) m = to

abbrev pub next_state : List (List TraceEntry) → States → ℕ → Machine → List TraceEntry → SiteState
next_state all states site m [] = record { machine = m; left = [] }
next_state all states site m (e ∷ rest) =
    record { machine = (stepped_as (judge all states site m e.told e.reply) m).machine; left = rest }

-- the sites do an entry each, in this order
abbrev pub then_sites : List (List TraceEntry) → States → List ℕ → States
then_sites all states [] = states
then_sites all states (site ∷ sites) =
    then_sites all (put states site (next_state all states site (states site).machine (states site).left)) sites

abbrev pub after_sites : List (List TraceEntry) → List ℕ → States
after_sites all sites = then_sites all (begin all) sites

abbrev pub text_after_sites : List (List TraceEntry) → List ℕ → ℕ → List ℕ
text_after_sites all sites site = text_of (after_sites all sites site).machine.doc
