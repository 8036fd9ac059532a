-- What an edit and a proposal print of their replies, and the events: the votes and decisions that steps send.
use Rattle.std.specs.Prelude.{ℕ, Bool, true, false, List, [], ◌++◌, Option, codes}
use Rattle.std.specs.Fmt.{decimal}
use Rattle.td_base.specs.Value.{DotValue}
use Rattle.td_op.specs.declared.body.Body.{Body}
use Rattle.td_op.specs.declared.body.Body.TheVariants.{Commit, Abort}
use Rattle.td_op.specs.declared.message.Message.{Message}
use Rattle.td_op.specs.declared.message.Message.TheVariants.{Op, Vote}
use Rattle.td_op.specs.declared.reply.Reply.{Reply}
use Rattle.td_op.specs.declared.reply.Reply.TheVariants.{Made, Cancelled}
use Rattle.td_script.specs.Spelling.{spaced, spaced_dot}
use Rattle.td_report.specs.Parts.{line, if_any, refusal}

-- how many of how many were done, and why not all
abbrev pub edit_line : List ℕ → ℕ → ℕ → ℕ → Option Reply → List ℕ
edit_line word site done all refused =
    line word site (spaced done ++ (codes "/" ++ (decimal all ++ if_any refusal refused)))

abbrev pub ins_line : ℕ → ℕ → ℕ → Option Reply → List ℕ
ins_line = edit_line (codes "ins")

abbrev pub paste_line : ℕ → ℕ → ℕ → Option Reply → List ℕ
paste_line = edit_line (codes "paste")

abbrev pub del_line : ℕ → ℕ → ℕ → Option Reply → List ℕ
del_line = edit_line (codes "del")

-- the proposal that was made, or why none was
abbrev pub proposal_or_refusal : Reply → List ℕ
proposal_or_refusal (Made dot) = spaced_dot dot
proposal_or_refusal reply = refusal reply

abbrev pub flat_line : ℕ → Reply → List ℕ
flat_line site reply = line (codes "flat") site (proposal_or_refusal reply)

-- nothing is idle that could be flattened
abbrev pub flat_none_line : ℕ → List ℕ
flat_none_line site = line (codes "flat") site (codes " none")

-- a proposal is cancelled, or it was not open
abbrev pub cancel_outcome : Reply → List ℕ
cancel_outcome Cancelled = codes " ok"
cancel_outcome _ = codes " notopen"

abbrev pub cancel_line : ℕ → DotValue → Reply → List ℕ
cancel_line site proposal reply = line (codes "cancel") site (spaced_dot proposal ++ cancel_outcome reply)

abbrev pub yes_or_no : Bool → List ℕ
yes_or_no true = codes " yes"
yes_or_no false = codes " no"

-- the proposer's decision of its proposal
abbrev pub decided : DotValue → List ℕ → List ℕ
decided proposal decision = line (codes "decide") proposal.site (spaced_dot proposal ++ decision)

abbrev pub body_event : Body → List ℕ
body_event (Commit proposal) = decided proposal (codes " commit")
body_event (Abort proposal) = decided proposal (codes " abort")
body_event _ = []

-- a vote or a decision that is sent; nothing for other messages
abbrev pub event_line : Message → List ℕ
event_line (Vote v) = line (codes "vote") v.voter (spaced_dot v.proposal ++ yes_or_no v.yes)
event_line (Op op) = body_event op.body
