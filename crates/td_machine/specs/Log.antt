-- What a log tells of a proposal. A log is the list of a replica's operations, made or taken, the newest first.
use Rattle.std.specs.Prelude.{List, [], ◌∷◌, Bool, true, false, ◌&&◌, Option, Some, None, ℕ, if◌then◌else◌, ◌==◌}
use Rattle.std.specs.List.{filter_map}
use Rattle.std.specs.Option.{option_map, option_or, option_and_then, is_some, is_none}
use Rattle.td_base.specs.Value.{DotValue}
use Rattle.td_path.specs.declared.slot.Slot.{Slot}
use Rattle.td_op.specs.declared.body.Body.{Body}
use Rattle.td_op.specs.declared.body.Body.TheVariants.{Insert, Delete, Propose, Commit, Abort}
use Rattle.td_op.specs.Op.{OpValue}
use Rattle.td_base.specs.Equality.{same_dot}

-- the slot that a proposal asks for
abbrev pub proposed : Body → Option Slot
proposed (Propose slot) = Some slot
proposed (Insert slot run) = None
proposed (Delete target) = None
proposed (Commit proposal) = None
proposed (Abort proposal) = None

-- the proposal that a commit is of
abbrev pub committed : Body → Option DotValue
committed (Commit proposal) = Some proposal
committed (Insert slot run) = None
committed (Delete target) = None
committed (Propose slot) = None
committed (Abort proposal) = None

-- what a body decides of the proposal p: a commit true, an abort false
abbrev pub decides : DotValue → Body → Option Bool
decides p (Commit proposal) = if same_dot proposal p then Some true else None
decides p (Abort proposal) = if same_dot proposal p then Some false else None
decides p (Insert slot run) = None
decides p (Delete target) = None
decides p (Propose slot) = None

-- the slot of the proposal p
abbrev pub proposed_slot : DotValue → List OpValue → Option Slot
proposed_slot p [] = None
proposed_slot p (x ∷ log) = if same_dot x.dot p then proposed x.body else proposed_slot p log

-- the decision of the proposal p: true where the log has a commit of it, false where it has an abort
abbrev pub decision : DotValue → List OpValue → Option Bool
decision p [] = None
decision p (x ∷ log) = option_or (decides p x.body) (decision p log)

-- the site made the proposal p, and it is undecided
abbrev pub is_undecided_of : ℕ → DotValue → List OpValue → Bool
is_undecided_of site p log = p.site == site && is_some (proposed_slot p log) && is_none (decision p log)

-- a commit by its own dot, with the slot of its proposal
pub record Committed : Type 0 where
  pub dot : DotValue
  pub slot : Slot

abbrev pub commit_at : DotValue → Slot → Committed
commit_at dot slot = record { dot = dot; slot = slot }

abbrev pub commit_in : List OpValue → OpValue → Option Committed
commit_in log x =
    option_map (commit_at x.dot) (option_and_then (λ (p : DotValue). proposed_slot p log) (committed x.body))

-- the commits of a log
abbrev pub commits : List OpValue → List Committed
commits log = filter_map (commit_in log) log
