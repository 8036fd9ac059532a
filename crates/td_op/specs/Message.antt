-- Which values are messages, where each part is in the range that its type keeps; who sent one, and for whom it is.
use Rattle.std.specs.Prelude.{ℕ, Bool, ◌==◌, ◌&&◌, not}
use Rattle.td_base.specs.Value.{IsSite, IsDot, IsAtomId}
use Rattle.td_base.specs.Run.{IsRun}
use Rattle.td_clock.specs.Vector.{IsVector}
use Rattle.td_path.specs.Slot.{IsSlot}
use Rattle.td_op.specs.declared.body.Body.{Body}
use Rattle.td_op.specs.declared.body.Body.TheVariants.{Insert, Delete, Propose, Commit, Abort}
use Rattle.td_op.specs.declared.vote.Vote.{Vote as VoteValue}
use Rattle.td_op.specs.declared.message.Message.{Message}
use Rattle.td_op.specs.declared.message.Message.TheVariants.{Op, Vote}
use Rattle.td_op.specs.Op.{OpValue, IsOp}

abbrev pub IsBody : Body → Type 0
IsBody (Insert slot run) = IsSlot slot × IsRun run
IsBody (Delete target) = IsAtomId target
IsBody (Propose slot) = IsSlot slot
IsBody (Commit proposal) = IsDot proposal
IsBody (Abort proposal) = IsDot proposal

pub record IsOpValue (x : OpValue) : Type 0 where
  pub dot : IsDot x.dot
  pub deps : IsVector x.deps
  pub body : IsBody x.body
  pub op : IsOp x

pub record IsVote (v : VoteValue) : Type 0 where
  pub voter : IsSite v.voter
  pub proposal : IsDot v.proposal

abbrev pub IsMessage : Message → Type 0
IsMessage (Op x) = IsOpValue x
IsMessage (Vote v) = IsVote v

abbrev pub sender : Message → ℕ
sender (Op x) = x.dot.site
sender (Vote v) = v.voter

-- another site sent it, and it is an operation or a vote on a proposal of this site
abbrev pub is_for : ℕ → Message → Bool
is_for site (Op x) = not (x.dot.site == site)
is_for site (Vote v) = not (v.voter == site) && v.proposal.site == site
