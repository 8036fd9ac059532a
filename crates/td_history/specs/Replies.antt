-- The reply that a compact one stands for.
use Rattle.td_op.specs.declared.reply.Reply.{Reply}
use Rattle.td_op.specs.declared.reply.Reply.TheVariants.{Made, Cancelled, Held, Position, Gone, Limit, NotOpen, New}
use Rattle.td_op.specs.declared.reply.Reply.TheVariants.{Later, Repeat, Unfit, Taken, Dropped, Idle}
use Rattle.td_history.specs.declared.reply.CompactReply.{CompactReply}
use Rattle.td_history.specs.declared.reply.CompactReply.TheVariants.{Made as CompactMade}
use Rattle.td_history.specs.declared.reply.CompactReply.TheVariants.{Cancelled as CompactCancelled}
use Rattle.td_history.specs.declared.reply.CompactReply.TheVariants.{Held as CompactHeld, Position as CompactPosition}
use Rattle.td_history.specs.declared.reply.CompactReply.TheVariants.{Gone as CompactGone, Limit as CompactLimit}
use Rattle.td_history.specs.declared.reply.CompactReply.TheVariants.{NotOpen as CompactNotOpen, New as CompactNew}
use Rattle.td_history.specs.declared.reply.CompactReply.TheVariants.{Later as CompactLater, Repeat as CompactRepeat}
use Rattle.td_history.specs.declared.reply.CompactReply.TheVariants.{Unfit as CompactUnfit, Taken as CompactTaken}
use Rattle.td_history.specs.declared.reply.CompactReply.TheVariants.{Dropped as CompactDropped, Idle as CompactIdle}

abbrev pub reply_of : CompactReply → Reply
reply_of (CompactMade dot) = Made dot
reply_of CompactCancelled = Cancelled
reply_of (CompactHeld by) = Held by
reply_of (CompactPosition len) = Position len
reply_of (CompactGone id) = Gone id
reply_of (CompactLimit made undecided) = Limit made undecided
reply_of (CompactNotOpen proposal) = NotOpen proposal
reply_of CompactNew = New
reply_of CompactLater = Later
reply_of CompactRepeat = Repeat
reply_of (CompactUnfit why) = Unfit why
reply_of (CompactTaken dot) = Taken dot
reply_of (CompactDropped why dot) = Dropped dot why
reply_of CompactIdle = Idle
