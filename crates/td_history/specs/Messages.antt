-- The message that a compact one stands for, among the operations by their numbers.
use Rattle.std.specs.Prelude.{List, Option, Some}
use Rattle.std.specs.List.{slice_get}
use Rattle.std.specs.Option.{option_map}
use Rattle.td_op.specs.declared.message.Message.{Message}
use Rattle.td_op.specs.declared.message.Message.TheVariants.{Op, Vote}
use Rattle.td_op.specs.Op.{OpValue}
use Rattle.td_history.specs.declared.message.CompactMessage.{CompactMessage}
use Rattle.td_history.specs.declared.message.CompactMessage.TheVariants.{Op as CompactOp, Vote as CompactVote}
use Rattle.td_history.specs.Votes.{vote_of}

abbrev pub message_of : List OpValue → CompactMessage → Option Message
message_of ops (CompactOp number) = option_map Op (slice_get ops number)
message_of ops (CompactVote vote) = Some (Vote (vote_of vote))
