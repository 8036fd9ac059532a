-- How the elements of lists go on: what stands so far behind an element, where its list goes on as it mostly does.
use Rattle.std.specs.Prelude.{◌+◌, ◌^◌, ◌%◌, ℕ, zero, suc}
use Rattle.td_history.specs.declared.entry.CompactEntry.{CompactEntry}
use Rattle.td_history.specs.declared.entry.CompactEntry.TheVariants.{Inserted, Deleted, Taken, Kept, Resumed, Whole}
use Rattle.td_history.specs.declared.message.CompactMessage.{CompactMessage}
use Rattle.td_history.specs.declared.message.CompactMessage.TheVariants.{Op, Vote}

-- numbers rise by one, in 32 bits
abbrev pub number_on : ℕ → ℕ → ℕ
number_on zero number = number
number_on (suc k) number = (number + suc k) % 2 ^ 32

-- in entries numbers rise by one, and the index at which a letter is put does so
abbrev pub entry_on : ℕ → CompactEntry → CompactEntry
entry_on zero entry = entry
entry_on (suc k) (Inserted index number) = Inserted (number_on (suc k) index) (number_on (suc k) number)
entry_on (suc k) (Deleted index number) = Deleted index (number_on (suc k) number)
entry_on (suc k) (Taken number) = Taken (number_on (suc k) number)
entry_on (suc k) (Kept number) = Kept (number_on (suc k) number)
entry_on (suc k) (Resumed number) = Resumed (number_on (suc k) number)
entry_on (suc k) (Whole place) = Whole (number_on (suc k) place)

-- of messages, operations go on by their numbers, and a vote by itself
abbrev pub message_on : ℕ → CompactMessage → CompactMessage
message_on zero message = message
message_on (suc k) (Op number) = Op (number_on (suc k) number)
message_on (suc k) (Vote vote) = Vote vote
