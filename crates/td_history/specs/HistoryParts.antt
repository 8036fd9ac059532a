-- How a `History` keeps its past: what was sent, and the entries, by the numbers of operations.
use Rattle.std.specs.Prelude.{◌≤◌, ℕ, List}
use Rattle.std.specs.List.{filter_map}
use Rattle.td_op.specs.declared.entry.Entry.{Entry}
use Rattle.td_op.specs.declared.message.Message.{Message}
use Rattle.td_op.specs.Op.{OpValue}
use Rattle.td_history.specs.declared.message.CompactMessage.{CompactMessage}
use Rattle.td_history.specs.Standing.{StandFor}
use Rattle.td_history.specs.Messages.{message_of}
use Rattle.td_history.specs.Entries.{entry_of}
use Rattle.td_history.specs.EntriesValue.{EntriesValue}
use Rattle.td_history.specs.LogValue.{LogValue}
use Rattle.td_history.specs.Ramps.{RampsValue}

abbrev pub sent_of : List OpValue → List CompactMessage → List Message
sent_of ops sent = filter_map (message_of ops) sent

abbrev pub entries_of : List OpValue → EntriesValue → List Entry
entries_of ops e = filter_map (entry_of ops e) e.entries

-- each message and each entry stands for one, and there is room for so many more
pub record IsHistoryParts (site : ℕ) (log : LogValue) (sent : RampsValue CompactMessage) (entries : EntriesValue)
    (room : ℕ) : Type 0 where
  pub own : site ≤ log.size
  pub sending : StandFor (message_of log.ops) sent.items (sent_of log.ops sent.items)
  pub entering : StandFor (entry_of log.ops entries) entries.entries (entries_of log.ops entries)
  pub log_room : room ≤ log.room
  pub sent_room : room ≤ sent.room
  pub entries_room : room ≤ entries.room
