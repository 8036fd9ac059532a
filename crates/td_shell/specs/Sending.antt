-- The lines of messages that were sent, with their numbers from 1 on, and those of faults.
use Rattle.std.specs.Prelude.{ℕ, suc, List, [], ◌∷◌, ◌++◌, codes, drop}
use Rattle.std.specs.List.{flat_map}
use Rattle.td_io.specs.Count.{counted}
use Rattle.td_op.specs.declared.message.Message.{Message}
use Rattle.td_op.specs.declared.message.Message.TheVariants.{Op, Vote}
use Rattle.td_report.specs.Replies.{event_line}
use Rattle.td_script.specs.Characters.{line_feed}
use Rattle.td_script.specs.Hex.{hex_of}
use Rattle.td_script.specs.Kinds.{kind_name}
use Rattle.td_script.specs.Spelling.{spaced}
use Rattle.td_script.specs.declared.kind.Kind.{Kind}
use Rattle.td_script.specs.declared.kind.Kind.TheVariants.{End}
use Rattle.td_wire.specs.declared.format.Format.TheVariants.{Two}
use Rattle.td_wire.specs.Spelling.{spelling}

-- the one site that a vote is for
abbrev pub address_part : Message → List ℕ
address_part (Op op) = []
address_part (Vote v) = codes " to" ++ spaced v.proposal.site

-- the number of a message, its packet in hex, and the one site that it is for
abbrev pub send_line : ℕ → Message → List ℕ
send_line number message =
    codes "send" ++ (spaced number ++ (codes " " ++ (hex_of (spelling Two message)
    ++ (address_part message ++ line_feed ∷ []))))

-- of which the first has this number
abbrev pub send_lines : ℕ → List Message → List ℕ
send_lines number [] = []
send_lines number (message ∷ messages) = send_line number message ++ send_lines (suc number) messages

-- those behind the first so many
abbrev pub sent_behind : ℕ → List Message → List ℕ
sent_behind count messages = send_lines (suc count) (drop count messages)

-- the votes and decisions among them
abbrev pub events_behind : ℕ → List Message → List ℕ
events_behind count messages = flat_map event_line (drop count messages)

-- the number of a line, and the first thing wrong with it
abbrev pub fault_line : ℕ → Kind → List ℕ
fault_line number kind = codes "fault" ++ (spaced number ++ (codes " " ++ (kind_name kind ++ line_feed ∷ [])))

-- behind the line with this number stand these bytes, and no LF: they are not done
abbrev pub cut_answer : ℕ → List ℕ → List ℕ
cut_answer number [] = []
cut_answer number (byte ∷ bytes) = fault_line (counted number) End
