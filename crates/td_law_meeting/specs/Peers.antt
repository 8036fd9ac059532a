-- What a worker keeps for another worker, and how that stands to its own replica.
use Rattle.std.specs.Prelude.{◌≡◌, ◌≤◌, ◌<◌, ℕ, Bool, true, false, List, [], ◌++◌}
use Rattle.std.specs.Prelude.{length, take, Option, None, slice_get}
use Rattle.std.specs.List.{AllZip}
use mathlib.Core.List.{IsPrefix}
use Rattle.std.specs.Option.{option_to_list}
use Rattle.td_op.specs.declared.message.Message.{Message}
use Rattle.td_wire.specs.Spelling.{SpellsIn}
use Rattle.td_machine.specs.History.{History}
use Rattle.td_law_meeting.specs.Thin.{Loss, thin, messages_to}
use Rattle.td_law_meeting.specs.Takes.{takes_from}

-- what a worker keeps for the worker of another site
pub record PeerValue : Type 0 where
  -- the other site
  pub site : ℕ
  -- the packets taken from it, the first first
  pub taken : List (List ℕ)
  -- the message of the last of them, while it is not given to the replica
  pub waiting : Option Message
  -- the packets sent to it
  pub sent : List (List ℕ)
  -- so many of the messages that the own replica sent are dealt with
  pub dealt : ℕ
  -- the next of them has been sent once and is to be sent again
  pub again : Bool
  -- which messages for it are lost, and which are sent twice
  pub loss : Loss

-- what is kept for the worker of a site at the beginning
abbrev pub new_peer : ℕ → Loss → PeerValue
new_peer site loss =
    record { site = site; taken = []; waiting = None; sent = []; dealt = 0; again = false; loss = loss }

-- the packets are those of the messages, one for one
abbrev pub ArePackets : List Message → List (List ℕ) → Type 0
ArePackets messages packets = AllZip SpellsIn messages packets

-- the packets taken from the peer are those of what the history takes from its site, and then of the message that waits
abbrev pub Hears : History → PeerValue → Type 0
Hears entries p = ArePackets (takes_from p.site entries ++ option_to_list p.waiting) p.taken

-- the next message, where it has been sent once and is to be sent again
abbrev pub sent_once : Bool → ℕ → List Message → List Message
sent_once false dealt sent = []
sent_once true dealt sent = option_to_list (slice_get sent dealt)

-- what is sent of a replica's messages to this site, when so many of them are dealt with, and the next
-- has been sent once or not
abbrev pub sent_to : Loss → ℕ → ℕ → Bool → List Message → List Message
sent_to loss site dealt again sent =
    thin loss 1 (messages_to site (take dealt sent)) ++ messages_to site (sent_once again dealt sent)

-- the packets sent to the peer are those of what is sent of the replica's messages that are dealt with
pub record Tells (sent : List Message) (p : PeerValue) : Type 0 where
  pub within : p.dealt ≤ length sent
  pub next : p.again ≡ true → p.dealt < length sent
  pub packets : ArePackets (sent_to p.loss p.site p.dealt p.again sent) p.sent

-- what p took is a beginning of what q sent
abbrev pub HasTakenOf : PeerValue → PeerValue → Type 0
HasTakenOf p q = IsPrefix p.taken q.sent

-- what two workers keep for each other has met: both links between them are settled
abbrev pub Met : PeerValue → PeerValue → Type 0
Met p q = HasTakenOf p q × HasTakenOf q p
