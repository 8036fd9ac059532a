-- How what is kept for another worker stands to the messages of the own replica, and what may become of it.
use Rattle.std.specs.Prelude.{◌≡◌, ◌⊎◌, ◌+◌, ℕ, true, List, ◌∷◌, [], ◌++◌, length, take, Some, None}
use Rattle.std.specs.Prelude.{MatchOption, slice_get, if◌then◌else◌, false, not, ◌&&◌, ◌==◌}
use mathlib.Core.List.{IsPrefix}
use Rattle.td_op.specs.declared.message.Message.{Message}
use Rattle.td_wire.specs.Spelling.{SpellsIn}
use Rattle.td_link.specs.Ends.{TxValue}
use Rattle.td_link.specs.Moments.{WasEmpty, WasFull}
use Rattle.td_law_meeting.specs.Thin.{is_addressed, messages_to, copies}
use Rattle.td_law_meeting.specs.Peers.{Tells}
use Rattle.td_peer.specs.declared.parcel.Parcel.{Parcel}
use Rattle.td_peer.specs.Peers.{PeerState, peer_of}

-- what was sent is what is sent of the messages dealt with, and the counts are theirs
pub record Serves (sent : List Message) (p : PeerState) : Type 0 where
  pub tells : Tells sent (peer_of p)
  pub counted : p.addressed ≡ length (messages_to p.site (take p.dealt sent))
  -- only a message that is to be sent twice has been sent once and is to be sent again
  pub twice : (m : Message) → slice_get sent p.dealt ≡ Some m → p.again ≡ true
      → (is_addressed p.site m ≡ true) × (copies p.loss (p.addressed + 1) ≡ 2)

-- the same peer, later
pub record LaterPeer (p q : PeerState) : Type 0 where
  pub own : q.own ≡ p.own
  pub site : q.site ≡ p.site
  pub loss : q.loss ≡ p.loss
  pub inbox : q.inbox.link ≡ p.inbox.link
  pub outbox : q.outbox.link ≡ p.outbox.link
  pub cap : q.outbox.cap ≡ p.outbox.cap
  pub taken : IsPrefix p.inbox.taken q.inbox.taken
  pub sent : IsPrefix p.outbox.sent q.outbox.sent

-- no packet was taken, and the link was empty at a moment; or one was, and what it says waits
abbrev pub TakesNext : PeerState → PeerState → Type 0
TakesNext p q =
    MatchOption q.waiting ((q.inbox ≡ p.inbox) × WasEmpty p.inbox.taken)
    (λ m. (parcel : Parcel) × SpellsIn m parcel.packet
    × (q.inbox ≡ record p.inbox { taken = p.inbox.taken ++ parcel ∷ [] }))

-- of a peer before and after: where no packet was taken, the link was empty at a moment, or a message waits
abbrev pub TookOrEmpty : PeerState → PeerState → Type 0
TookOrEmpty p q = q.inbox.taken ≡ p.inbox.taken → q.waiting ≡ None → WasEmpty p.inbox.taken

-- of a peer before and after: where no packet was sent, none of these messages is left to send, or the link was full at
-- a moment
abbrev pub SentOrNothing : List Message → PeerState → PeerState → Type 0
SentOrNothing sent p q =
    q.outbox.sent ≡ p.outbox.sent → (q.dealt ≡ length sent) ⊎ WasFull p.outbox.cap p.outbox.sent

-- the end with one packet more sent
abbrev pub sent_more : Parcel → TxValue Parcel ℕ → TxValue Parcel ℕ
sent_more parcel outbox = record outbox { sent = outbox.sent ++ parcel ∷ [] }

-- at most one packet was sent
abbrev pub SentAtMostOne : TxValue Parcel ℕ → TxValue Parcel ℕ → Type 0
SentAtMostOne old new = (new ≡ old) ⊎ ((parcel : Parcel) × (new ≡ sent_more parcel old))

-- how often the message is to be sent to the peer, when it is the next
abbrev pub times : PeerState → Message → ℕ
times p m = if is_addressed p.site m then copies p.loss (p.addressed + 1) else 0

-- the peer when the next message, which is this one, is dealt with
abbrev pub passed : Message → PeerState → PeerState
passed m p =
    record p {
      dealt = p.dealt + 1;
      addressed = if is_addressed p.site m then p.addressed + 1 else p.addressed;
      again = false;
    }

-- the peer when the next message, which is this one, has been sent once more
abbrev pub noted : Message → PeerState → PeerState
noted m p = if not p.again && (times p m == 2) then record p { again = true } else passed m p
