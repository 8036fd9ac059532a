-- What contracts see of what a worker keeps for another one.
use Rattle.std.specs.Prelude.{◌≡◌, ◌≤◌, ℕ, Bool, List, map, Option, Some}
use Rattle.td_op.specs.declared.message.Message.{Message}
use Rattle.td_link.specs.Ends.{TxValue, RxValue}
use Rattle.td_op.specs.Message.{sender}
use Rattle.td_law_meeting.specs.Thin.{Loss}
use Rattle.td_law_meeting.specs.Peers.{PeerValue, Met}
use Rattle.td_peer.specs.declared.parcel.Parcel.{Parcel}

pub record PeerState : Type 0 where
  -- the own site
  pub own : ℕ
  -- the site of the other worker
  pub site : ℕ
  -- the links from it and to it
  pub inbox : RxValue Parcel ℕ
  pub outbox : TxValue Parcel ℕ
  -- the message of the packet taken last, while it is not given to the replica
  pub waiting : Option Message
  -- so many of the messages that the own replica sent are dealt with, and so many of these are for the other site
  pub dealt : ℕ
  pub addressed : ℕ
  -- the next of them has been sent once and is to be sent again
  pub again : Bool
  -- which messages for it are lost, and which are sent twice
  pub loss : Loss

-- the inbox has what the other site sent, the outbox what the own one sends
pub record IsPeer (own site : ℕ) (inbox : RxValue Parcel ℕ) (outbox : TxValue Parcel ℕ) (waiting : Option Message)
    (dealt addressed : ℕ) : Type 0 where
  pub hears : inbox.mark ≡ Some site
  pub tells : outbox.mark ≡ Some own
  pub waits : (m : Message) → waiting ≡ Some m → sender m ≡ site
  pub few : addressed ≤ dealt

abbrev pub packets : List Parcel → List (List ℕ)
packets parcels = map (λ (p : Parcel). p.packet) parcels

-- what it comes to, apart from the links
abbrev pub peer_of : PeerState → PeerValue
peer_of p =
    record {
      site = p.site;
      taken = packets p.inbox.taken;
      waiting = p.waiting;
      sent = packets p.outbox.sent;
      dealt = p.dealt;
      again = p.again;
      loss = p.loss;
    }

-- the two are the ends of both links between two workers
pub record AreLinked (p q : PeerState) : Type 0 where
  pub there : p.outbox.link ≡ q.inbox.link
  pub back : q.outbox.link ≡ p.inbox.link

-- the two have met: both links between the two workers are settled
abbrev pub PeersMet : PeerState → PeerState → Type 0
PeersMet p q = Met (peer_of p) (peer_of q)
