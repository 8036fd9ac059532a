-- What holds of the peers beside a replica stays so while the replica goes on.
use Rattle.std.proofs.Common.{◌≡◌, List, sym, ◌∙◌, subst}
use Rattle.td_op.specs.declared.message.Message.{Message}
use Rattle.td_law_meeting.specs.Peers.{Hears}
use Rattle.td_law_meeting.specs.Accounts.{others}
use Rattle.td_site.specs.Sites.{SiteValue}
use Rattle.td_peer.specs.Peers.{PeerState, peer_of}
use Rattle.td_peer.specs.Serving.{Serves}
use Rattle.td_room.specs.Later.{Went}
use Rattle.td_room.specs.Workers.{IsConnected}
use Rattle.td_room.proofs.Heards.{hears_on}
use Rattle.td_room.proofs.Walks.{all_map}
use Rattle.td_peer.proofs.Later.{serves_more}

pub connected_on : (s t : SiteValue) (peers : List PeerState) → Went s t → IsConnected s.replica peers
    → IsConnected t.replica peers
connected_on s t peers w c =
    record {
      numbers = c.numbers ∙ (λ i. others (sym w.later.size i) (sym w.later.site i));
      owns = all_map (λ (p : PeerState). p.own ≡ s.replica.machine.site)
          (λ (p : PeerState). p.own ≡ t.replica.machine.site)
          peers (λ p e. e ∙ sym w.later.site) c.owns;
      welcome = w.welcome c.welcome;
      hears = all_map (λ (p : PeerState). Hears s.replica.entries (peer_of p))
          (λ (p : PeerState). Hears t.replica.entries (peer_of p))
          peers (λ p h. hears_on s.replica.entries t.replica.entries p (w.takes p.site) h) c.hears;
      serves = all_map (λ (p : PeerState). Serves s.replica.machine.sent p)
          (λ (p : PeerState). Serves t.replica.machine.sent p)
          peers (λ p h. subst (λ (l : List Message). Serves l p) w.later.sent.1
          (serves_more s.replica.machine.sent w.later.sent.0 p h))
          c.serves;
    }
