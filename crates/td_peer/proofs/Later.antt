-- What holds of a peer later on.
use Rattle.std.proofs.Common.{◌≡◌, ◌<◌, ◌≤◌, ◌++◌, ℕ, zero, suc, List, [], ◌∷◌, Bool, true, false, length}
use Rattle.std.proofs.Common.{take, refl, sym, ap, ◌∙◌, subst, append_assoc, append-nil, arith}
use Rattle.std.proofs.Math.Seq.{take-length}
use Rattle.std.proofs.lemmas.List.{take-append-le}
use mathlib.Core.List.{IsPrefix}
use Rattle.td_op.specs.declared.message.Message.{Message}
use Rattle.td_law_meeting.specs.Thin.{thin, messages_to}
use Rattle.td_law_meeting.specs.Peers.{ArePackets, Hears, sent_to, new_peer}
use Rattle.td_law_meeting.specs.Thin.{Loss}
use Rattle.td_law_meeting.proofs.Telling.{tell_more, get_more}
use Rattle.td_peer.specs.declared.parcel.Parcel.{Parcel}
use Rattle.td_peer.specs.Peers.{PeerState, peer_of, packets, AreLinked}
use Rattle.td_peer.specs.Serving.{Serves, LaterPeer}
use Rattle.td_peer.specs.Opening.{IsNewPeer}

prefix_then : {X : Type 0} (xs ys zs : List X) → IsPrefix xs ys → IsPrefix ys zs → IsPrefix xs zs
prefix_then {X} xs ys zs p q =
    (p.0 ++ q.0, sym (append_assoc xs p.0 q.0) ∙ ap (λ (w : List X). w ++ q.0) p.1 ∙ q.1)

pub later_self : (p : PeerState) → LaterPeer p p
later_self p =
    record {
      own = refl;
      site = refl;
      loss = refl;
      inbox = refl;
      outbox = refl;
      cap = refl;
      taken = ([], append-nil p.inbox.taken);
      sent = ([], append-nil p.outbox.sent);
    }

pub later_then : (p q r : PeerState) → LaterPeer p q → LaterPeer q r → LaterPeer p r
later_then p q r a b =
    record {
      own = b.own ∙ a.own;
      site = b.site ∙ a.site;
      loss = b.loss ∙ a.loss;
      inbox = b.inbox ∙ a.inbox;
      outbox = b.outbox ∙ a.outbox;
      cap = b.cap ∙ a.cap;
      taken = prefix_then p.inbox.taken q.inbox.taken r.inbox.taken a.taken b.taken;
      sent = prefix_then p.outbox.sent q.outbox.sent r.outbox.sent a.sent b.sent;
    }

pub linked_later : (p q r s : PeerState) → LaterPeer p r → LaterPeer q s → AreLinked p q → AreLinked r s
linked_later p q r s a b l =
    record { there = a.outbox ∙ l.there ∙ sym b.inbox; back = b.outbox ∙ l.back ∙ sym a.inbox }

longer : {X : Type 0} (xs ys : List X) (k : ℕ) → k ≤ length xs → k ≤ length (xs ++ ys)
longer [] ys k h = omega (arith, h)
longer (x ∷ xs) ys zero h = omega arith
longer (x ∷ xs) ys (suc k) h = omega (arith, longer xs ys k (omega (arith, h)))

-- the replica sends more
pub serves_more : (sent more : List Message) (p : PeerState) → Serves sent p → Serves (sent ++ more) p
serves_more sent more p s =
    record {
      tells = record {
        within = longer sent more p.dealt s.tells.within;
        next = λ e. longer sent more (suc p.dealt) (s.tells.next e);
        packets = subst (λ (l : List Message). ArePackets l (peer_of p).sent)
            (sym (tell_more p.loss p.site p.dealt p.again sent more s.tells.within s.tells.next)) s.tells.packets;
      };
      counted = s.counted
          ∙ ap (λ (l : List Message). length (messages_to p.site l))
          (sym (take-append-le p.dealt sent more s.tells.within));
      twice = λ m at again. s.twice m (sym (get_more p.dealt sent more (s.tells.next again)) ∙ at) again;
    }

-- where all messages are dealt with, what was sent is `thin` of those for the peer
pub all_sent : (sent : List Message) (p : PeerState) → Serves sent p → p.dealt ≡ length sent
    → ArePackets (thin p.loss 1 (messages_to p.site sent)) (packets p.outbox.sent)
all_sent sent p s all =
    subst (λ (l : List Message). ArePackets l (packets p.outbox.sent))
    ((λ i. sent_to p.loss p.site (all i) (not_again i) sent)
    ∙ append-nil (thin p.loss 1 (messages_to p.site (take (length sent) sent)))
    ∙ ap (λ (l : List Message). thin p.loss 1 (messages_to p.site l)) (take-length sent))
    s.tells.packets
  where
    off : (b : Bool) → (b ≡ true → p.dealt < length sent) → b ≡ false
    off true h = absurd (omega (arith, h refl, all))
    off false h = refl

    not_again : p.again ≡ false
    not_again = off p.again s.tells.next

-- ---- at the beginning

pub fresh_is_new : (one other places : ℕ) (lost : Loss) (p : PeerState) → IsNewPeer one other places lost p
    → peer_of p ≡ new_peer other lost
fresh_is_new one other places lost p f =
    ap peer_of f.nothing
    ∙ (λ i. record (new_peer other lost) { taken = packets (f.taken i); sent = packets (f.sent i) })

pub fresh_serves : (one other places : ℕ) (lost : Loss) (p : PeerState) (sent : List Message)
    → IsNewPeer one other places lost p → Serves sent p
fresh_serves one other places lost p sent f =
    subst (Serves sent) (sym f.nothing) (record {
      tells = record {
        within = omega arith;
        next = λ e. absurd (cc e);
        packets = subst (λ (l : List Parcel). ArePackets [] (packets l)) (sym f.sent) tt;
      };
      counted = refl;
      twice = λ m at again. absurd (cc again);
    })

pub fresh_hears : (one other places : ℕ) (lost : Loss) (p : PeerState) → IsNewPeer one other places lost p
    → Hears [] (peer_of p)
fresh_hears one other places lost p f = subst (Hears []) (sym (fresh_is_new one other places lost p f)) tt
