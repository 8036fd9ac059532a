-- What is sent to a peer stays what is to be sent.
use Rattle.std.proofs.Common.{◌≡◌, ◌<◌, ◌≤◌, ◌+◌, ◌-◌, ◌++◌, ℕ, suc, List, [], ◌∷◌, Bool, true, false, cond, not}
use Rattle.std.proofs.Common.{◌&&◌, nat_eq, length, slice_get, Some, None, refl, sym, ap, ◌∙◌, subst, arith}
use Rattle.std.proofs.Common.{append-nil}
use Rattle.std.proofs.lemmas.Bool.Decides.{nat_tests}
use Rattle.td_base.proofs.Elements.{In-slice_get}
use Rattle.std.proofs.lemmas.Option.{slice_get_within}
use Rattle.std.proofs.lemmas.Bool.{false_from_ne_true}
use Rattle.td_op.specs.declared.message.Message.{Message}
use Rattle.td_wire.specs.Spelling.{SpellsIn}
use Rattle.td_wire.proofs.Decoding.{one_message}
use Rattle.td_op.specs.Message.{sender}
use Rattle.td_base.specs.Lists.{kth}
use Rattle.td_replica.specs.Replica.{ReplicaValue, IsReplica}
use Rattle.td_replica.proofs.Legal.{built}
use Rattle.td_law_meeting.specs.Thin.{is_addressed, Loss, copies, divides}
use Rattle.td_law_meeting.specs.Peers.{ArePackets, sent_to}
use Rattle.td_law_meeting.proofs.Telling.{told_count, tell_other, tell_none, tell_one, tell_first}
use Rattle.td_law_meeting.proofs.Telling.{tell_second, count_other, count_next}
use Rattle.td_law_meeting.proofs.Hearing.{zip_append}
use Rattle.td_law_meeting.proofs.Own.{sends_own}
use Rattle.td_peer.specs.declared.parcel.Parcel.{Parcel}
use Rattle.td_peer.specs.Peers.{PeerState, packets}
use Rattle.td_peer.specs.Serving.{Serves, LaterPeer, sent_more, times, passed, noted}
use Rattle.td_peer.proofs.Taking.{packets_append}

-- ---- lists

pub kth_next : {X : Type 0} (k : ℕ) (xs : List X) (x : X) → kth (k + 1) xs ≡ Some x → slice_get xs k ≡ Some x
kth_next {X} k xs x e =
    let some : nat_eq (k + 1) 0 ≡ false = positive k in
    let less : k + 1 - 1 ≡ k = omega arith in
    sym (ap (λ (b : Bool). cond b None (slice_get xs (k + 1 - 1))) some ∙ ap (slice_get xs) less) ∙ e
  where
    positive : (j : ℕ) → nat_eq (j + 1) 0 ≡ false
    positive j = grind (arith, nat_tests)

pub none_past : {X : Type 0} (xs : List X) (k : ℕ) (x : X) → length xs ≤ k → slice_get xs k ≡ Some x → ⊥
none_past xs k x l e = absurd (omega (arith, l, slice_get_within xs k x e))

-- ---- what a site sends is its own

pub own_sender : (r : ReplicaValue) (k : ℕ) (m : Message) → IsReplica r → slice_get r.machine.sent k ≡ Some m
    → sender m ≡ r.machine.site
own_sender r k m i at = sends_own r.machine (built r i) m (In-slice_get r.machine.sent k m at)

pub fits_own : (m other : Message) (packet : List ℕ) (site : ℕ) → SpellsIn m packet → SpellsIn other packet
    → sender m ≡ site → sender other ≡ site
fits_own m other packet site h k e = ap sender (one_message packet k.0 h.0 other m k.1 h.1) ∙ e

-- ---- one message

-- how often the message is sent, for one that is for the peer
copies_of : (p : PeerState) (m : Message) → is_addressed p.site m ≡ true → copies p.loss (p.addressed + 1) ≡ times p m
copies_of p m e = ap (λ (b : Bool). cond b (copies p.loss (p.addressed + 1)) 0) (sym e)

copies_none : (p : PeerState) (m : Message) → is_addressed p.site m ≡ false → times p m ≡ 0
copies_none p m e = ap (λ (b : Bool). cond b (copies p.loss (p.addressed + 1)) 0) e

counted_copies : (sent : List Message) (p : PeerState) → Serves sent p
    → copies p.loss (1 + told_count p.site p.dealt sent) ≡ copies p.loss (p.addressed + 1)
counted_copies sent p s =
    let e : 1 + told_count p.site p.dealt sent ≡ p.addressed + 1 =
    turned (told_count p.site p.dealt sent) p.addressed s.counted in
    ap (copies p.loss) e
  where
    turned : (a b : ℕ) → b ≡ a → 1 + a ≡ b + 1
    turned a b h = omega (arith, h)

addressed_next : (sent : List Message) (p : PeerState) (m : Message) → slice_get sent p.dealt ≡ Some m → Serves sent p
    → (b : Bool) → is_addressed p.site m ≡ b → cond b (p.addressed + 1) p.addressed
    ≡ told_count p.site (suc p.dealt) sent
addressed_next sent p m at s true e = ap (λ (k : ℕ). k + 1) s.counted
    ∙ sym (count_next p.loss p.site p.dealt sent m at e)
addressed_next sent p m at s false e = s.counted ∙ sym (count_other p.loss p.site p.dealt sent m at e)

-- when it is dealt with, and so many packets are sent
pub serves_passed : (sent : List Message) (p : PeerState) (m : Message) (more : List (List ℕ)) (q : PeerState)
    → slice_get sent p.dealt ≡ Some m → Serves sent p
    → q.loss ≡ p.loss → q.site ≡ p.site → q.dealt ≡ p.dealt + 1 → q.again ≡ false
    → q.addressed ≡ told_count p.site (suc p.dealt) sent
    → packets q.outbox.sent ≡ packets p.outbox.sent ++ more
    → ((xs : List Message) (ps : List (List ℕ)) → xs ≡ sent_to p.loss p.site p.dealt p.again sent → ArePackets xs ps
    → ArePackets (sent_to p.loss p.site (suc p.dealt) false sent) (ps ++ more))
    → Serves sent q
serves_passed sent p m more q at s loss number dealt again told out next =
    let one : p.dealt + 1 ≡ suc p.dealt = succ p.dealt in
    let d : q.dealt ≡ suc p.dealt = dealt ∙ one in
    let inside : p.dealt < length sent = slice_get_within sent p.dealt m at in
    record {
      tells = record {
        within = omega (arith, d, inside);
        next = λ e. absurd (true_false q.again e again);
        packets = subst (λ (v : List (List ℕ)). ArePackets (sent_to q.loss q.site q.dealt q.again sent) v) (sym out)
            (subst (λ (l : List Message). ArePackets l (packets p.outbox.sent ++ more))
            (λ i. sent_to (sym loss i) (sym number i) (sym d i) (sym again i) sent)
            (next (sent_to p.loss p.site p.dealt p.again sent) (packets p.outbox.sent) refl s.tells.packets));
      };
      counted = told ∙ (λ i. told_count (sym number i) (sym d i) sent);
      twice = λ x e f. absurd (true_false q.again f again);
    }
  where
    succ : (k : ℕ) → k + 1 ≡ suc k
    succ k = omega arith

    true_false : (b : Bool) → b ≡ true → b ≡ false → ⊥
    true_false true e f = cc f
    true_false false e f = cc e

-- a message that is not to be sent is passed over
pub serves_skip : (sent : List Message) (p : PeerState) (m : Message) → slice_get sent p.dealt ≡ Some m → times p m ≡ 0
    → Serves sent p → Serves sent (passed m p)
serves_skip sent p m at none s =
    serves_passed sent p m [] (passed m p) at s refl refl refl refl
    (addressed_next sent p m at s (is_addressed p.site m) refl)
    (sym (append-nil (packets p.outbox.sent)))
    (λ xs ps e h.
    subst (λ (v : List (List ℕ)). ArePackets (sent_to p.loss p.site (suc p.dealt) false sent) v) (sym (append-nil ps))
    (subst (λ (l : List Message). ArePackets l ps)
    (e ∙ ap (λ (b : Bool). sent_to p.loss p.site p.dealt b sent) rests ∙ sym (same (is_addressed p.site m) refl))
    h))
  where
    rests : p.again ≡ false
    rests = false_from_ne_true p.again (λ a. let t = s.twice m at a in
        two_zero (copies p.loss (p.addressed + 1)) t.1 (copies_of p m t.0 ∙ none))
      where
        two_zero : (k : ℕ) → k ≡ 2 → k ≡ 0 → ⊥
        two_zero k e f = absurd (omega (arith, e, f))

    same : (b : Bool) → is_addressed p.site m ≡ b
        → sent_to p.loss p.site (suc p.dealt) false sent ≡ sent_to p.loss p.site p.dealt false sent
    same false e = tell_other p.loss p.site p.dealt sent m at e
    same true e =
        tell_none p.loss p.site p.dealt sent m at e (counted_copies sent p s ∙ copies_of p m e ∙ none)

-- the peer with one packet more sent
abbrev pub with_packet : PeerState → Parcel → PeerState
with_packet p parcel = record p { outbox = sent_more parcel p.outbox }

one_more : (p : PeerState) (parcel : Parcel) → packets (with_packet p parcel).outbox.sent ≡ packets p.outbox.sent
    ++ parcel.packet ∷ []
one_more p parcel = packets_append p.outbox.sent (parcel ∷ [])

module _ (sent : List Message) (p : PeerState) (m : Message) (parcel : Parcel) (at : slice_get sent p.dealt ≡ Some m)
    (due : 0 < times p m) (spelled : SpellsIn m parcel.packet) (s : Serves sent p) where
  for_peer : is_addressed p.site m ≡ true
  for_peer = on (is_addressed p.site m) refl
    where
      on : (b : Bool) → is_addressed p.site m ≡ b → b ≡ true
      on true e = refl
      on false e = absurd (omega (arith, due, copies_none p m e))

  -- one packet more stands for one message more
  extended : (xs ys : List Message) (ps : List (List ℕ)) → ys ≡ xs ++ m ∷ [] → ArePackets xs ps
      → ArePackets ys (ps ++ parcel.packet ∷ [])
  extended xs ys ps e h =
      subst (λ (l : List Message). ArePackets l (ps ++ parcel.packet ∷ [])) (sym e)
      (zip_append SpellsIn xs (m ∷ []) ps (parcel.packet ∷ []) h (spelled, tt))

  serves_all : (b : Bool) → p.again ≡ b → sent_to p.loss p.site (suc p.dealt) false sent
      ≡ sent_to p.loss p.site p.dealt b sent ++ m ∷ []
      → Serves sent (passed m (with_packet p parcel))
  serves_all b a e =
      serves_passed sent p m (parcel.packet ∷ []) (passed m (with_packet p parcel)) at s refl refl refl refl
      (addressed_next sent p m at s (is_addressed p.site m) refl) (one_more p parcel)
      (λ xs ps f h.
      extended xs (sent_to p.loss p.site (suc p.dealt) false sent) ps
      (e ∙ ap (λ (w : List Message). w ++ m ∷ []) (sym
      (f ∙ ap (λ (c : Bool). sent_to p.loss p.site p.dealt c sent) a))) h)

  serves_once : p.again ≡ false → times p m ≡ 2 → Serves sent (record (with_packet p parcel) { again = true })
  serves_once a two =
      let inside : p.dealt < length sent = slice_get_within sent p.dealt m at in
      record {
        tells = record {
          within = s.tells.within;
          next = λ e. inside;
          packets = subst (λ (v : List (List ℕ)). ArePackets (sent_to p.loss p.site p.dealt true sent) v)
              (sym (one_more p parcel))
              (extended (sent_to p.loss p.site p.dealt false sent) (sent_to p.loss p.site p.dealt true sent)
              (packets p.outbox.sent)
              (tell_first p.loss p.site p.dealt sent m at for_peer)
              (subst (λ (c : Bool). ArePackets (sent_to p.loss p.site p.dealt c sent) (packets p.outbox.sent)) a
              s.tells.packets));
        };
        counted = s.counted;
        twice = λ x e f. subst (λ (y : Message). (is_addressed p.site y ≡ true)
            × (copies p.loss (p.addressed + 1) ≡ 2)) (same m x (sym at ∙ e))
            (for_peer, copies_of p m for_peer ∙ two);
      }
    where
      same : (a b : Message) → Some a ≡ Some b → a ≡ b
      same a b h = cc

  by_case : (a t : Bool) → p.again ≡ a → nat_eq (times p m) 2 ≡ t
      → Serves sent (cond (not a && t) (record (with_packet p parcel) { again = true })
      (passed m (with_packet p parcel)))
  by_case true t a e =
      let two = s.twice m at a in
      serves_all true a (tell_second p.loss p.site p.dealt sent m at for_peer (counted_copies sent p s ∙ two.1))
  by_case false true a e = serves_once a (is_two (times p m) e)
    where
      is_two : (k : ℕ) → nat_eq k 2 ≡ true → k ≡ 2
      is_two k h = grind (arith, nat_tests)
  by_case false false a e =
      let one : copies p.loss (p.addressed + 1) ≡ 1 =
      single (copies p.loss (p.addressed + 1)) (at_most p.loss (p.addressed + 1))
      (subst (λ (k : ℕ). 0 < k) (sym (copies_of p m for_peer)) due)
      (subst (λ (k : ℕ). nat_eq k 2 ≡ false) (sym (copies_of p m for_peer)) e) in
      serves_all false a (tell_one p.loss p.site p.dealt sent m at for_peer (counted_copies sent p s ∙ one))
    where
      single : (k : ℕ) → k ≤ 2 → 0 < k → nat_eq k 2 ≡ false → k ≡ 1
      single k l h f = grind (arith, nat_tests)

      at_most : (loss : Loss) (j : ℕ) → copies loss j ≤ 2
      at_most loss j = least (divides loss.drop_each j) (divides loss.double_each j)
        where
          least : (b c : Bool) → cond b 0 (cond c 2 1) ≤ 2
          least true c = omega arith
          least false true = omega arith
          least false false = omega arith

  pub serves_noted : Serves sent (noted m (with_packet p parcel))
  serves_noted = by_case p.again (nat_eq (times p m) 2) refl refl

-- ---- later

later_cond : (b : Bool) (p q r : PeerState) → LaterPeer p q → LaterPeer p r → LaterPeer p (cond b q r)
later_cond true p q r h k = h
later_cond false p q r h k = k

pub later_noted : (p : PeerState) (m : Message) (parcel : Parcel) → LaterPeer p (noted m (with_packet p parcel))
later_noted p m parcel =
    later_cond (not p.again && nat_eq (times p m) 2) p (record (with_packet p parcel) { again = true })
    (passed m (with_packet p parcel)) (of p.dealt p.addressed true)
    (of (p.dealt + 1) (cond (is_addressed p.site m) (p.addressed + 1) p.addressed) false)
  where
    of : (d t : ℕ) (b : Bool) → LaterPeer p (record (with_packet p parcel) { dealt = d; addressed = t; again = b })
    of d t b =
        record {
          own = refl;
          site = refl;
          loss = refl;
          inbox = refl;
          outbox = refl;
          cap = refl;
          taken = ([], append-nil p.inbox.taken);
          sent = (parcel ∷ [], refl);
        }
