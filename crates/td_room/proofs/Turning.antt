-- What a turn does for each peer.
use Rattle.std.proofs.Common.{◌≡◌, ◌<◌, ◌≤◌, ◌+◌, ◌++◌, ℕ, List, [], ◌∷◌, Result, Ok, Err, OnOk, Option, Some, None}
use Rattle.std.proofs.Common.{MatchOption, ◌⊎◌, length, take, refl, sym, ap, ◌∙◌, subst, arith, length-append}
use Rattle.std.specs.List.{AllZip}
use mathlib.Core.List.{IsPrefix}
use Rattle.td_op.specs.declared.message.Message.{Message}
use Rattle.td_link.specs.Moments.{WasEmpty, WasFull}
use Rattle.td_machine.specs.Machine.{Machine, start, made}
use Rattle.td_machine.specs.History.{History, after, known_of}
use Rattle.td_replica.specs.Replica.{ReplicaValue, IsReplica}
use Rattle.td_site.specs.Sites.{SiteValue}
use Rattle.td_site.specs.Later.{LaterSite}
use Rattle.td_site.specs.Shows.{machine_then, UptoAtLeast}
use Rattle.td_wire.specs.Spelling.{SpellsIn}
use Rattle.td_peer.specs.Peers.{PeerState}
use Rattle.td_peer.specs.declared.parcel.Parcel.{Parcel}
use Rattle.td_peer.specs.Serving.{LaterPeer, TakesNext, TookOrEmpty, SentOrNothing, SentAtMostOne}
use Rattle.td_link.specs.Ends.{TxValue, RxValue}
use Rattle.td_room.specs.Turns.{NotMadeThen, HeardPeer, ToldPeer, GivenPeer, Exchanged}
use Rattle.td_room.specs.Turns.{IsCaughtUp, TurnedLine, TurnedWorker}
use Rattle.td_room.specs.Workers.{WorkerValue}
use Rattle.td_line.specs.Lines.{LineValue}
use Rattle.std.proofs.lemmas.List.{take-append-le}
use Rattle.std.proofs.Math.Seq.{take-length}
use Rattle.td_base.proofs.Passing.{zip_weaker}
use Rattle.td_room.proofs.Walks.{zip_then}

longer : {X : Type 0} (xs ys : List X) → IsPrefix xs ys → length xs ≤ length ys
longer xs ys p =
    let a = ap length p.1 in let b = length-append xs p.0 in omega arith

-- what was not made at the end of what is known was not made then
pub not_made_now : (r s : ReplicaValue) (known : ℕ) → IsPrefix r.entries s.entries → IsReplica s
    → made s.machine < known
    → NotMadeThen r s known
not_made_now r s known grown i h =
    let e : machine_then s.machine.site s.machine.size s.entries (length s.entries) ≡ s.machine =
    ap (λ (l : History). after (start s.machine.site s.machine.size) l) (take-length s.entries) ∙ sym i.is in
    record {
      upto = length s.entries;
      from = longer r.entries s.entries grown;
      to = omega arith;
      few = subst (λ (m : Machine). made m < known) (sym e) h;
    }

pub not_made_on : (r s t : ReplicaValue) (known : ℕ) → IsPrefix s.entries t.entries → t.machine.site ≡ s.machine.site
    → t.machine.size ≡ s.machine.size → NotMadeThen r s known → NotMadeThen r t known
not_made_on r s t known grown site size h =
    let n = longer s.entries t.entries grown in
    let front : take h.upto t.entries ≡ take h.upto s.entries =
    ap (λ (l : History). take h.upto l) (sym grown.1) ∙ take-append-le h.upto s.entries grown.0 h.to in
    record {
      upto = h.upto;
      from = h.from;
      to = let a : h.upto ≤ length s.entries = h.to in omega arith;
      few = subst (λ (x : ℕ × ℕ × History). made (after (start x.0 x.1) x.2) < known)
          (λ j. (sym site j, sym size j, sym front j)) h.few;
    }

pub not_made_from : (q r s : ReplicaValue) (known : ℕ) → IsPrefix q.entries r.entries → NotMadeThen r s known
    → NotMadeThen q s known
not_made_from q r s known grown h =
    let n = longer q.entries r.entries grown in
    let f : length r.entries ≤ h.upto = h.from in
    record { upto = h.upto; from = omega arith; to = h.to; few = h.few }

pub heard_on : (s t u : SiteValue) → LaterSite t u → (p q : PeerState) → HeardPeer s t p q → HeardPeer s u p q
heard_on s t u later p q h =
    record {
      heard = record {
        done = λ m e.
            not_made_on s.replica t.replica u.replica (known_of q.own m) later.entries later.site later.size
            (h.heard.done m e);
        took = h.heard.took;
        one = h.heard.one;
      };
      outbox = h.outbox;
    }

-- what began later began after what was before
pub heard_from : (r s t : SiteValue) → LaterSite r s → (p q : PeerState) → HeardPeer s t p q → HeardPeer r t p q
heard_from r s t later p q h =
    record {
      heard = record {
        done = λ m e. not_made_from r.replica s.replica t.replica (known_of q.own m) later.entries (h.heard.done m e);
        took = h.heard.took;
        one = h.heard.one;
      };
      outbox = h.outbox;
    }

pub heard_now : (s t : SiteValue) (p q : PeerState) → LaterSite s t → IsReplica t.replica
    → ((m : Message) → q.waiting ≡ Some m → made t.replica.machine < known_of q.own m)
    → TookOrEmpty p q → length q.inbox.taken ≤ length p.inbox.taken + 1
    → q ≡ record p { inbox = q.inbox; waiting = q.waiting } → HeardPeer s t p q
heard_now s t p q later i kept took one same =
    record {
      heard = record {
        done = λ m e. not_made_now s.replica t.replica (known_of q.own m) later.entries i (kept m e);
        took = took;
        one = one;
      };
      outbox = ap (λ (x : PeerState). x.outbox) same;
    }

pub given_on : (s t u : SiteValue) → LaterSite t u → (p q : PeerState) → GivenPeer s t p q → GivenPeer s u p q
given_on s t u later p q h =
    record {
      done = λ m e.
          not_made_on s.replica t.replica u.replica (known_of q.own m) later.entries later.site later.size (h.done m e);
      own = h.own;
      site = h.site;
      inbox = h.inbox;
    }

pub given_now : (s t : SiteValue) (p q : PeerState) → LaterSite s t → IsReplica t.replica
    → ((m : Message) → q.waiting ≡ Some m → made t.replica.machine < known_of q.own m)
    → LaterPeer p q → q.inbox ≡ p.inbox → GivenPeer s t p q
given_now s t p q later i kept peer inbox =
    record {
      done = λ m e. not_made_now s.replica t.replica (known_of q.own m) later.entries i (kept m e);
      own = peer.own;
      site = peer.site;
      inbox = inbox;
    }

pub exchanged : (s t : SiteValue) (p h q : PeerState) → HeardPeer s t p h → ToldPeer t h q → Exchanged s t p q
exchanged s t p h q a b =
    record {
      heard = record {
        done = λ m e.
            subst (λ (k : ℕ). NotMadeThen s.replica t.replica (known_of k m)) (sym b.own)
            (a.heard.done m (sym b.waiting ∙ e));
        took = λ e none.
            a.heard.took (ap (λ x. x.taken) (sym b.inbox) ∙ e) (sym b.waiting ∙ none);
        one = subst (λ (x : RxValue Parcel ℕ). length x.taken ≤ length p.inbox.taken + 1) (sym b.inbox) a.heard.one;
      };
      told = λ e.
          subst (λ (o : TxValue Parcel ℕ). (q.dealt ≡ length t.replica.machine.sent) ⊎ WasFull o.cap o.sent) a.outbox
          (b.told (e ∙ ap (λ (o : TxValue Parcel ℕ). o.sent) (sym a.outbox)));
      most = subst (λ (o : TxValue Parcel ℕ). SentAtMostOne o q.outbox) a.outbox b.most;
    }

pub all_exchanged : (s t : SiteValue) (ps hs qs : List PeerState) → AllZip (HeardPeer s t) ps hs
    → AllZip (ToldPeer t) hs qs
    → AllZip (Exchanged s t) ps qs
all_exchanged s t ps hs qs a b = zip_then (HeardPeer s t) (ToldPeer t) (Exchanged s t) ps hs qs (exchanged s t) a b

-- ---- a packet that was taken makes a message wait

-- from p to q a packet was looked for, and then only what waits has changed
pub took_or_empty : (p q r : PeerState) → (p.waiting ≡ None → TakesNext p q)
    → ((m : Message) → p.waiting ≡ Some m → r.waiting ≡ Some m)
    → r.inbox ≡ q.inbox → TookOrEmpty p r
took_or_empty p q r next waits same e n = at p.waiting refl
  where
    two : (m : Message) (o : Option Message) → o ≡ Some m → o ≡ None → ⊥
    two m o a b = cc

    more : (a : Parcel) (xs : List Parcel) → xs ++ a ∷ [] ≡ xs → ⊥
    more a xs f =
        let x = ap length f in let y = length-append xs (a ∷ []) in absurd (omega arith)

    found : (o : Option Message) → MatchOption o ((q.inbox ≡ p.inbox) × WasEmpty p.inbox.taken)
        (λ m. (parcel : Parcel) × SpellsIn m parcel.packet
        × (q.inbox ≡ record p.inbox { taken = p.inbox.taken ++ parcel ∷ [] }))
        → WasEmpty p.inbox.taken
    found None t = t.1
    found (Some m) t =
        absurd (more t.0 p.inbox.taken (ap (λ (i : RxValue Parcel ℕ). i.taken) (sym t.2 ∙ sym same) ∙ e))

    at : (o : Option Message) → p.waiting ≡ o → WasEmpty p.inbox.taken
    at None f = found q.waiting (next f)
    at (Some m) f = absurd (two m r.waiting (waits m f) n)

-- a message is given where it may be, then a packet is looked for, then what waits is given again
pub hear_took : (k : Machine) (o p q r : PeerState) → p.inbox ≡ o.inbox → (p.waiting ≡ None → TakesNext p q)
    → ((m : Message) → p.waiting ≡ Some m → q ≡ p)
    → ((m : Message) → p.waiting ≡ Some m → made k < known_of p.own m)
    → ((m : Message) → q.waiting ≡ Some m → made k < known_of q.own m → r ≡ q)
    → r.inbox ≡ q.inbox → TookOrEmpty o r
hear_took k o p q r same next waits kept stays inbox e n =
    let t : TookOrEmpty p r = took_or_empty p q r next still inbox in
    subst (λ (i : RxValue Parcel ℕ). WasEmpty i.taken) same
    (t (e ∙ ap (λ (i : RxValue Parcel ℕ). i.taken) (sym same)) n)
  where
    still : (m : Message) → p.waiting ≡ Some m → r.waiting ≡ Some m
    still m f =
        let a : q ≡ p = waits m f in
        let b : r ≡ q =
        stays m (ap (λ (x : PeerState). x.waiting) a ∙ f)
        (subst (λ (x : PeerState). made k < known_of x.own m) (sym a) (kept m f)) in
        ap (λ (x : PeerState). x.waiting) (b ∙ a) ∙ f

pub always : {T E P : Type 0} (r : Result T E) → P → OnOk r P
always (Ok x) p = p
always (Err e) p = tt

pub told_now : (t : SiteValue) (p q : PeerState) → SentOrNothing t.replica.machine.sent p q
    → SentAtMostOne p.outbox q.outbox → q.own ≡ p.own → q.inbox ≡ p.inbox → q.waiting ≡ p.waiting → ToldPeer t p q
told_now t p q told most own inbox waiting =
    record { told = told; most = most; own = own; inbox = inbox; waiting = waiting }

pub turned : (w v u z : WorkerValue) → LaterSite w.site v.site → v.peers ≡ w.peers → AllZip TurnedLine w.lines v.lines
    → u.lines ≡ v.lines → IsCaughtUp u.site → AllZip (HeardPeer v.site u.site) v.peers u.peers
    → z.lines ≡ u.lines → z.site ≡ u.site → AllZip (ToldPeer z.site) u.peers z.peers
    → UptoAtLeast z.site.writer.publishes (length z.site.replica.entries) → TurnedWorker w z
turned w v u z later peers lines same caught_up heard lines' site told shown =
    record {
      lines = subst (λ (ls : List LineValue). AllZip TurnedLine w.lines ls) (sym (lines' ∙ same)) lines;
      peers = subst (λ (s : SiteValue). AllZip (Exchanged w.site s) w.peers z.peers) (sym site)
          (all_exchanged w.site u.site w.peers u.peers z.peers
          (subst (λ (ps : List PeerState). AllZip (HeardPeer w.site u.site) ps u.peers) peers
          (zip_weaker (HeardPeer v.site u.site) (HeardPeer w.site u.site) v.peers u.peers
          (heard_from w.site v.site u.site later) heard))
          (subst (λ (s : SiteValue). AllZip (ToldPeer s) u.peers z.peers) site told));
      caught_up = subst (λ (s : SiteValue). IsCaughtUp s) (sym site) caught_up;
      shown = shown;
    }

-- at most one packet is taken
pub took_at_most_one : (o p q r : PeerState) → p.inbox ≡ o.inbox → (p.waiting ≡ None → TakesNext p q)
    → ((m : Message) → p.waiting ≡ Some m → q ≡ p) → r.inbox ≡ q.inbox → length r.inbox.taken ≤ length o.inbox.taken + 1
took_at_most_one o p q r same next waits last =
    let few : length q.inbox.taken ≤ length p.inbox.taken + 1 = at p.waiting refl in
    subst (λ (x : RxValue Parcel ℕ × RxValue Parcel ℕ). length x.0.taken ≤ length x.1.taken + 1)
    (λ i. (sym last i, same i)) few
  where
    found : (w : Option Message) → MatchOption w ((q.inbox ≡ p.inbox) × WasEmpty p.inbox.taken)
        (λ m. (parcel : Parcel) × SpellsIn m parcel.packet
        × (q.inbox ≡ record p.inbox { taken = p.inbox.taken ++ parcel ∷ [] }))
        → length q.inbox.taken ≤ length p.inbox.taken + 1
    found None t =
        let e : length q.inbox.taken ≡ length p.inbox.taken = ap (λ (x : RxValue Parcel ℕ). length x.taken) t.0 in
        omega arith
    found (Some m) t =
        let e : length q.inbox.taken ≡ length (p.inbox.taken ++ t.0 ∷ []) =
        ap (λ (x : RxValue Parcel ℕ). length x.taken) t.2 in
        let f = length-append p.inbox.taken (t.0 ∷ []) in
        omega arith

    at : (w : Option Message) → p.waiting ≡ w → length q.inbox.taken ≤ length p.inbox.taken + 1
    at None f = found q.waiting (next f)
    at (Some m) f =
        let e : length q.inbox.taken ≡ length p.inbox.taken =
        ap (λ (x : PeerState). length x.inbox.taken) (waits m f) in
        omega arith
