-- A site and a peer, step by step.
use Rattle.std.proofs.Common.{◌≡◌, ◌<◌, ◌≤◌, ◌+◌, ◌++◌, ℕ, List, [], ◌∷◌, Option, Some}
use Rattle.std.proofs.Common.{None, refl, sym, ap, ◌∙◌, subst, append-nil}
use Rattle.std.specs.Option.{option_to_list}
use Rattle.td_op.specs.declared.entry.Entry.{Entry}
use Rattle.td_op.specs.declared.input.Input.{Input}
use Rattle.td_op.specs.declared.input.Input.TheVariants.{Take}
use Rattle.td_op.specs.declared.message.Message.{Message}
use Rattle.td_machine.specs.History.{History, known_of}
use Rattle.td_op.specs.Message.{sender}
use Rattle.td_machine.specs.Machine.{Machine, start, made}
use Rattle.td_machine.specs.Step.{step}
use Rattle.td_replica.specs.Replica.{ReplicaValue, IsReplica, after_step}
use Rattle.td_law_meeting.specs.Takes.{takes_from, IsWelcome, TakesWelcome}
use Rattle.td_law_meeting.specs.Peers.{ArePackets, Hears}
use Rattle.td_law_meeting.proofs.Hearing.{takes_own, takes_other, welcome_more}
use Rattle.td_site.specs.Sites.{SiteValue}
use Rattle.td_site.specs.Later.{LaterSite}
use Rattle.td_line.specs.Calls.{local_at, local_in}
use Rattle.td_site.proofs.Lists.{prefix_self}
use Rattle.td_site.proofs.Later.{later_self as site_self, later_then}
use Rattle.td_peer.proofs.Later.{later_self as peer_self, later_then as peer_then}
use Rattle.td_peer.specs.Peers.{PeerState, packets, peer_of}
use Rattle.td_peer.specs.Serving.{LaterPeer}
use Rattle.td_room.specs.Later.{AllWelcome, Went, NoMoreLocals, Heard}
use Rattle.td_room.proofs.Locals.{local_more}

-- ---- a step

module _ (s t : SiteValue) (input : Input) (i : IsReplica s.replica) (later : LaterSite s t)
    (replica : t.replica ≡ after_step input s.replica) where
  abbrev r : ReplicaValue
  r = s.replica

  abbrev e : Entry
  e = record { input = input; reply = (step s.replica.machine input).reply }

  pub step_takes : (number : ℕ) → takes_from number t.replica.entries ≡ takes_from number (s.replica.entries ++ e ∷ [])
  step_takes number = ap (λ (x : ReplicaValue). takes_from number x.entries) replica

  -- what was welcome stays so, where the new message is
  pub step_welcome : ((m : Message) → input ≡ Take m
      → IsWelcome s.replica.machine.site s.replica.machine.size s.replica.machine m) → AllWelcome s → AllWelcome t
  step_welcome new w =
      let begin = start s.replica.machine.site s.replica.machine.size in
      let more : TakesWelcome s.replica.machine.site s.replica.machine.size begin (s.replica.entries ++ e ∷ []) =
      welcome_more s.replica.machine.site s.replica.machine.size begin s.replica.entries e w
      (λ m is. subst (λ (x : Machine). IsWelcome s.replica.machine.site s.replica.machine.size x m) i.is (new m is)) in
      subst (λ (x : ℕ × ℕ × History). TakesWelcome x.0 x.1 (start x.0 x.1) x.2)
      (λ j. (sym later.site j, sym later.size j, sym (ap (λ (x : ReplicaValue). x.entries) replica) j)) more

  pub step_locals : local_in input ≡ 0 → NoMoreLocals s t
  step_locals none k =
      ap (λ (x : ReplicaValue). local_at x.entries k) replica ∙ local_more s.replica.entries e none k

-- ---- a site and a peer

locals_then : (s t u : SiteValue) → NoMoreLocals s t → NoMoreLocals t u → NoMoreLocals s u
locals_then s t u a b k = b k ∙ a k

-- what is heard of a peer stays so, where nothing is taken of it
pub hears_on : (entries more : History) (p : PeerState) → takes_from p.site more ≡ takes_from p.site entries
    → Hears entries (peer_of p) → Hears more (peer_of p)
hears_on entries more p e h =
    subst (λ (l : List Message). ArePackets (l ++ option_to_list p.waiting) (packets p.inbox.taken)) (sym e) h

pub heard_went : (s t : SiteValue) (p : PeerState) → Went s t → NoMoreLocals s t → Heard s p t p
heard_went s t p w none =
    record {
      later = w.later;
      peer = peer_self p;
      kept = refl;
      hears = hears_on s.replica.entries t.replica.entries p (w.takes p.site);
      others = λ number other. w.takes number;
      welcome = λ some within other. w.welcome;
      locals = none;
    }

pub heard_then : (s t u : SiteValue) (p q r : PeerState) → Heard s p t q → Heard t q u r → Heard s p u r
heard_then s t u p q r a b =
    let at : q.site ≡ p.site = a.peer.site in
    record {
      later = later_then s t u a.later b.later;
      peer = peer_then p q r a.peer b.peer;
      kept = b.kept ∙ ap (λ (x : PeerState). record x { inbox = r.inbox; waiting = r.waiting }) a.kept;
      hears = λ h. b.hears (a.hears h);
      others = λ number other. b.others number (λ f. other (f ∙ at)) ∙ a.others number other;
      welcome = λ some within other w.
          b.welcome (subst (λ (k : ℕ). 0 < k) (sym at) some)
          (subst (λ (k : ℕ × ℕ). k.0 ≤ k.1) (λ i. (sym at i, sym a.later.size i)) within)
          (λ f. other (sym at ∙ f ∙ a.later.site))
          (a.welcome some within other w);
      locals = locals_then s t u a.locals b.locals;
    }

pub heard_packet : (s : SiteValue) (p q : PeerState) → LaterPeer p q → q
    ≡ record p { inbox = q.inbox; waiting = q.waiting }
    → ((entries : History) → Hears entries (peer_of p) → Hears entries (peer_of q)) → Heard s p s q
heard_packet s p q later kept hears =
    record {
      later = site_self s;
      peer = later;
      kept = kept;
      hears = hears s.replica.entries;
      others = λ number other. refl;
      welcome = λ some within other w. w;
      locals = λ k. refl;
    }

-- the message that waited is taken
pub heard_take : (s t : SiteValue) (p q : PeerState) (m : Message) → IsReplica s.replica → LaterSite s t
    → t.replica ≡ after_step (Take m) s.replica → q ≡ record p { waiting = None }
    → p.own ≡ s.replica.machine.site → p.waiting ≡ Some m → sender m ≡ p.site
    → known_of p.own m ≤ made s.replica.machine
    → Heard s p t q
heard_take s t p q m i later replica is own waits from known =
    subst (λ (x : PeerState). Heard s p t x) (sym is) there
  where
    e : Entry
    e = record { input = Take m; reply = (step s.replica.machine (Take m)).reply }

    there : Heard s p t (record p { waiting = None })
    there =
        record {
          later = later;
          peer = given p;
          kept = refl;
          hears = λ h.
              let now : takes_from p.site t.replica.entries ≡ takes_from p.site s.replica.entries ++ m ∷ [] =
              step_takes s t (Take m) i later replica p.site
              ∙ takes_own p.site s.replica.entries (record {
                input = Take m;
                reply = (step s.replica.machine (Take m)).reply;
              }) m refl from in
              let done : ArePackets (takes_from p.site s.replica.entries ++ m ∷ []) (packets p.inbox.taken) =
              subst (λ (o : Option Message). ArePackets (takes_from p.site s.replica.entries ++ option_to_list o)
              (packets p.inbox.taken)) waits h in
              subst (λ (l : List Message). ArePackets l (packets p.inbox.taken))
              (sym (append-nil (takes_from p.site t.replica.entries) ∙ now)) done;
          others = λ number other.
              step_takes s t (Take m) i later replica number
              ∙ takes_other number s.replica.entries (record
              { input = Take m; reply = (step s.replica.machine (Take m)).reply }) m refl
              (λ f. other (sym f ∙ from));
          welcome = λ some within other.
              step_welcome s t (Take m) i later replica
              (λ n same. subst (λ (x : Message). IsWelcome s.replica.machine.site s.replica.machine.size
              s.replica.machine x) (one m n same)
              (record {
                some = subst (λ (k : ℕ). 0 < k) (sym from) some;
                within = subst (λ (k : ℕ). k ≤ s.replica.machine.size) (sym from) within;
                another = λ f. other (sym from ∙ f);
                own_made = subst (λ (k : ℕ). known_of k m ≤ made s.replica.machine) own known;
              }));
          locals = step_locals s t (Take m) i later replica refl;
        }
      where
        one : (a b : Message) → Take a ≡ Take b → a ≡ b
        one a b h = cc

        given : (x : PeerState) → LaterPeer x (record x { waiting = None })
        given x = record {
          own = refl;
          site = refl;
          loss = refl;
          inbox = refl;
          outbox = refl;
          cap = refl;
          taken = prefix_self x.inbox.taken;
          sent = prefix_self x.outbox.sent;
        }
