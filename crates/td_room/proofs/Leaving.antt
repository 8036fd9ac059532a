-- What is left of a worker.
use Rattle.std.proofs.Common.{◌≡◌, ◌+◌, ◌++◌, ℕ, List, [], ◌∷◌, map, refl, sym, ◌∙◌, subst}
use Rattle.std.specs.List.{AllByRecursion, AllZip}
use Rattle.std.specs.Option.{option_to_list}
use Rattle.td_base.proofs.Passing.{zip_weaker}
use mathlib.Core.List.{IsPrefix}
use Rattle.td_machine.specs.History.{known_of}
use Rattle.td_replica.specs.Replica.{ReplicaValue, IsReplica}
use Rattle.td_view.specs.declared.publish.Publish.{Publish}
use Rattle.td_view.specs.Publishes.{again, EndsWith}
use Rattle.td_view.specs.Values.{ReaderValue}
use Rattle.td_site.specs.Sites.{SiteValue}
use Rattle.td_site.specs.Shows.{IsTrueOf}
use Rattle.td_site.specs.Later.{LaterSite, OnlyNexts, NothingReady}
use Rattle.td_site.proofs.Lists.{prefix_then}
use Rattle.td_site.proofs.Later.{later_then}
use Rattle.td_line.specs.declared.answer.Answer.{Answer}
use Rattle.td_line.specs.Calls.{local_at, OnlyLocals}
use Rattle.td_line.specs.Editors.{EditorValue}
use Rattle.td_law_meeting.specs.Takes.{takes_from}
use Rattle.td_law_meeting.specs.Peers.{ArePackets, Hears}
use Rattle.td_peer.specs.Peers.{PeerState, packets, peer_of}
use Rattle.td_peer.specs.Serving.{LaterPeer}
use Rattle.td_room.specs.Workers.{WorkerValue, IsConnected, LaterWorker}
use Rattle.td_room.specs.Turns.{NotMadeThen, GivenPeer}
use Rattle.td_room.specs.Closing.{IsAnswered, all_at, PeerDone}
use Rattle.td_room.specs.Ending.{IsLeft, IsEnded}
use Rattle.td_room.proofs.Locals.{locals_went, nexts_went, nexts_locals}
use Rattle.td_room.proofs.Connected.{connected_on}
use Rattle.td_room.proofs.Lines.{answered_on}
use Rattle.td_room.proofs.Looks.{of_editors, ends_true}
use Rattle.td_room.proofs.Turning.{not_made_on}

-- the lines have ended, then what waited was done, and then the readers have seen the end
pub left : (w : WorkerValue) (editors : List EditorValue) (t u : SiteValue) (answers : List (List Answer))
    (readers : List ReaderValue) → IsConnected w.site.replica w.peers
    → LaterSite w.site t → OnlyLocals w.site.replica.entries t.replica.entries
    → LaterSite t u → OnlyNexts t.replica.entries u.replica.entries
    → IsReplica u.replica → NothingReady u.replica.machine
    → AllZip (IsAnswered t.replica) editors answers → ((k : ℕ) → all_at k answers ≡ local_at t.replica.entries k)
    → readers ≡ map (λ (e : EditorValue). e.reader) editors
    → AllByRecursion (IsTrueOf u.replica) u.writer.publishes → EndsWith u.writer.publishes u.writer.shown
    → AllByRecursion (λ (r : ReaderValue). IsPrefix r.seen (u.writer.publishes ++ again u.writer.shown 1 ∷ [])) readers
    → IsLeft w editors u.replica answers w.peers
left w editors t u answers readers c one only two nexts i still answered counted same true ends seen =
    let later : LaterSite w.site u = later_then w.site t u one two in
    let whole : List Publish = u.writer.publishes ++ again u.writer.shown 1 ∷ [] in
    record {
      site = later.site;
      size = later.size;
      replica = i;
      connected = connected_on t u w.peers (nexts_went t u two nexts)
          (connected_on w.site t w.peers (locals_went w.site t one only) c);
      still = still;
      grown = later.entries;
      answered = zip_weaker (IsAnswered t.replica) (IsAnswered u.replica) editors answers
          (answered_on t.replica u.replica two.entries) answered;
      only = λ k. counted k ∙ sym (nexts_locals t u nexts k);
      looks = record {
        publishes = whole;
        goes_on = prefix_then w.site.writer.publishes u.writer.publishes whole later.publishes
            (again u.writer.shown 1 ∷ [], refl);
        looks_true = ends_true u.replica u.writer.publishes u.writer.shown ends true;
        seen = of_editors (λ (r : ReaderValue). IsPrefix r.seen whole) editors readers same seen;
      };
    }

-- ---- after what waited was given

peers_done : (w v : WorkerValue) (r : ReplicaValue) (ps qs : List PeerState) → LaterSite w.site v.site
    → IsPrefix v.site.replica.entries r.entries → r.machine.site ≡ v.site.replica.machine.site
    → r.machine.size ≡ v.site.replica.machine.size → AllZip (GivenPeer w.site v.site) ps qs
    → AllByRecursion (λ (q : PeerState). Hears r.entries (peer_of q)) qs → AllByRecursion (PeerDone w.site.replica r) ps
peers_done w v r [] [] later grown site size given heard = tt
peers_done w v r [] (q ∷ qs) later grown site size given heard = absurd given
peers_done w v r (p ∷ ps) [] later grown site size given heard = absurd given
peers_done w v r (p ∷ ps) (q ∷ qs) later grown site size given heard = (
  record {
    waiting = q.waiting;
    heard = subst (λ (x : ℕ × List (List ℕ)). ArePackets (takes_from x.0 r.entries ++ option_to_list q.waiting) x.1)
        (λ j. (given.0.site j, packets (given.0.inbox j).taken)) heard.0;
    why = λ m e.
        subst (λ (k : ℕ). NotMadeThen w.site.replica r (known_of k m)) given.0.own
        (not_made_on w.site.replica v.site.replica r (known_of q.own m) grown site size (given.0.done m e));
  },
  peers_done w v r ps qs later grown site size given.1 heard.1,
)

pub ended : (w v : WorkerValue) (editors : List EditorValue) (r : ReplicaValue) (answers : List (List Answer))
    (peers : List PeerState) → LaterWorker w v → AllZip (GivenPeer w.site v.site) w.peers v.peers
    → IsLeft v editors r answers peers → peers ≡ v.peers → IsEnded w editors r answers peers
ended w v editors r answers peers later given l same =
    record {
      left = record {
        site = l.site ∙ later.site.site;
        size = l.size ∙ later.site.size;
        replica = l.replica;
        connected = l.connected;
        still = l.still;
        grown = prefix_then w.site.replica.entries v.site.replica.entries r.entries later.site.entries l.grown;
        answered = l.answered;
        only = l.only;
        looks = record {
          publishes = l.looks.publishes;
          goes_on = prefix_then w.site.writer.publishes v.site.writer.publishes l.looks.publishes later.site.publishes
              l.looks.goes_on;
          looks_true = l.looks.looks_true;
          seen = l.looks.seen;
        };
      };
      later = subst (λ (ps : List PeerState). AllZip LaterPeer w.peers ps) (sym same) later.peers;
      done = peers_done w v r w.peers v.peers later.site l.grown l.site l.size given
          (subst (λ (ps : List PeerState). AllByRecursion (λ (q : PeerState). Hears r.entries (peer_of q)) ps) same
          l.connected.hears);
    }
