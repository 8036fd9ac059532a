-- What holds when a room is closed.
use Rattle.std.specs.Prelude.{◌≡◌, ◌+◌, ◌==◌, ◌-◌, ◌++◌, ℕ, List, [], ◌∷◌, if◌then◌else◌, Option, Some}
use Rattle.std.specs.Option.{option_to_list}
use Rattle.std.specs.List.{AllByRecursion}
use mathlib.Core.List.{IsPrefix}
use Rattle.td_view.specs.declared.publish.Publish.{Publish}
use Rattle.td_replica.specs.Replica.{ReplicaValue}
use Rattle.td_world.specs.World.{replica_from}
use Rattle.td_site.specs.Shows.{IsTrueOf}
use Rattle.td_line.specs.declared.answer.Answer.{Answer}
use Rattle.td_line.specs.Calls.{AreRecorded, answers_at}
use Rattle.td_line.specs.Editors.{EditorValue, polled}
use Rattle.td_op.specs.declared.message.Message.{Message}
use Rattle.td_machine.specs.History.{known_of}
use Rattle.td_law_meeting.specs.Takes.{takes_from}
use Rattle.td_law_meeting.specs.Peers.{ArePackets}
use Rattle.td_peer.specs.Peers.{PeerState, packets}
use Rattle.td_room.specs.Workers.{WorkerValue}
use Rattle.td_room.specs.Turns.{NotMadeThen}
use Rattle.td_room.specs.Rooms.{editors_of}

-- one answer for each call of the editor, in order: each call is an entry of this replica, with the reply; and the
-- answers polled are the first of them
pub record IsAnswered (r : ReplicaValue) (e : EditorValue) (answers : List Answer) : Type 0 where
  pub recorded : AreRecorded r.entries 0 e.asks.sent answers
  pub polled_first : IsPrefix (polled e) answers

-- the same, at the site of the editor
abbrev pub IsAnsweredAtHome : List ReplicaValue → EditorValue → List Answer → Type 0
IsAnsweredAtHome replicas e answers = IsAnswered (replica_from replicas (e.home - 1)) e answers

-- how many of these answers are of the entry with this number
abbrev pub all_at : ℕ → List (List Answer) → ℕ
all_at k [] = 0
all_at k (answers ∷ rest) = answers_at k answers + all_at k rest

-- the answers of the editors of this site
abbrev pub answers_of : ℕ → List EditorValue → List (List Answer) → List (List Answer)
answers_of site [] all = []
answers_of site (e ∷ editors) [] = []
answers_of site (e ∷ editors) (answers ∷ all) =
    if e.home == site then answers ∷ answers_of site editors all else answers_of site editors all

-- all that editors have seen are beginnings of what the worker published, and each publish is the text of this replica
-- after so many entries
pub record IsLooked (editors : List EditorValue) (w : WorkerValue) (r : ReplicaValue) : Type 0 where
  pub publishes : List Publish
  pub goes_on : IsPrefix w.site.writer.publishes publishes
  pub looks_true : AllByRecursion (IsTrueOf r) publishes
  pub seen : AllByRecursion (λ (e : EditorValue). IsPrefix e.reader.seen publishes) editors

-- the editors of its site
abbrev pub AreLooked : List EditorValue → WorkerValue → ReplicaValue → Type 0
AreLooked editors w r = IsLooked (editors_of w.site.replica.machine.site editors) w r

-- the packets taken of the peer are those of what the history takes of its site, and then of a message that waits since
-- it names an own operation that was not made at a moment of the close
pub record PeerDone (r s : ReplicaValue) (p : PeerState) : Type 0 where
  pub waiting : Option Message
  pub heard : ArePackets (takes_from p.site s.entries ++ option_to_list waiting) (packets p.inbox.taken)
  pub why : (m : Message) → waiting ≡ Some m → NotMadeThen r s (known_of p.own m)

-- the replica goes on from that of the worker, which has done what it took
pub record GoesOn (w : WorkerValue) (r : ReplicaValue) : Type 0 where
  pub grown : IsPrefix w.site.replica.entries r.entries
  pub done : AllByRecursion (PeerDone w.site.replica r) w.peers
