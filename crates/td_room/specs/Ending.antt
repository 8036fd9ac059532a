-- Workers that end, one after another.
use Rattle.std.specs.Prelude.{◌≡◌, ◌<◌, ◌+◌, ◌-◌, ◌==◌, ◌++◌, ◌∷◌, [], ℕ, zero, suc, List, length, filter, drop, not}
use Rattle.std.specs.List.{AllByRecursion, AllZip}
use mathlib.Core.List.{IsPrefix}
use Rattle.td_replica.specs.Replica.{ReplicaValue, IsReplica}
use Rattle.td_view.specs.declared.publish.Publish.{Publish}
use Rattle.td_view.specs.Publishes.{AreLegal}
use Rattle.td_view.specs.Values.{ReaderValue}
use Rattle.td_site.specs.Sites.{SiteValue}
use Rattle.td_site.specs.Later.{NothingReady}
use Rattle.td_line.specs.declared.answer.Answer.{Answer}
use Rattle.td_line.specs.Calls.{answers_at, local_at}
use Rattle.td_line.specs.Lines.{LineValue}
use Rattle.td_line.specs.Editors.{EditorValue}
use Rattle.td_peer.specs.Peers.{PeerState}
use Rattle.td_peer.specs.Serving.{LaterPeer}
use Rattle.td_room.specs.Workers.{WorkerValue, IsConnected}
use Rattle.td_room.specs.Rooms.{editors_of, Joined}
use Rattle.td_room.specs.Closing.{IsAnswered, all_at, IsLooked, PeerDone}

-- the reader has seen no more than some list that goes on from what is told
pub record SeenFrom (told : List Publish) (r : ReaderValue) : Type 0 where
  pub last : List Publish
  pub goes_on : IsPrefix told last
  pub legal : AreLegal last
  pub seen : IsPrefix r.seen last

-- the first of the lines and of the editors have ended
pub record EndedLine (s t : SiteValue) (lines left : List LineValue) (editors others : List EditorValue)
    (given more : List (List Answer)) (readers watching : List ReaderValue) : Type 0 where
  pub line : LineValue
  pub editor : EditorValue
  pub answers : List Answer
  pub first_line : lines ≡ line ∷ left
  pub first_editor : editors ≡ editor ∷ others
  pub next_answers : more ≡ given ++ answers ∷ []
  pub next_reader : watching ≡ readers ++ editor.reader ∷ []
  pub answered : IsAnswered t.replica editor answers
  pub counts : (k : ℕ) → answers_at k answers + local_at s.replica.entries k
      ≡ answers_at k line.given + local_at t.replica.entries k

-- the replica, the answers and the peers that are left of a worker and its editors
pub record IsLeft (w : WorkerValue) (editors : List EditorValue) (r : ReplicaValue) (answers : List (List Answer))
    (peers : List PeerState) : Type 0 where
  pub site : r.machine.site ≡ w.site.replica.machine.site
  pub size : r.machine.size ≡ w.site.replica.machine.size
  pub replica : IsReplica r
  pub connected : IsConnected r peers
  pub still : NothingReady r.machine
  pub grown : IsPrefix w.site.replica.entries r.entries
  pub answered : AllZip (IsAnswered r) editors answers
  pub only : (k : ℕ) → all_at k answers ≡ local_at r.entries k
  pub looks : IsLooked editors w r

-- and what was taken of the peers is done
pub record IsEnded (w : WorkerValue) (editors : List EditorValue) (r : ReplicaValue) (answers : List (List Answer))
    (peers : List PeerState) : Type 0 where
  pub left : IsLeft w editors r answers peers
  pub later : AllZip LaterPeer w.peers peers
  pub done : AllByRecursion (PeerDone w.site.replica r) w.peers

-- each worker with the editors of its site
abbrev pub AllEnded : List EditorValue → List WorkerValue → List ReplicaValue → List (List (List Answer))
    → List (List PeerState) → Type 0
AllEnded editors [] [] [] [] = Unit {0}
AllEnded editors [] [] [] (ps ∷ rows) = ⊥
AllEnded editors [] [] (x ∷ answers) rows = ⊥
AllEnded editors [] (r ∷ rs) answers rows = ⊥
AllEnded editors (w ∷ ws) [] answers rows = ⊥
AllEnded editors (w ∷ ws) (r ∷ rs) [] rows = ⊥
AllEnded editors (w ∷ ws) (r ∷ rs) (x ∷ answers) [] = ⊥
AllEnded editors (w ∷ ws) (r ∷ rs) (x ∷ answers) (ps ∷ rows) =
    IsEnded w (editors_of w.site.replica.machine.site editors) r x ps × AllEnded editors ws rs answers rows

-- the editors of other sites
abbrev pub others_of : ℕ → List EditorValue → List EditorValue
others_of site editors = filter (λ (e : EditorValue). not (e.home == site)) editors

-- the lines of the first worker are those of the editors of its site
abbrev pub FirstJoined : List WorkerValue → List EditorValue → Type 0
FirstJoined [] editors = Unit {0}
FirstJoined (w ∷ workers) editors =
    AllZip (Joined w.site.writer.views) w.lines (editors_of w.site.replica.machine.site editors)

-- the first of the workers has ended, with the editors of its site
pub record EndedNext (workers left : List WorkerValue) (editors others : List EditorValue)
    (rows rows' : List (List PeerState)) (replicas replicas' : List ReplicaValue)
    (given given' : List (List (List Answer))) : Type 0 where
  pub worker : WorkerValue
  pub replica : ReplicaValue
  pub answers : List (List Answer)
  pub peers : List PeerState
  pub first : workers ≡ worker ∷ left
  pub rest : others ≡ others_of worker.site.replica.machine.site editors
  pub row : rows' ≡ rows ++ peers ∷ []
  pub one : replicas' ≡ replicas ++ replica ∷ []
  pub its : given' ≡ given ++ answers ∷ []
  pub ended : IsEnded worker (editors_of worker.site.replica.machine.site editors) replica answers peers

-- ---- the answers of each site, put in the order of all editors

abbrev pub first_of : List (List Answer) → List Answer
first_of [] = []
first_of (answers ∷ all) = answers

-- the first answers that are left at this place
abbrev pub first_at : ℕ → List (List (List Answer)) → List Answer
first_at k [] = []
first_at zero (all ∷ sites) = first_of all
first_at (suc k) (all ∷ sites) = first_at k sites

-- there are some
abbrev pub HasFirst : ℕ → List (List (List Answer)) → Type 0
HasFirst k [] = ⊥
HasFirst zero (all ∷ sites) = 0 < length all
HasFirst (suc k) (all ∷ sites) = HasFirst k sites

-- what is left without them
abbrev pub without_first : ℕ → List (List (List Answer)) → List (List (List Answer))
without_first k [] = []
without_first zero (all ∷ sites) = drop 1 all ∷ sites
without_first (suc k) (all ∷ sites) = all ∷ without_first k sites

-- for each editor, of which these are the homes, the first that are left of its site
abbrev pub gathered : List ℕ → List (List (List Answer)) → List (List Answer)
gathered [] sites = []
gathered (home ∷ homes) sites = first_at (home - 1) sites ∷ gathered homes (without_first (home - 1) sites)

-- for each there are some
abbrev pub CanGather : List ℕ → List (List (List Answer)) → Type 0
CanGather [] sites = Unit {0}
CanGather (home ∷ homes) sites =
    (0 < home) × HasFirst (home - 1) sites × CanGather homes (without_first (home - 1) sites)
