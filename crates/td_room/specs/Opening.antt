-- What a room is at the beginning.
use Rattle.std.specs.Prelude.{◌≡◌, ◌<◌, ◌+◌, ◌==◌, ℕ, suc, List, [], ◌∷◌, ◌++◌, length}
use Rattle.std.specs.Prelude.{replicate, count_by, false, if◌then◌else◌}
use Rattle.std.specs.List.{AllZip}
use Rattle.td_view.specs.Publishes.{start}
use Rattle.td_view.specs.Values.{ReaderValue, new_reader}
use Rattle.td_replica.specs.Replica.{new_replica}
use Rattle.td_law_meeting.specs.Thin.{Loss}
use Rattle.td_line.specs.Lines.{LineValue}
use Rattle.td_line.specs.Editors.{EditorValue, IsNewLine, IsNewEditor}
use Rattle.td_peer.specs.Peers.{PeerState}
use Rattle.td_peer.specs.Opening.{IsFreshRow}
use Rattle.td_room.specs.Workers.{WorkerValue}
use Rattle.td_room.specs.Rooms.{AreOfOneRoom, Joined, editors_of}

-- the numbers of the editors of this site, where the first editor has the number k
abbrev pub numbers_of : ℕ → ℕ → List ℕ → List ℕ
numbers_of site k [] = []
numbers_of site k (home ∷ homes) =
    if home == site then k ∷ numbers_of site (k + 1) homes else numbers_of site (k + 1) homes

-- the worker of a site of so many that has done nothing, with a line for each editor whose home it is
pub record IsNewWorker (homes : List ℕ) (size : ℕ) (lost : Loss) (site : ℕ) (w : WorkerValue) : Type 0 where
  pub replica : w.site.replica ≡ new_replica site size
  pub publishes : w.site.writer.publishes ≡ start ∷ []
  pub late : w.site.late ≡ false
  pub peers : IsFreshRow size site lost w.peers
  pub lines : AllZip (λ (number : ℕ) (l : LineValue). IsNewLine number w.site.writer.views l)
      (numbers_of site 1 homes) w.lines

-- those of the sites from this one on
abbrev pub AreNewWorkers : List ℕ → ℕ → Loss → ℕ → List WorkerValue → Type 0
AreNewWorkers homes size lost site [] = Unit {0}
AreNewWorkers homes size lost site (w ∷ workers) =
    IsNewWorker homes size lost site w × AreNewWorkers homes size lost (suc site) workers

-- an editor that has done nothing, of this home, with so many calls, and has seen what is shown before anything is
-- published
pub record IsEditorOpened (home calls : ℕ) (e : EditorValue) : Type 0 where
  pub some : 0 < home
  pub new : IsNewEditor home e.reader calls e
  pub reader : e.reader ≡ new_reader e.reader.views (start ∷ [])

-- the editors, by their homes and their numbers of calls
abbrev pub AreOpened : List ℕ → List ℕ → List EditorValue → Type 0
AreOpened [] calls [] = Unit {0}
AreOpened [] calls (e ∷ editors) = ⊥
AreOpened (home ∷ homes) calls [] = ⊥
AreOpened (home ∷ homes) [] (e ∷ editors) = ⊥
AreOpened (home ∷ homes) (count ∷ calls) (e ∷ editors) = IsEditorOpened home count e × AreOpened homes calls editors

-- a room of so many sites in which nothing was done yet
pub record IsRoom (size : ℕ) (homes calls : List ℕ) (lost : Loss) (workers : List WorkerValue)
    (editors : List EditorValue)
    : Type 0 where
  pub room : AreOfOneRoom workers editors
  pub size_is : length workers ≡ size
  pub workers_are : AreNewWorkers homes size lost 1 workers
  pub editors_are : AreOpened homes calls editors

-- ---- while it is opened

-- the worker has a line for each editor so far whose home it is, and there is a reader for each one to come
pub record IsOpen (done left : List ℕ) (size : ℕ) (lost : Loss) (editors : List EditorValue) (site : ℕ)
    (w : WorkerValue)
    (readers : List ReaderValue) : Type 0 where
  pub new : IsNewWorker done size lost site w
  pub joined : AllZip (Joined w.site.writer.views) w.lines (editors_of site editors)
  pub readers_are : readers
      ≡ replicate (count_by (λ (home : ℕ). home == site) left) (new_reader w.site.writer.views (start ∷ []))

abbrev pub AreOpen : List ℕ → List ℕ → ℕ → Loss → List EditorValue → ℕ → List WorkerValue → List (List ReaderValue)
    → Type 0
AreOpen done left size lost editors site [] [] = Unit {0}
AreOpen done left size lost editors site [] (rs ∷ readers) = ⊥
AreOpen done left size lost editors site (w ∷ workers) [] = ⊥
AreOpen done left size lost editors site (w ∷ workers) (rs ∷ readers) =
    IsOpen done left size lost editors site w rs × AreOpen done left size lost editors (suc site) workers readers

-- the rows of the sites from this one on
abbrev pub AreFreshRowsFrom : ℕ → Loss → ℕ → List (List PeerState) → Type 0
AreFreshRowsFrom size lost site [] = Unit {0}
AreFreshRowsFrom size lost site (row ∷ rows) =
    IsFreshRow size site lost row × AreFreshRowsFrom size lost (suc site) rows

-- one more site is opened, of which this is the row
pub record OpenedNext (homes : List ℕ) (size site : ℕ) (row : List PeerState) (workers more : List WorkerValue)
    (readers others : List (List ReaderValue)) : Type 0 where
  pub worker : WorkerValue
  pub its : List ReaderValue
  pub last : more ≡ workers ++ worker ∷ []
  pub theirs : others ≡ readers ++ its ∷ []
  pub peers : worker.peers ≡ row
  pub opened : (lost : Loss) → IsFreshRow size site lost row → IsOpen [] homes size lost [] site worker its

-- the next editor has this number and this home
pub record CanOpen (number home : ℕ) (workers : List WorkerValue) (readers : List (List ReaderValue))
    (editors : List EditorValue) : Type 0 where
  pub done : List ℕ
  pub left : List ℕ
  pub size : ℕ
  pub lost : Loss
  pub number_is : number ≡ length done + 1
  pub are_open : AreOpen done (home ∷ left) size lost editors 1 workers readers

-- there is a line to it then
abbrev pub OpensOne : ℕ → ℕ → List WorkerValue → List WorkerValue → List (List ReaderValue) → List (List ReaderValue)
    → List EditorValue → List EditorValue → Type 0
OpensOne number home workers more readers left editors others =
    (done homes : List ℕ) (size : ℕ) (lost : Loss) → number ≡ length done + 1
    → AreOpen done (home ∷ homes) size lost editors 1 workers readers
    → AreOpen (done ++ home ∷ []) homes size lost others 1 more left
