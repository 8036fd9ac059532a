-- Workers and editors of one room.
use Rattle.std.specs.Prelude.{◌≡◌, ◌<◌, ◌≤◌, ◌+◌, ◌==◌, ℕ, List, length, map, filter, Some, slice_get}
use Rattle.std.specs.List.{AllByRecursion, AllZip}
use Rattle.logbook.specs.Pages.{Book}
use Rattle.td_base.specs.declared.site.TheConstants.{MAX_SITE}
use Rattle.td_law_meeting.specs.Rows.{AllMatch}
use Rattle.td_line.specs.Lines.{LineValue}
use Rattle.td_line.specs.Editors.{EditorValue, Belongs}
use Rattle.td_peer.specs.Peers.{AreLinked}
use Rattle.td_room.specs.Workers.{WorkerValue}

-- the editors of this site, in order
abbrev pub editors_of : ℕ → List EditorValue → List EditorValue
editors_of site editors = filter (λ (e : EditorValue). e.home == site) editors

-- the editor is at the other end of the line, and looks at these views
pub record Joined (views : Book) (l : LineValue) (e : EditorValue) : Type 0 where
  pub belongs : Belongs l e
  pub watches : e.reader.views ≡ views

-- the worker is that of the site with this number, of so many, and its lines are those of the site's editors
pub record IsAtHome (editors : List EditorValue) (size number : ℕ) (w : WorkerValue) : Type 0 where
  pub site : w.site.replica.machine.site ≡ number
  pub size_is : w.site.replica.machine.size ≡ size
  pub lines : AllZip (Joined w.site.writer.views) w.lines (editors_of number editors)

-- the workers of sites 1 to n, in this order, with their links, and their editors
pub record AreOfOneRoom (workers : List WorkerValue) (editors : List EditorValue) : Type 0 where
  pub some : 0 < length workers
  pub few : length workers ≤ MAX_SITE
  pub sites : (place : ℕ) (w : WorkerValue) → slice_get workers place ≡ Some w
      → IsAtHome editors (length workers) (place + 1) w
  pub linked : AllMatch AreLinked (length workers) (map (λ (w : WorkerValue). w.peers) workers)
  pub homes : AllByRecursion (λ (e : EditorValue). (0 < e.home) × (e.home ≤ length workers)) editors
