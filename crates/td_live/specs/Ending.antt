-- What a live script comes to when its threads are done.
use Rattle.std.specs.Prelude.{◌≡◌, ℕ, List, map, length}
use Rattle.std.specs.List.{AllZip}
use mathlib.Core.List.{IsPrefix}
use Rattle.td_machine.specs.History.{Family, History}
use Rattle.td_room.specs.Workers.{WorkerValue}
use Rattle.td_script.specs.declared.live.editor_line.EditorLine.{EditorLine}
use Rattle.td_trace.specs.declared.log.EditorLog.{EditorLog}
use Rattle.td_live.specs.Desks.{DeskValue}
use Rattle.td_live.specs.Live.{IsLiveFamilyOf, IsTraced}
use Rattle.td_live.specs.Books.{BookValue, AreHistoriesGrown}

-- the bytes are the trace of a live family that goes on from this one, with logs that go on from these books, of which
-- the editors have these lines
pub record IsTraceFrom (lines : List (List EditorLine)) (old : Family) (books : List BookValue) (bytes : List ℕ)
    : Type 0 where
  pub family : Family
  pub logs : List EditorLog
  pub live : IsLiveFamilyOf (map (λ (b : BookValue). b.home) books) lines family logs
  pub traced : IsTraced family logs bytes
  pub grown : AreHistoriesGrown old family
  pub kept : AllZip (λ (b : BookValue) (log : EditorLog). IsPrefix b.did log.did) books logs

-- the bytes are the trace of a live family of the desks' editors, each at its home with these lines: what the workers
-- and the desks had done is the beginning of it
pub record IsLiveEnd (workers : List WorkerValue) (lines : List (List EditorLine)) (desks : List DeskValue)
    (bytes : List ℕ) : Type 0 where
  pub family : Family
  pub logs : List EditorLog
  pub size : length family ≡ length workers
  pub live : IsLiveFamilyOf (map (λ (d : DeskValue). d.editor.home) desks) lines family logs
  pub traced : IsTraced family logs bytes
  pub histories : AllZip (λ (w : WorkerValue) (h : History). IsPrefix w.site.replica.entries h) workers family
  pub kept : AllZip (λ (d : DeskValue) (log : EditorLog). IsPrefix d.did log.did) desks logs
