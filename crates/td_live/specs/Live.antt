-- What a live script can come to, and its trace.
use Rattle.std.specs.Prelude.{◌≡◌, ◌<◌, ◌≤◌, ◌⊎◌, ℕ, List, [], map, length}
use Rattle.std.specs.List.{AllZip}
use Rattle.td_doc.specs.Document.{text_of}
use Rattle.td_machine.specs.History.{Family, history, machine, log_of}
use Rattle.td_order.specs.Show.{show}
use Rattle.td_law_convergence.specs.Headline.{KeepsPromises}
use Rattle.td_script.specs.declared.live.editor_line.EditorLine.{EditorLine}
use Rattle.td_script.specs.declared.live.script.Live.{Live}
use Rattle.td_trace.specs.declared.log.EditorLog.{EditorLog}
use Rattle.td_trace.specs.Entries.{traced_family}
use Rattle.td_trace.specs.Family.{IsLiveFamily, AreTexts}
use Rattle.td_report.specs.Trace.{trace}
use Rattle.td_live.specs.Following.{FollowsLines}

-- a live family of editors at these sites with these lines
pub record IsLiveFamilyOf (homes : List ℕ) (lines : List (List EditorLine)) (family : Family) (logs : List EditorLog)
    : Type 0 where
  pub live : IsLiveFamily family logs
  pub homes_are : map (λ (log : EditorLog). log.home) logs ≡ homes
  pub followed : AllZip (λ (own : List EditorLine) (log : EditorLog). FollowsLines (history family log.home) own
      log.did) lines logs

-- the text of each site at the end is what all its operations show
abbrev pub TextsAreShown : Family → Type 0
TextsAreShown family =
    (site : ℕ) → 0 < site → site ≤ length family → text_of (machine family site).doc ≡ show (log_of family site)

-- the bytes are the trace of the family, with what its editors did and the texts of its sites at the end; and of all
-- that happened the six promises hold
pub record IsTraced (family : Family) (logs : List EditorLog) (bytes : List ℕ) : Type 0 where
  pub texts : List (List ℕ)
  pub texts_are : AreTexts family texts
  pub shown : TextsAreShown family
  pub promises : KeepsPromises family
  pub bytes_are : bytes ≡ trace (length family) (traced_family family) logs texts

-- the trace of a live family of editors at these sites with these lines, among so many sites
pub record IsTraceAmong (sites : ℕ) (homes : List ℕ) (lines : List (List EditorLine)) (bytes : List ℕ) : Type 0 where
  pub family : Family
  pub logs : List EditorLog
  pub size : length family ≡ sites
  pub live : IsLiveFamilyOf homes lines family logs
  pub traced : IsTraced family logs bytes

-- the trace of a live family of the script, or of no site where the script has no command
abbrev pub IsLiveTraceOf : Live → List ℕ → Type 0
IsLiveTraceOf live bytes =
    ((live.sites ≡ 0) × (bytes ≡ trace 0 [] [] [])) ⊎ IsTraceAmong live.sites live.homes live.lines bytes
