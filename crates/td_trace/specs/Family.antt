-- The histories that live replicas can have come to, with what their editors did.
use Rattle.std.specs.Prelude.{◌≡◌, ◌<◌, ◌≤◌, ◌-◌, ℕ, List, true, length, take, Some, slice_get}
use Rattle.std.specs.List.{AllByRecursion}
use Rattle.td_doc.specs.Document.{text_of}
use Rattle.td_machine.specs.Machine.{undecided}
use Rattle.td_machine.specs.History.{Family, IsConsistent, history, machine, machine_after}
use Rattle.td_trace.specs.declared.log.EditorLog.{EditorLog}
use Rattle.td_trace.specs.Entries.{traced_history, is_request_at}
use Rattle.td_trace.specs.Editors.{nothing_yet, AreDid, site_calls_at}

-- the text of a site behind the first so many of its entries
abbrev pub text_past : Family → ℕ → ℕ → List ℕ
text_past family site k = text_of (machine_after family site (take k (history family site))).doc

-- the family is consistent, all sites have the same operations at its end, and no proposal is undecided
pub record IsSettledFamily (family : Family) : Type 0 where
  pub consistent : IsConsistent family
  pub vectors : (r s : ℕ) → 0 < r → r ≤ length family → 0 < s → s ≤ length family
      → (machine family r).have ≡ (machine family s).have
  pub decided : (site : ℕ) → 0 < site → site ≤ length family → undecided (machine family site) ≡ 0

-- what an editor did at one of the sites: its calls are recorded there, and its looks are true and fresh
pub record IsLogOf (family : Family) (log : EditorLog) : Type 0 where
  pub some : 0 < log.home
  pub within : log.home ≤ length family
  pub did : AreDid (traced_history (history family log.home)) (text_past family log.home) nothing_yet log.did

-- no other edits: each request of a history is the entry of exactly one call
abbrev pub AreAllCalls : Family → List EditorLog → Type 0
AreAllCalls family logs =
    (site k : ℕ) → 0 < site → site ≤ length family
    → is_request_at (traced_history (history family site)) k ≡ true → site_calls_at site k logs ≡ 1

-- a live family, but for what its editors were to do: the histories of the sites, and what each editor did
pub record IsLiveFamily (family : Family) (logs : List EditorLog) : Type 0 where
  pub settled : IsSettledFamily family
  pub logs_are : AllByRecursion (IsLogOf family) logs
  pub calls : AreAllCalls family logs

-- the texts of the sites at the end, that of site s at place s - 1
pub record AreTexts (family : Family) (texts : List (List ℕ)) : Type 0 where
  pub each : length texts ≡ length family
  pub text : (site : ℕ) → 0 < site → site ≤ length family
      → slice_get texts (site - 1) ≡ Some (text_of (machine family site).doc)
