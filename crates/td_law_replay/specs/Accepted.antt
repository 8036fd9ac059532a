-- What a checker finds along the replay and at its end where a trace is that of a live family.
use Rattle.std.specs.Prelude.{◌≡◌, ◌<◌, ◌≤◌, ◌-◌, ℕ, List, true, length, Some, slice_get}
use Rattle.std.specs.List.{AllByRecursion}
use Rattle.td_doc.specs.Document.{text_of}
use Rattle.td_machine.specs.Machine.{undecided}
use Rattle.td_machine.specs.History.{Family}
use Rattle.td_trace.specs.declared.entry.TraceEntry.{TraceEntry}
use Rattle.td_trace.specs.declared.log.EditorLog.{EditorLog}
use Rattle.td_trace.specs.Entries.{traced_family, is_request_at}
use Rattle.td_trace.specs.Editors.{nothing_yet, AreDid, site_calls_at}
use Rattle.td_trace.specs.Family.{IsLiveFamily, AreTexts}
use Rattle.td_law_replay.specs.Traced.{site_entries, AreInRange}
use Rattle.td_law_replay.specs.Judging.{States}
use Rattle.td_law_replay.specs.Replay.{Reaches, GoesOnTo, AllDone}
use Rattle.td_law_replay.specs.Ended.{VotesWereSent}

-- the entries, what the editors did and the texts at the end are those of a live family
pub record IsLiveTrace (all : List (List TraceEntry)) (logs : List EditorLog) (texts : List (List ℕ)) : Type 0 where
  pub family : Family
  pub live : IsLiveFamily family logs
  pub is : traced_family family ≡ all
  pub texts_are : AreTexts family texts

-- on the way to the end each site shows, behind so many of its entries, the text that is told for these
abbrev pub AreTextsOnTheWay : List (List TraceEntry) → States → (ℕ → ℕ → List ℕ) → Type 0
AreTextsOnTheWay all last text_at =
    (states : States) → Reaches all states → GoesOnTo all states last → (site : ℕ) → 0 < site → site ≤ length all
    → text_of (states site).machine.doc
    ≡ text_at site (length (site_entries all site) - length (states site).left)

-- the editor's calls are recorded, and its looks are true and fresh
pub record IsLogIn (all : List (List TraceEntry)) (text_at : ℕ → ℕ → List ℕ) (log : EditorLog) : Type 0 where
  pub some : 0 < log.home
  pub within : log.home ≤ length all
  pub did : AreDid (site_entries all log.home) (text_at log.home) nothing_yet log.did

-- what is found at this end of the replay, with these texts on the way
pub record IsAcceptedAt (all : List (List TraceEntry)) (last : States) (text_at : ℕ → ℕ → List ℕ)
    (logs : List EditorLog) (texts : List (List ℕ)) : Type 0 where
  pub votes : VotesWereSent all last
  pub logs_are : AllByRecursion (IsLogIn all text_at) logs
  -- each request is the entry of exactly one call
  pub calls : (site k : ℕ) → 0 < site → site ≤ length all → is_request_at (site_entries all site) k ≡ true
      → site_calls_at site k logs ≡ 1
  pub each_text : length texts ≡ length all
  pub text : (site : ℕ) → 0 < site → site ≤ length all
      → slice_get texts (site - 1) ≡ Some (text_of (last site).machine.doc)
  -- all sites have the same operations, and no proposal is undecided
  pub vectors : (r s : ℕ) → 0 < r → r ≤ length all → 0 < s → s ≤ length all
      → (last r).machine.have ≡ (last s).machine.have
  pub decided : (site : ℕ) → 0 < site → site ≤ length all → undecided (last site).machine ≡ 0

-- the replay comes to an end where this is so
pub record IsAccepted (all : List (List TraceEntry)) (logs : List EditorLog) (texts : List (List ℕ)) : Type 0 where
  pub are : AreInRange all
  pub last : States
  pub reaches : Reaches all last
  pub over : AllDone all last
  pub text_at : ℕ → ℕ → List ℕ
  pub on_the_way : AreTextsOnTheWay all last text_at
  pub accepted : IsAcceptedAt all last text_at logs texts
