-- What is found at the end of the replay: the first deed of an editor that is not so, the first request that is not the
-- entry of one call, the first text that is another, and whether all is settled.
use Rattle.std.specs.Prelude.{◌≡◌, ◌≢◌, ◌<◌, ◌≤◌, ◌+◌, ◌-◌, ℕ, List, [], ◌∷◌, true, length, take, Some, slice_get}
use Rattle.std.specs.List.{AllByRecursion}
use Rattle.td_doc.specs.Document.{text_of}
use Rattle.td_machine.specs.Machine.{undecided}
use Rattle.td_trace.specs.declared.log.Did.{Did}
use Rattle.td_trace.specs.declared.log.Did.TheVariants.{Call as CallIs, Look as LookIs}
use Rattle.td_trace.specs.declared.log.EditorLog.{EditorLog}
use Rattle.td_trace.specs.Editors.{Sofar, nothing_yet, further, IsDid, AreDid, site_calls_at}
use Rattle.td_trace.specs.Entries.{is_request_at}
use Rattle.td_reader.specs.LineNumbers.{line_of_entry, line_of_did, line_of_text}
use Rattle.td_reader.specs.Values.{TraceValue}
use Rattle.td_law_replay.specs.Accepted.{AreTextsOnTheWay, IsLogIn}
use Rattle.td_law_replay.specs.Ended.{VotesWereSent}
use Rattle.td_law_replay.specs.Judging.{States}
use Rattle.td_law_replay.specs.Traced.{site_entries}
use Rattle.td_check.specs.declared.verdict.Fault.{Fault}
use Rattle.td_check.specs.declared.verdict.Fault.TheVariants.{Call, Look}
use Rattle.td_check.specs.Stops.{IsOver, IsBefore}

-- the replay came to its end without a stop, with these texts on the way
pub record IsReplayedWith (t : TraceValue) (last : States) (text_at : ℕ → ℕ → List ℕ) : Type 0 where
  pub over : IsOver t last
  pub votes : VotesWereSent t.histories last
  pub texts : AreTextsOnTheWay t.histories last text_at

-- ---- what editors did

-- behind these deeds, behind what was done before
abbrev pub so_far : Sofar → List Did → Sofar
so_far s [] = s
so_far s (did ∷ rest) = so_far (further s did) rest

abbrev pub fault_of : Did → Fault
fault_of (CallIs call entry) = Call
fault_of (LookIs calls upto text) = Look

-- the deed of this line is the first that is not recorded, or not true and fresh
pub record IsFirstDeed (t : TraceValue) (text_at : ℕ → ℕ → List ℕ) (line : ℕ) (fault : Fault) : Type 0 where
  -- how many editors and deeds of this editor are before it
  pub editor : ℕ
  pub log : EditorLog
  pub is : slice_get t.logs editor ≡ Some log
  pub before : AllByRecursion (IsLogIn t.histories text_at) (take editor t.logs)
  pub deeds : ℕ
  pub did : Did
  pub did_is : slice_get log.did deeds ≡ Some did
  pub good : AreDid (site_entries t.histories log.home) (text_at log.home) nothing_yet (take deeds log.did)
  pub bad : ¬ IsDid (site_entries t.histories log.home) (text_at log.home)
      (so_far nothing_yet (take deeds log.did)) did
  pub line_is : line ≡ line_of_did t (editor + 1) (deeds + 1)
  pub fault_is : fault ≡ fault_of did

abbrev pub AreAllLogs : TraceValue → (ℕ → ℕ → List ℕ) → Type 0
AreAllLogs t text_at = AllByRecursion (IsLogIn t.histories text_at) t.logs

-- ---- requests

-- the entry is a request, and not the entry of exactly one call
pub record IsAlone (t : TraceValue) (site k : ℕ) : Type 0 where
  pub some : 0 < site
  pub within : site ≤ length t.histories
  pub asked : is_request_at (site_entries t.histories site) k ≡ true
  pub alone : site_calls_at site k t.logs ≢ 1

pub record IsFirstAlone (t : TraceValue) (line : ℕ) : Type 0 where
  pub site : ℕ
  pub k : ℕ
  pub is : IsAlone t site k
  pub before : (r j : ℕ) → IsBefore r j site k → ¬ IsAlone t r j
  pub line_is : line ≡ line_of_entry t site k

abbrev pub NoneAlone : TraceValue → Type 0
NoneAlone t = (site k : ℕ) → ¬ IsAlone t site k

-- ---- texts

-- the text that is told of the site is that of its replica
abbrev pub IsTextOf : TraceValue → States → ℕ → Type 0
IsTextOf t last site = slice_get t.texts (site - 1) ≡ Some (text_of (last site).machine.doc)

pub record IsFirstText (t : TraceValue) (last : States) (line : ℕ) : Type 0 where
  pub site : ℕ
  pub some : 0 < site
  pub within : site ≤ length t.histories
  pub other : ¬ IsTextOf t last site
  pub before : (r : ℕ) → 0 < r → r < site → IsTextOf t last r
  pub line_is : line ≡ line_of_text t site

abbrev pub AreAllTexts : TraceValue → States → Type 0
AreAllTexts t last = (site : ℕ) → 0 < site → site ≤ length t.histories → IsTextOf t last site

-- ---- all settled

-- the replicas have the same operations, and no proposal is undecided
pub record AreSettledStates (t : TraceValue) (last : States) : Type 0 where
  pub vectors : (r s : ℕ) → 0 < r → r ≤ length t.histories → 0 < s → s ≤ length t.histories
      → (last r).machine.have ≡ (last s).machine.have
  pub decided : (site : ℕ) → 0 < site → site ≤ length t.histories → undecided (last site).machine ≡ 0
