-- What an editor did, against the history of its site and the texts that it had.
use Rattle.std.specs.Prelude.{◌≡◌, ◌<◌, ◌≤◌, ◌+◌, ◌==◌, ⊤, ℕ, suc, List, [], ◌∷◌, true, length, if◌then◌else◌}
use Rattle.td_trace.specs.declared.entry.TraceEntry.{TraceEntry}
use Rattle.td_trace.specs.declared.log.Did.{Did}
use Rattle.td_trace.specs.declared.log.Did.TheVariants.{Call, Look}
use Rattle.td_trace.specs.declared.log.EditorLog.{EditorLog}
use Rattle.td_trace.specs.Entries.{is_request_at}

-- what an editor did so far: how many calls, the entry of the last one, and behind how many entries the last text was
-- at which it looked
pub record Sofar : Type 0 where
  pub calls : ℕ
  pub entry : ℕ
  pub upto : ℕ

abbrev pub nothing_yet : Sofar
nothing_yet = record { calls = 0; entry = 0; upto = 0 }

abbrev pub further : Sofar → Did → Sofar
further s (Call call entry) = record s { calls = s.calls + 1; entry = entry }
further s (Look calls upto text) = record s { upto = upto }

-- calls recorded: a call has the next number, and is a request of the site's history past that of the call before.
-- Looks true: the text is that of the site behind so many entries, of which it has as many. Looks fresh: these are not
-- fewer than up to the call before, or at the look before
abbrev pub IsDid : List TraceEntry → (ℕ → List ℕ) → Sofar → Did → Type 0
IsDid entries text_at s (Call call entry) =
    (call ≡ s.calls + 1) × (s.entry < entry) × (is_request_at entries entry ≡ true)
IsDid entries text_at s (Look calls upto text) =
    (calls ≡ s.calls) × (upto ≤ length entries) × (s.entry ≤ upto) × (s.upto ≤ upto) × (text ≡ text_at upto)

-- one after the other, behind what was done so far, at a site with these entries and these texts behind so many of them
abbrev pub AreDid : List TraceEntry → (ℕ → List ℕ) → Sofar → List Did → Type 0
AreDid entries text_at s [] = ⊤
AreDid entries text_at s (did ∷ rest) = IsDid entries text_at s did × AreDid entries text_at (further s did) rest

-- how many of the calls are the entry with this number
abbrev pub calls_at : ℕ → List Did → ℕ
calls_at k [] = 0
calls_at k (Call call entry ∷ rest) = if entry == k then suc (calls_at k rest) else calls_at k rest
calls_at k (Look calls upto text ∷ rest) = calls_at k rest

-- how many calls of editors of this site are the entry with this number
abbrev pub site_calls_at : ℕ → ℕ → List EditorLog → ℕ
site_calls_at site k [] = 0
site_calls_at site k (log ∷ logs) =
    if log.home == site then calls_at k log.did + site_calls_at site k logs else site_calls_at site k logs
