-- The trace of histories, of what editors did, and of texts.
use Rattle.std.specs.Prelude.{ℕ, List, [], ◌∷◌, ◌++◌, map, ◌+◌}
use Rattle.std.specs.List.{flat_map}
use Rattle.td_op.specs.declared.entry.Entry.{Entry}
use Rattle.td_trace.specs.declared.log.Did.{Did}
use Rattle.td_trace.specs.declared.log.Did.TheVariants.{Call, Look}
use Rattle.td_trace.specs.declared.log.EditorLog.{EditorLog}
use Rattle.td_trace.specs.declared.entry.TraceEntry.{TraceEntry}
use Rattle.td_trace.specs.Entries.{traced}
use Rattle.td_report.specs.TraceLines.{TraceLine, SitesAre, HistoryOf, EntryIs, EditorAt, CallIs, LookIs, TextIs, Ended}
use Rattle.td_report.specs.TraceLines.{entry_line, written}

-- what is said of something with its number, for each of a list from this number on
abbrev pub numbered : {X Y : Type 0} → (ℕ → X → List Y) → ℕ → List X → List Y
numbered say number [] = []
numbered say number (x ∷ xs) = say number x ++ numbered say (number + 1) xs

abbrev pub entry_said : ℕ → TraceEntry → List TraceLine
entry_said number entry = EntryIs number entry ∷ []

-- the line of an entry with its number
abbrev pub entry_written : ℕ → Entry → List ℕ
entry_written number entry = entry_line number (traced entry)

-- the history of a site, its entries numbered from 1
abbrev pub history_said : ℕ → List TraceEntry → List TraceLine
history_said site entries = HistoryOf site ∷ numbered entry_said 1 entries

abbrev pub did_said : Did → TraceLine
did_said (Call call entry) = CallIs call entry
did_said (Look calls upto text) = LookIs calls upto text

-- what an editor did, in order
abbrev pub log_said : ℕ → EditorLog → List TraceLine
log_said number log = EditorAt number log.home ∷ map did_said log.did

abbrev pub text_said : ℕ → List ℕ → List TraceLine
text_said site text = TextIs site text ∷ []

-- of so many sites their histories, what each editor did, and the text of each site at the end; sites and editors are
-- numbered from 1
abbrev pub trace_said : ℕ → List (List TraceEntry) → List EditorLog → List (List ℕ) → List TraceLine
trace_said sites histories logs texts =
    SitesAre sites
    ∷ (numbered history_said 1 histories ++ (numbered log_said 1 logs ++ (numbered text_said 1 texts ++ Ended ∷ [])))

-- the bytes of lines
abbrev pub all_written : List TraceLine → List ℕ
all_written lines = flat_map written lines

abbrev pub trace : ℕ → List (List TraceEntry) → List EditorLog → List (List ℕ) → List ℕ
trace sites histories logs texts = all_written (trace_said sites histories logs texts)
