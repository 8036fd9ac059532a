-- The value that lines tell, collected from the last one on.
use Rattle.std.specs.Prelude.{ℕ, List, [], ◌∷◌}
use Rattle.td_trace.specs.declared.entry.TraceEntry.{TraceEntry}
use Rattle.td_trace.specs.declared.log.Did.{Did}
use Rattle.td_trace.specs.declared.log.Did.TheVariants.{Call, Look}
use Rattle.td_trace.specs.declared.log.EditorLog.{EditorLog}
use Rattle.td_report.specs.TraceLines.{TraceLine, SitesAre, HistoryOf, EntryIs, EditorAt, CallIs, LookIs, TextIs}
use Rattle.td_report.specs.TraceLines.{Ended}
use Rattle.td_reader.specs.Values.{TraceValue}

-- what lines tell, and the entries and the deeds at their front, of which the site or the editor stands further up
pub record Collected : Type 0 where
  pub sites : ℕ
  pub entries : List TraceEntry
  pub histories : List (List TraceEntry)
  pub dids : List Did
  pub logs : List EditorLog
  pub texts : List (List ℕ)

abbrev pub collect : List TraceLine → Collected
collect [] = record { sites = 0; entries = []; histories = []; dids = []; logs = []; texts = [] }
collect (SitesAre n ∷ lines) = record (collect lines) { sites = n }
collect (HistoryOf site ∷ lines) =
    record (collect lines) { entries = []; histories = (collect lines).entries ∷ (collect lines).histories }
collect (EntryIs number entry ∷ lines) = record (collect lines) { entries = entry ∷ (collect lines).entries }
collect (EditorAt number home ∷ lines) =
    record (collect lines) {
      dids = [];
      logs = record { home = home; did = (collect lines).dids } ∷
          (collect lines).logs;
    }
collect (CallIs call entry ∷ lines) = record (collect lines) { dids = Call call entry ∷ (collect lines).dids }
collect (LookIs calls upto text ∷ lines) = record (collect lines) {
  dids = Look calls upto text ∷
      (collect lines).dids;
}
collect (TextIs site text ∷ lines) = record (collect lines) { texts = text ∷ (collect lines).texts }
collect (Ended ∷ lines) = collect lines

-- the value that lines tell
unfoldable pub told_by : List TraceLine → TraceValue
told_by lines =
    let c = collect lines in
    record { sites = c.sites; histories = c.histories; logs = c.logs; texts = c.texts }
