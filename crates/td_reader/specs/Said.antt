-- What a line that was read says.
use Rattle.std.specs.Prelude.{ℕ, List, Option, Some, None}
use Rattle.td_trace.specs.declared.entry.TraceEntry.{TraceEntry}
use Rattle.td_trace.specs.declared.log.Did.{Did}
use Rattle.td_trace.specs.declared.log.Did.TheVariants.{Call, Look}
use Rattle.td_report.specs.TraceLines.{TraceLine, SitesAre, HistoryOf, EntryIs, EditorAt, CallIs, LookIs, TextIs}
use Rattle.td_report.specs.TraceLines.{Ended}
use Rattle.td_reader.specs.declared.editors.ReadDid.{ReadDid}
use Rattle.td_reader.specs.declared.editors.ReadDid.TheVariants as deed
use Rattle.td_reader.specs.declared.line.ReadLine.{ReadLine}
use Rattle.td_reader.specs.declared.line.ReadLine.TheVariants as read

abbrev pub said_by : ReadLine → TraceLine
said_by (read.Sites n) = SitesAre n
said_by (read.Site site) = HistoryOf site
said_by (read.Entry number entry) = EntryIs number entry
said_by (read.Editor number home) = EditorAt number home
said_by (read.Call call entry) = CallIs call entry
said_by (read.Look calls upto text) = LookIs calls upto text
said_by (read.Text site text) = TextIs site text
said_by read.End = Ended

-- what was done
abbrev pub did_of : ReadDid → Did
did_of (deed.Call call entry) = Call call entry
did_of (deed.Look calls upto text) = Look calls upto text

-- ---- what a line says of one kind

abbrev pub entry_in : TraceLine → Option TraceEntry
entry_in (SitesAre n) = None
entry_in (HistoryOf site) = None
entry_in (EntryIs number entry) = Some entry
entry_in (EditorAt number home) = None
entry_in (CallIs call entry) = None
entry_in (LookIs calls upto text) = None
entry_in (TextIs site text) = None
entry_in Ended = None

abbrev pub home_in : TraceLine → Option ℕ
home_in (SitesAre n) = None
home_in (HistoryOf site) = None
home_in (EntryIs number entry) = None
home_in (EditorAt number home) = Some home
home_in (CallIs call entry) = None
home_in (LookIs calls upto text) = None
home_in (TextIs site text) = None
home_in Ended = None

abbrev pub did_in : TraceLine → Option Did
did_in (SitesAre n) = None
did_in (HistoryOf site) = None
did_in (EntryIs number entry) = None
did_in (EditorAt number home) = None
did_in (CallIs call entry) = Some (Call call entry)
did_in (LookIs calls upto text) = Some (Look calls upto text)
did_in (TextIs site text) = None
did_in Ended = None

abbrev pub text_in : TraceLine → Option (List ℕ)
text_in (SitesAre n) = None
text_in (HistoryOf site) = None
text_in (EntryIs number entry) = None
text_in (EditorAt number home) = None
text_in (CallIs call entry) = None
text_in (LookIs calls upto text) = None
text_in (TextIs site text) = Some text
text_in Ended = None
