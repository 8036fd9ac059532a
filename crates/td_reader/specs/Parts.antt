-- At which lines, from 0, the parts of a trace begin: each history with its site, what each editor did with the editor,
-- and behind them the texts.
use Rattle.std.specs.Prelude.{◌+◌, ℕ, List, [], ◌∷◌, ◌++◌, Bool, true, false, length, map}
use Rattle.td_report.specs.TraceLines.{TraceLine, SitesAre, HistoryOf, EntryIs, EditorAt, CallIs, LookIs, TextIs}
use Rattle.td_report.specs.TraceLines.{Ended}
use Rattle.td_reader.specs.LineNumbers.{did_count}
use Rattle.td_reader.specs.Values.{TraceValue}

-- how many lines each part has below its first
abbrev pub part_sizes : TraceValue → List ℕ
part_sizes t = map length t.histories ++ map did_count t.logs

-- where parts with so many lines below their first begin, the first part at this line; and the line behind them all
abbrev pub begins_of : ℕ → List ℕ → List ℕ
begins_of at [] = at ∷ []
begins_of at (size ∷ sizes) = at ∷ begins_of (at + 1 + size) sizes

-- a part begins with this line
abbrev pub is_heading : TraceLine → Bool
is_heading (SitesAre n) = false
is_heading (HistoryOf site) = true
is_heading (EntryIs number entry) = false
is_heading (EditorAt number home) = true
is_heading (CallIs call entry) = false
is_heading (LookIs calls upto text) = false
is_heading (TextIs site text) = false
is_heading Ended = false
