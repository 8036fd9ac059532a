-- How far the lines of a trace have come, by counts alone, and which line can be the next.
use Rattle.std.specs.Prelude.{ℕ, true, false, not, ◌&&◌, ◌==◌, ◌+◌, nat_le, nat_lt, Option, Some, None}
use Rattle.std.specs.Prelude.{if◌then◌else◌}
use Rattle.td_report.specs.TraceLines.{TraceLine, SitesAre, HistoryOf, EntryIs, EditorAt, CallIs, LookIs, TextIs}
use Rattle.td_report.specs.TraceLines.{Ended}
use Rattle.td_reader.specs.declared.reached.Reached.{Reached}

abbrev pub nothing_read : Reached
nothing_read = record {
  is_begun = false;
  sites = 0;
  site = 0;
  entries = 0;
  editors = 0;
  texts = 0;
  is_ended = false;
}

-- so many sites, where nothing was read
abbrev pub begins : Reached → ℕ → Option Reached
begins r n = if r.is_begun then None else Some (record nothing_read { is_begun = true; sites = n })

-- the histories stand in the order of their sites
abbrev pub next_history : Reached → ℕ → Option Reached
next_history r site =
    if site == r.site + 1 && nat_le site r.sites then Some (record r { site = site; entries = 0 }) else None

-- the entries of a history are numbered from 1
abbrev pub next_entry : Reached → ℕ → Option Reached
next_entry r number =
    if number == r.entries + 1 && (nat_lt 0 r.site && (r.editors == 0 && r.texts == 0)) then
    Some (record r { entries = number })
    else None

-- behind all histories, the editors are numbered from 1
abbrev pub next_editor : Reached → ℕ → ℕ → Option Reached
next_editor r number home =
    if number == r.editors + 1 && (nat_le home r.sites && (r.site == r.sites && r.texts == 0)) then
    Some (record r { editors = number })
    else None

-- what an editor did stands behind it
abbrev pub next_did : Reached → Option Reached
next_did r = if nat_lt 0 r.editors && r.texts == 0 then Some r else None

-- behind all histories, the texts stand in the order of their sites
abbrev pub next_text : Reached → ℕ → Option Reached
next_text r site =
    if site == r.texts + 1 && (nat_le site r.sites && r.site == r.sites) then Some
    (record r { texts = site }) else None

-- behind all texts, the end
abbrev pub ends : Reached → Option Reached
ends r =
    if r.is_begun && (not r.is_ended && (r.site == r.sites && r.texts == r.sites)) then
    Some (record r { is_ended = true })
    else None

-- with one more line, where it can be the next
abbrev pub reached_by : Reached → TraceLine → Option Reached
reached_by r (SitesAre n) = begins r n
reached_by r (HistoryOf site) = next_history r site
reached_by r (EntryIs number entry) = next_entry r number
reached_by r (EditorAt number home) = next_editor r number home
reached_by r (CallIs call entry) = next_did r
reached_by r (LookIs calls upto text) = next_did r
reached_by r (TextIs site text) = next_text r site
reached_by r Ended = ends r
