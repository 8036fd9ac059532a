-- How far the sites of a replay are, from their machines and how many of their entries they have done.
use Rattle.std.specs.Prelude.{◌+◌, ◌-◌, ◌&&◌, ℕ, List, [], ◌∷◌, nat_lt, nat_le, length, drop, get_or, if◌then◌else◌}
use Rattle.td_machine.specs.Machine.{Machine, start}
use Rattle.td_trace.specs.declared.entry.TraceEntry.{TraceEntry}
use Rattle.td_law_replay.specs.Judging.{SiteState, States, begin}
use Rattle.td_law_replay.specs.Traced.{site_entries}

abbrev pub machine_in : List (List TraceEntry) → List Machine → ℕ → Machine
machine_in all machines site = get_or machines (site - 1) (start site (length all))

abbrev pub done_in : List ℕ → ℕ → ℕ
done_in done site = get_or done (site - 1) 0

abbrev pub state_in : List (List TraceEntry) → List Machine → List ℕ → ℕ → SiteState
state_in all machines done site =
    record { machine = machine_in all machines site; left = drop (done_in done site) (site_entries all site) }

-- what belongs to site s stands at place s - 1
abbrev pub states_in : List (List TraceEntry) → List Machine → List ℕ → States
states_in all machines done site =
    if nat_lt 0 site && nat_le site (length all) then state_in all machines done site else begin all site

-- how many entries are left
abbrev pub left_in : List (List TraceEntry) → List ℕ → ℕ
left_in [] done = 0
left_in (entries ∷ all) [] = length entries + left_in all []
left_in (entries ∷ all) (k ∷ done) = (length entries - k) + left_in all done
