-- Which line of a trace is the next of a site in its replay.
use Rattle.std.specs.Prelude.{◌+◌, ◌-◌, ℕ, length}
use Rattle.td_reader.specs.LineNumbers.{line_of_entry}
use Rattle.td_reader.specs.Values.{TraceValue}
use Rattle.td_law_replay.specs.Traced.{site_entries}
use Rattle.td_law_replay.specs.Judging.{States}

-- how many of its entries the site has done
abbrev pub done_at : TraceValue → States → ℕ → ℕ
done_at t states site = length (site_entries t.histories site) - length (states site).left

-- the number of the line of its next entry
abbrev pub next_line : TraceValue → States → ℕ → ℕ
next_line t states site = line_of_entry t site (done_at t states site + 1)
