-- What a kept script prints beside what a script of `play` does: crashes, and what a full disk refused.
use Rattle.std.specs.Prelude.{ℕ, List, ◌++◌, codes}
use Rattle.std.specs.Fmt.{decimal}
use Rattle.td_base.specs.Value.{DotValue}
use Rattle.td_script.specs.Spelling.{spaced, spaced_dot}
use Rattle.td_report.specs.Parts.{line}

-- how many entries the site has when it is opened again
abbrev pub crash_line : ℕ → ℕ → List ℕ
crash_line site entries = line (codes "crash") site (spaced entries)

-- the disk is full: the length of the journal
abbrev pub full : ℕ → List ℕ
full len = codes " full" ++ spaced len

abbrev pub crash_full_line : ℕ → ℕ → List ℕ
crash_full_line site len = line (codes "crash") site (full len)

abbrev pub give_full_line : ℕ → ℕ → ℕ → List ℕ
give_full_line site number len = line (codes "give") site (spaced number ++ full len)

abbrev pub flat_full_line : ℕ → ℕ → List ℕ
flat_full_line site len = line (codes "flat") site (full len)

abbrev pub cancel_full_line : ℕ → DotValue → ℕ → List ℕ
cancel_full_line site proposal len = line (codes "cancel") site (spaced_dot proposal ++ full len)

-- how many of how many were done before the disk was full
abbrev pub edit_full_line : List ℕ → ℕ → ℕ → ℕ → ℕ → List ℕ
edit_full_line word site done all len =
    line word site (spaced done ++ (codes "/" ++ (decimal all ++ full len)))

abbrev pub ins_full_line : ℕ → ℕ → ℕ → ℕ → List ℕ
ins_full_line = edit_full_line (codes "ins")

abbrev pub del_full_line : ℕ → ℕ → ℕ → ℕ → List ℕ
del_full_line = edit_full_line (codes "del")
