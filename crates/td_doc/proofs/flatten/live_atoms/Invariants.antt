use Rattle.std.proofs.Common.{◌≡◌, ◌++◌, map, drop, Some}
use Rattle.td_doc.specs.Document.{live_rows}
use Rattle.td_doc.specs.Slots.{rows_below}
use Rattle.td_doc.specs.Array.{named}
use Rattle.td_doc.proofs.flatten.live_atoms.Given as goal

-- with the atoms of the rows that are left they are those of all rows
abbrev pub invariant-loop-row : goal.invariant-loop-row
invariant-loop-row l = l.atoms.items ++ map named (live_rows (rows_below (drop l.row-index l.rows) (Some l.slot)))
    ≡ map named (live_rows (rows_below l.rows (Some l.slot)))
