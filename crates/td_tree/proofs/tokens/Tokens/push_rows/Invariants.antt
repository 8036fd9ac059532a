use Rattle.std.proofs.Common.{◌≡◌, ◌++◌, take}
use Rattle.td_brackets.specs.RowNumbers.{text_of_numbers}
use Rattle.td_tree.specs.Parts.{table}
use Rattle.td_tree.proofs.tokens.Tokens.push_rows.Given as goal

abbrev pub invariant-loop-row : goal.invariant-loop-row
invariant-loop-row l = l.text ≡ l.fn.text ++ text_of_numbers (table l.self) (take l.row-index l.rows)
