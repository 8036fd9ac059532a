use Rattle.std.proofs.Common.{◌≡◌, ℕ, true}
use Rattle.std.specs.List.{list_all}
use Rattle.td_brackets.specs.RowNumbers.{is_known_entry}
use Rattle.td_tree.specs.Parts.{table, array_at, part}
use Rattle.td_tree.proofs.tokens.Tokens.is_part_known.Given as goal

abbrev pub invariant-loop-place : goal.invariant-loop-place
invariant-loop-place l = list_all (λ (r : ℕ). is_known_entry l.v (table l.self r))
    (part (array_at l.self l.rows.array) l.rows.from l.place) ≡ true
