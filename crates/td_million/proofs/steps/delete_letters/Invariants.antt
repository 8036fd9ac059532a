use Rattle.std.proofs.Common.{◌≡◌, length}
use Rattle.td_million.specs.Drafts.{draft_rows}
use Rattle.td_million.proofs.steps.delete_letters.Given as goal

abbrev pub invariant-loop-number : goal.invariant-loop-number
invariant-loop-number l = length (draft_rows l.writer) ≡ length (draft_rows l.initial.writer)
