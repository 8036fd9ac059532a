use Rattle.std.proofs.Common.{◌≡◌, ◌++◌, take}
use Rattle.td_doc.specs.Document.{text_of}
use Rattle.td_doc.proofs.text.push_atoms.Given as goal

-- the live atoms so far were added
abbrev pub invariant-loop-row : goal.invariant-loop-row
invariant-loop-row l = l.text ≡ l.fn.text ++ text_of (take l.row-index l.rows)
