use Rattle.std.proofs.Common.{◌≡◌, ◌<◌, ◌≤◌, ◌-◌, ℕ, Some, slice_get}
use Rattle.td_doc.specs.Document.{text_of}
use Rattle.td_machine.specs.Machine.{Machine}
use Rattle.td_check.proofs.texts.first_text.Given as goal

abbrev pub invariant-loop-place : goal.invariant-loop-place
invariant-loop-place g l =
    (site : ℕ) (m : Machine) → 0 < site → site ≤ l.place → slice_get l.seats (site - 1) ≡ Some m
    → slice_get l.trace.texts (site - 1) ≡ Some (text_of m.doc)
