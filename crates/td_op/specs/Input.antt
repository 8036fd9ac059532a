-- Which values are requests and inputs: each part is in the range that its type keeps.
use Rattle.std.specs.Prelude.{Option, Some, None}
use Rattle.td_base.specs.Value.{AtomIdValue, IsDot, IsAtomId}
use Rattle.td_base.specs.Atom.{IsAtom}
use Rattle.td_base.specs.Run.{IsRun}
use Rattle.td_path.specs.Slot.{IsSlot}
use Rattle.td_op.specs.declared.request.Request.{Request}
use Rattle.td_op.specs.declared.request.Request.TheVariants.{Insert, InsertAfter, Paste, PasteAfter, Delete}
use Rattle.td_op.specs.declared.request.Request.TheVariants.{DeleteAtom, Propose, ProposeAt, Cancel}
use Rattle.td_op.specs.declared.input.Input.{Input}
use Rattle.td_op.specs.declared.input.Input.TheVariants.{Local, Take, Next}
use Rattle.td_op.specs.Message.{IsMessage}

abbrev pub IsPlace : Option AtomIdValue → Type 0
IsPlace None = Unit {0}
IsPlace (Some x) = IsAtomId x

abbrev pub IsRequest : Request → Type 0
IsRequest (Insert index atom) = IsAtom atom
IsRequest (InsertAfter after atom) = IsPlace after × IsAtom atom
IsRequest (Paste index run) = IsRun run
IsRequest (PasteAfter after run) = IsPlace after × IsRun run
IsRequest (Delete index) = Unit {0}
IsRequest (DeleteAtom x) = IsAtomId x
IsRequest (Propose slot) = IsSlot slot
IsRequest (ProposeAt index bit) = Unit {0}
IsRequest (Cancel proposal) = IsDot proposal

abbrev pub IsInput : Input → Type 0
IsInput (Local request) = IsRequest request
IsInput (Take message) = IsMessage message
IsInput Next = Unit {0}
