-- What is in the subtree of an atom that no commit renamed.
use Rattle.std.specs.Prelude.{◌≡◌, ◌++◌, ℕ, List, ◌∷◌, Some, false}
use Rattle.td_base.specs.Value.{AtomIdValue}
use Rattle.td_base.specs.Lists.{In}
use Rattle.td_path.specs.Infix.{Pairs}
use Rattle.td_path.specs.declared.slot.Slot.{Slot}
use Rattle.td_op.specs.declared.body.Body.TheVariants.{Insert}
use Rattle.td_op.specs.Op.{OpValue}
use Rattle.td_op.specs.Insertion.{insertions}
use Rattle.td_doc.specs.Document.{DocRow, row_id}
use Rattle.td_doc.specs.Subtrees.{is_under}
use Rattle.td_machine.specs.Replay.{doc_of}
use Rattle.td_machine.specs.History.{Family}
use Rattle.td_order.specs.LineUp.{line_up}
use Rattle.td_order.specs.Under.{under}
use Rattle.td_law_logs.specs.Logs.{IsLogOf, slot_of}
use Rattle.td_law_logs.specs.Places.{slot_holds, at, IsMiddle}

-- no commit of the log had the atom's row in its slot when it came
abbrev pub NeverRenamed : Family → List OpValue → AtomIdValue → Type 0
NeverRenamed family log x =
    (newer : List OpValue) (c : OpValue) (older : List OpValue) (slot : Slot) (path : Pairs)
    → log ≡ newer ++ c ∷ older → slot_of family c ≡ Some slot → at older x ≡ Some path → slot_holds slot path ≡ false

-- where the middle atom x of an insert b was never renamed, the rows in its subtree are those of the inserts under b
abbrev pub SubtreesMeet : Family → Type 0
SubtreesMeet family =
    (log : List OpValue) → IsLogOf family log
    → (b : OpValue) (slot : Slot) (run : List (List ℕ)) (x : AtomIdValue) → In b log → b.body ≡ Insert slot run
    → IsMiddle b x
    → NeverRenamed family log x
    → (r : DocRow) → In r (doc_of log)
    → is_under (doc_of log) x (row_id r) ≡ under (insertions (line_up log)) b.dot (row_id r).dot
