-- Which slots an edit touches.
use Rattle.std.specs.Prelude.{◌≡◌, ◌++◌, List, ◌∷◌}
use Rattle.td_base.specs.Lists.{In}
use Rattle.td_path.specs.declared.slot.Slot.{Slot}
use Rattle.td_op.specs.declared.body.Body.{Body}
use Rattle.td_op.specs.declared.body.Body.TheVariants.{Insert, Delete, Propose, Commit, Abort}
use Rattle.td_op.specs.Op.{OpValue}
use Rattle.td_doc.specs.Document.{DocRow, row_id}
use Rattle.td_doc.specs.Slots.{rows_in_slot}
use Rattle.td_machine.specs.History.{Family, History, history, machine_after}

-- the row is one of an insert, or the target of a delete
abbrev pub IsRowOf : OpValue → Body → DocRow → Type 0
IsRowOf e (Insert slot run) r = (row_id r).dot ≡ e.dot
IsRowOf e (Delete target) r = row_id r ≡ target
IsRowOf e (Propose slot) r = ⊥
IsRowOf e (Commit p) r = ⊥
IsRowOf e (Abort p) r = ⊥

-- in the document of e's site right after e was made, a row of e is in the slot
pub record Touches (family : Family) (e : OpValue) (slot : Slot) : Type 0 where
  pub front : History
  pub back : History
  pub split : history family e.dot.site ≡ front ++ back
  pub earlier : List OpValue
  pub newest : (machine_after family e.dot.site front).log ≡ e ∷ earlier
  pub row : DocRow
  pub inside : In row (rows_in_slot (machine_after family e.dot.site front).doc slot)
  pub own : IsRowOf e e.body row
