-- What an operation does to the list of atoms that a document shows, as a change of that list.
use Rattle.std.specs.Prelude.{ℕ, List, [], ◌∷◌, length, Option, Some, None, if◌then◌else◌, ◌==◌}
use Rattle.std.specs.Option.{option_and_then}
use Rattle.td_base.specs.Value.{DotValue}
use Rattle.td_op.specs.declared.body.Body.{Body}
use Rattle.td_op.specs.declared.body.Body.TheVariants.{Insert, Delete, Propose, Commit, Abort}
use Rattle.td_op.specs.declared.change.Change.{Change}
use Rattle.td_op.specs.declared.change.Change.TheVariants.{Put, PutRun, Cut}
use Rattle.td_op.specs.Change.{changed}
use Rattle.td_op.specs.Op.{OpValue}
use Rattle.td_doc.specs.Document.{DocRow}
use Rattle.td_doc.specs.Insertion.{insert_run}
use Rattle.td_doc.specs.Answers.{is_live_id, live_before}
use Rattle.td_machine.specs.Machine.{Machine}

-- a run put at the index: one atom is put alone
abbrev pub put_at_index : ℕ → List (List ℕ) → Change
put_at_index index [] = PutRun index []
put_at_index index (atom ∷ []) = Put index atom
put_at_index index (atom ∷ next ∷ run) = PutRun index (atom ∷ next ∷ run)

-- what the operation with this dot and body does to the atoms shown: an insert puts its run where the first of its
-- atoms stands then, a delete of a live row cuts it, and all else does nothing to them
abbrev pub change_by : DotValue → Body → List DocRow → Option Change
change_by dot (Insert slot run) rows =
    Some (put_at_index (live_before (record { dot = dot; offset = 0 }) (insert_run slot dot run rows)) run)
change_by dot (Delete target) rows = if is_live_id rows target then Some (Cut (live_before target rows)) else None
change_by dot (Propose slot) rows = None
change_by dot (Commit proposal) rows = None
change_by dot (Abort proposal) rows = None

abbrev pub changed_by : Option Change → List (List ℕ) → List (List ℕ)
changed_by None atoms = atoms
changed_by (Some change) atoms = changed change atoms

-- the operation of the log that has so many older ones
abbrev pub op_over : ℕ → List OpValue → Option OpValue
op_over k [] = None
op_over k (x ∷ log) = if length log == k then Some x else op_over k log

-- what the first operation that the machine n has more than m did to the atoms shown
abbrev pub change_between : Machine → Machine → Option Change
change_between m n =
    option_and_then (λ (x : OpValue). change_by x.dot x.body m.doc) (op_over (length m.log) n.log)
