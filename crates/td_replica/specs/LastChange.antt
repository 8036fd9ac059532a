-- What the last step did to the atoms shown, by the document that it left.
use Rattle.std.specs.Prelude.{List, slice_get, Option, Some, None}
use Rattle.std.specs.Option.{option_and_then}
use Rattle.td_base.specs.Value.{DotValue}
use Rattle.td_op.specs.declared.body.Body.{Body}
use Rattle.td_op.specs.declared.body.Body.TheVariants.{Insert, Delete, Propose, Commit, Abort}
use Rattle.td_op.specs.declared.change.Change.{Change}
use Rattle.td_op.specs.declared.change.Change.TheVariants.{Cut as CutAt}
use Rattle.td_op.specs.Op.{OpValue}
use Rattle.td_doc.specs.Answers.{live_before}
use Rattle.td_doc.specs.Document.{DocRow}
use Rattle.td_machine.specs.Shown.{put_at_index}
use Rattle.td_replica.specs.declared.last_change.LastChange.{LastChange}
use Rattle.td_replica.specs.declared.last_change.LastChange.TheVariants.{Nothing, Put, Cut}
use Rattle.td_replica.specs.Parts.{StateValue}
use Rattle.td_replica.specs.Replica.{ReplicaValue}

-- an insert put its run where the first of its atoms stands
abbrev pub put_by : DotValue → Body → List DocRow → Option Change
put_by dot (Insert slot run) rows = Some (put_at_index (live_before (record { dot = dot; offset = 0 }) rows) run)
put_by dot (Delete target) rows = None
put_by dot (Propose slot) rows = None
put_by dot (Commit proposal) rows = None
put_by dot (Abort proposal) rows = None

-- the change, by the operations with their numbers
abbrev pub change_of : LastChange → List OpValue → List DocRow → Option Change
change_of Nothing ops rows = None
change_of (Put number) ops rows =
    option_and_then (λ (x : OpValue). put_by x.dot x.body rows) (slice_get ops number)
change_of (Cut target) ops rows = Some (CutAt (live_before target rows))

-- the replica with these parts
abbrev pub replica_of : StateValue → LastChange → ReplicaValue
replica_of s last =
    record { machine = s.machine; entries = s.entries; change = change_of last s.ops s.machine.doc }
