-- The operation that puts a run in a slot, of its parts.
use Rattle.std.specs.Prelude.{ℕ, List}
use Rattle.td_base.specs.Value.{DotValue}
use Rattle.td_op.specs.declared.body.Body.TheVariants.{Insert}
use Rattle.td_op.specs.Op.{OpValue}
use Rattle.td_path.specs.declared.slot.Slot.{Slot}

abbrev pub inserting : DotValue → List ℕ → Slot → List (List ℕ) → OpValue
inserting dot deps slot run = record { dot = dot; deps = deps; body = Insert slot run }
