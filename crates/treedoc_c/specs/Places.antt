-- Places and widths as numbers, in units that have numbers.
use Rattle.std.specs.Prelude.{◌≡◌, ◌==◌, ℕ, Option, Some, None, Result, Ok, Err, if◌then◌else◌}
use Rattle.td_rope.specs.declared.unit.Unit.{Unit}
use Rattle.td_rope.specs.declared.unit.Unit.TheVariants.{Byte, Utf16, CodePoint}
use Rattle.td_session.specs.declared.fault.Fault.{Fault}
use Rattle.treedoc_c.specs.declared.places.Number.{Number}
use Rattle.treedoc_c.specs.declared.status.Status.{Status}
use Rattle.treedoc_c.specs.declared.status.Status.TheVariants.{BadUnit, Done}
use Rattle.treedoc_c.specs.Numbers.{fault_status, status_number}

-- the unit with this number in `treedoc.h`
abbrev pub unit_of : ℕ → Option Unit
unit_of number =
    if number == 0 then Some Byte
    else (if number == 1 then Some Utf16 else (if number == 2 then Some CodePoint else None))

-- a status with nothing beside it
abbrev pub no_number : Status → Number
no_number s = record { status = status_number s; number = 0 }

abbrev pub number_of : Result ℕ Fault → Number
number_of (Ok number) = record { status = status_number Done; number = number }
number_of (Err fault) = no_number (fault_status fault)

-- what is told in the unit with this number is answered, where there is such a unit
pub record IsNumbered (asked : ℕ) (tells : Unit → Result ℕ Fault → Type 0) (answer : Number) : Type 0 where
  pub none : unit_of asked ≡ None → answer ≡ no_number BadUnit
  pub some : (unit : Unit) → unit_of asked ≡ Some unit
      → (told : Result ℕ Fault) × tells unit told × (answer ≡ number_of told)
