-- What a size is the size of.
use Rattle.std.specs.Prelude.{◌≡◌, ◌<◌, ◌≤◌, ◌+◌, ◌-◌, ◌^◌, ℕ, List, length, All}
use Rattle.std.specs.List.{concat}
use Rattle.td_base.specs.Atom.{IsAtom}
use Rattle.td_rope.specs.declared.size.Size.{Size}
use Rattle.td_rope.specs.declared.unit.Unit.{Unit}
use Rattle.td_rope.specs.declared.unit.Unit.TheVariants.{Byte, Utf16, CodePoint}
use Rattle.td_rope.specs.Units.{width}

-- how many units the size has
abbrev pub width_in : Unit → Size → ℕ
width_in Byte size = size.bytes
width_in Utf16 size = size.utf16
width_in CodePoint size = size.points

-- it is the size of these atoms
pub record IsSize (atoms : List (List ℕ)) (size : Size) : Type 0 where
  pub count : size.atoms ≡ length atoms
  pub widths : (unit : Unit) → width_in unit size ≡ width unit (concat atoms)
  pub each : All IsAtom atoms

-- so much more, and so much less
abbrev pub plus : Size → Size → Size
plus size more = record {
  atoms = size.atoms + more.atoms;
  bytes = size.bytes + more.bytes;
  utf16 = size.utf16 + more.utf16;
  points = size.points + more.points;
}

abbrev pub minus : Size → Size → Size
minus size less = record {
  atoms = size.atoms - less.atoms;
  bytes = size.bytes - less.bytes;
  utf16 = size.utf16 - less.utf16;
  points = size.points - less.points;
}

-- its numbers fit
pub record IsSmall (size : Size) : Type 0 where
  pub atoms : size.atoms < 2 ^ 32
  pub bytes : size.bytes < 2 ^ 64
  pub utf16 : size.utf16 < 2 ^ 64
  pub points : size.points < 2 ^ 64

-- it is no more than the other
pub record IsPartOf (size less : Size) : Type 0 where
  pub atoms : less.atoms ≤ size.atoms
  pub bytes : less.bytes ≤ size.bytes
  pub utf16 : less.utf16 ≤ size.utf16
  pub points : less.points ≤ size.points
