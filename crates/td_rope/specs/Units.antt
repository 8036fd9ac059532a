-- How wide a text is, in each of the units that editors count.
use Rattle.std.specs.Prelude.{◌<◌, ◌≤◌, ℕ, suc, List, length, take, nat_lt, if◌then◌else◌}
use Rattle.std.specs.List.{concat, sum_by}
use Rattle.td_rope.specs.declared.unit.Unit.{Unit}
use Rattle.td_rope.specs.declared.unit.Unit.TheVariants.{Byte, Utf16, CodePoint}

-- how many units a byte of UTF-8 adds. A byte from 128 to 191 goes on with a code point, and each other one begins
-- one: those that begin with 240 or more are the code points from 2^16 on, for which UTF-16 has two units
abbrev pub units : Unit → ℕ → ℕ
units Byte byte = 1
units Utf16 byte =
    if nat_lt byte 128 then 1 else (if nat_lt byte 192 then 0 else (if nat_lt byte 240 then 1 else 2))
units CodePoint byte = if nat_lt byte 128 then 1 else (if nat_lt byte 192 then 0 else 1)

abbrev pub width : Unit → List ℕ → ℕ
width unit bytes = sum_by (units unit) bytes

-- how wide the text is that stands before the atom at an index
abbrev pub offset_of : Unit → List (List ℕ) → ℕ → ℕ
offset_of unit atoms index = width unit (concat (take index atoms))

-- the offset lies in the atom at the index; at the end and behind it, the index is the number of atoms
pub record IsIndexOf (unit : Unit) (atoms : List (List ℕ)) (offset index : ℕ) : Type 0 where
  pub within : index ≤ length atoms
  pub begins : offset_of unit atoms index ≤ offset
  pub ends : index < length atoms → offset < offset_of unit atoms (suc index)
