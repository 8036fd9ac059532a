-- Places in the text, in the units that editors count.
use Rattle.std.specs.Prelude.{◌≡◌, ◌<◌, ◌≤◌, ◌⊎◌, ℕ, List, length, Result, Err, IfErr, IfOk}
use Rattle.td_doc.specs.Document.{DocRow, live_atoms, live_rows, text_of}
use Rattle.td_rope.specs.declared.unit.Unit.{Unit}
use Rattle.td_rope.specs.Units.{IsIndexOf, offset_of, width}
use Rattle.td_session.specs.declared.fault.Fault.{Fault}
use Rattle.td_session.specs.declared.fault.Fault.TheVariants.{Memory, Place}

-- how wide the text is
pub record IsWidthOf (unit : Unit) (rows : List DocRow) (result : Result ℕ Fault) : Type 0 where
  pub ok : IfOk result (λ wide. wide ≡ width unit (text_of rows))
  pub memory : IfErr result (λ fault. fault ≡ Memory)

-- how wide the text is that stands before the atom at an index; the index past the last one has an offset too
pub record IsOffsetOf (unit : Unit) (index : ℕ) (rows : List DocRow) (result : Result ℕ Fault) : Type 0 where
  pub ok : IfOk result (λ offset. offset ≡ offset_of unit (live_atoms rows) index)
  pub memory : index ≤ length (live_rows rows) → IfErr result (λ fault. fault ≡ Memory)
  pub past : length (live_rows rows) < index → result ≡ Err Place

-- in which atom an offset lies that is not past the end
pub record IsIndexAt (unit : Unit) (offset : ℕ) (rows : List DocRow) (result : Result ℕ Fault) : Type 0 where
  pub ok : IfOk result (λ index. (offset ≤ width unit (text_of rows)) × IsIndexOf unit (live_atoms rows) offset index)
  pub err : IfErr result (λ fault. (fault ≡ Memory) ⊎ ((fault ≡ Place) × (width unit (text_of rows) < offset)))
