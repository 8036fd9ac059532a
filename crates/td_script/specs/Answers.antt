-- What the readers answer: the value, the fault of the order of faults, or want of memory.
use Rattle.std.specs.Prelude.{◌≡◌, ⊤, ℕ, List, Some, Result, Ok, Err, length}
use Rattle.td_script.specs.declared.kind.Kind.{Kind}
use Rattle.td_script.specs.declared.kind.LineFault.{LineFault}
use Rattle.td_script.specs.declared.kind.LineFault.TheVariants as Line
use Rattle.td_script.specs.declared.kind.ScriptFault.{ScriptFault}
use Rattle.td_script.specs.declared.kind.ScriptFault.TheVariants.{Fault, Memory}
use Rattle.td_script.specs.Arguments.{text_at}
use Rattle.td_script.specs.Faults.{first_fault}

-- what is read of a line, where the definition reads this
abbrev pub IsLineAnswer : {V : Type 0} → Result V Kind → Result V LineFault → Type 0
IsLineAnswer wanted (Ok value) = wanted ≡ Ok value
IsLineAnswer wanted (Err (Line.Faulty kind)) = wanted ≡ Err kind
IsLineAnswer wanted (Err Line.Memory) = ⊤

-- what is read of a text, behind which so many bytes are left
abbrev pub IsTextAnswer : List ℕ → Result (List (List ℕ) × ℕ) LineFault → Type 0
IsTextAnswer rest (Ok read) = (left : List ℕ) × (text_at rest ≡ Ok (read.0, left)) × (length left ≡ read.1)
IsTextAnswer rest (Err (Line.Faulty kind)) = text_at rest ≡ Err kind
IsTextAnswer rest (Err Line.Memory) = ⊤

-- the answer other than a script, want of memory apart: the first faulty line with its first fault
abbrev pub IsScriptFault : List ℕ → ScriptFault → Type 0
IsScriptFault bytes (Fault line kind) = first_fault bytes ≡ Some (line, kind)
IsScriptFault bytes Memory = ⊤
