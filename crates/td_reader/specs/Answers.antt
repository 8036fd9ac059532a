-- Which answer the reader gives.
use Rattle.std.specs.Prelude.{⊤, ℕ, List}
use Rattle.td_reader.specs.declared.trace.ReadTraceFault.{ReadTraceFault}
use Rattle.td_reader.specs.declared.trace.ReadTraceFault.TheVariants.{Form, Memory}
use Rattle.td_reader.specs.Form.{IsFaultyForm, cut_lines}

-- the first line that is not of the form; or no memory was left
abbrev pub IsReadTraceFault : List ℕ → ReadTraceFault → Type 0
IsReadTraceFault bytes (Form line) = IsFaultyForm (cut_lines bytes) line
IsReadTraceFault bytes Memory = ⊤
