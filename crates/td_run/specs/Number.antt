-- The exit status of the program.
use Rattle.std.specs.Prelude.{ℕ}
use Rattle.td_run.specs.declared.status.Status.{Status}
use Rattle.td_run.specs.declared.status.Status.TheVariants.{Done, Memory, Usage, Script, Read, Write}

abbrev pub status_number : Status → ℕ
status_number Done = 0
status_number Memory = 1
status_number Usage = 2
status_number Script = 3
status_number Read = 4
status_number Write = 5
