-- The exit status of the program: up to 5 those of `treedoc`.
use Rattle.std.specs.Prelude.{ℕ}
use Rattle.td_shell.specs.declared.status.Status.{Status}
use Rattle.td_shell.specs.declared.status.Status.TheVariants.{Done, Memory, Usage, Read, Write, Full, Bad, Disk}

abbrev pub status_number : Status → ℕ
status_number Done = 0
status_number Memory = 1
status_number Usage = 2
status_number Read = 4
status_number Write = 5
status_number (Full len) = 6
status_number (Bad at) = 7
status_number Disk = 8
