-- The check that a journal ends with, as it is kept.
use Rattle.std.specs.Prelude.{ℕ, List, []}
use Rattle.std.specs.Int.{w32, to_be_bytes}
use Rattle.td_journal.specs.declared.check.Check.{Check}
use Rattle.td_journal.specs.declared.format.Format.{Format}
use Rattle.td_journal.specs.declared.format.Format.TheVariants.{Plain, Checked}

abbrev pub crc_bytes : Format → ℕ → List ℕ
crc_bytes Plain crc = []
crc_bytes Checked crc = to_be_bytes w32 crc

abbrev pub bytes_of : Check → List ℕ
bytes_of c = crc_bytes c.format c.crc
