use Rattle.std.proofs.Common.{◌≡◌, length}
use Rattle.td_script.specs.Hex.{bytes_of}
use Rattle.td_script.proofs.HexLaws.{behind_bytes}
use Rattle.td_script.proofs.hex.hex_word.Given as goal

abbrev pub invariant-loop-rest : goal.invariant-loop-rest
invariant-loop-rest l = bytes_of l.word ≡ behind_bytes l.bytes (bytes_of l.rest)

abbrev pub decreases-loop-rest : goal.decreases-loop-rest
decreases-loop-rest l = length l.rest
