use Rattle.std.proofs.Common.{◌≡◌, ◌++◌, take}
use Rattle.td_script.specs.Hex.{hex_of}
use Rattle.td_shell.proofs.sending.push_hex.Given as goal

abbrev pub invariant-loop-byte : goal.invariant-loop-byte
invariant-loop-byte l = l.text ≡ l.fn.text ++ hex_of (take l.byte-index l.bytes)
