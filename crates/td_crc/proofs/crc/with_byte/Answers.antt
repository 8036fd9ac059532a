use Rattle.std.proofs.Common.{ap, ◌∙◌, ℕ, arith, ◌/◌, ◌%◌}
use Rattle.std.specs.Prelude.{bit_xor}
use Rattle.td_crc.specs.Crc.{moved_by}
use Rattle.td_crc.proofs.Moves.{by_low, entry_is}
use Rattle.td_crc.proofs.crc.with_byte.Goals as goal

pub returns : goal.returns
returns c =
    let mixed : ℕ → ℕ = λ byte. bit_xor (c.args.register / 256) (moved_by 8 (bit_xor c.args.register byte % 256)) in
    ap (bit_xor (c.args.register / 256)) (entry_is (bit_xor c.args.register c.from.result % 256) (omega arith))
    ∙ ap mixed c.from.ensures
    ∙ by_low c.args.register c.args.byte (omega (arith, c.ranges.byte.fits))
