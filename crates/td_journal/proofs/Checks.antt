-- The check that is kept goes on.
use Rattle.std.proofs.Common.{◌≡◌, ℕ, List, ◌++◌, refl, ◌∙◌, ap}
use Rattle.std.specs.Int.{w32, to_be_bytes}
use Rattle.td_crc.specs.Crc.{crc32c, crc32c_behind}
use Rattle.td_crc.proofs.Moves.{goes_on}
use Rattle.td_journal.specs.declared.format.Format.{Format}
use Rattle.td_journal.specs.declared.format.Format.TheVariants.{Plain, Checked}
use Rattle.td_journal.specs.Journal.{check_of}
use Rattle.td_journal.specs.Check.{crc_bytes}

pub next_is : (format : Format) (crc front next : ℕ) (body : List ℕ) → front ≡ crc32c (to_be_bytes w32 crc)
    → next ≡ crc32c_behind front body → crc_bytes format next ≡ check_of format (crc_bytes format crc ++ body)
next_is Plain crc front next body e f = refl
next_is Checked crc front next body e f =
    ap (to_be_bytes w32) (f ∙ ap (λ (x : ℕ). crc32c_behind x body) e ∙ goes_on (to_be_bytes w32 crc) body)
