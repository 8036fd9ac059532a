use Rattle.td_gen.proofs.Alphabet.{letter_is_atom}
use Rattle.td_gen.proofs.letters.letter.Goals as goal

pub unreachable-requires : goal.unreachable-requires
unreachable-requires c = c.in-Err.ensures.ok (letter_is_atom c.args.number)
