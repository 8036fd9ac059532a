use Rattle.std.proofs.Common.{◌≡◌, ◌∙◌, ◌-◌, ℕ, List, [], get_or, length, take, drop, sym, ap, Ok, rules}
use Rattle.td_wire.specs.Reading.{run_at}
use Rattle.td_wire.specs.declared.format.Format.{Format}
use Rattle.td_wire.specs.declared.format.Format.TheVariants.{Two}
use Rattle.td_wire.proofs.Loops.{letter_cut, letter_read, letter_begins}
use Rattle.td_wire.proofs.reader.Reader.run.Goals as goal

pub cut-requires-clause-run : goal.cut-requires-clause-run
cut-requires-clause-run c = (letter_cut (get_or c.args.self.now.rest.now 2 0) [] c.if-letter-lt128.true).run

pub returns-in-1 : goal.returns-in-1
returns-in-1 c =
    let xs : List ℕ = c.args.self.now.rest.now in
    let letter : ℕ = get_or xs 2 0 in
    let rest : List ℕ = take (length xs - 3) (drop 3 xs) in
    let first : get_or xs 0 0 ≡ 1 = search rules in
    let second : get_or xs 1 0 ≡ 1 = search rules in
    ap (λ (f : Format). run_at f xs) c.in-Two.is
    ∙ ap (run_at Two) (letter_begins xs c.in-1.len_at_least first second)
    ∙ letter_read letter rest c.if-letter-lt128.true
    ∙ (λ i. Ok (sym c.cut.ensures i, rest))
