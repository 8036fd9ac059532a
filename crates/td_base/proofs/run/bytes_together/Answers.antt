use Rattle.std.proofs.Common.{arith, ap, ◌≡◌, length, take, ℕ, List, get_or, length-append}
use Rattle.std.specs.List.{concat}
use Rattle.td_base.specs.Atom.{IsAtom}
use Rattle.std.proofs.lemmas.List.{take_all}
use Rattle.std.proofs.lemmas.List.Elements.{All-more}
use Rattle.td_base.proofs.RunLemmas.{with_next, concat_push}
use Rattle.td_base.proofs.run.bytes_together.Goals as goal

pub loop-atom-preserved : goal.loop-atom-preserved
loop-atom-preserved c =
    let atoms : List (List ℕ) = c.args.atoms.now in
    let i : ℕ = c.loop-atom.atom-index in
    let atom : List ℕ = c.atom-item.result in
    let next = with_next atoms i atom c.loop-atom-test.true c.atom-item.is in
    let size = ap length (concat_push (take i atoms) atom) in
    let long = length-append (concat (take i atoms)) atom in
    let is : IsAtom (get_or atoms i atom) = rw (← c.atom-item.is) c.bytes.ensures.atom in
    record {
      len = rw (next, c.bytes.ensures.bytes) (omega arith);
      fits = rw c.bytes.ensures.bytes (omega (arith, c.bytes.ensures.atom.short));
      each = All-more IsAtom atoms i atom c.loop-atom-test.true c.loop-atom.invariant.each is;
    }

pub returns-clause-atoms : goal.returns-clause-atoms
returns-clause-atoms c =
    let all : take c.loop-atom.atom-index c.args.atoms.now ≡ c.args.atoms.now = take_all _ _ c.loop-atom-test.false in
    let each = c.loop-atom.invariant.each in
    rw all at each
