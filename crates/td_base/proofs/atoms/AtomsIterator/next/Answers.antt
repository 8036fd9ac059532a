use Rattle.std.proofs.Common.{[], arith, sym, ap, ◌∙◌, ◌≡◌, ◌∷◌, ℕ, List}
use Rattle.td_base.proofs.FirstAtom.{first_atom, none_left}
use Rattle.td_base.proofs.atoms.AtomsIterator.next.Goals as goal

pub returns-then-self-eq0-clause-steps : goal.returns-then-self-eq0-clause-steps
returns-then-self-eq0-clause-steps c =
    let none : c.args.self.now ≡ [] = sym c.self.view_is
    ∙ none_left c.self.inside.bytes.now c.self.inside.ends c.if-self-eq0.true in
    (none, none)

pub split_at-requires : goal.split_at-requires
split_at-requires c =
    (first_atom 64 c.self.inside.bytes.now c.self.inside.ends (omega arith) c.self.invariant c.if-self-eq0.false).within

pub of-requires : goal.of-requires
of-requires c =
    let first = first_atom 64 c.self.inside.bytes.now c.self.inside.ends (omega arith) c.self.invariant
    c.if-self-eq0.false in
    rw (c.split_at.ensures.front, first.front) first.is

pub invariant_of-self : goal.invariant_of-self
invariant_of-self c =
    let first = first_atom 64 c.self.inside.bytes.now c.self.inside.ends (omega arith) c.self.invariant
    c.if-self-eq0.false in
    rw c.split_at.ensures.back first.left

pub returns-clause-steps : goal.returns-clause-steps
returns-clause-steps c =
    let first = first_atom 64 c.self.inside.bytes.now c.self.inside.ends (omega arith) c.self.invariant
    c.if-self-eq0.false in
    let read = c.of.ensures ∙ c.split_at.ensures.front ∙ first.front in
    rw (read, c.split_at.ensures.back) (sym c.self.view_is ∙ first.atoms
    ∙ ap (λ (rest : List (List ℕ)). first.atom ∷ rest) (sym first.others))

pub returns-clause-goes : goal.returns-clause-goes
returns-clause-goes c =
    let first = first_atom 64 c.self.inside.bytes.now c.self.inside.ends (omega arith) c.self.invariant
    c.if-self-eq0.false in
    let read = c.of.ensures ∙ c.split_at.ensures.front ∙ first.front in
    let now : c.args.self.now ≡ first.atom ∷ first.rest = sym c.self.view_is ∙ first.atoms in
    rw (read, c.split_at.ensures.back, first.others, now) record {
      on = λ _. (tt, tt, omega arith);
      keeps = tt;
      rests = λ _. tt;
    }
