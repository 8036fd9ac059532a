use Rattle.std.proofs.Common.{◌≡◌, ◌∙◌, ◌∷◌, ℕ, List, ap, sym}
use Rattle.td_base.specs.Run.{pieces}
use Rattle.td_text.proofs.AtomListLemmas.{first_part}
use Rattle.td_text.proofs.listed_atoms.ListedAtomsIterator.next.Goals as goal

pub of-requires : goal.of-requires
of-requires c =
    let split : c.self.inside.lengths.now ≡ c.in_ok-len.len.now ∷ c.in_ok-len.lengths.now =
    c.in_ok-len.ensures.cases.0 in
    let parts = rw split at c.self.invariant in
    rw c.split_at.ensures.front (first_part c.in_ok-len.len.now c.in_ok-len.lengths.now c.self.inside.bytes.now
    parts).is

pub invariant_of-self : goal.invariant_of-self
invariant_of-self c =
    let split : c.self.inside.lengths.now ≡ c.in_ok-len.len.now ∷ c.in_ok-len.lengths.now =
    c.in_ok-len.ensures.cases.0 in
    let parts = rw split at c.self.invariant in
    rw c.split_at.ensures.back (first_part c.in_ok-len.len.now c.in_ok-len.lengths.now c.self.inside.bytes.now
    parts).others

pub returns-clause-steps : goal.returns-clause-steps
returns-clause-steps c =
    let bytes : List ℕ = c.self.inside.bytes.now in
    let split : c.self.inside.lengths.now ≡ c.in_ok-len.len.now ∷ c.in_ok-len.lengths.now =
    c.in_ok-len.ensures.cases.0 in
    rw (c.of.ensures, c.split_at.ensures.front, c.split_at.ensures.back)
    (sym c.self.view_is ∙ ap (λ (lens : List ℕ). pieces lens bytes) split)
