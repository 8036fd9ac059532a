use Rattle.std.proofs.Common.{◌≡◌, ◌≤◌, ◌∙◌, ℕ, List, length, take, refl, ap}
use Rattle.std.proofs.lemmas.List.{take-take, take_at}
use Rattle.td_base.specs.Padded.{padded_with_zeros}
use Rattle.td_base.specs.declared.atom.TheConstants.{MAX_ATOM_LEN}
use Rattle.td_tree.specs.declared.kept_atom.TheConstants.{SHORT}
use Rattle.td_tree.proofs.kept_atom.KeptAtom.of.Goals as goal

-- an atom is the front of what stands before so many of its zeros
front_again : (atom copied : List ℕ) → length atom ≤ SHORT
    → copied ≡ take SHORT (padded_with_zeros MAX_ATOM_LEN atom) → take (length atom) copied ≡ atom
front_again atom copied short same =
    rw same (take-take (length atom) SHORT (padded_with_zeros MAX_ATOM_LEN atom) short
    ∙ take_at atom _ (length atom) refl)

again : (c : goal.After-bytes-2-1) → take (length c.args.atom.now) c.copy_from_slice.new.self ≡ c.args.atom.now
again c = front_again c.args.atom.now c.copy_from_slice.new.self
    (rw c.bytes-len.ensures.bytes at c.if-len-gt-SHORT.false)
    (c.copy_from_slice.ensures.after ∙ ap (take SHORT) c.padded.ensures)

pub invariant_of-result-2 : goal.invariant_of-result-2
invariant_of-result-2 c = rw c.bytes-len.ensures.bytes (
  rw c.bytes-len.ensures.bytes at c.if-len-gt-SHORT.false,
  rw (again c) c.bytes-len.ensures.atom,
  ap (λ (xs : List ℕ). length xs) (again c),
)

pub returns : goal.returns
returns c = rw c.bytes-len.ensures.bytes (again c)
