use Rattle.std.proofs.Common.{◌≡◌, ◌∙◌, ℕ, List, take, drop, ap}
use Rattle.td_text.proofs.OwnedAtomsLemmas.{from_place, next_atom_is}
use Rattle.td_text.proofs.owned_atoms.OwnedAtoms.next_atom.Goals as goal

pub of-atom-requires : goal.of-atom-requires
of-atom-requires c =
    let bytes : List ℕ = c.self.inside.bytes.items in
    let size : ℕ = c.in_ok-len.field-0.now in
    let lt = rw c.deref.ensures.value at c.in_ok-len.ensures.lookup.3.0 in
    let read = rw c.deref.ensures.value at c.in_ok-len.ensures.lookup.1 in
    let next = next_atom_is c.self.inside.lengths.items bytes c.self.inside.count c.self.inside.len size
    c.self.invariant lt read in
    let front : c.split_at.result.0.now ≡ take size (drop c.self.inside.len bytes) =
    c.split_at.ensures.front ∙ ap (take size) (from_place c.deref-2.result.now bytes c.self.inside.len
    c.deref-2.ensures.value) in
    rw front next.is

pub invariant_of-self : goal.invariant_of-self
invariant_of-self c =
    let lt = rw c.deref.ensures.value at c.in_ok-len.ensures.lookup.3.0 in
    let read = rw c.deref.ensures.value at c.in_ok-len.ensures.lookup.1 in
    (next_atom_is c.self.inside.lengths.items c.self.inside.bytes.items c.self.inside.count c.self.inside.len
    c.in_ok-len.field-0.now
    c.self.invariant lt read).others
