use Rattle.std.proofs.Common.{◌≡◌, ◌∙◌, ◌++◌, ◌∷◌, [], ℕ, List, length, ap, rules, arith}
use Rattle.td_text.proofs.AtomListLemmas.{with_atom}
use Rattle.td_text.proofs.atom_list.AtomList.push_bytes.Goals as goal

pub invariant_of-self-2 : goal.invariant_of-self-2
invariant_of-self-2 c =
    let lengths : c.push.new.self.items ≡ c.self.inside.lengths.items ++ length c.args.atom.now ∷ [] = search rules in
    let bytes : c.extend_from_slice.new.self.items ≡ c.self.inside.bytes.items ++ c.args.atom.now = search rules in
    rw (lengths, bytes)
    (with_atom c.self.inside.lengths.items c.self.inside.bytes.items c.args.atom.now c.self.invariant c.requires
    (omega arith)).0

pub returns-clause-ok : goal.returns-clause-ok
returns-clause-ok c =
    let lengths : c.push.new.self.items ≡ c.self.inside.lengths.items ++ length c.args.atom.now ∷ [] = search rules in
    let bytes : c.extend_from_slice.new.self.items ≡ c.self.inside.bytes.items ++ c.args.atom.now = search rules in
    rw (lengths, bytes)
    ((with_atom c.self.inside.lengths.items c.self.inside.bytes.items c.args.atom.now c.self.invariant c.requires
    (omega arith)).1
    ∙ ap (λ (atoms : List (List ℕ)). atoms ++ c.args.atom.now ∷ []) c.self.view_is)
