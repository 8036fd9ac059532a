use Rattle.std.proofs.Common.{◌≡◌, ◌≤◌, ◌∙◌, ℕ, List, length, take, subst, sym, ap, arith}
use Rattle.std.proofs.lemmas.List.{take-take, length-take}
use Rattle.td_base.specs.Atom.{IsAtom}
use Rattle.td_tree.specs.declared.row_atom.TheConstants.{IN_ROW}
use Rattle.td_tree.specs.declared.kept_atom.Kept.{Kept}
use Rattle.td_tree.specs.KeptAtom.{bytes_of, IsKept}
use Rattle.td_tree.specs.RowAtom.{InRow}
use Rattle.td_tree.proofs.kept_atom.KeptAtom.in_row.Goals as goal
use Rattle.td_tree.proofs.kept_atom.KeptAtom.in_row.Goals.{in_default-via-in-Short+else-len-le-IN_ROW}
use Rattle.td_tree.proofs.kept_atom.KeptAtom.in_row.Goals.{in_default-via-in_default}

-- the front of the bytes in place has the whole atom
same_front : (len : ℕ) (bytes copied : List ℕ) → len ≤ IN_ROW → copied ≡ take IN_ROW bytes
    → take len copied ≡ take len bytes
same_front len bytes copied short same = ap (take len) same ∙ take-take len IN_ROW bytes short

pub in_row-requires-clause-atom : goal.in_row-requires-clause-atom
in_row-requires-clause-atom c =
    subst IsAtom (sym (same_front c.in-Short.len c.in-Short.bytes c.copy_from_slice.new.self c.if-len-le-IN_ROW.true
    c.copy_from_slice.ensures.after)) (subst IsKept c.in-Short.is c.self.invariant).1

pub returns-in-Short : goal.returns-in-Short
returns-in-Short c =
    let was : take c.in-Short.len c.in-Short.bytes ≡ c.args.self.now =
    sym (ap bytes_of c.in-Short.is) ∙ c.self.view_is in
    let long = length-take c.in-Short.len c.in-Short.bytes in
    let same = ap (λ (xs : List ℕ). length xs) was in
    let short = c.if-len-le-IN_ROW.true in (
      omega arith,
      c.in_row.ensures ∙ ap InRow (same_front c.in-Short.len c.in-Short.bytes c.copy_from_slice.new.self short
          c.copy_from_slice.ensures.after ∙ was),
    )

pub returns-in_default : goal.returns-in_default
returns-in_default c =
    let same = ap (λ (xs : List ℕ). length xs) c.self.view_is in
    elim c.in_default.branch [
      | in_default-via-in-Short+else-len-le-IN_ROW w ↦ λ short.
          let kept = subst IsKept w.in-Short.is c.self.invariant in
          let was = ap (λ (k : Kept). length (bytes_of k)) w.in-Short.is in
          omega (arith, kept.2, was, w.if-len-le-IN_ROW.false, short)
      | in_default-via-in_default w ↦ λ short.
          let kept = subst IsKept w.in_default.is c.self.invariant in
          let was = ap (λ (k : Kept). length (bytes_of k)) w.in_default.is in
          omega (arith, kept.0, was, short)
    ]
