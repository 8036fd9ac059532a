-- Down a cut array to the leaf of one of its rows.
use Rattle.std.proofs.Common.{◌≡◌, ◌+◌, ◌-◌, ◌/◌, ◌<◌, ℕ, arith}
use Rattle.td_base.specs.Lists.{In}
use Rattle.td_tree.specs.declared.tree_row.RowState.TheVariants.{InArray}
use Rattle.td_tree.specs.Parts.{Parts, state_at, row_of_array, IsPart, leaf_item, Cut, NoRows, OneLeaf, InTwo}

module _ (p : Parts) (a : ℕ) where
  -- where the top stands in the array, the part is a leaf
  pub top_stands : (from n : ℕ) → Cut p a from n → 0 < n → state_at p (row_of_array p a (from + n / 2))
      ≡ InArray a (from + n / 2) → IsPart p a from n × In (leaf_item p a from n) p.items
  top_stands from n (NoRows f) some e = absurd (omega arith)
  top_stands from n (OneLeaf f m l i) some e = (l, i)
  top_stands from n (InTwo f m s other left right) some e = absurd (other e)

  -- and else it is cut in two
  pub go_left : (from n : ℕ) → Cut p a from n → 0 < n
      → (state_at p (row_of_array p a (from + n / 2)) ≡ InArray a (from + n / 2) → ⊥) → Cut p a from (n / 2)
  go_left from n (NoRows f) some away = absurd (omega arith)
  go_left from n (OneLeaf f m l i) some away = absurd (away (l.stand (f + m / 2) (omega arith) (omega arith)))
  go_left from n (InTwo f m s other left right) some away = left

  pub go_right : (from n : ℕ) → Cut p a from n → 0 < n
      → (state_at p (row_of_array p a (from + n / 2)) ≡ InArray a (from + n / 2) → ⊥)
      → Cut p a (from + n / 2 + 1) (n - n / 2 - 1)
  go_right from n (NoRows f) some away = absurd (omega arith)
  go_right from n (OneLeaf f m l i) some away = absurd (away (l.stand (f + m / 2) (omega arith) (omega arith)))
  go_right from n (InTwo f m s other left right) some away = right
