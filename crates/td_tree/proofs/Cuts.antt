-- How arrays are cut: where rows and leaves stay, are cut further, or go.
use Rattle.std.proofs.Common.{◌≢◌, ◌+◌, ◌-◌, ◌/◌, ◌<◌, ◌≤◌, ℕ, zero, suc, length, arith}
use Rattle.td_base.specs.Lists.{In}
use Rattle.td_tree.specs.declared.tree_row.RowState.TheVariants.{InArray}
use Rattle.td_tree.specs.Parts.{Parts, state_at, array_at, row_of_array, IsPart, leaf_item, Cut, NoRows, OneLeaf, InTwo}

-- where the rows that have left an array stay away, and each leaf is cut somehow
module _ (p q : Parts) (a : ℕ)
    (tops : (k : ℕ) → k < length (array_at p a) → state_at p (row_of_array p a k) ≢ InArray a k
    → state_at q (row_of_array q a k) ≢ InArray a k)
    (leaves : (from n : ℕ) → IsPart p a from n → In (leaf_item p a from n) p.items → Cut q a from n) where
  pub cut_map : (from n : ℕ) → Cut p a from n → from + n ≤ length (array_at p a) → Cut q a from n
  cut_map from n (NoRows f) w = NoRows f
  cut_map from n (OneLeaf f m l i) w = leaves f m l i
  cut_map from n (InTwo f m some other left right) w =
      InTwo f m some (tops (f + m / 2) (omega arith) other) (cut_map f (m / 2) left (omega arith))
      (cut_map (f + m / 2 + 1) (m - m / 2 - 1) right (omega arith))

-- where no row is left
pub emptied : (p : Parts) (a bound from n : ℕ) → n < bound
    → ((k : ℕ) → from ≤ k → k < from + n → state_at p (row_of_array p a k) ≢ InArray a k) → Cut p a from n
emptied p a zero from n b h = absurd (omega arith)
emptied p a (suc bound) from zero b h = NoRows from
emptied p a (suc bound) from (suc n) b h =
    InTwo from (suc n) (omega arith) (h (from + suc n / 2) (omega arith) (omega arith))
    (emptied p a bound from (suc n / 2) (omega arith) (λ k l m. h k l (omega arith)))
    (emptied p a bound (from + suc n / 2 + 1) (suc n - suc n / 2 - 1) (omega arith)
    (λ k l m. h k (omega arith) (omega arith)))
