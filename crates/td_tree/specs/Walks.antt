-- Walks over the items of a tree.
use Rattle.std.specs.Prelude.{◌≡◌, ◌+◌, ◌/◌, ◌%◌, ◌==◌, ◌⊎◌, ◌++◌, ℕ, List, if◌then◌else◌, Option, Some, None}
use Rattle.td_base.specs.declared.bit.Bit.{Bit}
use Rattle.td_base.specs.declared.bit.Bit.TheVariants.{Left, Right}
use Rattle.td_list.specs.Items.{Item, first_name}
use Rattle.td_tree.specs.declared.tree_row.RowState.TheVariants.{InArray}
use Rattle.td_tree.specs.Parts.{Parts, state_at}

-- the items from one on up to an end, which is an item or the end of all
pub record IsStretch (p : Parts) (first end : Option ℕ) : Type 0 where
  pub front : List Item
  pub inner : List Item
  pub back : List Item
  pub is : p.items ≡ front ++ (inner ++ back)
  pub starts : first_name (inner ++ back) ≡ first
  pub ends : first_name back ≡ end

-- a sibling with its last token, or the token that ends a slot
abbrev pub StepsOver : Parts → ℕ → Option ℕ → Type 0
StepsOver p name None =
    ((name % 3 ≡ 1) × ((a k : ℕ) → state_at p (name / 3) ≡ InArray a k → ⊥)) ⊎ (name % 3 ≡ 2)
StepsOver p name (Some last) =
    ((name % 3 ≡ 0) × (last ≡ name + 2))
    ⊎ ((name % 3 ≡ 1) × (last ≡ name) × ((a : ℕ) × (k : ℕ) × (state_at p (name / 3) ≡ InArray a k)))

-- the side that ends with an atom, or with a closing bracket
abbrev pub ended_side : ℕ → Bit
ended_side name = if name % 3 == 1 then Left else Right
