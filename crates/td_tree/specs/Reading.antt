-- Where a row stands among the items.
use Rattle.std.specs.Prelude.{◌≡◌, ◌+◌, ◌*◌, ◌++◌, ◌==◌, ℕ, List, ◌∷◌, Bool, false, ◌&&◌}
use Rattle.std.specs.Prelude.{nat_le, nat_lt, length, Option, Some, None}
use Rattle.td_base.specs.declared.bit.Bit.{Bit}
use Rattle.td_base.specs.declared.bit.Bit.TheVariants.{Left, Right}
use Rattle.td_base.specs.Lists.{In}
use Rattle.td_path.specs.declared.slot.Slot.{Slot}
use Rattle.td_list.specs.Items.{Item}
use Rattle.td_brackets.specs.RowNumbers.{row_numbers_at, row_numbers}
use Rattle.td_tree.specs.declared.tree_row.RowState.{RowState}
use Rattle.td_tree.specs.declared.tree_row.RowState.TheVariants.{Node, InArray, Gone}
use Rattle.td_tree.specs.Parts.{Parts, token_of, tokens_of}

-- the rows of an item, and of items, in their order
abbrev pub shown_at : Parts → Item → List ℕ
shown_at p i = row_numbers_at (token_of p i)

abbrev pub shown : Parts → List Item → List ℕ
shown p items = row_numbers (tokens_of p items)

-- the row is that of the item with the name, behind so many of its rows
pub record StandsAt (p : Parts) (r name rest : ℕ) : Type 0 where
  pub item : Item
  pub there : In item p.items
  pub named : item.name ≡ name
  pub before : List ℕ
  pub after : List ℕ
  pub is : shown_at p item ≡ before ++ r ∷ after
  pub long : length before ≡ rest

-- the slot, or that other one
abbrev pub slot_or : Slot → Option Slot → Slot
slot_or round None = round
slot_or round (Some slot) = slot

-- the names of the tokens between which the rows on a side of a row stand
abbrev pub side_start : ℕ → Bit → ℕ
side_start x Left = 3 * x
side_start x Right = 3 * x + 1

abbrev pub side_end : ℕ → Bit → ℕ
side_end x bit = side_start x bit + 1

-- whether a row is where its state says in a part of an array
abbrev pub is_in_part : RowState → ℕ → ℕ → ℕ → Bool
is_in_part Node a from n = false
is_in_part (InArray b k) a from n = b == a && (nat_le from k && nat_lt k (from + n))
is_in_part Gone a from n = false

-- whether that is the name
abbrev pub is_name : ℕ → Option ℕ → Bool
is_name x None = false
is_name x (Some y) = y == x
