-- A list to which pieces are put later: those that are put one within another wait in a gap buffer.
use Rattle.std.specs.Prelude.{◌≡◌, ◌+◌, ◌<◌, ◌≤◌, ◌^◌, ◌++◌, ℕ, List, length, reverse, Option}
use Rattle.std.specs.Option.{ForSome}
use Rattle.td_list.specs.declared.gap.TheConstants.{MOST}
use Rattle.td_list.specs.Items.{Item, IsItem, AreApart, AreNew, weight_of}

-- the items of a gap buffer: those before its gap, and those behind it, which it has with the last one first
abbrev pub halves : List Item → List Item → List Item
halves front back = front ++ reverse back

-- what a gap buffer knows of its items
pub record IsGapBuffer (items : List Item) (weight least : ℕ) : Type 0 where
  pub apart : AreApart items
  pub few : length items ≤ MOST
  pub weighed : weight ≡ weight_of items
  pub light : weight < 2 ^ 31
  pub bound : (x : ℕ) → IsItem x items → least ≤ x

-- what waits can be put into the list, before an end
pub record IsBuffered (at : Option ℕ) (waiting items : List Item) : Type 0 where
  pub there : ForSome at (λ x. IsItem x items)
  pub new : AreNew waiting items
  pub light : weight_of items + weight_of waiting < 2 ^ 31
