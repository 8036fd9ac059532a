-- How a list keeps its items: in chunks, which have numbers. The order of the chunks is again a list of items, one for
-- each chunk, named by its number, with the weight of the chunk, and marked where one of its items is.
use Rattle.std.specs.Prelude.{◌≡◌, ◌≢◌, ◌+◌, ◌<◌, ◌≤◌, ◌^◌, ℕ, List, [], ◌++◌, ◌∷◌, length, get_or}
use Rattle.td_base.specs.Lists.{In, Successive}
use Rattle.td_list.specs.Items.{Item, IsItem, AreApart, has_mark, weight_of, items_before, items_after}

-- the parts of a list: the chunks by number, their order, the chunk of each item by its name, the numbers that no
-- chunk has now, and for how many of these there is room
pub record Parts : Type 0 where
  pub chunks : List (List Item)
  pub order : List Item
  pub homes : List ℕ
  pub free : List ℕ
  pub room : ℕ

abbrev pub chunk_at : List (List Item) → ℕ → List Item
chunk_at chunks c = get_or chunks c []

-- the chunks of an order, one after another
abbrev pub joined : List (List Item) → List Item → List Item
joined chunks [] = []
joined chunks (i ∷ order) = chunk_at chunks i.name ++ joined chunks order

-- the items of a list, those of a chunk, and those before and after it
abbrev pub all_items : Parts → List Item
all_items p = joined p.chunks p.order

abbrev pub items_of : ℕ → Parts → List Item
items_of c p = chunk_at p.chunks c

abbrev pub chunks_before : ℕ → Parts → List Item
chunks_before c p = joined p.chunks (items_before c p.order)

abbrev pub chunks_after : ℕ → Parts → List Item
chunks_after c p = joined p.chunks (items_after c p.order)

-- what the order tells of a chunk
abbrev pub summary : ℕ → List Item → Item
summary c items = record { name = c; weight = weight_of items; marked = has_mark items }

-- the homes of the items of a chunk are the chunk
abbrev pub AreHomes : ℕ → List Item → List ℕ → Type 0
AreHomes c items homes = (x : ℕ) → IsItem x items → (x < length homes) × (get_or homes x 0 ≡ c)

-- a chunk has items, whose names differ, the order tells what it is, and each of its items finds it
pub record IsChunk (chunks : List (List Item)) (homes : List ℕ) (i : Item) : Type 0 where
  pub within : i.name < length chunks
  pub some : 0 < length (chunk_at chunks i.name)
  pub apart : AreApart (chunk_at chunks i.name)
  pub told : i ≡ summary i.name (chunk_at chunks i.name)
  pub homed : AreHomes i.name (chunk_at chunks i.name) homes

pub record IsIndex (p : Parts) : Type 0 where
  pub each : (i : Item) → In i p.order → IsChunk p.chunks p.homes i
  pub apart : AreApart p.order
  -- a free number is that of no chunk in the order, and stands once
  pub unused : (c : ℕ) → In c p.free → (c < length p.chunks) × (IsItem c p.order → ⊥)
  pub once : Successive (λ (c d : ℕ). c ≢ d) p.free
  pub counted : length p.order + length p.free ≤ length p.chunks
  pub roomy : length p.chunks ≤ p.room
  pub few : length p.chunks < 2 ^ 32
  pub light : weight_of (all_items p) < 2 ^ 31
