-- A list of named items with weights, and what is asked of it.
use Rattle.std.specs.Prelude.{◌≢◌, ◌+◌, ◌-◌, ◌*◌, ℕ, List, [], ◌∷◌, ◌++◌, Bool, false, ◌||◌}
use Rattle.std.specs.Prelude.{if◌then◌else◌, map, length, drop, nat_eq, nat_lt, Option, Some, None}
use Rattle.td_base.specs.Lists.{In, Successive}
use Rattle.td_list.specs.declared.item.Share.{Share}

-- what contracts see of an item
pub record Item : Type 0 where
  pub name : ℕ
  pub weight : ℕ
  -- whether it is one of those that a search for marks stops at
  pub marked : Bool

-- a weight and a mark as one number
abbrev pub load_of : ℕ → Bool → ℕ
load_of weight marked = 2 * weight + (if marked then 1 else 0)

abbrev pub names : List Item → List ℕ
names items = map (λ (i : Item). i.name) items

-- an item with the name stands in the list
abbrev pub IsItem : ℕ → List Item → Type 0
IsItem x items = In x (names items)

-- no two have one name
abbrev pub AreApart : List Item → Type 0
AreApart items = Successive (λ (x y : ℕ). x ≢ y) (names items)

-- no item of the piece has a name of the list
abbrev pub AreNew : List Item → List Item → Type 0
AreNew piece items = (x : ℕ) → IsItem x piece → IsItem x items → ⊥

abbrev pub is_named : ℕ → Item → Bool
is_named x i = nat_eq i.name x

-- the items before x
abbrev pub items_before : ℕ → List Item → List Item
items_before x [] = []
items_before x (i ∷ items) = if is_named x i then [] else i ∷ items_before x items

-- x and the items after it
abbrev pub items_from : ℕ → List Item → List Item
items_from x [] = []
items_from x (i ∷ items) = if is_named x i then i ∷ items else items_from x items

-- the items after x
abbrev pub items_after : ℕ → List Item → List Item
items_after x items = drop 1 (items_from x items)

-- how many items stand before x
abbrev pub place_of : ℕ → List Item → ℕ
place_of x items = length (items_before x items)

-- the piece put directly before x
abbrev pub put_before : ℕ → List Item → List Item → List Item
put_before x piece items = items_before x items ++ piece ++ items_from x items

-- the items from an end on: from one of them, or none where the end is that of the list
abbrev pub items_from_end : Option ℕ → List Item → List Item
items_from_end None items = []
items_from_end (Some x) items = items_from x items

-- the items before an end: before one of them, or all where the end is that of the list
abbrev pub items_before_end : Option ℕ → List Item → List Item
items_before_end None items = items
items_before_end (Some x) items = items_before x items

-- the piece put before an end
abbrev pub put_at : Option ℕ → List Item → List Item → List Item
put_at None piece items = items ++ piece
put_at (Some x) piece items = put_before x piece items

-- the piece in place of all from x on up to an end, which stays
abbrev pub replace : ℕ → Option ℕ → List Item → List Item → List Item
replace x end piece items = items_before x items ++ piece ++ items_from_end end items

-- the list without x
abbrev pub without : ℕ → List Item → List Item
without x items = items_before x items ++ items_after x items

-- another item of the same name in place of one
abbrev pub renew : Item → List Item → List Item
renew i items = items_before i.name items ++ i ∷ items_after i.name items

abbrev pub first_name : List Item → Option ℕ
first_name [] = None
first_name (i ∷ items) = Some i.name

abbrev pub last_name : List Item → Option ℕ
last_name [] = None
last_name (i ∷ []) = Some i.name
last_name (i ∷ j ∷ items) = last_name (j ∷ items)

-- the first item that is marked
abbrev pub first_marked : List Item → Option ℕ
first_marked [] = None
first_marked (i ∷ items) = if i.marked then Some i.name else first_marked items

abbrev pub has_mark : List Item → Bool
has_mark [] = false
has_mark (i ∷ items) = i.marked || has_mark items

abbrev pub weight_of : List Item → ℕ
weight_of [] = 0
weight_of (i ∷ items) = i.weight + weight_of items

-- the item with the k-th unit of weight, from 0, and the number of its units before that one
abbrev pub share_at : ℕ → List Item → Option Share
share_at k [] = None
share_at k (i ∷ items) =
    if nat_lt k i.weight then Some (record { name = i.name; rest = k }) else share_at (k - i.weight) items
