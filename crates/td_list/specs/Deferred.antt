-- A list to which the last change of a weight is not told yet.
use Rattle.std.specs.Prelude.{◌≡◌, ◌<◌, ◌^◌, List, ◌∷◌, Option, Some, None}
use Rattle.td_list.specs.Items.{Item, IsItem, items_from, items_after, renew, weight_of}
use Rattle.td_list.specs.declared.deferred.Pending.{Pending}

-- the items with the change that is pending, if one is
abbrev pub items_now : Option Pending → List Item → List Item
items_now None items = items
items_now (Some p) items = renew p.item items

-- a pending item is in the list, with the weight that the list was told, and else as it is now
pub record IsPending (p : Pending) (items : List Item) : Type 0 where
  pub there : IsItem p.item.name items
  pub is : items_from p.item.name items ≡ record p.item { weight = p.told } ∷ items_after p.item.name items
  pub light : weight_of (renew p.item items) < 2 ^ 31

-- so it is with what is pending, if anything is
abbrev pub IsDeferred : Option Pending → List Item → Type 0
IsDeferred None items = Unit {0}
IsDeferred (Some p) items = IsPending p items
