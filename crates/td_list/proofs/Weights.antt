-- The weight of a list that is changed at a place.
use Rattle.std.proofs.Common.{◌≡◌, ◌+◌, ◌<◌, ◌≤◌, ℕ, zero, suc, List, [], ◌∷◌, ◌++◌, length}
use Rattle.std.proofs.Common.{take, drop, get_or, set, ◌-◌, refl, ap, ◌∙◌, arith}
use Rattle.std.proofs.lemmas.List.{drop-drop}
use Rattle.td_list.specs.Items.{Item, items_before, items_from, weight_of}
use Rattle.td_list.specs.Places.{nothing}
use Rattle.td_list.proofs.Names.{weight-append, weight-parts}
use Rattle.td_list.proofs.Parted.{parts}

pub weight-put : (place : ℕ) (items piece : List Item) → weight_of (take place items ++ piece ++ drop place items)
    ≡ weight_of items + weight_of piece
weight-put place items piece =
    let whole = weight-append (take place items ++ piece) (drop place items) in
    let front = weight-append (take place items) piece in
    let parts = weight-parts place items in
    omega arith

up : (n : ℕ) → suc (n + 1) ≡ suc n + 1
up n = omega arith

-- another item at a place
pub set_there : (items : List Item) (place : ℕ) (i : Item) → place < length items → set items place i
    ≡ take place items ++ i ∷ drop (place + 1) items
set_there [] place i h = absurd (omega arith)
set_there (x ∷ items) zero i h = refl
set_there (x ∷ items) (suc place) i h =
    ap (λ (q : List Item). x ∷ q) (set_there items place i (omega arith))
    ∙ ap (λ (n : ℕ). x ∷ (take place items ++ i ∷ drop n (x ∷ items))) (up place)

pub weight-renew : (items : List Item) (place : ℕ) (i : Item) → place < length items
    → weight_of (take place items ++ i ∷ drop (place + 1) items) + (get_or items place nothing).weight
    ≡ weight_of items + i.weight
weight-renew [] place i h = absurd (omega arith)
weight-renew (x ∷ items) zero i h = omega arith
weight-renew (x ∷ items) (suc place) i h =
    let ih = weight-renew items place i (omega arith) in
    let e = ap (λ (n : ℕ). weight_of (take place items ++ i ∷ drop n (x ∷ items))) (up place) in
    omega arith

pub weight-remove : (items : List Item) (place : ℕ) → place < length items
    → weight_of (take place items ++ drop (place + 1) items) + (get_or items place nothing).weight ≡ weight_of items
weight-remove [] place h = absurd (omega arith)
weight-remove (x ∷ items) zero h = omega arith
weight-remove (x ∷ items) (suc place) h =
    let ih = weight-remove items place (omega arith) in
    let e = ap (λ (n : ℕ). weight_of (take place items ++ drop n (x ∷ items))) (up place) in
    omega arith

pub weight-cut : (from to : ℕ) (items : List Item) → from ≤ to
    → weight_of (take (to - from) (drop from items)) + weight_of (take from items ++ drop to items) ≡ weight_of items
weight-cut from to items h =
    let front = weight-parts from items in
    let back = weight-parts (to - from) (drop from items) in
    let rest = ap weight_of (drop-drop (to - from) from items ∙ ap (λ (n : ℕ). drop n items) (sum from to h)) in
    let both = weight-append (take from items) (drop to items) in
    omega arith
  where
    sum : (from to : ℕ) → from ≤ to → from + (to - from) ≡ to
    sum from to h = omega arith

-- others in place of some
pub weight-lay : (from to : ℕ) (items over : List Item) → from ≤ to
    → weight_of (take from items ++ over ++ drop to items) + weight_of (take (to - from) (drop from items))
    ≡ weight_of items + weight_of over
weight-lay from to items over h =
    let whole = weight-append (take from items ++ over) (drop to items) in
    let front = weight-append (take from items) over in
    let ends = weight-append (take from items) (drop to items) in
    let parts = weight-cut from to items h in
    omega arith

-- the weight before an item is not more than the whole
pub weight-before : (x : ℕ) (items : List Item) → weight_of (items_before x items) ≤ weight_of items
weight-before x items =
    let w = weight-append (items_before x items) (items_from x items) in
    let e = ap weight_of (parts x items) in
    omega arith
