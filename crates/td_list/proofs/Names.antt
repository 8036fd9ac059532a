-- Which names stand in a list, which lists have names that differ, and the weight of a list.
use Rattle.std.proofs.Common.{◌≡◌, ◌≢◌, ◌⊎◌, ◌+◌, ◌<◌, ℕ, suc, List, [], ◌∷◌, ◌++◌, length, take}
use Rattle.std.proofs.Common.{drop, get_or, set, zero, refl, sym, ap, ◌∙◌, subst, inl, inr}
use Rattle.std.proofs.Common.{⊎_elim, arith, append_assoc, take-append-drop}
use Rattle.std.proofs.lemmas.List.{map-append, take_more, get_or-set_same, get_or-set_other, drop-drop}
use Rattle.std.proofs.lemmas.Bool.{cases_eq}
use Rattle.td_base.specs.Lists.{In, Successive}
use Rattle.td_base.proofs.Lists.{In-append, In-front, In-back, across, successive_front}
use Rattle.td_base.proofs.Lists.{successive_back, successive_append}
use Rattle.td_list.specs.Items.{Item, names, IsItem, AreApart, AreNew, weight_of}
use Rattle.td_list.specs.Places.{nothing}

pub weight-append : (xs ys : List Item) → weight_of (xs ++ ys) ≡ weight_of xs + weight_of ys
weight-append [] ys = omega arith
weight-append (x ∷ xs) ys = omega (arith, weight-append xs ys)

pub weight-parts : (place : ℕ) (items : List Item) → weight_of (take place items) + weight_of (drop place items)
    ≡ weight_of items
weight-parts place items = sym (weight-append (take place items) (drop place items))
    ∙ ap weight_of (take-append-drop place items)

-- the names of two lists one after another
pub item-append : (x : ℕ) (xs ys : List Item) → IsItem x (xs ++ ys) → IsItem x xs ⊎ IsItem x ys
item-append x xs ys h = In-append x (names xs) (names ys) (subst (In x) (map-append (λ (i : Item). i.name) xs ys) h)

pub item-front : (x : ℕ) (xs ys : List Item) → IsItem x xs → IsItem x (xs ++ ys)
item-front x xs ys h = subst (In x) (sym (map-append (λ (i : Item). i.name) xs ys)) (In-front x (names xs) (names ys) h)

pub item-back : (x : ℕ) (xs ys : List Item) → IsItem x ys → IsItem x (xs ++ ys)
item-back x xs ys h = subst (In x) (sym (map-append (λ (i : Item). i.name) xs ys)) (In-back x (names xs) (names ys) h)

-- and of a part of a list
pub item_in_front : (x n : ℕ) (items : List Item) → IsItem x (take n items) → IsItem x items
item_in_front x n items i = subst (IsItem x) (take-append-drop n items) (item-front x (take n items) (drop n items) i)

pub item_in_back : (x n : ℕ) (items : List Item) → IsItem x (drop n items) → IsItem x items
item_in_back x n items i = subst (IsItem x) (take-append-drop n items) (item-back x (take n items) (drop n items) i)

pub item_at : (items : List Item) (i : ℕ) → i < length items → IsItem (get_or items i nothing).name items
item_at [] i h = absurd (omega arith)
item_at (x ∷ items) zero h = inl refl
item_at (x ∷ items) (suc i) h = inr (item_at items i (omega arith))

pub item_more : (x : ℕ) (items : List Item) (i : ℕ) → i < length items → IsItem x (take (i + 1) items)
    → IsItem x (take i items) ⊎ (x ≡ (get_or items i nothing).name)
item_more x items i h m =
    ⊎_elim (λ (k : IsItem x (take i items)). inl k)
    (λ (k : IsItem x (get_or items i nothing ∷ [])). ⊎_elim (λ (e : x ≡ (get_or items i nothing).name). inr e)
    (λ (z : ⊥). absurd z) k)
    (item-append x (take i items) (get_or items i nothing ∷ []) (subst (IsItem x) (take_more items i nothing h) m))

pub item_less : (x : ℕ) (items : List Item) (i : ℕ) → i < length items → IsItem x (take i items)
    → IsItem x (take (i + 1) items)
item_less x items i h m = subst (IsItem x) (sym (take_more items i nothing h))
    (item-front x (take i items) (get_or items i nothing ∷ []) m)

pub item_last : (items : List Item) (i : ℕ) → i < length items
    → IsItem (get_or items i nothing).name (take (i + 1) items)
item_last items i h = subst (IsItem (get_or items i nothing).name) (sym (take_more items i nothing h))
    (item-back (get_or items i nothing).name (take i items) (get_or items i nothing ∷ []) (inl refl))

-- the homes of one more item
module _ (homes before : List ℕ) (items : List Item) (i c : ℕ) (h : i < length items) where
  abbrev name : ℕ
  name = (get_or items i nothing).name

  pub inside_more : name < length homes → ((x : ℕ) → IsItem x (take i items) → get_or homes x 0 ≡ c) → (x : ℕ)
      → IsItem x (take (i + 1) items) → get_or (set homes name c) x 0 ≡ c
  inside_more fits ih x m =
      ⊎_elim (λ (e : x ≡ name). ap (λ y. get_or (set homes name c) y 0) e ∙ get_or-set_same homes name c 0 fits)
      (λ (n : x ≢ name). get_or-set_other homes name x c 0 n
      ∙ ⊎_elim (λ (k : IsItem x (take i items)). ih x k) (λ (e : x ≡ name). absurd (n e)) (item_more x items i h m))
      (cases_eq x name)

  pub outside_more : ((x : ℕ) → (IsItem x (take i items) → ⊥) → get_or homes x 0 ≡ get_or before x 0) → (x : ℕ)
      → (IsItem x (take (i + 1) items) → ⊥) → get_or (set homes name c) x 0 ≡ get_or before x 0
  outside_more ih x m =
      get_or-set_other homes name x c 0 (λ e. m (subst (λ y. IsItem y (take (i + 1) items)) (sym e)
      (item_last items i h)))
      ∙ ih x (λ k. m (item_less x items i h k))

-- names that differ

pub apart-parts : (front back : List Item) → AreApart (front ++ back) → (x : ℕ) → IsItem x front → IsItem x back → ⊥
apart-parts front back h x i j = across (λ (a b : ℕ). a ≢ b) (names front) (names back)
    (subst (Successive (λ (a b : ℕ). a ≢ b)) (map-append (λ (k : Item). k.name) front back) h) x x i j refl

pub apart-append : (front back : List Item) → AreApart front → AreApart back
    → ((x : ℕ) → IsItem x front → IsItem x back → ⊥) → AreApart (front ++ back)
apart-append front back f b h =
    subst (Successive (λ (x y : ℕ). x ≢ y)) (sym (map-append (λ (k : Item). k.name) front back))
    (successive_append (λ (x y : ℕ). x ≢ y) (names front) (names back) f b
    (λ x y i j e. h x i (subst (λ (z : ℕ). In z (names back)) (sym e) j)))

pub apart-front : (front back : List Item) → AreApart (front ++ back) → AreApart front
apart-front front back h = successive_front (λ (x y : ℕ). x ≢ y) (names front) (names back)
    (subst (Successive (λ (x y : ℕ). x ≢ y)) (map-append (λ (k : Item). k.name) front back) h)

pub apart-back : (front back : List Item) → AreApart (front ++ back) → AreApart back
apart-back front back h = successive_back (λ (x y : ℕ). x ≢ y) (names front) (names back)
    (subst (Successive (λ (x y : ℕ). x ≢ y)) (map-append (λ (k : Item). k.name) front back) h)

-- what is left of three lists without the middle one
pub apart-ends : (front middle back : List Item) → AreApart (front ++ (middle ++ back)) → AreApart (front ++ back)
apart-ends front middle back h =
    apart-append front back (apart-front front (middle ++ back) h)
    (apart-back middle back (apart-back front (middle ++ back) h))
    (λ x i j. apart-parts front (middle ++ back) h x i (item-back x middle back j))

-- a piece between two lists
pub apart-between : (front piece back : List Item) → AreApart (front ++ back) → AreApart piece
    → AreNew piece (front ++ back) → AreApart (front ++ (piece ++ back))
apart-between front piece back h p new =
    apart-append front (piece ++ back) (apart-front front back h)
    (apart-append piece back p (apart-back front back h) (λ x i j. new x i (item-back x front back j)))
    (λ x i j. ⊎_elim (λ (k : IsItem x piece). new x k (item-front x front back i))
    (λ (k : IsItem x back). apart-parts front back h x i k) (item-append x piece back j))

-- a piece put at a place
pub splice-apart : (place : ℕ) (items piece : List Item) → AreApart items → AreApart piece → AreNew piece items
    → AreApart (take place items ++ piece ++ drop place items)
splice-apart place items piece a p new =
    subst AreApart (sym (append_assoc (take place items) piece (drop place items)))
    (apart-between (take place items) piece (drop place items) (subst AreApart (sym (take-append-drop place items)) a) p
    (λ x i j. new x i (subst (IsItem x) (take-append-drop place items) j)))

pub item-splice : (x place : ℕ) (piece items : List Item) → IsItem x (take place items ++ piece ++ drop place items)
    → IsItem x items ⊎ IsItem x piece
item-splice x place piece items h =
    ⊎_elim
    (λ (k : IsItem x (take place items ++ piece)).
    ⊎_elim (λ (i : IsItem x (take place items)). inl (item_in_front x place items i)) (λ (i : IsItem x piece). inr i)
    (item-append x (take place items) piece k))
    (λ (i : IsItem x (drop place items)). inl (item_in_back x place items i))
    (item-append x (take place items ++ piece) (drop place items) h)

-- a place left out
pub remove-apart : (place : ℕ) (items : List Item) → AreApart items
    → AreApart (take place items ++ drop (place + 1) items)
remove-apart place items a =
    apart-append (take place items) (drop (place + 1) items) (apart-front (take place items) (drop place items) whole)
    (apart-back (take (place + 1) items) (drop (place + 1) items)
    (subst AreApart (sym (take-append-drop (place + 1) items)) a))
    (λ x i j. apart-parts (take place items) (drop place items) whole x i (item_later x place items j))
  where
    whole : AreApart (take place items ++ drop place items)
    whole = subst AreApart (sym (take-append-drop place items)) a

    item_later : (x place : ℕ) (items : List Item) → IsItem x (drop (place + 1) items) → IsItem x (drop place items)
    item_later x place items j = item_in_back x 1 (drop place items)
        (subst (IsItem x) (sym (drop-drop 1 place items)) j)
