-- The items of a gap buffer, by its two halves.
use Rattle.std.proofs.Common.{◌≡◌, ◌≢◌, ◌+◌, ◌-◌, ◌<◌, ◌≤◌, ◌^◌, ℕ, zero, suc, List, [], ◌∷◌, ◌++◌, length}
use Rattle.std.proofs.Common.{take, drop, get_or, set, reverse, refl, sym, ap, ◌∙◌, subst, inl, ⊎_elim, arith}
use Rattle.std.proofs.Common.{append_assoc, length-append, length-drop, take-append-drop, Option, Some, None}
use Rattle.std.proofs.lemmas.List.{append-nil, reverse-append, length-reverse, get_or-reverse, get_or-append_right}
use Rattle.std.proofs.lemmas.List.{drop_more, take_more, take_all, take_at, drop_at, length-take-le}
use Rattle.std.specs.Prelude.{IfSome}
use Rattle.td_base.specs.Lists.{In, Successive}
use Rattle.td_list.specs.Items.{Item, names, IsItem, AreApart, AreNew, items_before, items_from, items_after}
use Rattle.td_list.specs.Items.{place_of, put_before, put_at, first_name, weight_of}
use Rattle.td_list.specs.Places.{nothing}
use Rattle.td_list.specs.Buffered.{halves, IsGapBuffer}
use Rattle.td_list.specs.declared.gap.TheConstants.{MOST}
use Rattle.td_list.proofs.Names.{weight-append, item-append, item-front, item-back, item_at, item_in_front}
use Rattle.td_list.proofs.Names.{item_in_back, apart-between, apart-parts, remove-apart}
use Rattle.td_list.proofs.Parted.{parts, before_at, from_at}
use Rattle.td_list.proofs.Distinct.{only_place}
use Rattle.td_list.proofs.Weights.{weight-renew, weight-remove, set_there}

-- a stretch of one item
one_at : (items : List Item) (k : ℕ) → k < length items → take 1 (drop k items) ≡ get_or items k nothing ∷ []
one_at [] k h = absurd (omega arith)
one_at (i ∷ items) zero h = refl
one_at (i ∷ items) (suc k) h = one_at items k (omega arith)

-- an item behind the gap
module _ (front back : List Item) (place : ℕ) (h : length front ≤ place) (l : place < length (halves front back)) where
  abbrev pub behind : ℕ
  behind = length back - 1 - (place - length front)

  pub long : length (halves front back) ≡ length front + length back
  long = let one = length-append front (reverse back) in let two = length-reverse back in omega arith

  pub below : behind < length back
  below = let e = long in omega arith

  pub back_item : get_or back behind nothing ≡ get_or (halves front back) place nothing
  back_item =
      let e = long in
      sym (get_or-append_right front (reverse back) (length front) place nothing refl h
      ∙ get_or-reverse back (place - length front) nothing (omega arith))

  pub one_behind : take 1 (drop behind back) ≡ take 1 (drop place (halves front back))
  one_behind = one_at back behind below ∙ ap (λ (i : Item). i ∷ []) back_item ∙ sym (one_at (halves front back) place l)

  abbrev first : List Item
  first = front ++ reverse (drop (behind + 1) back)

  abbrev last : List Item
  last = reverse (take behind back)

  first_long : length first ≡ place
  first_long =
      let one = length-append front (reverse (drop (behind + 1) back)) in
      let two = length-reverse (drop (behind + 1) back) in
      let three = length-drop (behind + 1) back in
      let e = long in
      omega arith

  -- other items in its place
  put_behind : (mid : List Item) → halves front (take behind back ++ (mid ++ drop (behind + 1) back))
      ≡ first ++ (reverse mid ++ last)
  put_behind mid =
      ap (λ (xs : List Item). front ++ xs) (reverse-append (take behind back) (mid ++ drop (behind + 1) back)
      ∙ ap (λ (xs : List Item). xs ++ last) (reverse-append mid (drop (behind + 1) back)))
      ∙ regroup front (reverse (drop (behind + 1) back)) (reverse mid) last
    where
      regroup : (a b x d : List Item) → a ++ ((b ++ x) ++ d) ≡ (a ++ b) ++ (x ++ d)
      regroup a b x d = simp append_assoc

  whole : halves front back ≡ first ++ (get_or back behind nothing ∷ last)
  whole =
      ap (halves front) (sym (take-append-drop behind back)
      ∙ ap (λ (xs : List Item). take behind back ++ xs) (drop_more back behind nothing below))
      ∙ put_behind (get_or back behind nothing ∷ [])

  take_first : take place (halves front back) ≡ first
  take_first = ap (take place) whole ∙ take_at first (get_or back behind nothing ∷ last) place first_long

  drop_last : drop (place + 1) (halves front back) ≡ last
  drop_last =
      ap (drop (place + 1)) (whole ∙ sym (append_assoc first (get_or back behind nothing ∷ []) last))
      ∙ drop_at (first ++ get_or back behind nothing ∷ []) last (place + 1)
      (let one = length-append first (get_or back behind nothing ∷ []) in let two = first_long in omega arith)

  pub renew_behind : (i : Item) → halves front (set back behind i)
      ≡ take place (halves front back) ++ i ∷ drop (place + 1) (halves front back)
  renew_behind i =
      ap (halves front) (set_there back behind i below) ∙ put_behind (i ∷ [])
      ∙ (λ k. sym take_first k ++ i ∷ sym drop_last k)

  pub remove_behind : halves front (take behind back ++ drop (behind + 1) back)
      ≡ take place (halves front back) ++ drop (place + 1) (halves front back)
  remove_behind = put_behind [] ∙ (λ k. sym take_first k ++ sym drop_last k)

-- the item right behind the gap
reversed_last : (back : List Item) → 0 < length back
    → reverse back ≡ get_or back (length back - 1) nothing ∷ reverse (take (length back - 1) back)
reversed_last back h =
    ap reverse (sym (take_all (length back - 1 + 1) back (omega arith))
    ∙ take_more back (length back - 1) nothing (omega arith))
    ∙ reverse-append (take (length back - 1) back) (get_or back (length back - 1) nothing ∷ [])

module _ (front back piece : List Item) (name : ℕ) (apart : AreApart (halves front back)) (some : 0 < length back)
    (named : (get_or back (length back - 1) nothing).name ≡ name) where
  abbrev i : Item
  i = get_or back (length back - 1) nothing

  abbrev rest : List Item
  rest = reverse (take (length back - 1) back)

  is : halves front back ≡ front ++ i ∷ rest
  is = ap (λ (xs : List Item). front ++ xs) (reversed_last back some)

  away : IsItem name front → ⊥
  away h = apart-parts front (i ∷ rest) (subst AreApart is apart) name h (inl (sym named))

  pub gap_there : IsItem name (halves front back)
  gap_there = subst (IsItem name) (sym is) (item-back name front (i ∷ rest) (inl (sym named)))

  pub gap_put : front ++ (piece ++ reverse back) ≡ put_before name piece (halves front back)
  gap_put =
      sym (append_assoc front piece (reverse back))
      ∙ ap (λ (xs : List Item). front ++ piece ++ xs) (reversed_last back some)
      ∙ (λ k. sym (before_at name front i rest named away) k ++ piece ++ sym (from_at name front i rest named away) k)
      ∙ ap (put_before name piece) (sym is)

-- the item right before the gap, where there is one behind it
module _ (front back : List Item) (name : ℕ) (apart : AreApart (halves front back)) (some : 0 < length front)
    (named : (get_or front (length front - 1) nothing).name ≡ name) (more : 0 < length back) where
  abbrev lead : List Item
  lead = take (length front - 1) front

  abbrev item : Item
  item = get_or front (length front - 1) nothing

  parted_before : halves front back ≡ lead ++ item ∷ reverse back
  parted_before =
      ap (λ (xs : List Item). xs ++ reverse back) (sym (take_all (length front - 1 + 1) front (omega arith))
      ∙ take_more front (length front - 1) nothing (omega arith))
      ∙ append_assoc lead (item ∷ []) (reverse back)

  once : IsItem name lead → ⊥
  once h = apart-parts lead (item ∷ reverse back) (subst AreApart parted_before apart) name h (inl (sym named))

  pub across_there : IsItem name (halves front back)
  across_there = subst (IsItem name) (sym parted_before) (item-back name lead (item ∷ reverse back) (inl (sym named)))

  pub across_next : first_name (items_after name (halves front back))
      ≡ Some (get_or back (length back - 1) nothing).name
  across_next =
      ap (λ (xs : List Item). first_name (items_after name xs)) parted_before
      ∙ ap (λ (xs : List Item). first_name (drop 1 xs)) (from_at name lead item (reverse back) named once)
      ∙ ap first_name (reversed_last back more)

-- nothing is between two halves that have nothing
pub none_before : (front back piece : List Item) → halves front back ≡ [] → front ++ (piece ++ reverse back) ≡ piece
none_before [] back piece e = ap (λ (xs : List Item). piece ++ xs) e ∙ append-nil piece
none_before (i ∷ front) back piece e = absurd (never i (front ++ reverse back) e)
  where
    never : (i : Item) (xs : List Item) → i ∷ xs ≡ [] → ⊥
    never i xs e = cc

pub put_none : (at : Option ℕ) (items waiting : List Item) → waiting ≡ [] → put_at at waiting items ≡ items
put_none None items waiting e = ap (λ (xs : List Item). items ++ xs) e ∙ append-nil items
put_none (Some x) items waiting e =
    ap (λ (xs : List Item). items_before x items ++ xs ++ items_from x items) e
    ∙ ap (λ (xs : List Item). xs ++ items_from x items) (append-nil (items_before x items)) ∙ parts x items

-- a place at which the name stands
pub found_there : (items : List Item) (name : ℕ) → (r : Option ℕ)
    → IfSome r (λ k. (k < length items) × ((get_or items k nothing).name ≡ name)) → IfSome r (λ k. IsItem name items)
found_there items name None h = tt
found_there items name (Some k) h = subst (λ (x : ℕ). IsItem x items) h.1 (item_at items k h.0)

pub found_place : (items : List Item) (name : ℕ) → AreApart items → (r : Option ℕ)
    → IfSome r (λ k. (k < length items) × ((get_or items k nothing).name ≡ name))
    → IfSome r (λ k. k ≡ place_of name items)
found_place items name apart None h = tt
found_place items name apart (Some k) h = sym (only_place name items apart k h.0 h.1)

-- what is known of a gap buffer that is changed
pub grown : (front back piece : List Item) (weight least more now : ℕ) → IsGapBuffer (front ++ back) weight least
    → AreApart piece → AreNew piece (front ++ back) → length piece + length (front ++ back) ≤ MOST
    → more ≡ weight_of piece → weight + more < 2 ^ 31 → now ≤ least → ((x : ℕ) → IsItem x piece → now ≤ x)
    → IsGapBuffer (front ++ (piece ++ back)) (weight + more) now
grown front back piece weight least more now g apart new few weighed light less names = record {
  apart = apart-between front piece back g.apart apart new;
  few =
      let one = length-append front (piece ++ back) in
      let two = length-append piece back in
      let three = length-append front back in
      omega arith;
  weighed =
      let one = weight-append front (piece ++ back) in
      let two = weight-append piece back in
      let three = weight-append front back in
      let w = g.weighed in
      omega arith;
  light = light;
  bound = λ x m. ⊎_elim (λ (k : IsItem x front). old x (item-front x front back k))
      (λ (k : IsItem x (piece ++ back)). ⊎_elim (λ (j : IsItem x piece). names x j)
      (λ (j : IsItem x back). old x (item-back x front back j)) (item-append x piece back k))
      (item-append x front (piece ++ back) m);
}
  where
    old : (x : ℕ) → IsItem x (front ++ back) → now ≤ x
    old x m = let b = g.bound x m in omega arith

pub shrunk : (items : List Item) (place weight least gone : ℕ) → IsGapBuffer items weight least → place < length items
    → gone ≡ (get_or items place nothing).weight
    → IsGapBuffer (take place items ++ drop (place + 1) items) (weight - gone) least
shrunk items place weight least gone g l e = record {
  apart = remove-apart place items g.apart;
  few =
      let one = length-append (take place items) (drop (place + 1) items) in
      let two = length-take-le place items (omega arith) in
      let three = length-drop (place + 1) items in
      let f = g.few in
      omega arith;
  weighed = let r = weight-remove items place l in let w = g.weighed in omega arith;
  light = let w = g.light in omega arith;
  bound = λ x m. g.bound x (⊎_elim (λ (k : IsItem x (take place items)). item_in_front x place items k)
      (λ (k : IsItem x (drop (place + 1) items)). item_in_back x (place + 1) items k)
      (item-append x (take place items) (drop (place + 1) items) m));
}

-- an item weighs no more than all
pub heavy : (items : List Item) (place : ℕ) → place < length items → (get_or items place nothing).weight
    ≤ weight_of items
heavy items place l = let r = weight-remove items place l in omega arith

names_set : (items : List Item) (place : ℕ) (i : Item) → place < length items → (get_or items place nothing).name
    ≡ i.name → names (take place items ++ i ∷ drop (place + 1) items) ≡ names items
names_set items place i l e = ap names (sym (set_there items place i l)) ∙ same items place l e
  where
    same : (items : List Item) (place : ℕ) → place < length items → (get_or items place nothing).name ≡ i.name
        → names (set items place i) ≡ names items
    same [] place l e = absurd (omega arith)
    same (j ∷ items) zero l e = ap (λ (x : ℕ). x ∷ names items) (sym e)
    same (j ∷ items) (suc place) l e = ap (λ (xs : List ℕ). j.name ∷ xs) (same items place (omega arith) e)

pub renewed : (items : List Item) (place weight least gone more : ℕ) (i : Item) → IsGapBuffer items weight least
    → place < length items → (get_or items place nothing).name ≡ i.name
    → gone ≡ (get_or items place nothing).weight → more ≡ i.weight
    → weight_of (take place items ++ i ∷ drop (place + 1) items) < 2 ^ 31
    → IsGapBuffer (take place items ++ i ∷ drop (place + 1) items) (weight - gone + more) least
renewed items place weight least gone more i g l named e f light = record {
  apart = subst (Successive (λ (x y : ℕ). x ≢ y)) (sym (names_set items place i l named)) g.apart;
  few =
      let one = length-append (take place items) (i ∷ drop (place + 1) items) in
      let two = length-take-le place items (omega arith) in
      let three = length-drop (place + 1) items in
      let f = g.few in
      omega arith;
  weighed = let r = weight-renew items place i l in let w = g.weighed in let h = heavy items place l in omega arith;
  light =
      let r = weight-renew items place i l in
      let w = g.weighed in
      let h = heavy items place l in
      omega arith;
  bound = λ x m. g.bound x (subst (In x) (names_set items place i l named) m);
}
