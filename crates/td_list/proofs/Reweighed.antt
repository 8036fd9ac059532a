-- A list in which one item weighs otherwise: its names, its order and its marks are the same.
use Rattle.std.proofs.Common.{◌≡◌, ◌+◌, ◌-◌, ◌<◌, ◌≤◌, ◌^◌, ℕ, zero, suc, List, [], ◌∷◌, ◌++◌, Bool}
use Rattle.std.proofs.Common.{true, false, if◌then◌else◌, map, length, take, drop, refl, sym, ap}
use Rattle.std.proofs.Common.{◌∙◌, subst, inl, arith, Option, Some, None}
use Rattle.std.proofs.lemmas.List.{map-append, append-nil}
use Rattle.std.proofs.lemmas.Bool.{lt-ltb}
use Rattle.td_base.specs.Lists.{In}
use Rattle.td_list.specs.Items.{Item, names, IsItem, is_named, items_before, items_from, items_after, place_of}
use Rattle.td_list.specs.Items.{renew, first_name, last_name, first_marked, share_at, weight_of}
use Rattle.td_list.specs.declared.deferred.Pending.{Pending}
use Rattle.td_list.specs.Deferred.{items_now, IsPending, IsDeferred}
use Rattle.td_list.proofs.Names.{weight-append, item-back}
use Rattle.td_list.proofs.Parted.{Parted, parted, not_named, before_at, from_at, after_at}
use Rattle.td_list.proofs.Parted.{before_is, from_is, after_is, place_is, take_place}
use Rattle.td_list.proofs.Found.{share_here, share_past}

-- the items, but for their weights
abbrev pub unweighed : List Item → List Item
unweighed items = map (λ (i : Item). record i { weight = 0 }) items

names_same : (items : List Item) → names (unweighed items) ≡ names items
names_same [] = refl
names_same (i ∷ items) = ap (λ (xs : List ℕ). i.name ∷ xs) (names_same items)

first_same : (items : List Item) → first_name (unweighed items) ≡ first_name items
first_same [] = refl
first_same (i ∷ items) = refl

last_same : (items : List Item) → last_name (unweighed items) ≡ last_name items
last_same [] = refl
last_same (i ∷ []) = refl
last_same (i ∷ j ∷ items) = last_same (j ∷ items)

marked_same : (items : List Item) → first_marked (unweighed items) ≡ first_marked items
marked_same [] = refl
marked_same (i ∷ items) = ap (λ (o : Option ℕ). if i.marked then Some i.name else o) (marked_same items)

rest_same : (items : List Item) → drop 1 (unweighed items) ≡ unweighed (drop 1 items)
rest_same [] = refl
rest_same (i ∷ items) = refl

from_same_at : (x : ℕ) (i : Item) (items : List Item) (b : Bool) → items_from x (unweighed items)
    ≡ unweighed (items_from x items)
    → (if b then record i { weight = 0 } ∷ unweighed items else items_from x (unweighed items))
    ≡ unweighed (if b then i ∷ items else items_from x items)
from_same_at x i items true h = refl
from_same_at x i items false h = h

from_same : (x : ℕ) (items : List Item) → items_from x (unweighed items) ≡ unweighed (items_from x items)
from_same x [] = refl
from_same x (i ∷ items) = from_same_at x i items (is_named x i) (from_same x items)

after_same : (x : ℕ) (items : List Item) → items_after x (unweighed items) ≡ unweighed (items_after x items)
after_same x items = ap (drop 1) (from_same x items) ∙ rest_same (items_from x items)

place_same_at : (x : ℕ) (i : Item) (items : List Item) (b : Bool) → place_of x (unweighed items) ≡ place_of x items
    → length (if b then [] else record i { weight = 0 } ∷ items_before x (unweighed items))
    ≡ length (if b then [] else i ∷ items_before x items)
place_same_at x i items true h = refl
place_same_at x i items false h = ap suc h

place_same : (x : ℕ) (items : List Item) → place_of x (unweighed items) ≡ place_of x items
place_same x [] = refl
place_same x (i ∷ items) = place_same_at x i items (is_named x i) (place_same x items)

-- what is asked of two lists that differ in weights alone
module _ (xs ys : List Item) (alike : unweighed xs ≡ unweighed ys) where
  pub item_alike : (x : ℕ) → IsItem x xs → IsItem x ys
  item_alike x i = subst (In x) (sym (names_same xs) ∙ ap names alike ∙ names_same ys) i

  pub last_alike : last_name xs ≡ last_name ys
  last_alike = sym (last_same xs) ∙ ap last_name alike ∙ last_same ys

  after_alike : (x : ℕ) → unweighed (items_after x xs) ≡ unweighed (items_after x ys)
  after_alike x = sym (after_same x xs) ∙ ap (items_after x) alike ∙ after_same x ys

  pub next_alike : (x : ℕ) → first_name (items_after x xs) ≡ first_name (items_after x ys)
  next_alike x = sym (first_same (items_after x xs)) ∙ ap first_name (after_alike x) ∙ first_same (items_after x ys)

  pub mark_alike : (x : ℕ) → first_marked (items_after x xs) ≡ first_marked (items_after x ys)
  mark_alike x = sym (marked_same (items_after x xs)) ∙ ap first_marked (after_alike x) ∙ marked_same (items_after x ys)

  pub place_alike : (x : ℕ) → place_of x xs ≡ place_of x ys
  place_alike x = sym (place_same x xs) ∙ ap (place_of x) alike ∙ place_same x ys

same_head : (x y : Item) (xs ys : List Item) → x ∷ xs ≡ y ∷ ys → x ≡ y
same_head x y xs ys e = cc

-- an item in place of another, at a place
module _ (i j : Item) (back : List Item) where
  head_at : (y : ℕ) (x r : Item) (xs ys : List Item) (b : Bool)
      → (items_from y xs ≡ r ∷ items_after y xs → items_from y ys ≡ r ∷ items_after y ys)
      → (if b then x ∷ xs else items_from y xs) ≡ r ∷ drop 1 (if b then x ∷ xs else items_from y xs)
      → (if b then x ∷ ys else items_from y ys) ≡ r ∷ drop 1 (if b then x ∷ ys else items_from y ys)
  head_at y x r xs ys true ih e = ap (λ (z : Item). z ∷ ys) (same_head x r xs xs e)
  head_at y x r xs ys false ih e = ih e

  passed : (y : ℕ) (k : Item) → (y ≡ k.name → ⊥) → items_from y (k ∷ back) ≡ items_from y back
  passed y k n = ap (λ (b : Bool). if b then k ∷ back else items_from y back) (not_named y k n)

  other_head : (y : ℕ) (r : Item) (front : List Item) → (y ≡ i.name → ⊥) → (y ≡ j.name → ⊥)
      → items_from y (front ++ i ∷ back) ≡ r ∷ items_after y (front ++ i ∷ back)
      → items_from y (front ++ j ∷ back) ≡ r ∷ items_after y (front ++ j ∷ back)
  other_head y r [] n m e =
      passed y j m ∙ sym (passed y i n) ∙ e ∙ ap (λ (zs : List Item). r ∷ drop 1 zs) (passed y i n ∙ sym (passed y j m))
  other_head y r (x ∷ front) n m e = head_at y x r (front ++ i ∷ back) (front ++ j ∷ back) (is_named y x)
      (other_head y r front n m) e

  taken_less : (front : List Item) (n : ℕ) → n ≤ length front → weight_of (take n (front ++ i ∷ back))
      ≡ weight_of (take n (front ++ j ∷ back))
  taken_less [] zero h = refl
  taken_less [] (suc n) h = absurd (omega arith)
  taken_less (x ∷ front) zero h = refl
  taken_less (x ∷ front) (suc n) h = ap (λ (w : ℕ). x.weight + w) (taken_less front n (omega arith))

  taken_more : (front : List Item) (n : ℕ) → length front < n → weight_of (take n (front ++ j ∷ back)) + i.weight
      ≡ weight_of (take n (front ++ i ∷ back)) + j.weight
  taken_more front zero h = absurd (omega arith)
  taken_more [] (suc n) h = omega arith
  taken_more (x ∷ front) (suc n) h = let ih = taken_more front n (omega arith) in omega arith

  whole : (front : List Item) → weight_of (front ++ j ∷ back) + i.weight ≡ weight_of (front ++ i ∷ back) + j.weight
  whole front =
      let one = weight-append front (j ∷ back) in
      let two = weight-append front (i ∷ back) in
      omega arith

-- an item that is renewed twice is as it was renewed last
renew_again : (i j : Item) (items : List Item) → i.name ≡ j.name → IsItem j.name items → renew i (renew j items)
    ≡ renew i items
renew_again i j items e there =
    let q = parted j.name items there in
    let again : (x : ℕ) → x ≡ j.name → items_before x (renew j items) ++ i ∷ items_after x (renew j items)
    ≡ items_before x items ++ i ∷ items_after x items =
    λ x s. (λ k. items_before x (is k) ++ i ∷ items_after x (is k))
    ∙ (λ k. before_at x q.front j q.back (sym s) (λ m. q.away (subst (λ y. IsItem y q.front) s m)) k
    ++ i ∷ after_at x q.front j q.back (sym s) (λ m. q.away (subst (λ y. IsItem y q.front) s m)) k)
    ∙ (λ k. sym (before_is j.name items there) k ++ i ∷ sym (after_is j.name items there) k)
    ∙ (λ k. items_before (sym s k) items ++ i ∷ items_after (sym s k) items) in
    again i.name e
  where
    is : renew j items ≡ (parted j.name items there).front ++ j ∷ (parted j.name items there).back
    is = λ k. before_is j.name items there k ++ j ∷ after_is j.name items there k

-- an item that the list was just told
pub just_told : (i : Item) (items all : List Item) → IsItem i.name items → weight_of (renew i items) < 2 ^ 31 → all
    ≡ renew i items
    → IsPending (record { item = i; told = i.weight }) all × (renew i all ≡ renew i items)
just_told i items all there light e =
    let q = parted i.name items there in
    let is : all ≡ q.front ++ i ∷ q.back = e ∙ (λ k. before_is i.name items there k
    ++ i ∷ after_is i.name items there k) in
    let again : renew i all ≡ renew i items = ap (renew i) e ∙ renew_again i i items refl there in (
      record {
        there = subst (IsItem i.name) (sym is) (item-back i.name q.front (i ∷ q.back) (inl refl));
        is =
            ap (items_from i.name) is ∙ from_at i.name q.front i q.back refl q.away
            ∙ (λ k. i ∷ sym (ap (items_after i.name) is ∙ after_at i.name q.front i q.back refl q.away) k);
        light = subst (λ (n : ℕ). n < 2 ^ 31) (ap weight_of (sym again)) light;
      },
      again,
    )

-- a list and its pending item
module _ (p : Pending) (items : List Item) (is : IsPending p items) where
  abbrev q : Parted p.item.name items
  q = parted p.item.name items is.there

  abbrev old : Item
  old = record p.item { weight = p.told }

  was : items ≡ q.front ++ old ∷ q.back
  was = q.is ∙ ap (λ (i : Item). q.front ++ i ∷ q.back)
      (same_head q.item old q.back (items_after p.item.name items) (sym (from_is p.item.name items is.there) ∙ is.is))

  now : renew p.item items ≡ q.front ++ p.item ∷ q.back
  now = λ k. before_is p.item.name items is.there k ++ p.item ∷ after_is p.item.name items is.there k

  -- nothing is left to tell where the list has the weight of now
  pub told_all : p.told ≡ p.item.weight → items ≡ renew p.item items
  told_all e = was ∙ (λ k. q.front ++ record p.item { weight = e k } ∷ q.back) ∙ sym now

  pub alike : unweighed items ≡ unweighed (renew p.item items)
  alike =
      ap unweighed was ∙ map-append (λ (i : Item). record i { weight = 0 }) q.front (old ∷ q.back)
      ∙ sym (ap unweighed now ∙ map-append (λ (i : Item). record i { weight = 0 }) q.front (p.item ∷ q.back))

  -- another weight
  renewed : (i : Item) → p.item.name ≡ i.name → p.item.marked ≡ i.marked
      → renew (record p.item { weight = i.weight }) items ≡ renew i (renew p.item items)
  renewed i n m = (λ k. renew (record { name = n k; weight = i.weight; marked = m k }) items)
      ∙ sym (renew_again i p.item items (sym n) is.there)

  -- the item itself, and another
  pub item_pending : items_from p.item.name (renew p.item items) ≡ p.item ∷ items_after p.item.name (renew p.item items)
  item_pending =
      ap (items_from p.item.name) now ∙ from_at p.item.name q.front p.item q.back refl q.away
      ∙ (λ k. p.item ∷ sym (ap (items_after p.item.name) now ∙ after_at p.item.name q.front p.item q.back refl q.away)
      k)

  pub item_told : (y : ℕ) (r : Item) → (y ≡ p.item.name → ⊥) → items_from y items ≡ r ∷ items_after y items
      → items_from y (renew p.item items) ≡ r ∷ items_after y (renew p.item items)
  item_told y r n e =
      subst (λ (zs : List Item). items_from y zs ≡ r ∷ items_after y zs) (sym now)
      (other_head old p.item q.back y r q.front n n (subst
      (λ (zs : List Item). items_from y zs ≡ r ∷ items_after y zs) was e))

  -- the weight of all
  pub weight_now : weight_of (renew p.item items) + p.told ≡ weight_of items + p.item.weight
  weight_now =
      let w = whole old p.item q.back q.front in
      let one = ap weight_of now in
      let two = ap weight_of was in
      omega arith

  pub weight_told : p.told ≤ weight_of items
  weight_told =
      let w = whole old (record old { weight = 0 }) q.back q.front in
      let e = ap weight_of was in
      omega arith

  -- and of those before an item
  before_then : (y : ℕ) → IsItem y items → weight_of (items_before y items)
      ≡ weight_of (take (place_of y items) (q.front ++ old ∷ q.back))
  before_then y there = ap weight_of (sym (take_place y items there))
      ∙ ap (λ (zs : List Item). weight_of (take (place_of y items) zs)) was

  before_now : (y : ℕ) → IsItem y items → weight_of (items_before y (renew p.item items))
      ≡ weight_of (take (place_of y items) (q.front ++ p.item ∷ q.back))
  before_now y there =
      ap weight_of (sym (take_place y (renew p.item items) (item_alike items (renew p.item items) alike y there)))
      ∙ (λ k. weight_of (take (sym (place_alike items (renew p.item items) alike y) k) (now k)))

  pub before_same : (y : ℕ) → IsItem y items → place_of y items ≤ place_of p.item.name items
      → weight_of (items_before y items) ≡ weight_of (items_before y (renew p.item items))
  before_same y there h =
      before_then y there
      ∙ taken_less old p.item q.back q.front (place_of y items)
      (subst (λ (n : ℕ). place_of y items ≤ n) (place_is p.item.name items is.there) h)
      ∙ sym (before_now y there)

  pub before_more : (y : ℕ) → IsItem y items → place_of p.item.name items < place_of y items
      → weight_of (items_before y (renew p.item items)) + p.told ≡ weight_of (items_before y items) + p.item.weight
  before_more y there h =
      (λ k. before_now y there k + p.told)
      ∙ taken_more old p.item q.back q.front (place_of y items)
      (subst (λ (n : ℕ). n < place_of y items) (place_is p.item.name items is.there) h)
      ∙ (λ k. sym (before_then y there) k + p.item.weight)

  pub before_told : (y : ℕ) → IsItem y items → place_of p.item.name items < place_of y items
      → p.told ≤ weight_of (items_before y items)
  before_told y there h =
      let l : length q.front < place_of y items = subst (λ (n : ℕ). n < place_of y items)
      (place_is p.item.name items is.there) h in
      let w = taken_more old (record old { weight = 0 }) q.back q.front (place_of y items) l in
      let e = before_then y there in
      omega arith

  -- the units of weight
  front_weight : weight_of (items_before p.item.name items) ≡ weight_of q.front
  front_weight = ap weight_of (before_is p.item.name items is.there)

  pub share_before : (unit : ℕ) → unit < weight_of (items_before p.item.name items) → share_at unit items
      ≡ share_at unit (renew p.item items)
  share_before unit h =
      let l : unit < weight_of q.front = subst (λ (n : ℕ). unit < n) front_weight h in
      ap (share_at unit) was ∙ share_here unit q.front (old ∷ q.back) l
      ∙ sym (ap (share_at unit) now ∙ share_here unit q.front (p.item ∷ q.back) l)

  pub share_within : (unit rest : ℕ) → unit ≡ weight_of (items_before p.item.name items) + rest → rest < p.item.weight
      → Some (record { name = p.item.name; rest = rest }) ≡ share_at unit (renew p.item items)
  share_within unit rest e l =
      sym (ap (share_at unit) now ∙ share_past unit q.front (p.item ∷ q.back) (reached unit rest (weight_of q.front) at)
      ∙ ap (λ (k : ℕ). share_at k (p.item ∷ q.back)) (left unit rest (weight_of q.front) at)
      ∙ ap (λ (b : Bool). if b then Some (record { name = p.item.name; rest = rest }) else share_at
      (rest - p.item.weight) q.back) (lt-ltb rest p.item.weight l))
    where
      at : unit ≡ weight_of q.front + rest
      at = e ∙ ap (λ (n : ℕ). n + rest) front_weight

      reached : (k r n : ℕ) → k ≡ n + r → n ≤ k
      reached k r n e = omega arith

      left : (k r n : ℕ) → k ≡ n + r → k - n ≡ r
      left k r n e = omega arith

  past : (i : Item) (unit : ℕ) → weight_of q.front + i.weight ≤ unit → share_at unit (q.front ++ i ∷ q.back)
      ≡ share_at (unit - (weight_of q.front + i.weight)) q.back
  past i unit h =
      share_past unit q.front (i ∷ q.back) (omega arith)
      ∙ share_past (unit - weight_of q.front) (i ∷ []) q.back (omega arith)
      ∙ ap (λ (k : ℕ). share_at k q.back) (both unit (weight_of q.front) i.weight)
    where
      both : (k a b : ℕ) → k - a - (b + 0) ≡ k - (a + b)
      both k a b = omega arith

  pub share_behind : (unit : ℕ) → weight_of (items_before p.item.name items) + p.item.weight ≤ unit
      → share_at (unit - p.item.weight + p.told) items ≡ share_at unit (renew p.item items)
  share_behind unit h =
      let l : weight_of q.front + p.item.weight ≤ unit = subst (λ (n : ℕ). n + p.item.weight ≤ unit) front_weight h in
      ap (share_at (unit - p.item.weight + p.told)) was
      ∙ past old (unit - p.item.weight + p.told) (reached unit p.item.weight p.told (weight_of q.front) l)
      ∙ ap (λ (k : ℕ). share_at k q.back) (moved unit p.item.weight p.told (weight_of q.front) l)
      ∙ sym (ap (share_at unit) now ∙ past p.item unit l)
    where
      reached : (k a b n : ℕ) → n + a ≤ k → n + b ≤ k - a + b
      reached k a b n h = omega arith

      moved : (k a b n : ℕ) → n + a ≤ k → k - a + b - (n + b) ≡ k - (n + a)
      moved k a b n h = omega arith

-- behind the last unit there is none
pub share_beyond : (unit : ℕ) (items : List Item) → weight_of items ≤ unit → None ≡ share_at unit items
share_beyond unit items h = sym (ap (share_at unit) (sym (append-nil items)) ∙ share_past unit items [] h)

-- whether an item is pending or not
pub alike_now : (o : Option Pending) (items all : List Item) → IsDeferred o items → items_now o items ≡ all
    → unweighed items ≡ unweighed all
alike_now None items all is e = ap unweighed e
alike_now (Some p) items all is e = alike p items is ∙ ap unweighed e

-- an item that is pending gets another weight
pub pending_again : (o : Option Pending) (p : Pending) (items all : List Item) → o ≡ Some p → IsDeferred o items
    → items_now o items ≡ all
    → (i : Item) → p.item.name ≡ i.name → p.item.marked ≡ i.marked → weight_of (renew i all) < 2 ^ 31
    → IsPending (record p { item = i }) items × (renew i items ≡ renew i all)
pending_again o p items all some deferred e i n m light =
    let is : IsPending p items = subst (λ (o : Option Pending). IsDeferred o items) some deferred in
    let again = renewed p items is i n m ∙ ap (renew i)
    (ap (λ (o : Option Pending). items_now o items) (sym some) ∙ e) in
    let same : record p.item { weight = i.weight } ≡ i = λ k. record { name = n k; weight = i.weight; marked = m k } in
    subst (λ (j : Item). IsPending (record p { item = j }) items × (renew j items ≡ renew i all)) same (
      record { there = is.there; is = is.is; light = subst (λ (n : ℕ). n < 2 ^ 31) (ap weight_of (sym again)) light },
      again,
    )
