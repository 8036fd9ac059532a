-- A list, parted where an item stands.
use Rattle.std.proofs.Common.{◌≡◌, ◌≢◌, ◌+◌, ◌<◌, ℕ, List, [], ◌∷◌, ◌++◌, if◌then◌else◌, length, take}
use Rattle.std.proofs.Common.{drop, get_or, refl, sym, ap, ◌∙◌, subst, inl, inr, ⊎_elim, arith}
use Rattle.std.proofs.Common.{append_assoc, true, false, Bool, length-append}
use Rattle.std.proofs.lemmas.List.{take_at, drop_at, get_or_at, length_push}
use Rattle.std.proofs.lemmas.Bool.{eqb-true, eq-eqb, cases_Bool}
use Rattle.td_base.proofs.Lists.{all_in}
use Rattle.td_list.specs.Items.{Item, names, IsItem, AreApart, is_named, items_before}
use Rattle.td_list.specs.Items.{items_from, items_after, place_of}
use Rattle.td_list.specs.Places.{nothing}
use Rattle.td_list.proofs.Names.{apart-back}

pub record Parted (x : ℕ) (items : List Item) : Type 0 where
  pub front : List Item
  pub item : Item
  pub back : List Item
  pub is : items ≡ front ++ item ∷ back
  pub named : item.name ≡ x
  pub away : IsItem x front → ⊥

pub here_named : (x : ℕ) (i : Item) → i.name ≡ x → is_named x i ≡ true
here_named x i e = eq-eqb i.name x e

pub not_named : (x : ℕ) (i : Item) → (x ≡ i.name → ⊥) → is_named x i ≡ false
not_named x i h = ⊎_elim (λ (e : is_named x i ≡ true). absurd (h (sym (eqb-true i.name x e))))
    (λ (e : is_named x i ≡ false). e) (cases_Bool (is_named x i))

other_name : (x : ℕ) (i : Item) → is_named x i ≡ false → x ≡ i.name → ⊥
other_name x i h e = differ (is_named x i) (here_named x i (sym e)) h
  where
    differ : (b : Bool) → b ≡ true → b ≡ false → ⊥
    differ true p q = cc
    differ false p q = cc

parted_at : (x : ℕ) (i : Item) (items : List Item) (b : Bool) → is_named x i ≡ b → IsItem x (i ∷ items)
    → (IsItem x items → Parted x items) → Parted x (i ∷ items)
parted_at x i items true e h ih = record {
  front = [];
  item = i;
  back = items;
  is = refl;
  named = eqb-true i.name x e;
  away = λ z. z;
}
parted_at x i items false e h ih =
    let p = ih (⊎_elim (λ (q : x ≡ i.name). absurd (other_name x i e q)) (λ (k : IsItem x items). k) h) in
    record {
      front = i ∷ p.front;
      item = p.item;
      back = p.back;
      is = ap (λ (q : List Item). i ∷ q) p.is;
      named = p.named;
      away = λ k. ⊎_elim (λ (q : x ≡ i.name). other_name x i e q) p.away k;
    }

pub parted : (x : ℕ) (items : List Item) → IsItem x items → Parted x items
parted x [] h = absurd h
parted x (i ∷ items) h = parted_at x i items (is_named x i) refl h (parted x items)

-- what stands before an item, and from it on
pub before_at : (x : ℕ) (front : List Item) (item : Item) (back : List Item) → item.name ≡ x → (IsItem x front → ⊥)
    → items_before x (front ++ item ∷ back) ≡ front
before_at x [] item back e h = ap (λ (b : Bool). if b then [] else item ∷ items_before x back) (here_named x item e)
before_at x (i ∷ front) item back e h =
    ap (λ (b : Bool). if b then [] else i ∷ items_before x (front ++ item ∷ back)) (not_named x i (λ q. h (inl q)))
    ∙ ap (λ (q : List Item). i ∷ q) (before_at x front item back e (λ k. h (inr k)))

pub from_at : (x : ℕ) (front : List Item) (item : Item) (back : List Item) → item.name ≡ x → (IsItem x front → ⊥)
    → items_from x (front ++ item ∷ back) ≡ item ∷ back
from_at x [] item back e h = ap (λ (b : Bool). if b then item ∷ back else items_from x back) (here_named x item e)
from_at x (i ∷ front) item back e h =
    ap (λ (b : Bool). if b then i ∷ (front ++ item ∷ back) else items_from x (front ++ item ∷ back))
    (not_named x i (λ q. h (inl q)))
    ∙ from_at x front item back e (λ k. h (inr k))

pub after_at : (x : ℕ) (front : List Item) (item : Item) (back : List Item) → item.name ≡ x → (IsItem x front → ⊥)
    → items_after x (front ++ item ∷ back) ≡ back
after_at x front item back e h = ap (drop 1) (from_at x front item back e h)

-- the places of a parted list
module _ (x : ℕ) (items : List Item) (there : IsItem x items) where
  abbrev p : Parted x items
  p = parted x items there

  pub before_is : items_before x items ≡ p.front
  before_is = ap (items_before x) p.is ∙ before_at x p.front p.item p.back p.named p.away

  pub from_is : items_from x items ≡ p.item ∷ p.back
  from_is = ap (items_from x) p.is ∙ from_at x p.front p.item p.back p.named p.away

  pub after_is : items_after x items ≡ p.back
  after_is = ap (drop 1) from_is

  pub place_is : place_of x items ≡ length p.front
  place_is = ap length before_is

  pub place_below : place_of x items < length items
  place_below =
      let e = ap length p.is in
      omega (arith, place_is, length-append p.front (p.item ∷ p.back))

  pub take_place : take (place_of x items) items ≡ items_before x items
  take_place = (λ i. take (place_is i) (p.is i)) ∙ take_at p.front (p.item ∷ p.back) (length p.front) refl
      ∙ sym before_is

  pub drop_place : drop (place_of x items) items ≡ items_from x items
  drop_place = (λ i. drop (place_is i) (p.is i)) ∙ drop_at p.front (p.item ∷ p.back) (length p.front) refl ∙ sym from_is

  pub drop_after : drop (place_of x items + 1) items ≡ items_after x items
  drop_after =
      (λ i. drop (place_is i + 1) (p.is i)) ∙ ap (drop (length p.front + 1))
      (sym (append_assoc p.front (p.item ∷ []) p.back))
      ∙ drop_at (p.front ++ p.item ∷ []) p.back (length p.front + 1) (length_push p.front p.item) ∙ sym after_is

  pub name_there : (get_or items (place_of x items) nothing).name ≡ x
  name_there = ap (λ (i : Item). i.name) ((λ i. get_or (p.is i) (place_is i) nothing)
      ∙ get_or_at p.front p.item p.back nothing (length p.front) refl) ∙ p.named

  item_there : get_or items (place_of x items) nothing ≡ p.item
  item_there = (λ i. get_or (p.is i) (place_is i) nothing)
      ∙ get_or_at p.front p.item p.back nothing (length p.front) refl

  pub there_is : items_from x items ≡ get_or items (place_of x items) nothing ∷ items_after x items
  there_is = from_is ∙ (λ i. sym item_there i ∷ sym after_is i)

  -- no other item has the name
  pub not_behind : AreApart items → IsItem x p.back → ⊥
  not_behind h k =
      let a : AreApart (p.item ∷ p.back) = apart-back p.front (p.item ∷ p.back) (subst AreApart p.is h) in
      all_in (λ (y : ℕ). p.item.name ≢ y) (names p.back) a.0 x k p.named

parts_at : (x : ℕ) (i : Item) (items : List Item) (b : Bool) → items_before x items ++ items_from x items ≡ items
    → (if b then [] else i ∷ items_before x items) ++ (if b then i ∷ items else items_from x items) ≡ i ∷ items
parts_at x i items true h = refl
parts_at x i items false h = ap (λ (q : List Item). i ∷ q) h

-- the two parts are the list, whatever the name
pub parts : (x : ℕ) (items : List Item) → items_before x items ++ items_from x items ≡ items
parts x [] = refl
parts x (i ∷ items) = parts_at x i items (is_named x i) (parts x items)
