-- A list with what waits put before an end of it: what is asked of the whole, by where an item stands.
use Rattle.std.proofs.Common.{◌≡◌, ◌≢◌, ◌⊎◌, ◌+◌, ◌-◌, ◌<◌, ◌≤◌, ◌^◌, ℕ, List, [], ◌∷◌, ◌++◌}
use Rattle.std.proofs.Common.{if◌then◌else◌, length, take}
use Rattle.std.proofs.Common.{drop, get_or, nat_lt, refl, sym, ap, ◌∙◌, subst, inl, inr, ⊎_elim, arith, append_assoc}
use Rattle.std.proofs.Common.{length-append, Option, Some, None, Bool, true, false, not, true≢false}
use Rattle.std.proofs.lemmas.List.{append-nil, take_at}
use Rattle.std.proofs.lemmas.Bool.{cases_eq, cases_lt, lt-ltb, le-ltb, ltb-true}
use Rattle.std.proofs.lemmas.Option.{none-some, same_Some}
use Rattle.std.specs.Prelude.{IsTrue, ◌↔◌}
use Rattle.std.specs.Option.{ForSome}
use Rattle.td_base.specs.Lists.{In}
use Rattle.td_list.specs.Items.{Item, names, IsItem, AreApart, AreNew, is_named, items_before, items_from, items_after}
use Rattle.td_list.specs.Items.{items_before_end, items_from_end, put_at, put_before, without, renew, place_of}
use Rattle.td_list.specs.Items.{first_name, last_name, first_marked, share_at, weight_of}
use Rattle.td_list.specs.Places.{nothing}
use Rattle.td_list.specs.Buffered.{IsBuffered}
use Rattle.td_list.proofs.Names.{weight-append, item-append, item-front, item-back, apart-parts, apart-back}
use Rattle.td_list.proofs.Parted.{parted, not_named, before_at, from_at, after_at, before_is, from_is, after_is}
use Rattle.td_list.proofs.Parted.{parts, there_is, place_below}
use Rattle.td_list.proofs.Ends.{last-append}
use Rattle.td_list.proofs.Found.{marked_past, marked_here, share_here, share_past}

-- whether an item stands in a list
pub has : (x : ℕ) (items : List Item) → IsItem x items ⊎ (IsItem x items → ⊥)
has x [] = inr (λ z. z)
has x (i ∷ items) =
    ⊎_elim (λ (e : x ≡ i.name). inl (inl e))
    (λ (n : x ≡ i.name → ⊥). ⊎_elim (λ (k : IsItem x items). inl (inr k))
    (λ (m : IsItem x items → ⊥). inr (λ q. ⊎_elim (λ (e : x ≡ i.name). n e) (λ (k : IsItem x items). m k) q))
    (has x items))
    (cases_eq x i.name)

-- an item of the first of two lists, and one that is not
pub from_front : (x : ℕ) (front back : List Item) → IsItem x front → items_from x (front ++ back)
    ≡ items_from x front ++ back
from_front x front back h =
    let p = parted x front h in
    ap (λ (xs : List Item). items_from x (xs ++ back)) p.is
    ∙ ap (items_from x) (append_assoc p.front (p.item ∷ p.back) back)
    ∙ from_at x p.front p.item (p.back ++ back) p.named p.away
    ∙ ap (λ (xs : List Item). xs ++ back) (sym (from_is x front h))

pub after_front : (x : ℕ) (front back : List Item) → IsItem x front → items_after x (front ++ back)
    ≡ items_after x front ++ back
after_front x front back h =
    let p = parted x front h in
    ap (drop 1) (from_front x front back h ∙ ap (λ (xs : List Item). xs ++ back) (from_is x front h))
    ∙ ap (λ (xs : List Item). drop 1 xs ++ back) (sym (from_is x front h))

pub before_front : (x : ℕ) (front back : List Item) → IsItem x front → items_before x (front ++ back)
    ≡ items_before x front
before_front x front back h =
    let p = parted x front h in
    ap (λ (xs : List Item). items_before x (xs ++ back)) p.is
    ∙ ap (items_before x) (append_assoc p.front (p.item ∷ p.back) back)
    ∙ before_at x p.front p.item (p.back ++ back) p.named p.away
    ∙ sym (before_is x front h)

pub from_past : (x : ℕ) (front back : List Item) → (IsItem x front → ⊥) → items_from x (front ++ back)
    ≡ items_from x back
from_past x [] back n = refl
from_past x (i ∷ front) back n =
    ap (λ (b : Bool). if b then i ∷ (front ++ back) else items_from x (front ++ back))
    (not_named x i (λ e. n (inl e)))
    ∙ from_past x front back (λ k. n (inr k))

pub after_past : (x : ℕ) (front back : List Item) → (IsItem x front → ⊥) → items_after x (front ++ back)
    ≡ items_after x back
after_past x front back n = ap (drop 1) (from_past x front back n)

pub before_past : (x : ℕ) (front back : List Item) → (IsItem x front → ⊥) → items_before x (front ++ back)
    ≡ front ++ items_before x back
before_past x [] back n = refl
before_past x (i ∷ front) back n =
    ap (λ (b : Bool). if b then [] else i ∷ items_before x (front ++ back)) (not_named x i (λ e. n (inl e)))
    ∙ ap (λ (xs : List Item). i ∷ xs) (before_past x front back (λ k. n (inr k)))

-- what stands in a part stands in the whole
pub item_from : (x y : ℕ) (items : List Item) → IsItem y (items_from x items) → IsItem y items
item_from x y items h = subst (IsItem y) (parts x items) (item-back y (items_before x items) (items_from x items) h)

pub item_before : (x y : ℕ) (items : List Item) → IsItem y (items_before x items) → IsItem y items
item_before x y items h = subst (IsItem y) (parts x items) (item-front y (items_before x items) (items_from x items) h)

pub item_after : (x y : ℕ) (items : List Item) → IsItem y (items_after x items) → IsItem y items
item_after x y items h = item_from x y items (behind (items_from x items) h)
  where
    behind : (xs : List Item) → IsItem y (drop 1 xs) → IsItem y xs
    behind [] h = h
    behind (i ∷ xs) h = inr h

pub first_in : (xs : List Item) (x : ℕ) → first_name xs ≡ Some x → IsItem x xs
first_in [] x e = absurd (none-some x e)
first_in (i ∷ xs) x e = inl (sym (same_Some i.name x e))

-- an item that comes first, with what is known of it
pub headed : (xs : List Item) (r : Item) (rest : List Item) → xs ≡ r ∷ rest → xs ≡ r ∷ drop 1 xs
headed xs r rest e = e ∙ ap (λ (ys : List Item). r ∷ drop 1 ys) (sym e)

-- the two parts of a list at an end
pub front_back : (at : Option ℕ) (items : List Item) → items_before_end at items ++ items_from_end at items ≡ items
front_back None items = append-nil items
front_back (Some x) items = parts x items

pub put_is : (at : Option ℕ) (waiting items : List Item) → put_at at waiting items
    ≡ items_before_end at items ++ (waiting ++ items_from_end at items)
put_is None waiting items = ap (λ (xs : List Item). items ++ xs) (sym (append-nil waiting))
put_is (Some x) waiting items = append_assoc (items_before x items) waiting (items_from x items)

pub back_first : (at : Option ℕ) (items : List Item) → ForSome at (λ x. IsItem x items)
    → first_name (items_from_end at items) ≡ at
back_first None items h = refl
back_first (Some x) items h = ap first_name (from_is x items (h x refl)) ∙ ap Some (parted x items (h x refl)).named

-- an end is in no list before it
abbrev pub IsAway : Option ℕ → List Item → Type 0
IsAway at front = (x : ℕ) → at ≡ Some x → IsItem x front → ⊥

pub not_front : (at : Option ℕ) (items : List Item) → ForSome at (λ x. IsItem x items)
    → IsAway at (items_before_end at items)
not_front None items h x e i = absurd (none-some x e)
not_front (Some y) items h x e i =
    let k = h y refl in
    (parted y items k).away (subst (IsItem y) (before_is y items k)
    (subst (λ (z : ℕ). IsItem z (items_before y items)) (sym (same_Some y x e)) i))

-- and there the list is parted
pub put_parts : (at : Option ℕ) (waiting front back : List Item) → first_name back ≡ at → IsAway at front
    → put_at at waiting (front ++ back) ≡ front ++ (waiting ++ back)
put_parts at waiting front [] e away =
    ap (λ (o : Option ℕ). put_at o waiting (front ++ [])) (sym e) ∙ (λ i. append-nil front i ++ waiting)
    ∙ ap (λ (xs : List Item). front ++ xs) (sym (append-nil waiting))
put_parts at waiting front (i ∷ back) e away =
    ap (λ (o : Option ℕ). put_at o waiting (front ++ i ∷ back)) (sym e)
    ∙ (λ j. before_at i.name front i back refl (away i.name (sym e)) j ++ waiting
    ++ from_at i.name front i back refl (away i.name (sym e)) j)
    ∙ append_assoc front waiting (i ∷ back)

-- what is put between two parts comes first where the first part has nothing
pub passed : (front waiting back : List Item) (at next result : Option ℕ) → first_name back ≡ at → IsAway at front
    → next ≡ first_name (front ++ back) → (next ≡ at → result ≡ first_name (waiting ++ back))
    → (next ≢ at → result ≡ next) → result ≡ first_name (front ++ (waiting ++ back))
passed [] waiting back at next result e away n here there = here (n ∙ e)
passed (i ∷ front) waiting back at next result e away n here there =
    there (λ q. away i.name (sym q ∙ n) (inl refl)) ∙ n

-- the end is not what follows an item from the end on
pub not_again : (front back : List Item) (at : Option ℕ) (x : ℕ) → AreApart (front ++ back) → first_name back ≡ at
    → IsItem x back → first_name (items_after x back) ≡ at → ⊥
not_again front [] at x apart e i n = i
not_again front (j ∷ back) at x apart e i n =
    apart-parts (j ∷ []) back (apart-back front (j ∷ back) apart) j.name (inl refl)
    (later (is_named x j) (first_in (items_after x (j ∷ back)) j.name (n ∙ sym e)))
  where
    later : (b : Bool) → IsItem j.name (drop 1 (if b then j ∷ back else items_from x back)) → IsItem j.name back
    later true h = h
    later false h = item_after x j.name back h

-- a list with what waits, and an item of one of its three parts
module _ (at : Option ℕ) (waiting items : List Item) where
  abbrev f : List Item
  f = items_before_end at items

  abbrev k : List Item
  k = items_from_end at items

  abbrev all : List Item
  all = put_at at waiting items

  pub item_all : (x : ℕ) → IsItem x all → (IsItem x waiting → ⊥) → IsItem x items
  item_all x h n =
      ⊎_elim (λ (i : IsItem x f). subst (IsItem x) (front_back at items) (item-front x f k i))
      (λ (i : IsItem x (waiting ++ k)). ⊎_elim (λ (j : IsItem x waiting). absurd (n j))
      (λ (j : IsItem x k). subst (IsItem x) (front_back at items) (item-back x f k j)) (item-append x waiting k i))
      (item-append x f (waiting ++ k) (subst (IsItem x) (put_is at waiting items) h))

  pub in_all : (x : ℕ) → IsItem x items → IsItem x all
  in_all x h =
      subst (IsItem x) (sym (put_is at waiting items))
      (⊎_elim (λ (i : IsItem x f). item-front x f (waiting ++ k) i)
      (λ (i : IsItem x k). item-back x f (waiting ++ k) (item-back x waiting k i))
      (item-append x f k (subst (IsItem x) (sym (front_back at items)) h)))

  pub waits_in_all : (x : ℕ) → IsItem x waiting → IsItem x all
  waits_in_all x h = subst (IsItem x) (sym (put_is at waiting items))
      (item-back x f (waiting ++ k) (item-front x waiting k h))

  pub front_in : (x : ℕ) → IsItem x f → IsItem x items
  front_in x h = subst (IsItem x) (front_back at items) (item-front x f k h)

  pub back_in : (x : ℕ) → IsItem x items → (IsItem x f → ⊥) → IsItem x k
  back_in x h n = ⊎_elim (λ (i : IsItem x f). absurd (n i)) (λ (i : IsItem x k). i)
      (item-append x f k (subst (IsItem x) (sym (front_back at items)) h))

  pub weight_all : weight_of all ≡ weight_of items + weight_of waiting
  weight_all =
      let one = ap weight_of (put_is at waiting items) in
      let two = weight-append f (waiting ++ k) in
      let three = weight-append waiting k in
      let four = ap weight_of (front_back at items) in
      let five = weight-append f k in
      omega arith

  -- one that waits
  module _ (new : AreNew waiting items) (x : ℕ) (waits : IsItem x waiting) where
    away : IsItem x f → ⊥
    away h = new x waits (front_in x h)

    pub from_waiting : items_from x all ≡ items_from x waiting ++ k
    from_waiting = ap (items_from x) (put_is at waiting items) ∙ from_past x f (waiting ++ k) away
        ∙ from_front x waiting k waits

    pub after_waiting : items_after x all ≡ items_after x waiting ++ k
    after_waiting = ap (items_after x) (put_is at waiting items) ∙ after_past x f (waiting ++ k) away
        ∙ after_front x waiting k waits

    pub before_waiting : items_before x all ≡ f ++ items_before x waiting
    before_waiting =
        ap (items_before x) (put_is at waiting items) ∙ before_past x f (waiting ++ k) away
        ∙ ap (λ (xs : List Item). f ++ xs) (before_front x waiting k waits)

    pub place_waiting : place_of x all ≡ length f + place_of x waiting
    place_waiting = ap (λ (xs : List Item). length xs) before_waiting ∙ length-append f (items_before x waiting)

    pub waiting_item : items_from x all ≡ get_or waiting (place_of x waiting) nothing ∷ items_after x all
    waiting_item = headed (items_from x all) (get_or waiting (place_of x waiting) nothing) (items_after x waiting ++ k)
        (from_waiting ∙ ap (λ (xs : List Item). xs ++ k) (there_is x waiting waits))

  -- one before the end
  module _ (x : ℕ) (there : IsItem x f) where
    pub from_first : items_from x all ≡ items_from x f ++ (waiting ++ k)
    from_first = ap (items_from x) (put_is at waiting items) ∙ from_front x f (waiting ++ k) there

    pub from_first_was : items_from x items ≡ items_from x f ++ k
    from_first_was = ap (items_from x) (sym (front_back at items)) ∙ from_front x f k there

    pub after_first : items_after x all ≡ items_after x f ++ (waiting ++ k)
    after_first = ap (items_after x) (put_is at waiting items) ∙ after_front x f (waiting ++ k) there

    pub after_first_was : items_after x items ≡ items_after x f ++ k
    after_first_was = ap (items_after x) (sym (front_back at items)) ∙ after_front x f k there

    pub before_first : items_before x all ≡ items_before x items
    before_first =
        ap (items_before x) (put_is at waiting items) ∙ before_front x f (waiting ++ k) there
        ∙ sym (ap (items_before x) (sym (front_back at items)) ∙ before_front x f k there)

    pub place_first : place_of x items < length f
    place_first =
        let e = ap (λ (xs : List Item). length xs) (ap (items_before x) (sym (front_back at items))
        ∙ before_front x f k there ∙ before_is x f there) in
        let p = parted x f there in
        let l = ap (λ (xs : List Item). length xs) p.is in
        let m = length-append p.front (p.item ∷ p.back) in
        omega arith

  -- one from the end on
  module _ (x : ℕ) (none : IsItem x waiting → ⊥) (behind : IsItem x f → ⊥) where
    past : IsItem x (f ++ waiting) → ⊥
    past h = ⊎_elim behind none (item-append x f waiting h)

    pub from_last : items_from x all ≡ items_from x items
    from_last =
        ap (items_from x) (put_is at waiting items) ∙ from_past x f (waiting ++ k) behind ∙ from_past x waiting k none
        ∙ sym (ap (items_from x) (sym (front_back at items)) ∙ from_past x f k behind)

    pub after_last : items_after x all ≡ items_after x items
    after_last = ap (drop 1) from_last

    pub before_last : items_before x all ≡ f ++ (waiting ++ items_before x k)
    before_last =
        ap (items_before x) (put_is at waiting items) ∙ before_past x f (waiting ++ k) behind
        ∙ ap (λ (xs : List Item). f ++ xs) (before_past x waiting k none)

    pub before_last_was : items_before x items ≡ f ++ items_before x k
    before_last_was = ap (items_before x) (sym (front_back at items)) ∙ before_past x f k behind

    pub place_last : place_of x all ≡ place_of x items + length waiting
    place_last =
        let one = ap (λ (xs : List Item). length xs) before_last in
        let two = ap (λ (xs : List Item). length xs) before_last_was in
        let three = length-append f (waiting ++ items_before x k) in
        let four = length-append waiting (items_before x k) in
        let five = length-append f (items_before x k) in
        omega arith

    pub place_behind : length f ≤ place_of x items
    place_behind =
        let two = ap (λ (xs : List Item). length xs) before_last_was in
        let five = length-append f (items_before x k) in
        omega arith

    pub weight_last : weight_of (items_before x all) ≡ weight_of (items_before x items) + weight_of waiting
    weight_last =
        let one = ap weight_of before_last in
        let two = ap weight_of before_last_was in
        let three = weight-append f (waiting ++ items_before x k) in
        let four = weight-append waiting (items_before x k) in
        let five = weight-append f (items_before x k) in
        omega arith

  -- one of the list
  pub listed_item : (x : ℕ) (r : Item) → (IsItem x waiting → ⊥) → items_from x items ≡ r ∷ items_after x items
      → items_from x all ≡ r ∷ items_after x all
  listed_item x r none e =
      ⊎_elim
      (λ (i : IsItem x f). headed (items_from x all) r ((parted x f i).back ++ (waiting ++ k))
      (from_first x i ∙ ap (λ (xs : List Item). xs ++ (waiting ++ k)) (from_is x f i)
      ∙ ap (λ (j : Item). j ∷ ((parted x f i).back ++ (waiting ++ k)))
      (same_head (parted x f i).item r ((parted x f i).back ++ k) (items_after x items)
      (ap (λ (xs : List Item). xs ++ k) (sym (from_is x f i)) ∙ sym (from_first_was x i) ∙ e))))
      (λ (n : IsItem x f → ⊥). headed (items_from x all) r (items_after x items) (from_last x none n ∙ e))
      (has x f)
    where
      same_head : (x y : Item) (xs ys : List Item) → x ∷ xs ≡ y ∷ ys → x ≡ y
      same_head x y xs ys e = cc

-- which of two items stands first says whether one is before the other
pub front_is : (x y : ℕ) (items : List Item) → IsItem x items
    → IsTrue (nat_lt (place_of x items) (place_of y items)) ↔ IsItem x (items_before y items)
front_is x y items there = (
  λ t. ⊎_elim (λ (i : IsItem x (items_before y items)). i)
      (λ (n : IsItem x (items_before y items) → ⊥).
      let g = place_behind (Some y) [] items x (λ z. z) n in
      let l = ltb-true (place_of x items) (place_of y items) t in
      absurd (omega arith))
      (has x (items_before y items)),
  λ i. lt-ltb (place_of x items) (place_of y items) (place_first (Some y) [] items x i),
)

-- what comes first from an item on is the item
pub from_named : (x : ℕ) (items : List Item) (r : Item) (rest : List Item) → IsItem x items
    → items_from x items ≡ r ∷ rest → r.name ≡ x
from_named x items r rest h e = ap (λ (i : Item). i.name) (same r (parted x items h).item rest (parted x items h).back
    (sym e ∙ from_is x items h)) ∙ (parted x items h).named
  where
    same : (a b : Item) (xs ys : List Item) → a ∷ xs ≡ b ∷ ys → a ≡ b
    same a b xs ys e = cc

-- how many stand before an item, in what is taken of a list up to it
pub take_before : (x : ℕ) (items : List Item) → take (place_of x items) items ≡ items_before x items
take_before x items = ap (take (place_of x items)) (sym (parts x items))
    ∙ take_at (items_before x items) (items_from x items) (place_of x items) refl

pub from_none : (x : ℕ) (items : List Item) → (IsItem x items → ⊥) → items_from x items ≡ []
from_none x items n = ap (items_from x) (sym (append-nil items)) ∙ from_past x items [] n

pub before_none : (x : ℕ) (items : List Item) → (IsItem x items → ⊥) → items_before x items ≡ items
before_none x items n = ap (items_before x) (sym (append-nil items)) ∙ before_past x items [] n ∙ append-nil items

pub there_below : (x : ℕ) (items : List Item) → place_of x items < length items → IsItem x items
there_below x items l =
    ⊎_elim (λ (i : IsItem x items). i)
    (λ (n : IsItem x items → ⊥). let e = ap (λ (xs : List Item). length xs) (before_none x items n) in
    absurd (omega arith))
    (has x items)

pub none_above : (x : ℕ) (items : List Item) → length items ≤ place_of x items → IsItem x items → ⊥
none_above x items g i = let l = place_below x items i in omega arith

-- what follows an item of the list
pub next_listed : (at : Option ℕ) (waiting items : List Item) → ForSome at (λ x. IsItem x items) → AreApart items
    → (x : ℕ) → (IsItem x waiting → ⊥) → IsItem x items → (next result : Option ℕ)
    → next ≡ first_name (items_after x items)
    → ((back : List Item) → first_name back ≡ at → next ≡ at → result ≡ first_name (waiting ++ back))
    → (next ≢ at → result ≡ next) → result ≡ first_name (items_after x (put_at at waiting items))
next_listed at waiting items ends apart x none there next result is here elsewhere =
    ⊎_elim
    (λ (i : IsItem x (items_before_end at items)).
    passed (items_after x (items_before_end at items)) waiting (items_from_end at items) at next result
    (back_first at items ends)
    (λ y e m. not_front at items ends y e (item_after x y (items_before_end at items) m))
    (is ∙ ap first_name (after_first_was at waiting items x i))
    (here (items_from_end at items) (back_first at items ends)) elsewhere
    ∙ sym (ap first_name (after_first at waiting items x i)))
    (λ (n : IsItem x (items_before_end at items) → ⊥).
    elsewhere (λ e. not_again (items_before_end at items) (items_from_end at items) at x
    (subst AreApart (sym (front_back at items)) apart) (back_first at items ends) (back_in at waiting items x there n)
    (sym (is ∙ ap first_name (ap (items_after x) (sym (front_back at items))
    ∙ after_past x (items_before_end at items) (items_from_end at items) n)) ∙ e))
    ∙ is ∙ sym (ap first_name (after_last at waiting items x none n)))
    (has x (items_before_end at items))

pub last_some : (y : ℕ) (waiting items : List Item) → IsItem y items → last_name items
    ≡ last_name (put_at (Some y) waiting items)
last_some y waiting items h =
    let p = parted y items h in
    ap last_name (sym (parts y items) ∙ ap (λ (xs : List Item). items_before y items ++ xs) (from_is y items h))
    ∙ last-append (items_before y items) p.item p.back
    ∙ sym (ap (λ (xs : List Item). last_name (items_before y items ++ waiting ++ xs)) (from_is y items h)
    ∙ last-append (items_before y items ++ waiting) p.item p.back)

-- which of two items stands first
shifted : (n a b : ℕ) → nat_lt a b ≡ nat_lt (n + a) (n + b)
shifted n a b =
    ⊎_elim (λ (l : a < b). lt-ltb a b l ∙ sym (lt-ltb (n + a) (n + b) (omega arith)))
    (λ (g : b ≤ a). le-ltb a b g ∙ sym (le-ltb (n + a) (n + b) (omega arith))) (cases_lt a b)

module _ (at : Option ℕ) (waiting items : List Item) where
  abbrev ahead : List Item
  ahead = items_before_end at items

  abbrev total : List Item
  total = put_at at waiting items

  pub both_wait : AreNew waiting items → (place y : ℕ) → IsItem y waiting → nat_lt place (place_of y waiting)
      ≡ nat_lt (length ahead + place) (place_of y total)
  both_wait new place y h = shifted (length ahead) place (place_of y waiting)
      ∙ ap (λ (n : ℕ). nat_lt (length ahead + place) n) (sym (place_waiting at waiting items new y h))

  pub first_waits : (place y : ℕ) → place < length waiting → (IsItem y waiting → ⊥) → (b : Bool)
      → IsTrue b ↔ IsItem y ahead → not b ≡ nat_lt (length ahead + place) (place_of y total)
  first_waits place y l none true h =
      let i : IsItem y ahead = h.0 refl in
      let e = ap (λ (xs : List Item). length xs) (before_first at waiting items y i) in
      let m = place_first at waiting items y i in
      sym (le-ltb (length ahead + place) (place_of y total) (omega arith))
  first_waits place y l none false h =
      let n : IsItem y ahead → ⊥ = λ i. true≢false (sym (h.1 i)) in
      let e = place_last at waiting items y none n in
      let m = place_behind at waiting items y none n in
      sym (lt-ltb (length ahead + place) (place_of y total) (omega arith))

  pub second_waits : AreNew waiting items → (x y : ℕ) → (IsItem x waiting → ⊥) → IsItem y waiting → (b : Bool)
      → IsTrue b ↔ IsItem x ahead → b ≡ nat_lt (place_of x total) (place_of y total)
  second_waits new x y none h true k =
      let i : IsItem x ahead = k.0 refl in
      let e = ap (λ (xs : List Item). length xs) (before_first at waiting items x i) in
      let m = place_first at waiting items x i in
      let o = place_waiting at waiting items new y h in
      sym (lt-ltb (place_of x total) (place_of y total) (omega arith))
  second_waits new x y none h false k =
      let n : IsItem x ahead → ⊥ = λ i. true≢false (sym (k.1 i)) in
      let e = place_last at waiting items x none n in
      let m = place_behind at waiting items x none n in
      let o = place_waiting at waiting items new y h in
      let q = place_below y waiting h in
      sym (le-ltb (place_of x total) (place_of y total) (omega arith))

  -- an item of the list stands as many places further as there wait before it
  record Moved (x : ℕ) : Type 0 where
    more : ℕ
    is : place_of x total ≡ place_of x items + more
    side : ((place_of x items < length ahead) × (more ≡ 0))
        ⊎ ((length ahead ≤ place_of x items) × (more ≡ length waiting))

  moved : (x : ℕ) → (IsItem x waiting → ⊥) → Moved x
  moved x none =
      ⊎_elim
      (λ (i : IsItem x ahead). record {
        more = 0;
        is = let e = ap (λ (xs : List Item). length xs) (before_first at waiting items x i) in omega arith;
        side = inl (place_first at waiting items x i, refl);
      })
      (λ (n : IsItem x ahead → ⊥). record {
        more = length waiting;
        is = place_last at waiting items x none n;
        side = inr (place_behind at waiting items x none n, refl);
      })
      (has x ahead)

  pub none_waits : (x y : ℕ) → (IsItem x waiting → ⊥) → (IsItem y waiting → ⊥)
      → nat_lt (place_of x items) (place_of y items) ≡ nat_lt (place_of x total) (place_of y total)
  none_waits x y n m =
      let a = moved x n in
      let b = moved y m in
      ⊎_elim
      (λ (l : place_of x items < place_of y items). lt-ltb (place_of x items) (place_of y items) l
      ∙ sym (lt-ltb (place_of x total) (place_of y total) (up (place_of x items) (place_of y items) (length ahead)
      (length waiting) a.more b.more (place_of x total) (place_of y total) a.is b.is a.side b.side l)))
      (λ (l : place_of y items ≤ place_of x items). le-ltb (place_of x items) (place_of y items) l
      ∙ sym (le-ltb (place_of x total) (place_of y total) (down (place_of y items) (place_of x items) (length ahead)
      (length waiting) b.more a.more (place_of y total) (place_of x total) b.is a.is b.side a.side l)))
      (cases_lt (place_of x items) (place_of y items))
    where
      up : (x y ahead w i j a b : ℕ) → a ≡ x + i → b ≡ y + j → ((x < ahead) × (i ≡ 0)) ⊎ ((ahead ≤ x) × (i ≡ w))
          → ((y < ahead) × (j ≡ 0)) ⊎ ((ahead ≤ y) × (j ≡ w)) → x < y → a < b
      up x y ahead w i j a b p q (inl s) (inl t) l = omega arith
      up x y ahead w i j a b p q (inl s) (inr t) l = omega arith
      up x y ahead w i j a b p q (inr s) (inl t) l = omega arith
      up x y ahead w i j a b p q (inr s) (inr t) l = omega arith

      down : (x y ahead w i j a b : ℕ) → a ≡ x + i → b ≡ y + j → ((x < ahead) × (i ≡ 0)) ⊎ ((ahead ≤ x) × (i ≡ w))
          → ((y < ahead) × (j ≡ 0)) ⊎ ((ahead ≤ y) × (j ≡ w)) → x ≤ y → a ≤ b
      down x y ahead w i j a b p q (inl s) (inl t) l = omega arith
      down x y ahead w i j a b p q (inl s) (inr t) l = omega arith
      down x y ahead w i j a b p q (inr s) (inl t) l = omega arith
      down x y ahead w i j a b p q (inr s) (inr t) l = omega arith

-- marks

mark_at : (i : Item) (xs : List Item) (c : ℕ) (b : Bool) → Some c ≡ (if b then Some i.name else first_marked xs)
    → (Some c ≡ first_marked xs → IsItem c xs) → IsItem c (i ∷ xs)
mark_at i xs c true e ih = inl (same_Some c i.name e)
mark_at i xs c false e ih = inr (ih e)

pub mark_in : (xs : List Item) (c : ℕ) → Some c ≡ first_marked xs → IsItem c xs
mark_in [] c e = absurd (none-some c (sym e))
mark_in (i ∷ xs) c e = mark_at i xs c i.marked e (mark_in xs c)

some_or_none : (o : Option ℕ) → (None ≡ o) ⊎ ((c : ℕ) × (Some c ≡ o))
some_or_none None = inl refl
some_or_none (Some c) = inr (c, refl)

-- the first mark of three lists, of which the second was put between the others
module _ (a w k : List Item) (m : Option ℕ) (was : m ≡ first_marked (a ++ k)) where
  mark_first : (c : ℕ) → Some c ≡ first_marked a → m ≡ first_marked (a ++ (w ++ k))
  mark_first c e = was ∙ marked_here a k c e ∙ sym (marked_here a (w ++ k) c e)

  pub mark_none : None ≡ first_marked w → m ≡ first_marked (a ++ (w ++ k))
  mark_none n =
      ⊎_elim (λ (e : None ≡ first_marked a). was ∙ marked_past a k e
      ∙ sym (marked_past a (w ++ k) e ∙ marked_past w k n))
      (λ (h : (c : ℕ) × (Some c ≡ first_marked a)). mark_first h.0 h.1) (some_or_none (first_marked a))

  pub mark_waits : (f : List Item) → ForSome m (λ x. IsItem x f → ⊥) → ((x : ℕ) → IsItem x a → IsItem x f)
      → (c : ℕ) → Some c ≡ first_marked w → Some c ≡ first_marked (a ++ (w ++ k))
  mark_waits f n sub c e =
      ⊎_elim (λ (none : None ≡ first_marked a). e ∙ sym (marked_past a (w ++ k) none ∙ marked_here w k c e))
      (λ (h : (d : ℕ) × (Some d ≡ first_marked a)).
      absurd (n h.0 (was ∙ marked_here a k h.0 h.1 ∙ sym h.1) (sub h.0 (mark_in a h.0 h.1))))
      (some_or_none (first_marked a))

  pub mark_before : (f : List Item) → AreApart (f ++ k) → (ForSome m (λ x. IsItem x f → ⊥) → ⊥)
      → m ≡ first_marked (a ++ (w ++ k))
  mark_before f apart n =
      ⊎_elim (λ (none : None ≡ first_marked a). absurd (n (λ x e i. apart-parts f k apart x i
      (mark_in k x (sym e ∙ was ∙ marked_past a k none)))))
      (λ (h : (c : ℕ) × (Some c ≡ first_marked a)). mark_first h.0 h.1) (some_or_none (first_marked a))

module _ (at : Option ℕ) (waiting items : List Item) (x : ℕ) (none : IsItem x waiting → ⊥) (m : Option ℕ)
    (was : m ≡ first_marked (items_after x items)) where
  pub marked_as_was : None ≡ first_marked waiting → m ≡ first_marked (items_after x (put_at at waiting items))
  marked_as_was n =
      ⊎_elim
      (λ (i : IsItem x (items_before_end at items)).
      mark_none (items_after x (items_before_end at items)) waiting (items_from_end at items) m
      (was ∙ ap first_marked (after_first_was at waiting items x i)) n
      ∙ sym (ap first_marked (after_first at waiting items x i)))
      (λ (o : IsItem x (items_before_end at items) → ⊥).
      was ∙ sym (ap first_marked (after_last at waiting items x none o)))
      (has x (items_before_end at items))

  pub marked_waiting : (c : ℕ) → Some c ≡ first_marked waiting → IsItem x (items_before_end at items)
      → ForSome m (λ y. IsItem y (items_before_end at items) → ⊥)
      → Some c ≡ first_marked (items_after x (put_at at waiting items))
  marked_waiting c e i n =
      mark_waits (items_after x (items_before_end at items)) waiting (items_from_end at items) m
      (was ∙ ap first_marked (after_first_was at waiting items x i)) (items_before_end at items) n
      (λ y. item_after x y (items_before_end at items)) c e
      ∙ sym (ap first_marked (after_first at waiting items x i))

  pub marked_elsewhere : AreApart items
      → (IsItem x (items_before_end at items) × ForSome m (λ y. IsItem y (items_before_end at items) → ⊥) → ⊥)
      → m ≡ first_marked (items_after x (put_at at waiting items))
  marked_elsewhere apart n =
      ⊎_elim
      (λ (i : IsItem x (items_before_end at items)).
      mark_before (items_after x (items_before_end at items)) waiting (items_from_end at items) m
      (was ∙ ap first_marked (after_first_was at waiting items x i)) (items_before_end at items)
      (subst AreApart (sym (front_back at items)) apart) (λ q. n (i, q))
      ∙ sym (ap first_marked (after_first at waiting items x i)))
      (λ (o : IsItem x (items_before_end at items) → ⊥).
      was ∙ sym (ap first_marked (after_last at waiting items x none o)))
      (has x (items_before_end at items))

-- units of weight

module _ (at : Option ℕ) (waiting items : List Item) (unit : ℕ) where
  abbrev lead : List Item
  lead = items_before_end at items

  abbrev tail : List Item
  tail = items_from_end at items

  pub share_first : unit < weight_of lead → share_at unit items ≡ share_at unit (put_at at waiting items)
  share_first l =
      ap (share_at unit) (sym (front_back at items)) ∙ share_here unit lead tail l
      ∙ sym (ap (share_at unit) (put_is at waiting items) ∙ share_here unit lead (waiting ++ tail) l)

  pub share_waiting : weight_of lead ≤ unit → unit - weight_of lead < weight_of waiting
      → share_at (unit - weight_of lead) waiting ≡ share_at unit (put_at at waiting items)
  share_waiting g l =
      sym (ap (share_at unit) (put_is at waiting items) ∙ share_past unit lead (waiting ++ tail) g
      ∙ share_here (unit - weight_of lead) waiting tail l)

  pub share_last : weight_of lead ≤ unit → weight_of waiting ≤ unit - weight_of lead
      → share_at (unit - weight_of waiting) items ≡ share_at unit (put_at at waiting items)
  share_last g l =
      ap (share_at (unit - weight_of waiting)) (sym (front_back at items))
      ∙ share_past (unit - weight_of waiting) lead tail (omega arith)
      ∙ ap (λ (n : ℕ). share_at n tail) (swapped unit (weight_of waiting) (weight_of lead))
      ∙ sym (ap (share_at unit) (put_is at waiting items) ∙ share_past unit lead (waiting ++ tail) g
      ∙ share_past (unit - weight_of lead) waiting tail l)
    where
      swapped : (a b c : ℕ) → a - b - c ≡ a - c - b
      swapped a b c = omega arith

  pub share_weightless : weight_of waiting ≡ 0 → share_at unit items ≡ share_at unit (put_at at waiting items)
  share_weightless e =
      ⊎_elim share_first
      (λ (g : weight_of lead ≤ unit). ap (λ (n : ℕ). share_at n items) (nothing_less unit (weight_of waiting) e)
      ∙ share_last g (omega arith))
      (cases_lt unit (weight_of lead))
    where
      nothing_less : (a b : ℕ) → b ≡ 0 → a ≡ a - b
      nothing_less a b e = omega arith

-- an item renewed, or taken out, in a part

module _ (i : Item) (front back : List Item) where
  pub renew_front : IsItem i.name front → renew i (front ++ back) ≡ renew i front ++ back
  renew_front h =
      (λ j. before_front i.name front back h j ++ i ∷ after_front i.name front back h j)
      ∙ sym (append_assoc (items_before i.name front) (i ∷ items_after i.name front) back)

  pub renew_back : (IsItem i.name front → ⊥) → renew i (front ++ back) ≡ front ++ renew i back
  renew_back n =
      (λ j. before_past i.name front back n j ++ i ∷ after_past i.name front back n j)
      ∙ append_assoc front (items_before i.name back) (i ∷ items_after i.name back)

module _ (x : ℕ) (front back : List Item) where
  pub without_front : IsItem x front → without x (front ++ back) ≡ without x front ++ back
  without_front h =
      (λ j. before_front x front back h j ++ after_front x front back h j)
      ∙ sym (append_assoc (items_before x front) (items_after x front) back)

  pub without_back : (IsItem x front → ⊥) → without x (front ++ back) ≡ front ++ without x back
  without_back n =
      (λ j. before_past x front back n j ++ after_past x front back n j)
      ∙ append_assoc front (items_before x back) (items_after x back)

pub names_renew : (i : Item) (items : List Item) → IsItem i.name items → names (renew i items) ≡ names items
names_renew i items h =
    let p = parted i.name items h in
    ap names (λ j. before_is i.name items h j ++ i ∷ after_is i.name items h j)
    ∙ same p.front i p.item p.back (sym p.named) ∙ ap names (sym p.is)
  where
    same : (front : List Item) (i j : Item) (back : List Item) → i.name ≡ j.name
        → names (front ++ i ∷ back) ≡ names (front ++ j ∷ back)
    same [] i j back e = ap (λ (x : ℕ). x ∷ names back) e
    same (f ∷ front) i j back e = ap (λ (xs : List ℕ). f.name ∷ xs) (same front i j back e)

first_alike : (xs ys : List Item) → names xs ≡ names ys → first_name xs ≡ first_name ys
first_alike [] [] e = refl
first_alike [] (y ∷ ys) e = absurd (never y.name (names ys) e)
  where
    never : (x : ℕ) (xs : List ℕ) → [] ≡ x ∷ xs → ⊥
    never x xs e = cc
first_alike (x ∷ xs) [] e = absurd (never x.name (names xs) e)
  where
    never : (x : ℕ) (xs : List ℕ) → x ∷ xs ≡ [] → ⊥
    never x xs e = cc
first_alike (x ∷ xs) (y ∷ ys) e = ap Some (same x.name y.name (names xs) (names ys) e)
  where
    same : (x y : ℕ) (xs ys : List ℕ) → x ∷ xs ≡ y ∷ ys → x ≡ y
    same x y xs ys e = cc

pub item_without : (x y : ℕ) (items : List Item) → IsItem y (without x items) → IsItem y items
item_without x y items h =
    ⊎_elim (λ (i : IsItem y (items_before x items)). item_before x y items i)
    (λ (i : IsItem y (items_after x items)). item_after x y items i)
    (item-append y (items_before x items) (items_after x items) h)

module _ (at : Option ℕ) (waiting items : List Item) (new : AreNew waiting items) where
  abbrev fore : List Item
  fore = items_before_end at items

  abbrev rear : List Item
  rear = items_from_end at items

  -- one that waits
  pub put_waiting : (x : ℕ) (piece : List Item) → IsItem x waiting
      → put_at at (put_before x piece waiting) items ≡ put_before x piece (put_at at waiting items)
  put_waiting x piece h =
      put_is at (put_before x piece waiting) items
      ∙ regroup fore (items_before x waiting) piece (items_from x waiting) rear
      ∙ (λ j. sym (before_waiting at waiting items new x h) j ++ piece ++ sym (from_waiting at waiting items new x h) j)
    where
      regroup : (a b c d e : List Item) → a ++ (b ++ c ++ d ++ e) ≡ (a ++ b) ++ c ++ (d ++ e)
      regroup a b c d e = simp append_assoc

  pub renew_waiting : (i : Item) → IsItem i.name waiting
      → put_at at (renew i waiting) items ≡ renew i (put_at at waiting items)
  renew_waiting i h =
      put_is at (renew i waiting) items
      ∙ regroup fore (items_before i.name waiting) (i ∷ []) (items_after i.name waiting) rear
      ∙ (λ j. sym (before_waiting at waiting items new i.name h) j ++ i
      ∷ sym (after_waiting at waiting items new i.name h) j)
    where
      regroup : (a b c d e : List Item) → a ++ (b ++ (c ++ d) ++ e) ≡ (a ++ b) ++ (c ++ (d ++ e))
      regroup a b c d e = simp append_assoc

  pub remove_waiting : (x : ℕ) → IsItem x waiting
      → put_at at (without x waiting) items ≡ without x (put_at at waiting items)
  remove_waiting x h =
      put_is at (without x waiting) items
      ∙ regroup fore (items_before x waiting) (items_after x waiting) rear
      ∙ (λ j. sym (before_waiting at waiting items new x h) j ++ sym (after_waiting at waiting items new x h) j)
    where
      regroup : (a b d e : List Item) → a ++ (b ++ d ++ e) ≡ (a ++ b) ++ (d ++ e)
      regroup a b d e = simp append_assoc

-- one of the list
module _ (at : Option ℕ) (waiting items : List Item) (ends : ForSome at (λ x. IsItem x items)) where
  abbrev head : List Item
  head = items_before_end at items

  abbrev hind : List Item
  hind = items_from_end at items

  pub renew_listed : (i : Item) → (IsItem i.name waiting → ⊥) → IsItem i.name items
      → put_at at waiting (renew i items) ≡ renew i (put_at at waiting items)
  renew_listed i none there =
      ⊎_elim
      (λ (h : IsItem i.name head).
      ap (put_at at waiting) (ap (renew i) (sym (front_back at items)) ∙ renew_front i head hind h)
      ∙ put_parts at waiting (renew i head) hind (back_first at items ends)
      (λ x e m. not_front at items ends x e (subst (In x) (names_renew i head h) m))
      ∙ sym (ap (renew i) (put_is at waiting items) ∙ renew_front i head (waiting ++ hind) h))
      (λ (n : IsItem i.name head → ⊥).
      ap (put_at at waiting) (ap (renew i) (sym (front_back at items)) ∙ renew_back i head hind n)
      ∙ put_parts at waiting head (renew i hind)
      (first_alike (renew i hind) hind (names_renew i hind (back_in at waiting items i.name there n))
      ∙ back_first at items ends)
      (not_front at items ends)
      ∙ sym (ap (renew i) (put_is at waiting items) ∙ renew_back i head (waiting ++ hind) n
      ∙ ap (λ (xs : List Item). head ++ xs) (renew_back i waiting hind none)))
      (has i.name head)

-- the end once one from the end on is taken out
record Ends (end : Option ℕ) (front back : List Item) : Type 0 where
  is : first_name back ≡ end
  away : IsAway end front

ended : (at end : Option ℕ) (front back : List Item) (x : ℕ) → first_name back ≡ at → IsAway at front
    → AreApart (front ++ back) → IsItem x back → (at ≡ Some x → end ≡ first_name (items_after x (front ++ back)))
    → (at ≢ Some x → end ≡ at) → Ends end front (without x back)
ended at end front [] x e away apart i here there = absurd i
ended at end front (j ∷ back) x e away apart i here there =
    ⊎_elim
    (λ (q : j.name ≡ x).
    let gone : without x (j ∷ back) ≡ back = λ n. before_at x [] j back q (λ z. z) n
    ++ after_at x [] j back q (λ z. z) n in
    let now : end ≡ first_name back = here (sym e ∙ ap Some q)
    ∙ ap first_name (after_past x front (j ∷ back) (λ m. apart-parts front (j ∷ back) apart x m i)
    ∙ after_at x [] j back q (λ z. z)) in
    record {
      is = ap first_name gone ∙ sym now;
      away = λ y n m. apart-parts front (j ∷ back) apart y m (inr (first_in back y (sym now ∙ n)));
    })
    (λ (n : j.name ≡ x → ⊥).
    let now : end ≡ at = there (λ q. n (same_Some j.name x (e ∙ q))) in
    record {
      is =
          ap first_name (without_back x (j ∷ []) back (λ m. ⊎_elim (λ (q : x ≡ j.name). n (sym q)) (λ (z : ⊥). z) m))
          ∙ e ∙ sym now;
      away = λ y q m. away y (sym now ∙ q) m;
    })
    (cases_eq j.name x)

module _ (at end : Option ℕ) (waiting items : List Item) (ends : ForSome at (λ x. IsItem x items)) (x : ℕ)
    (none : IsItem x waiting → ⊥) (there : IsItem x items) (apart : AreApart items)
    (here : at ≡ Some x → end ≡ first_name (items_after x items)) (elsewhere : at ≢ Some x → end ≡ at) where
  abbrev init : List Item
  init = items_before_end at items

  abbrev rest : List Item
  rest = items_from_end at items

  from_end : (n : IsItem x init → ⊥) → Ends end init (without x rest)
  from_end n =
      ended at end init rest x (back_first at items ends) (not_front at items ends)
      (subst AreApart (sym (front_back at items)) apart) (back_in at waiting items x there n)
      (λ e. here e ∙ ap (λ (xs : List Item). first_name (items_after x xs)) (sym (front_back at items))) elsewhere

  pub remove_listed : put_at end waiting (without x items) ≡ without x (put_at at waiting items)
  remove_listed =
      ⊎_elim
      (λ (h : IsItem x init).
      let same : end ≡ at = elsewhere (λ e. not_front at items ends x e h) in
      ap (put_at end waiting) (ap (without x) (sym (front_back at items)) ∙ without_front x init rest h)
      ∙ put_parts end waiting (without x init) rest (back_first at items ends ∙ sym same)
      (λ y e m. not_front at items ends y (sym same ∙ e) (item_without x y init m))
      ∙ sym (ap (without x) (put_is at waiting items) ∙ without_front x init (waiting ++ rest) h))
      (λ (n : IsItem x init → ⊥).
      ap (put_at end waiting) (ap (without x) (sym (front_back at items)) ∙ without_back x init rest n)
      ∙ put_parts end waiting init (without x rest) (from_end n).is (from_end n).away
      ∙ sym (ap (without x) (put_is at waiting items) ∙ without_back x init (waiting ++ rest) n
      ∙ ap (λ (xs : List Item). init ++ xs) (without_back x waiting rest none)))
      (has x init)

  pub end_left : ForSome end (λ y. IsItem y (without x items))
  end_left y e =
      ⊎_elim
      (λ (h : IsItem x init).
      let same : end ≡ at = elsewhere (λ q. not_front at items ends x q h) in
      subst (IsItem y) (sym (ap (without x) (sym (front_back at items)) ∙ without_front x init rest h))
      (item-back y (without x init) rest (first_in rest y (back_first at items ends ∙ sym same ∙ e))))
      (λ (n : IsItem x init → ⊥).
      subst (IsItem y) (sym (ap (without x) (sym (front_back at items)) ∙ without_back x init rest n))
      (item-back y init (without x rest) (first_in (without x rest) y ((from_end n).is ∙ e))))
      (has x init)

-- what is lent of a list up to an end
pub record Lent (at : Option ℕ) (lent behind front back : List Item) : Type 0 where
  pub rest : List Item
  pub is : front ≡ items_before_end at lent ++ rest
  pub some : 0 < length (items_before_end at lent)
  pub next : first_name (items_from_end at lent ++ behind) ≡ first_name (rest ++ back)

pub lent_front : (at : Option ℕ) (lent behind front back : List Item) → lent ++ behind ≡ front ++ back
    → 0 < length lent → 0 < length front → first_name back ≡ at → IsAway at front → Lent at lent behind front back
lent_front None lent behind front [] e s t h away = record {
  rest = behind;
  is = sym (append-nil front) ∙ sym e;
  some = s;
  next = ap first_name (sym (append-nil behind));
}
lent_front None lent behind front (j ∷ back) e s t h away = absurd (none-some j.name (sym h))
lent_front (Some y) lent behind front [] e s t h away = absurd (none-some y h)
lent_front (Some y) lent behind front (j ∷ back) e s t h away =
    let named : j.name ≡ y = same_Some j.name y h in
    let n : IsItem y front → ⊥ = away y refl in
    let all_before : items_before y (lent ++ behind) ≡ front = ap (items_before y) e
    ∙ before_at y front j back named n in
    let all_from : items_from y (lent ++ behind) ≡ j ∷ back = ap (items_from y) e ∙ from_at y front j back named n in
    ⊎_elim
    (λ (i : IsItem y lent).
    let is : items_before y lent ≡ front = sym (before_front y lent behind i) ∙ all_before in
    record {
      rest = [];
      is = sym is ∙ sym (append-nil (items_before y lent));
      some = subst (λ (xs : List Item). 0 < length xs) (sym is) t;
      next = ap first_name (sym (from_front y lent behind i) ∙ all_from);
    })
    (λ (o : IsItem y lent → ⊥).
    record {
      rest = items_before y behind;
      is = sym all_before ∙ before_past y lent behind o
          ∙ ap (λ (xs : List Item). xs ++ items_before y behind) (sym (before_none y lent o));
      some = subst (λ (xs : List Item). 0 < length xs) (sym (before_none y lent o)) s;
      next =
          ap (λ (xs : List Item). first_name (xs ++ behind)) (from_none y lent o)
          ∙ ap first_name (sym (parts y behind))
          ∙ ap (λ (xs : List Item). first_name (items_before y behind ++ xs))
          (sym (from_past y lent behind o) ∙ all_from);
    })
    (has y lent)

-- what waits, or what it waits for, changed

pub heavier : (y : ℕ) (piece items : List Item) → weight_of (put_before y piece items)
    ≡ weight_of items + weight_of piece
heavier y piece items =
    let one = weight-append (items_before y items ++ piece) (items_from y items) in
    let two = weight-append (items_before y items) piece in
    let three = weight-append (items_before y items) (items_from y items) in
    let four = ap weight_of (parts y items) in
    omega arith

pub old_or_new : (x y : ℕ) (piece items : List Item) → IsItem x (put_before y piece items)
    → IsItem x items ⊎ IsItem x piece
old_or_new x y piece items h =
    ⊎_elim
    (λ (k : IsItem x (items_before y items ++ piece)).
    ⊎_elim (λ (i : IsItem x (items_before y items)). inl (item_before y x items i)) (λ (i : IsItem x piece). inr i)
    (item-append x (items_before y items) piece k))
    (λ (i : IsItem x (items_from y items)). inl (item_from y x items i))
    (item-append x (items_before y items ++ piece) (items_from y items) h)

pub lighter : (x : ℕ) (items : List Item) → weight_of (without x items) ≤ weight_of items
lighter x items =
    let one = weight-append (items_before x items) (items_after x items) in
    let two = weight-append (items_before x items) (items_from x items) in
    let three = ap weight_of (parts x items) in
    let four = less (items_from x items) in
    omega arith
  where
    less : (xs : List Item) → weight_of (drop 1 xs) ≤ weight_of xs
    less [] = omega arith
    less (i ∷ xs) = omega arith

pub nothing_waits : (waiting items : List Item) → waiting ≡ [] → weight_of items < 2 ^ 31
    → IsBuffered None waiting items
nothing_waits waiting items e l = record {
  there = λ x q. absurd (none-some x q);
  new = λ x i j. subst (IsItem x) e i;
  light = let w = ap weight_of e in omega arith;
}

pub widened : (at : Option ℕ) (waiting items piece all now : List Item) (name : ℕ) → IsBuffered at waiting items
    → put_at at waiting items ≡ all → AreNew piece all → weight_of all + weight_of piece < 2 ^ 31
    → now ≡ put_before name piece waiting → IsBuffered at now items
widened at waiting items piece all now name b is new light e = record {
  there = b.there;
  new = λ x i j. ⊎_elim (λ (h : IsItem x waiting). b.new x h j)
      (λ (h : IsItem x piece). new x h (subst (IsItem x) is (in_all at waiting items x j)))
      (old_or_new x name piece waiting (subst (IsItem x) e i));
  light =
      let one = ap weight_of e in
      let two = heavier name piece waiting in
      let three = weight_all at waiting items in
      let four = ap weight_of is in
      omega arith;
}

pub begun : (name : ℕ) (now items all piece : List Item) → items ≡ all → now ≡ piece → IsItem name all
    → AreNew piece all → weight_of all + weight_of piece < 2 ^ 31 → IsBuffered (Some name) now items
begun name now items all piece is e there new light = record {
  there = λ x q. subst (λ (y : ℕ). IsItem y items) (same_Some name x q) (subst (IsItem name) (sym is) there);
  new = λ x i j. new x (subst (IsItem x) e i) (subst (IsItem x) is j);
  light = let one = ap weight_of is in let two = ap weight_of e in omega arith;
}

pub fewer_wait : (at : Option ℕ) (waiting items : List Item) (x : ℕ) → IsBuffered at waiting items
    → IsBuffered at (without x waiting) items
fewer_wait at waiting items x b = record {
  there = b.there;
  new = λ y i j. b.new y (item_without x y waiting i) j;
  light = let l = lighter x waiting in let m = b.light in omega arith;
}

pub renewed_waits : (at : Option ℕ) (waiting items : List Item) (i : Item) → IsBuffered at waiting items
    → IsItem i.name waiting → weight_of (put_at at (renew i waiting) items) < 2 ^ 31
    → IsBuffered at (renew i waiting) items
renewed_waits at waiting items i b h light = record {
  there = b.there;
  new = λ y k j. b.new y (subst (In y) (names_renew i waiting h) k) j;
  light = let e = weight_all at (renew i waiting) items in omega arith;
}

pub renewed_list : (at : Option ℕ) (waiting items : List Item) (i : Item) → IsBuffered at waiting items
    → IsItem i.name items → weight_of (put_at at waiting (renew i items)) < 2 ^ 31
    → IsBuffered at waiting (renew i items)
renewed_list at waiting items i b h light = record {
  there = λ x e. subst (In x) (sym (names_renew i items h)) (b.there x e);
  new = λ y k j. b.new y k (subst (In y) (names_renew i items h) j);
  light = let e = weight_all at waiting (renew i items) in omega arith;
}

pub left_list : (at : Option ℕ) (waiting items : List Item) (x : ℕ) → (end : Option ℕ) → IsBuffered at waiting items
    → ForSome end (λ y. IsItem y (without x items)) → IsBuffered end waiting (without x items)
left_list at waiting items x end b h = record {
  there = h;
  new = λ y k j. b.new y k (item_without x y items j);
  light = let l = lighter x items in let m = b.light in omega arith;
}

-- what is lent of the list where an item stands before the end
module _ (at : Option ℕ) (waiting items : List Item) (ends : ForSome at (λ x. IsItem x items)) (x : ℕ)
    (there : IsItem x (items_before_end at items)) (lent behind cut : List Item) (next result : Option ℕ)
    (is : items_from x items ≡ lent ++ behind) (some : 0 < length lent) (cut_is : cut ≡ items_before_end at lent)
    (next_is : next ≡ first_name (items_from_end at lent ++ behind))
    (here : (back : List Item) → first_name back ≡ at → next ≡ at → result ≡ first_name (waiting ++ back))
    (elsewhere : next ≢ at → result ≡ next) where
  abbrev fore_part : List Item
  fore_part = items_from x (items_before_end at items)

  abbrev hind_part : List Item
  hind_part = items_from_end at items

  parted_lent : Lent at lent behind fore_part hind_part
  parted_lent =
      lent_front at lent behind fore_part hind_part (sym is ∙ from_first_was at waiting items x there) some
      (let e = ap (λ (xs : List Item). length xs) (from_is x (items_before_end at items) there) in omega arith)
      (back_first at items ends)
      (λ y e m. not_front at items ends y e (item_from x y (items_before_end at items) m))

  pub lent_some : 0 < length cut
  lent_some = subst (λ (xs : List Item). 0 < length xs) (sym cut_is) parted_lent.some

  pub lent_whole : (rest : List Item) × (items_from x (put_at at waiting items) ≡ cut ++ rest)
      × (result ≡ first_name rest)
  lent_whole = (
    parted_lent.rest ++ (waiting ++ hind_part),
    from_first at waiting items x there ∙ ap (λ (xs : List Item). xs ++ (waiting ++ hind_part)) parted_lent.is
        ∙ append_assoc (items_before_end at lent) parted_lent.rest (waiting ++ hind_part)
        ∙ ap (λ (xs : List Item). xs ++ (parted_lent.rest ++ (waiting ++ hind_part))) (sym cut_is),
    passed parted_lent.rest waiting hind_part at next result (back_first at items ends)
        (λ y e m. not_front at items ends y e (item_from x y (items_before_end at items)
        (subst (IsItem y) (sym parted_lent.is) (item-back y (items_before_end at lent) parted_lent.rest m))))
        (next_is ∙ parted_lent.next) (here hind_part (back_first at items ends)) elsewhere,
  )
