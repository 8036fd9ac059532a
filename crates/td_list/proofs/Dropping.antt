-- Chunks taken out one by one, from the one after a chunk up to an end.
use Rattle.std.proofs.Common.{◌≡◌, ◌≢◌, ◌<◌, ℕ, List, [], ◌∷◌, ◌++◌, length, take, drop, set, refl, sym, ap, ◌∙◌}
use Rattle.std.proofs.Common.{subst, inl, inr, ⊎_elim, arith, append_assoc, length-append, Option, Some, None}
use Rattle.std.proofs.lemmas.List.{get_or-set_other, append-nil}
use Rattle.std.specs.Option.{ForSome}
use Rattle.td_list.specs.Items.{Item, IsItem, AreApart, items_before, items_from}
use Rattle.td_list.specs.Items.{items_after, items_from_end, first_name, without}
use Rattle.td_list.specs.Index.{Parts, chunk_at, IsIndex}
use Rattle.td_list.proofs.Names.{item-append, item-front, item-back, apart-parts, apart-back}
use Rattle.td_list.proofs.Parted.{Parted, parted, before_is, from_is, before_at, after_at, from_at}

-- the chunks up to one, and those from an end on
abbrev pub front_of : ℕ → Parts → List Item
front_of c p = items_before c p.order ++ take 1 (items_from c p.order)

-- how far the chunks have been taken out
pub record IsDropping (c : ℕ) (end : Option ℕ) (was p : Parts) : Type 0 where
  pub index : IsIndex p
  pub mid : List Item
  pub order : p.order ≡ front_of c was ++ (mid ++ items_from_end end was.order)
  pub kept : (d : ℕ) → IsItem d p.order → chunk_at p.chunks d ≡ chunk_at was.chunks d
  pub homes : p.homes ≡ was.homes

module _ (c : ℕ) (end : Option ℕ) (was : Parts) (there : IsItem c was.order) where
  abbrev f : List Item
  f = (parted c was.order there).front

  abbrev i : Item
  i = (parted c was.order there).item

  abbrev b : List Item
  b = (parted c was.order there).back

  pub front_is : front_of c was ≡ f ++ i ∷ []
  front_is = λ k. before_is c was.order there k ++ take 1 (from_is c was.order there k)

  pub whole : (xs : List Item) → front_of c was ++ xs ≡ f ++ i ∷ xs
  whole xs = ap (λ (ys : List Item). ys ++ xs) front_is ∙ append_assoc f (i ∷ []) xs

  -- the end is one of those that follow
  pub end_follows : ForSome end (λ e. IsItem e (items_after c was.order)) → AreApart was.order → (mid : List Item)
      × (was.order ≡ front_of c was ++ (mid ++ items_from_end end was.order))
  end_follows = by_end end
    where
      by_end : (o : Option ℕ) → ForSome o (λ e. IsItem e (items_after c was.order)) → AreApart was.order
          → (mid : List Item) × (was.order ≡ front_of c was ++ (mid ++ items_from_end o was.order))
      by_end None h a = (
        b,
        (parted c was.order there).is ∙ sym (whole b)
            ∙ ap (λ (ys : List Item). front_of c was ++ ys) (sym (append-nil b)),
      )
      by_end (Some e) h a =
          let k : IsItem e b = subst (IsItem e) (ap (drop 1) (from_is c was.order there)) (h e refl) in
          let r = parted e b k in
          let apart : AreApart (f ++ i ∷ b) = subst AreApart (parted c was.order there).is a in
          let order : was.order ≡ (f ++ i ∷ r.front) ++ r.item ∷ r.back = (parted c was.order there).is
          ∙ ap (λ (ys : List Item). f ++ i ∷ ys) r.is ∙ sym (append_assoc f (i ∷ r.front) (r.item ∷ r.back)) in
          let behind : IsItem e (r.item ∷ r.back) = inl (sym r.named) in
          let from : items_from e was.order ≡ r.item ∷ r.back = ap (items_from e) order
          ∙ from_at e (f ++ i ∷ r.front) r.item r.back r.named
          (λ m. apart-parts (f ++ i ∷ r.front) (r.item ∷ r.back) (subst AreApart order a) e m behind) in (
            r.front,
            (parted c was.order there).is ∙ ap (λ (ys : List Item). f ++ i ∷ ys) r.is
                ∙ sym (whole (r.front ++ r.item ∷ r.back)) ∙ ap (λ (ys : List Item). front_of c was ++ (r.front ++ ys))
                (sym from),
          )

-- an end and what stands from it on
abbrev IsEnd : Option ℕ → List Item → Type 0
IsEnd None back = back ≡ []
IsEnd (Some e) back = first_name back ≡ Some e

pub end_is : (end : Option ℕ) (order : List Item) → ForSome end (λ e. IsItem e order)
    → IsEnd end (items_from_end end order)
end_is None order h = refl
end_is (Some e) order h = ap first_name (from_is e order (h e refl)) ∙ ap Some (parted e order (h e refl)).named

first_item : (x : ℕ) (xs : List Item) → first_name xs ≡ Some x → IsItem x xs
first_item x [] e = absurd (none_not_some x e)
  where
    none_not_some : (x : ℕ) → None ≡ Some x → ⊥
    none_not_some x e = cc
first_item x (i ∷ xs) e = inl (sym (same i.name x e))
  where
    same : (a b : ℕ) → Some a ≡ Some b → a ≡ b
    same a b e = cc

-- where the end follows, nothing is left between
pub none_between : (end : Option ℕ) (mid back : List Item) → IsEnd end back → AreApart (mid ++ back)
    → first_name (mid ++ back) ≡ end → mid ≡ []
none_between end [] back h a e = refl
none_between None (m ∷ mid) back h a e = absurd (some_not_none m.name e)
  where
    some_not_none : (x : ℕ) → Some x ≡ None → ⊥
    some_not_none x e = cc
none_between (Some x) (m ∷ mid) back h a e = absurd
    (apart-parts (m ∷ mid) back a x (first_item x (m ∷ mid) e) (first_item x back h))

-- and else the chunk that follows is between
pub one_between : (end : Option ℕ) (mid back : List Item) (x : ℕ) → IsEnd end back → first_name (mid ++ back) ≡ Some x
    → end ≢ Some x → (m : Item) × (rest : List Item) × (mid ≡ m ∷ rest) × (m.name ≡ x)
one_between end (m ∷ mid) back x h e n = (m, mid, refl, same m.name x e)
  where
    same : (a b : ℕ) → Some a ≡ Some b → a ≡ b
    same a b e = cc
one_between None [] back x h e n = absurd (none_not_some x (ap first_name (sym h) ∙ e))
  where
    none_not_some : (x : ℕ) → None ≡ Some x → ⊥
    none_not_some x e = cc
one_between (Some y) [] back x h e n = absurd (n (sym h ∙ e))

pub without_one : (front : List Item) (m : Item) (back : List Item) (x : ℕ) → m.name ≡ x
    → AreApart (front ++ m ∷ back) → without x (front ++ m ∷ back) ≡ front ++ back
without_one front m back x named a =
    (λ k. before_at x front m back named away k ++ after_at x front m back named away k)
  where
    away : IsItem x front → ⊥
    away h = apart-parts front (m ∷ back) a x h (inl (sym named))

module _ (c : ℕ) (end : Option ℕ) (was : Parts) (there : IsItem c was.order)
    (ends : ForSome end (λ e. IsItem e was.order)) (p : Parts) (d : IsDropping c end was p) where
  abbrev eb : List Item
  eb = items_from_end end was.order

  abbrev r : Parted c was.order
  r = parted c was.order there

  order_is : p.order ≡ r.front ++ r.item ∷ (d.mid ++ eb)
  order_is = d.order ∙ whole c end was there (d.mid ++ eb)

  pub still_there : IsItem c p.order
  still_there = subst (IsItem c) (sym order_is) (item-back c r.front (r.item ∷ (d.mid ++ eb)) (inl (sym r.named)))

  pub follows : items_after c p.order ≡ d.mid ++ eb
  follows = ap (items_after c) order_is ∙ after_at c r.front r.item (d.mid ++ eb) r.named r.away

  apart_now : AreApart (front_of c was ++ (d.mid ++ eb))
  apart_now = subst AreApart d.order d.index.apart

  pub end_behind : ForSome end (λ e. IsItem e (items_after c p.order))
  end_behind = by_end end ends follows
    where
      by_end : (o : Option ℕ) → ForSome o (λ e. IsItem e was.order) → items_after c p.order ≡ d.mid
          ++ items_from_end o was.order → ForSome o (λ e. IsItem e (items_after c p.order))
      by_end None h q = λ x n. absurd (no x n)
        where
          no : (x : ℕ) → None ≡ Some x → ⊥
          no x n = cc
      by_end (Some e) h q = λ x n. subst (λ (y : ℕ). IsItem y (items_after c p.order)) (same e x n)
          (subst (IsItem e) (sym q) (item-back e d.mid (items_from e was.order)
          (first_item e (items_from e was.order) (end_is (Some e) was.order h))))
        where
          same : (a b : ℕ) → Some a ≡ Some b → a ≡ b
          same a b n = cc

  -- at the end
  pub dropped_all : first_name (items_after c p.order) ≡ end → p.order ≡ front_of c was ++ eb
  dropped_all e =
      d.order ∙ ap (λ (xs : List Item). front_of c was ++ (xs ++ eb))
      (none_between end d.mid eb (end_is end was.order ends) (apart-back (front_of c was) (d.mid ++ eb) apart_now)
      (ap first_name (sym follows) ∙ e))

  -- one more
  module _ (x : ℕ) (next : first_name (items_after c p.order) ≡ Some x) (not_end : end ≢ Some x) where
    pub next_there : IsItem x p.order
    next_there = subst (IsItem x) (sym d.order) (item-back x (front_of c was) (d.mid ++ eb)
        (subst (IsItem x) follows (first_item x (items_after c p.order) next)))

    pub one_dropped : (q : Parts) → IsIndex q → q.order ≡ without x p.order → q.chunks ≡ set p.chunks x [] → q.homes
        ≡ p.homes → IsDropping c end was q
    one_dropped q index order chunks homes =
        let o = one_between end d.mid eb x (end_is end was.order ends) (ap first_name (sym follows) ∙ next) not_end in
        let was_order : p.order ≡ front_of c was ++ o.0 ∷ (o.1 ++ eb) = d.order
        ∙ ap (λ (xs : List Item). front_of c was ++ (xs ++ eb)) o.2 in
        let now_order : q.order ≡ front_of c was ++ (o.1 ++ eb) =
        order ∙ ap (without x) was_order ∙ without_one (front_of c was) o.0 (o.1 ++ eb) x o.3
        (subst AreApart was_order d.index.apart) in
        record {
          index = index;
          mid = o.1;
          order = now_order;
          kept = λ y m.
              let stays : IsItem y p.order = subst (IsItem y) (sym was_order)
              (⊎_elim (λ (k : IsItem y (front_of c was)). item-front y (front_of c was) (o.0 ∷ (o.1 ++ eb)) k)
              (λ (k : IsItem y (o.1 ++ eb)). item-back y (front_of c was) (o.0 ∷ (o.1 ++ eb)) (inr k))
              (item-append y (front_of c was) (o.1 ++ eb) (subst (IsItem y) now_order m))) in
              let other : y ≢ x = λ e. gone y o.0 (o.1 ++ eb) o.3 (subst AreApart was_order d.index.apart) e
              (subst (IsItem y) now_order m) in
              ap (λ (cs : List (List Item)). chunk_at cs y) chunks ∙ get_or-set_other p.chunks x y [] [] other
              ∙ d.kept y stays;
          homes = homes ∙ d.homes;
        }
      where
        gone : (y : ℕ) (m : Item) (back : List Item) → m.name ≡ x → AreApart (front_of c was ++ m ∷ back) → y ≡ x
            → IsItem y (front_of c was ++ back) → ⊥
        gone y m back named a e h =
            ⊎_elim (λ (k : IsItem y (front_of c was)). apart-parts (front_of c was) (m ∷ back) a y k
            (inl (e ∙ sym named)))
            (λ (k : IsItem y back). apart-parts (m ∷ []) back (apart-back (front_of c was) (m ∷ back) a) y
            (inl (e ∙ sym named)) k)
            (item-append y (front_of c was) back h)

    pub fewer_left : (q : Parts) → q.order ≡ without x p.order → length q.order < length p.order
    fewer_left q order =
        let k = next_there in
        let s = parted x p.order k in
        let one = ap (λ (xs : List Item). length xs) order in
        let two = ap (λ (xs : List Item). length xs) (λ i. before_is x p.order k i ++ drop 1 (from_is x p.order k i)) in
        let three = length-append s.front s.back in
        let four = ap (λ (xs : List Item). length xs) s.is in
        let five = length-append s.front (s.item ∷ s.back) in
        omega arith
