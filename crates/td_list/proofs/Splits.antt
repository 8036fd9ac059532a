-- A chunk parted in two: the new chunk stands directly before the old one, and the list is as before.
use Rattle.std.proofs.Common.{◌≡◌, ◌+◌, ◌<◌, ◌≤◌, ◌^◌, ℕ, List, [], ◌∷◌, ◌++◌, false, length, take}
use Rattle.std.proofs.Common.{drop, get_or, set, refl, sym, ap, ◌∙◌, subst, inl, ⊎_elim, arith}
use Rattle.std.proofs.Common.{append_assoc, take-append-drop, length-drop}
use Rattle.std.proofs.lemmas.List.{get_or-set_same, length-take-le}
use Rattle.std.proofs.lemmas.Bool.{cases_lt}
use Rattle.td_base.specs.Lists.{In}
use Rattle.td_base.proofs.Lists.{In-back}
use Rattle.td_list.specs.Items.{Item, IsItem, AreApart, put_before, renew, items_before, items_after, weight_of}
use Rattle.td_list.specs.Index.{Parts, chunk_at, joined, all_items, chunks_before, chunks_after, summary, IsIndex}
use Rattle.td_list.proofs.Names.{weight-append, weight-parts, item-append, item-front, item-back}
use Rattle.td_list.proofs.Names.{item_in_front, item_in_back, apart-parts, apart-front, apart-back}
use Rattle.td_list.proofs.Parted.{Parted, before_is, from_is, before_at, after_at}
use Rattle.td_list.proofs.Joined.{q, located, not_before, not_after, not_back, within, told, apart_in, homed}
use Rattle.td_list.proofs.Joined.{all_weight, joined-set, before_joined, after_joined, renewed_is, changed_all}
use Rattle.td_list.proofs.Changes.{fewer, now, weight_around}
use Rattle.td_list.proofs.Added.{added_index, added_all}

-- neither side of a cut weighs more than the whole
pub side_weight : (cut place : ℕ) (side items : List Item) → (place < cut → side ≡ drop cut items)
    → (cut ≤ place → side ≡ take cut items) → weight_of side ≤ weight_of items
side_weight cut place side items back front =
    let parts = weight-parts cut items in
    ⊎_elim (λ (h : place < cut). let e = ap weight_of (back h) in omega arith)
    (λ (h : cut ≤ place). let e = ap weight_of (front h) in omega arith) (cases_lt place cut)

-- a chunk to be parted, a free number for its front, and where it is cut
pub record Parting (p : Parts) : Type 0 where
  pub index : IsIndex p
  pub chunk : ℕ
  pub there : IsItem chunk p.order
  pub number : ℕ
  pub rest : List ℕ
  pub free : p.free ≡ rest ++ number ∷ []
  pub cut : ℕ
  pub low : 0 < cut
  pub high : cut < length (chunk_at p.chunks chunk)

module _ (p : Parts) (a : Parting p) where
  abbrev old : List Item
  old = chunk_at p.chunks a.chunk

  abbrev at : Parted a.chunk p.order
  at = q p a.index a.chunk a.there

  abbrev pub first : List Item
  first = take a.cut old

  abbrev pub second : List Item
  second = drop a.cut old

  abbrev f : List Item
  f = at.front

  abbrev i : Item
  i = at.item

  abbrev b : List Item
  b = at.back

  abbrev e : Item
  e = record { name = a.number; weight = 0; marked = false }

  d_unused : IsItem a.number p.order → ⊥
  d_unused =
      (a.index.unused a.number
      (subst (In a.number) (sym a.free) (In-back a.number a.rest (a.number ∷ []) (inl refl)))).1

  other_number : a.chunk ≡ a.number → ⊥
  other_number h = d_unused (subst (λ (y : ℕ). IsItem y p.order) h a.there)

  -- the order after the three steps
  abbrev pub order_one : List Item
  order_one = put_before a.chunk (e ∷ []) p.order

  abbrev pub order_two : List Item
  order_two = renew (summary a.chunk second) order_one

  abbrev pub order_three : List Item
  order_three = renew (summary a.number first) order_two

  one_is : order_one ≡ (f ++ e ∷ []) ++ i ∷ b
  one_is = λ k. before_is a.chunk p.order a.there k ++ e ∷ [] ++ from_is a.chunk p.order a.there k

  not_front : IsItem a.chunk (f ++ e ∷ []) → ⊥
  not_front h =
      ⊎_elim
      (λ (k : IsItem a.chunk f). at.away k)
      (λ (k : IsItem a.chunk (e ∷ [])). ⊎_elim (λ (x : a.chunk ≡ a.number). other_number x) (λ (z : ⊥). z) k)
      (item-append a.chunk f (e ∷ []) h)

  two_is : order_two ≡ f ++ e ∷ (summary a.chunk second ∷ b)
  two_is =
      (λ k. items_before a.chunk (one_is k) ++ summary a.chunk second ∷ items_after a.chunk (one_is k))
      ∙ (λ k. before_at a.chunk (f ++ e ∷ []) i b at.named not_front k
      ++ summary a.chunk second ∷ after_at a.chunk (f ++ e ∷ []) i b at.named not_front k)
      ∙ append_assoc f (e ∷ []) (summary a.chunk second ∷ b)

  d_not_front : IsItem a.number f → ⊥
  d_not_front h = d_unused (subst (IsItem a.number) (sym at.is) (item-front a.number f (i ∷ b) h))

  pub three_is : order_three ≡ f ++ summary a.number first ∷ (summary a.chunk second ∷ b)
  three_is =
      (λ k. items_before a.number (two_is k) ++ summary a.number first ∷ items_after a.number (two_is k))
      ∙ (λ k. before_at a.number f e (summary a.chunk second ∷ b) refl d_not_front k
      ++ summary a.number first ∷ after_at a.number f e (summary a.chunk second ∷ b) refl d_not_front k)

  pub there_two : IsItem a.number order_two
  there_two = subst (IsItem a.number) (sym two_is) (item-back a.number f (e ∷ (summary a.chunk second ∷ b)) (inl refl))

  pub there_one : IsItem a.chunk order_one
  there_one = subst (IsItem a.chunk) (sym one_is) (item-back a.chunk (f ++ e ∷ []) (i ∷ b) (inl (sym at.named)))

  old_weight : weight_of p.order ≡ weight_of f + (weight_of old + weight_of b)
  old_weight =
      let m = ap weight_of at.is in
      let w = weight-append f (i ∷ b) in
      let t = ap (λ (j : Item). j.weight) (told p a.index a.chunk a.there) in
      omega arith

  pub two_light : weight_of order_two < 2 ^ 31
  two_light =
      let l = a.index.light in
      let all = all_weight p a.index in
      let o = old_weight in
      let h = weight-parts a.cut old in
      let m = ap weight_of two_is in
      let w = weight-append f (e ∷ (summary a.chunk second ∷ b)) in
      omega arith

  pub three_light : weight_of order_three < 2 ^ 31
  three_light =
      let l = a.index.light in
      let all = all_weight p a.index in
      let o = old_weight in
      let h = weight-parts a.cut old in
      let m = ap weight_of three_is in
      let w = weight-append f (summary a.number first ∷ (summary a.chunk second ∷ b)) in
      omega arith

  -- first the chunk without its front, then the front as a chunk
  abbrev p1 : Parts
  p1 = now p a.index a.chunk a.there second

  second_light : weight_of (chunks_before a.chunk p ++ second ++ chunks_after a.chunk p) + weight_of first
      ≡ weight_of (all_items p)
  second_light = let w = weight_around p a.index a.chunk a.there second in let h = weight-parts a.cut old in omega arith

  whole_apart : AreApart (first ++ second)
  whole_apart = subst AreApart (sym (take-append-drop a.cut old)) (apart_in p a.index a.chunk a.there)

  index1 : IsIndex p1
  index1 = fewer p a.index a.chunk a.there second (let l = length-drop a.cut old in omega arith)
      (apart-back first second whole_apart) (λ x j. item_in_back x a.cut old j)
      (let l = a.index.light in let s = second_light in omega arith)

  order1 : p1.order ≡ f ++ (summary a.chunk second ∷ b)
  order1 = renewed_is p a.index a.chunk a.there (summary a.chunk second) refl

  pub split_index : (next : List ℕ) → length next ≡ length p.homes
      → ((x : ℕ) → IsItem x first → get_or next x 0 ≡ a.number)
      → ((x : ℕ) → (IsItem x first → ⊥) → get_or next x 0 ≡ get_or p.homes x 0)
      → IsIndex (record p {
        chunks = set (set p.chunks a.chunk second) a.number first;
        order = f ++ summary a.number first ∷ (summary a.chunk second ∷ b);
        homes = next;
        free = a.rest;
      })
  split_index next long inside outside =
      added_index p1 index1 f (summary a.chunk second ∷ b) order1 a.number a.rest a.free first next
      (let l = length-take-le a.cut old (omega arith) in omega arith) (apart-front first second whole_apart)
      (λ x j k. ⊎_elim
      (λ (m : IsItem x (chunks_before a.chunk p ++ second)). ⊎_elim
      (λ (n : IsItem x (chunks_before a.chunk p)). not_before p a.index a.chunk a.there x n
      (item_in_front x a.cut old j)) (λ (n : IsItem x second). apart-parts first second whole_apart x j n)
      (item-append x (chunks_before a.chunk p) second m))
      (λ (m : IsItem x (chunks_after a.chunk p)). not_after p a.index a.chunk a.there x m (item_in_front x a.cut old j))
      (item-append x (chunks_before a.chunk p ++ second) (chunks_after a.chunk p)
      (subst (IsItem x) (changed_all p a.index a.chunk a.there second) k)))
      (λ x j. (
        subst (λ (n : ℕ). x < n) (sym long) (homed p a.index a.chunk a.there x
            (item_in_front x a.cut old j)).0,
        inside x j,
      ))
      (λ x h. (subst (λ (n : ℕ). x < n) (sym long) h, λ none. outside x none))
      (let m = ap weight_of (changed_all p a.index a.chunk a.there second) in let s = second_light in
      let l = a.index.light in omega arith)

  pub split_all : joined (set (set p.chunks a.chunk second) a.number first)
      (f ++ summary a.number first ∷ (summary a.chunk second ∷ b)) ≡ all_items p
  split_all =
      added_all p1 index1 f (summary a.chunk second ∷ b) order1 a.number a.rest a.free first
      ∙ (λ k. (joined-set p.chunks a.chunk second f at.away ∙ sym (before_joined p a.index a.chunk a.there)) k ++ first
      ++ (get_or-set_same p.chunks a.chunk second [] (within p a.index a.chunk a.there) k
      ++ (joined-set p.chunks a.chunk second b (not_back p a.index a.chunk a.there)
      ∙ sym (after_joined p a.index a.chunk a.there)) k))
      ∙ regroup (chunks_before a.chunk p) first second (chunks_after a.chunk p)
      ∙ ap (λ (xs : List Item). chunks_before a.chunk p ++ xs ++ chunks_after a.chunk p) (take-append-drop a.cut old)
      ∙ sym (located p a.index a.chunk a.there)
    where
      regroup : (w x y z : List Item) → w ++ x ++ (y ++ z) ≡ w ++ (x ++ y) ++ z
      regroup w x y z = simp append_assoc
