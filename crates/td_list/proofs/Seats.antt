-- An item in its chunk, and in the whole list.
use Rattle.std.proofs.Common.{◌≡◌, ◌+◌, ◌<◌, ◌≤◌, ℕ, zero, suc, List, [], ◌∷◌, ◌++◌, length, take, drop}
use Rattle.std.proofs.Common.{get_or, nat_lt, refl, sym, ap, ◌∙◌, subst, ⊎_elim, arith, append_assoc}
use Rattle.std.proofs.Common.{length-append, take-append-drop, inl, inr, Some, None}
use Rattle.std.proofs.lemmas.List.{append-nil, drop_all, take_all}
use Rattle.std.proofs.lemmas.Bool.{cases_lt, lt-ltb, le-ltb}
use Rattle.td_list.specs.Items.{Item, IsItem, items_before, items_from, items_after, place_of}
use Rattle.td_list.specs.Items.{weight_of, AreNew, put_before, renew, without, last_name}
use Rattle.td_list.specs.Index.{Parts, chunk_at, joined, all_items, chunks_before, chunks_after, IsIndex}
use Rattle.td_list.specs.Places.{nothing}
use Rattle.td_list.proofs.Ends.{last-append}
use Rattle.td_list.proofs.Names.{weight-append, item-append}
use Rattle.td_list.proofs.Parted.{Parted, parted, before_at, from_at, before_is, from_is, after_is}
use Rattle.td_list.proofs.Parted.{place_below, take_place, drop_place, drop_after, name_there}
use Rattle.td_list.proofs.Joined.{located, not_before, joined_weight, front_in}
use Rattle.td_list.proofs.Joined.{before_joined, after_joined, not_back, q}

module _ (p : Parts) (index : IsIndex p) (c : ℕ) (there : IsItem c p.order) (x : ℕ)
    (in_chunk : IsItem x (chunk_at p.chunks c)) where
  abbrev old : List Item
  old = chunk_at p.chunks c

  abbrev r : Parted x old
  r = parted x old in_chunk

  whole : all_items p ≡ (chunks_before c p ++ r.front) ++ r.item ∷ (r.back ++ chunks_after c p)
  whole = located p index c there ∙ ap (λ (xs : List Item). chunks_before c p ++ xs ++ chunks_after c p) r.is
      ∙ regroup (chunks_before c p) r.front r.item r.back (chunks_after c p)
    where
      regroup : (a b : List Item) (i : Item) (d e : List Item) → a ++ (b ++ i ∷ d) ++ e ≡ (a ++ b) ++ i ∷ (d ++ e)
      regroup a b i d e = simp append_assoc

  away : IsItem x (chunks_before c p ++ r.front) → ⊥
  away h = ⊎_elim (λ (k : IsItem x (chunks_before c p)). not_before p index c there x k in_chunk)
      (λ (k : IsItem x r.front). r.away k) (item-append x (chunks_before c p) r.front h)

  pub before_seat : items_before x (all_items p) ≡ chunks_before c p ++ items_before x old
  before_seat =
      ap (items_before x) whole ∙ before_at x (chunks_before c p ++ r.front) r.item (r.back ++ chunks_after c p)
      r.named away
      ∙ ap (λ (xs : List Item). chunks_before c p ++ xs) (sym (before_is x old in_chunk))

  pub from_seat : items_from x (all_items p) ≡ items_from x old ++ chunks_after c p
  from_seat =
      ap (items_from x) whole ∙ from_at x (chunks_before c p ++ r.front) r.item (r.back ++ chunks_after c p) r.named
      away
      ∙ ap (λ (xs : List Item). xs ++ chunks_after c p) (sym (from_is x old in_chunk))

  pub after_seat : items_after x (all_items p) ≡ items_after x old ++ chunks_after c p
  after_seat =
      ap (drop 1) (ap (items_from x) whole ∙ from_at x (chunks_before c p ++ r.front) r.item
      (r.back ++ chunks_after c p) r.named away)
      ∙ ap (λ (xs : List Item). drop 1 xs ++ chunks_after c p) (sym (from_is x old in_chunk))

  pub place_seat : place_of x (all_items p) ≡ length (chunks_before c p) + place_of x old
  place_seat = ap (λ (xs : List Item). length xs) before_seat ∙ length-append (chunks_before c p) (items_before x old)

  pub weight_seat : weight_of (items_before x (all_items p))
      ≡ weight_of (items_before c p.order) + weight_of (items_before x old)
  weight_seat =
      let one = ap weight_of before_seat in
      let two = weight-append (chunks_before c p) (items_before x old) in
      let three = ap weight_of (before_joined p index c there) in
      let four = joined_weight p.chunks (q p index c there).front
      (λ i m. (index.each i (front_in p index c there i m)).told) in
      let five = ap weight_of (before_is c p.order there) in
      omega arith

-- in one chunk the places in it decide
pub same_chunk : (p : Parts) (index : IsIndex p) (c d : ℕ) (there : IsItem c p.order) → c ≡ d → (x y : ℕ)
    → IsItem x (chunk_at p.chunks c) → IsItem y (chunk_at p.chunks d)
    → nat_lt (place_of x (chunk_at p.chunks c)) (place_of y (chunk_at p.chunks d))
    ≡ nat_lt (place_of x (all_items p)) (place_of y (all_items p))
same_chunk p index c d there e x y i j =
    let k : IsItem y (chunk_at p.chunks c) = subst (λ (z : ℕ). IsItem y (chunk_at p.chunks z)) (sym e) j in
    ap (λ (z : ℕ). nat_lt (place_of x (chunk_at p.chunks c)) (place_of y (chunk_at p.chunks z))) (sym e)
    ∙ shifted (length (chunks_before c p)) (place_of x (chunk_at p.chunks c)) (place_of y (chunk_at p.chunks c))
    ∙ (λ n. nat_lt (sym (place_seat p index c there x i) n) (sym (place_seat p index c there y k) n))
  where
    shifted : (n a b : ℕ) → nat_lt a b ≡ nat_lt (n + a) (n + b)
    shifted n a b =
        ⊎_elim (λ (l : a < b). lt-ltb a b l ∙ sym (lt-ltb (n + a) (n + b) (omega arith)))
        (λ (g : b ≤ a). le-ltb a b g ∙ sym (le-ltb (n + a) (n + b) (omega arith))) (cases_lt a b)

joined_take : (chunks : List (List Item)) (order : List Item) (i j : ℕ) → i < j → j ≤ length order
    → length (joined chunks (take i order)) + length (chunk_at chunks (get_or order i nothing).name) ≤ length
    (joined chunks (take j order))
joined_take chunks [] i j h l = absurd (omega arith)
joined_take chunks (c ∷ order) i zero h l = absurd (omega arith)
joined_take chunks (c ∷ order) zero (suc j) h l =
    omega (arith, length-append (chunk_at chunks c.name) (joined chunks (take j order)))
joined_take chunks (c ∷ order) (suc i) (suc j) h l =
    let ih = joined_take chunks order i j (omega arith) (omega arith) in
    omega (
      arith,
      length-append (chunk_at chunks c.name) (joined chunks (take j order)),
      length-append
          (chunk_at chunks c.name) (joined chunks (take i order)),
    )

module _ (p : Parts) (index : IsIndex p) where
  pub earlier : (c d x y : ℕ) (h : IsItem c p.order) (k : IsItem d p.order) → IsItem x (chunk_at p.chunks c)
      → IsItem y (chunk_at p.chunks d)
      → place_of c p.order < place_of d p.order → place_of x (all_items p) < place_of y (all_items p)
  earlier c d x y h k i j l =
      let first = place_seat p index c h x i in
      let second = place_seat p index d k y j in
      let below = place_below d p.order k in
      let more = joined_take p.chunks p.order (place_of c p.order) (place_of d p.order) l (omega arith) in
      let same = ap (λ (z : ℕ). length (chunk_at p.chunks z)) (name_there c p.order h) in
      let before = ap (λ (xs : List Item). length (joined p.chunks xs)) (take_place c p.order h) in
      let behind = ap (λ (xs : List Item). length (joined p.chunks xs)) (take_place d p.order k) in
      let inside = place_below x (chunk_at p.chunks c) i in
      omega arith

  same_place : (c d : ℕ) → IsItem c p.order → IsItem d p.order → place_of c p.order ≡ place_of d p.order → c ≡ d
  same_place c d h k e = sym (name_there c p.order h) ∙ ap (λ (n : ℕ). (get_or p.order n nothing).name) e
      ∙ name_there d p.order k

  -- in two, those of the chunks
  pub other_chunk : (c d x y : ℕ) (h : IsItem c p.order) (k : IsItem d p.order) → (c ≡ d → ⊥)
      → IsItem x (chunk_at p.chunks c) → IsItem y (chunk_at p.chunks d)
      → nat_lt (place_of c p.order) (place_of d p.order) ≡ nat_lt (place_of x (all_items p)) (place_of y (all_items p))
  other_chunk c d x y h k n i j =
      ⊎_elim (λ (l : place_of c p.order < place_of d p.order). lt-ltb (place_of c p.order) (place_of d p.order) l
      ∙ sym (lt-ltb (place_of x (all_items p)) (place_of y (all_items p)) (earlier c d x y h k i j l)))
      (λ (g : place_of d p.order ≤ place_of c p.order).
      let l = earlier d c y x k h j i (smaller (place_of c p.order) (place_of d p.order)
      (λ e. n (same_place c d h k e)) g) in
      le-ltb (place_of c p.order) (place_of d p.order) g
      ∙ sym (le-ltb (place_of x (all_items p)) (place_of y (all_items p)) (omega arith)))
      (cases_lt (place_of c p.order) (place_of d p.order))
    where
      smaller : (a b : ℕ) → (a ≡ b → ⊥) → b ≤ a → b < a
      smaller a b f g = omega arith

-- what is put, taken out or renewed where an item stands in its chunk, in the whole list
module _ (p : Parts) (index : IsIndex p) (c : ℕ) (there : IsItem c p.order) (x : ℕ)
    (in_chunk : IsItem x (chunk_at p.chunks c)) (place : ℕ) (at : place ≡ place_of x (chunk_at p.chunks c)) where
  abbrev here : List Item
  here = chunk_at p.chunks c

  pub take_here : take place here ≡ items_before x here
  take_here = ap (λ (n : ℕ). take n here) at ∙ take_place x here in_chunk

  pub drop_here : drop place here ≡ items_from x here
  drop_here = ap (λ (n : ℕ). drop n here) at ∙ drop_place x here in_chunk

  pub after_here : drop (place + 1) here ≡ items_after x here
  after_here = ap (λ (n : ℕ). drop (n + 1) here) at ∙ drop_after x here in_chunk

  pub front_here : chunks_before c p ++ take place here ≡ items_before x (all_items p)
  front_here = ap (λ (xs : List Item). chunks_before c p ++ xs) take_here ∙ sym (before_seat p index c there x in_chunk)

  pub back_here : drop place here ++ chunks_after c p ≡ items_from x (all_items p)
  back_here = ap (λ (xs : List Item). xs ++ chunks_after c p) drop_here ∙ sym (from_seat p index c there x in_chunk)

  pub rest_here : drop (place + 1) here ++ chunks_after c p ≡ items_after x (all_items p)
  rest_here = ap (λ (xs : List Item). xs ++ chunks_after c p) after_here ∙ sym (after_seat p index c there x in_chunk)

  pub put_here : (piece : List Item) → chunks_before c p ++ (take place here ++ piece ++ drop place here)
      ++ chunks_after c p ≡ put_before x piece (all_items p)
  put_here piece = regroup (chunks_before c p) (take place here) piece (drop place here) (chunks_after c p)
      ∙ (λ i. front_here i ++ piece ++ back_here i)
    where
      regroup : (a b c d e : List Item) → a ++ (b ++ c ++ d) ++ e ≡ (a ++ b) ++ c ++ (d ++ e)
      regroup a b c d e = simp append_assoc

  pub renew_here : (i : Item) → i.name ≡ x → chunks_before c p ++ (take place here ++ i ∷ drop (place + 1) here)
      ++ chunks_after c p ≡ renew i (all_items p)
  renew_here i e =
      regroup (chunks_before c p) (take place here) i (drop (place + 1) here) (chunks_after c p)
      ∙ (λ k. front_here k ++ i ∷ rest_here k)
      ∙ (λ k. items_before (sym e k) (all_items p) ++ i ∷ items_after (sym e k) (all_items p))
    where
      regroup : (a b : List Item) (i : Item) (d e : List Item) → a ++ (b ++ i ∷ d) ++ e ≡ (a ++ b) ++ i ∷ (d ++ e)
      regroup a b i d e = simp append_assoc

  pub remove_here : chunks_before c p ++ (take place here ++ drop (place + 1) here) ++ chunks_after c p
      ≡ without x (all_items p)
  remove_here = regroup (chunks_before c p) (take place here) (drop (place + 1) here) (chunks_after c p)
      ∙ (λ k. front_here k ++ rest_here k)
    where
      regroup : (a b d e : List Item) → a ++ (b ++ d) ++ e ≡ (a ++ b) ++ (d ++ e)
      regroup a b d e = simp append_assoc

  -- the only item of its chunk
  pub remove_sole : length here ≡ 1 → chunks_before c p ++ chunks_after c p ≡ without x (all_items p)
  remove_sole one =
      (λ k. (sym (append-nil (chunks_before c p)) ∙ ap (λ (xs : List Item). chunks_before c p ++ xs) (sym none_before)
      ∙ front_here) k ++ (ap (λ (xs : List Item). xs ++ chunks_after c p) (sym none_after) ∙ rest_here) k)
    where
      none_before : take place here ≡ []
      none_before =
          let b = place_below x here in_chunk in
          ap (λ (n : ℕ). take n here) (zero_of place (omega (arith, at)))
        where
          zero_of : (n : ℕ) → n < 1 → n ≡ 0
          zero_of n h = omega arith

      none_after : drop (place + 1) here ≡ []
      none_after = drop_all (place + 1) here (omega arith)

-- what is new to the list is new to its parts
pub new_beside : (p : Parts) (index : IsIndex p) (c : ℕ) (there : IsItem c p.order) (n : ℕ) (piece : List Item)
    → AreNew piece (all_items p)
    → AreNew piece (chunks_before c p ++ (take n (chunk_at p.chunks c) ++ drop n (chunk_at p.chunks c))
    ++ chunks_after c p)
new_beside p index c there n piece new x i j =
    new x i (subst (IsItem x) (ap (λ (xs : List Item). chunks_before c p ++ xs ++ chunks_after c p)
    (take-append-drop n (chunk_at p.chunks c)) ∙ sym (located p index c there)) j)

-- the last chunk
pub last_is_item : (xs : List Item) (c : ℕ) → Some c ≡ last_name xs → IsItem c xs
last_is_item [] c e = absurd (no c e)
  where
    no : (c : ℕ) → Some c ≡ None → ⊥
    no c e = cc
last_is_item (x ∷ []) c e = inl (same c x.name e)
  where
    same : (a b : ℕ) → Some a ≡ Some b → a ≡ b
    same a b e = cc
last_is_item (x ∷ y ∷ xs) c e = inr (last_is_item (y ∷ xs) c e)

none_behind : (c : ℕ) (i : Item) (b : List Item) → Some c ≡ last_name (i ∷ b) → (IsItem c b → ⊥) → b ≡ []
none_behind c i [] e n = refl
none_behind c i (j ∷ b) e n = absurd (n (last_is_item (j ∷ b) c e))

pub last_after : (p : Parts) (index : IsIndex p) (c : ℕ) (there : IsItem c p.order) → Some c ≡ last_name p.order
    → chunks_after c p ≡ []
last_after p index c there e =
    let s = q p index c there in
    after_joined p index c there
    ∙ ap (joined p.chunks) (none_behind c s.item s.back (e ∙ ap last_name s.is ∙ last-append s.front s.item s.back)
    (not_back p index c there))

pub put_last : (p : Parts) (index : IsIndex p) (c : ℕ) (there : IsItem c p.order) → Some c ≡ last_name p.order
    → (n : ℕ) → n ≡ length (chunk_at p.chunks c) → (piece : List Item)
    → chunks_before c p ++ (take n (chunk_at p.chunks c) ++ piece ++ drop n (chunk_at p.chunks c)) ++ chunks_after c p
    ≡ all_items p ++ piece
put_last p index c there e n long piece =
    let old = chunk_at p.chunks c in
    (λ i. chunks_before c p ++ ((ap (λ (k : ℕ). take k old) long ∙ take_all (length old) old (omega arith)) i ++ piece
    ++ (ap (λ (k : ℕ). drop k old) long ∙ drop_all (length old) old (omega arith)) i)
    ++ last_after p index c there e i)
    ∙ regroup (chunks_before c p) old piece
    ∙ ap (λ (xs : List Item). xs ++ piece) (sym (append-nil (chunks_before c p ++ old))
    ∙ ap (λ (xs : List Item). chunks_before c p ++ old ++ xs) (sym (last_after p index c there e))
    ∙ sym (located p index c there))
  where
    regroup : (a b c : List Item) → a ++ (b ++ c ++ []) ++ [] ≡ (a ++ b) ++ c
    regroup a b c = append-nil (a ++ (b ++ c ++ [])) ∙ ap (λ (xs : List Item). a ++ xs) (append-nil (b ++ c))
        ∙ sym (append_assoc a b c)

-- of two items in two chunks, the later one is in a chunk that follows
pub later_chunk : (p : Parts) (index : IsIndex p) (c d x y : ℕ) (h : IsItem c p.order) (k : IsItem d p.order)
    → (d ≡ c → ⊥) → IsItem x (chunk_at p.chunks c) → IsItem y (chunk_at p.chunks d)
    → place_of x (all_items p) ≤ place_of y (all_items p) → IsItem d (items_after c p.order)
later_chunk p index c d x y h k n i j l =
    let s = parted c p.order h in
    subst (IsItem d) (sym (after_is c p.order h))
    (⊎_elim (λ (m : IsItem d s.front). absurd (before m))
    (λ (m : IsItem d (s.item ∷ s.back)). ⊎_elim (λ (e : d ≡ s.item.name). absurd (n (e ∙ s.named)))
    (λ (b : IsItem d s.back). b) m)
    (item-append d s.front (s.item ∷ s.back) (subst (IsItem d) s.is k)))
  where
    before : IsItem d (parted c p.order h).front → ⊥
    before m =
        let s = parted c p.order h in
        let t = parted d s.front m in
        let order : p.order ≡ t.front ++ t.item ∷ (t.back ++ s.item ∷ s.back) = s.is
        ∙ ap (λ (xs : List Item). xs ++ s.item ∷ s.back) t.is
        ∙ append_assoc t.front (t.item ∷ t.back) (s.item ∷ s.back) in
        let at : place_of d p.order ≡ length t.front = ap (place_of d) order
        ∙ ap (λ (xs : List Item). length xs) (before_at d t.front t.item (t.back ++ s.item ∷ s.back) t.named
        t.away) in
        let long = ap (λ (xs : List Item). length xs) t.is in
        let more = length-append t.front (t.item ∷ t.back) in
        let other = ap (λ (xs : List Item). length xs) (before_is c p.order h) in
        let e = earlier p index d c y x k h j i (omega arith) in
        omega arith
