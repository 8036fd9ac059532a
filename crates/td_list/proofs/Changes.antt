-- A chunk with other items: what stays true of the parts of a list.
use Rattle.std.proofs.Common.{◌≡◌, ◌≢◌, ◌⊎◌, ◌+◌, ◌-◌, ◌<◌, ◌≤◌, ◌^◌, ℕ, zero, suc, List, [], ◌∷◌, ◌++◌, length}
use Rattle.std.proofs.Common.{take, drop, get_or, set, refl, sym, ap, ◌∙◌, subst, inl, inr, ⊎_elim, arith}
use Rattle.std.proofs.Common.{append_assoc, take-append-drop, length-append, length-drop}
use Rattle.std.proofs.lemmas.List.{length-take-le, drop-drop, get_or_default, get_or-set_same}
use Rattle.td_base.specs.Lists.{In, Successive}
use Rattle.td_list.specs.Items.{Item, names, IsItem, AreApart, AreNew, weight_of}
use Rattle.td_list.specs.Index.{Parts, chunk_at, all_items, chunks_before, chunks_after, IsIndex}
use Rattle.td_list.specs.Places.{nothing}
use Rattle.td_list.proofs.Names.{weight-append, item-append, item-front, item-back, item_in_front, item_in_back}
use Rattle.td_list.proofs.Names.{apart-parts, apart-front, apart-back, apart-append, apart-between}
use Rattle.td_list.proofs.Weights.{weight-cut}
use Rattle.td_list.proofs.Joined.{located, not_before, not_after, apart_in, homed, changed_index, order_now}

-- what is left of a chunk

pub item_cut : (x from to : ℕ) (items : List Item) → IsItem x (take from items ++ drop to items) → IsItem x items
item_cut x from to items h = ⊎_elim (λ (i : IsItem x (take from items)). item_in_front x from items i)
    (λ (i : IsItem x (drop to items)). item_in_back x to items i) (item-append x (take from items) (drop to items) h)

drop_more : (from to : ℕ) (items : List Item) → from ≤ to → (x : ℕ) → IsItem x (drop to items)
    → IsItem x (drop from items)
drop_more from to items h x i = item_in_back x (to - from) (drop from items)
    (subst (IsItem x) (ap (λ (n : ℕ). drop n items) (sum from to h) ∙ sym (drop-drop (to - from) from items)) i)
  where
    sum : (from to : ℕ) → from ≤ to → to ≡ from + (to - from)
    sum from to h = omega arith

pub apart_cut : (from to : ℕ) (items : List Item) → from ≤ to → AreApart items
    → AreApart (take from items ++ drop to items)
apart_cut from to items h a =
    apart-append (take from items) (drop to items) (apart-front (take from items) (drop from items) whole)
    (apart-back (take to items) (drop to items) (subst AreApart (sym (take-append-drop to items)) a))
    (λ x i j. apart-parts (take from items) (drop from items) whole x i (drop_more from to items h x j))
  where
    whole : AreApart (take from items ++ drop from items)
    whole = subst AreApart (sym (take-append-drop from items)) a

pub length_cut : (from to : ℕ) (items : List Item) → from ≤ to → to ≤ length items
    → length (take from items ++ drop to items) ≡ from + (length items - to)
length_cut from to items h l =
    let one = length-append (take from items) (drop to items) in
    let two = length-take-le from items (omega arith) in
    let three = length-drop to items in
    omega arith

pub names_renewed : (items : List Item) (place : ℕ) (i : Item) → place < length items → i.name
    ≡ (get_or items place nothing).name → names (take place items ++ i ∷ drop (place + 1) items) ≡ names items
names_renewed [] place i h e = absurd (omega arith)
names_renewed (x ∷ items) zero i h e = ap (λ (n : ℕ). n ∷ names items) e
names_renewed (x ∷ items) (suc place) i h e =
    ap (λ (n : ℕ). names (x ∷ (take place items ++ i ∷ drop n (x ∷ items)))) (sym (up place))
    ∙ ap (λ (xs : List ℕ). x.name ∷ xs) (names_renewed items place i (omega arith) e)
  where
    up : (n : ℕ) → suc (n + 1) ≡ suc n + 1
    up n = omega arith

pub length_renewed : (items : List Item) (place : ℕ) (i : Item) → place < length items
    → length (take place items ++ i ∷ drop (place + 1) items) ≡ length items
length_renewed items place i h =
    let one = length-append (take place items) (i ∷ drop (place + 1) items) in
    let two = length-take-le place items (omega arith) in
    let three = length-drop (place + 1) items in
    omega arith

module _ (p : Parts) (index : IsIndex p) (c : ℕ) (there : IsItem c p.order) where
  abbrev old : List Item
  old = chunk_at p.chunks c

  abbrev pub now : List Item → Parts
  now new = record p { chunks = set p.chunks c new; order = order_now p index c there new }

  -- items that were there
  pub fewer : (new : List Item) → 0 < length new → AreApart new → ((x : ℕ) → IsItem x new → IsItem x old)
      → weight_of (chunks_before c p ++ new ++ chunks_after c p) < 2 ^ 31 → IsIndex (now new)
  fewer new filled apart sub light =
      changed_index p index c there new p.homes filled apart (λ x i. homed p index c there x (sub x i))
      (λ x h. (h, λ n. refl))
      (λ x i j. ⊎_elim (λ (k : IsItem x (chunks_before c p)). not_before p index c there x k (sub x i))
      (λ (k : IsItem x (chunks_after c p)). not_after p index c there x k (sub x i))
      (item-append x (chunks_before c p) (chunks_after c p) j))
      light

  pub weight_around : (new : List Item) → weight_of (chunks_before c p ++ new ++ chunks_after c p) + weight_of old
      ≡ weight_of (all_items p) + weight_of new
  weight_around new =
      let one = weight-append (chunks_before c p ++ new) (chunks_after c p) in
      let two = weight-append (chunks_before c p) new in
      let three = weight-append (chunks_before c p ++ old) (chunks_after c p) in
      let four = weight-append (chunks_before c p) old in
      let five = ap weight_of (located p index c there) in
      omega arith

  pub weight_inside : (new : List Item) → weight_of new ≤ weight_of (chunks_before c p ++ new ++ chunks_after c p)
  weight_inside new =
      let one = weight-append (chunks_before c p ++ new) (chunks_after c p) in
      let two = weight-append (chunks_before c p) new in
      omega arith

  pub chunk_light : weight_of old ≤ weight_of (all_items p)
  chunk_light = let e = weight_around [] in let f = weight-append (chunks_before c p ++ []) (chunks_after c p) in
      omega arith

  pub cut_light : (from to : ℕ) → from ≤ to → weight_of
      (chunks_before c p ++ (take from old ++ drop to old) ++ chunks_after c p) < 2 ^ 31
  cut_light from to h =
      let e = weight_around (take from old ++ drop to old) in
      let f = weight-cut from to old h in
      let l = index.light in
      omega arith

  pub cut_index : (from to : ℕ) → from ≤ to → to ≤ length old → to - from < length old
      → IsIndex (now (take from old ++ drop to old))
  cut_index from to h l s =
      fewer (take from old ++ drop to old) (let e = length_cut from to old h l in omega arith)
      (apart_cut from to old h (apart_in p index c there)) (λ x i. item_cut x from to old i) (cut_light from to h)

  -- a piece in place of a part of the chunk
  module _ (piece : List Item) (from to : ℕ) (ordered : from ≤ to) (ends : to ≤ length old) where
    abbrev pub spliced : List Item
    spliced = take from old ++ piece ++ drop to old

    pub in_spliced : (x : ℕ) → IsItem x spliced → IsItem x piece ⊎ IsItem x (take from old ++ drop to old)
    in_spliced x h =
        ⊎_elim
        (λ (k : IsItem x (take from old ++ piece)).
        ⊎_elim (λ (i : IsItem x (take from old)). inr (item-front x (take from old) (drop to old) i))
        (λ (i : IsItem x piece). inl i)
        (item-append x (take from old) piece k))
        (λ (i : IsItem x (drop to old)). inr (item-back x (take from old) (drop to old) i))
        (item-append x (take from old ++ piece) (drop to old) h)

    piece_in : (x : ℕ) → IsItem x piece → IsItem x spliced
    piece_in x i = item-front x (take from old ++ piece) (drop to old) (item-back x (take from old) piece i)

    spliced_filled : 0 < from + length piece + (length old - to) → 0 < length spliced
    spliced_filled h =
        let one = length-append (take from old ++ piece) (drop to old) in
        let two = length-append (take from old) piece in
        let three = length-take-le from old (omega arith) in
        let four = length-drop to old in
        omega arith

    pub spliced_weight : weight_of (chunks_before c p ++ spliced ++ chunks_after c p) ≤ weight_of
        (all_items p) + weight_of piece
    spliced_weight =
        let e = weight_around spliced in
        let one = weight-append (take from old ++ piece) (drop to old) in
        let two = weight-append (take from old) piece in
        let three = weight-append (take from old) (drop to old) in
        let f = weight-cut from to old ordered in
        omega arith

    -- its items are new to all that stays
    abbrev pub IsFreshPiece : Type 0
    IsFreshPiece = AreNew piece (chunks_before c p ++ (take from old ++ drop to old) ++ chunks_after c p)

    new_here : IsFreshPiece → (x : ℕ) → IsItem x piece → IsItem x (take from old ++ drop to old) → ⊥
    new_here f x i j = f x i (item-front x (chunks_before c p ++ (take from old ++ drop to old)) (chunks_after c p)
        (item-back x (chunks_before c p) (take from old ++ drop to old) j))

    new_beside : IsFreshPiece → (x : ℕ) → IsItem x piece → IsItem x (chunks_before c p ++ chunks_after c p) → ⊥
    new_beside f x i j =
        ⊎_elim
        (λ (k : IsItem x (chunks_before c p)). f x i (item-front x
        (chunks_before c p ++ (take from old ++ drop to old)) (chunks_after c p)
        (item-front x (chunks_before c p) (take from old ++ drop to old) k)))
        (λ (k : IsItem x (chunks_after c p)). f x i (item-back x (chunks_before c p ++ (take from old ++ drop to old))
        (chunks_after c p) k))
        (item-append x (chunks_before c p) (chunks_after c p) j)

    spliced_apart : AreApart piece → IsFreshPiece → AreApart spliced
    spliced_apart a f =
        subst AreApart (sym (append_assoc (take from old) piece (drop to old)))
        (apart-between (take from old) piece (drop to old) (apart_cut from to old ordered (apart_in p index c there))
        a (new_here f))

    pub splice_index : (next : List ℕ) → 0 < from + length piece + (length old - to) → AreApart piece → IsFreshPiece
        → ((x : ℕ) → IsItem x piece → (x < length next) × (get_or next x 0 ≡ c))
        → ((x : ℕ) → x < length p.homes → (x < length next)
        × ((IsItem x piece → ⊥) → get_or next x 0 ≡ get_or p.homes x 0))
        → weight_of (all_items p) + weight_of piece < 2 ^ 31
        → IsIndex (record p {
          chunks = set p.chunks c spliced;
          order = order_now p index c there spliced;
          homes = next;
        })
    splice_index next filled a f settled kept light =
        changed_index p index c there spliced next (spliced_filled filled) (spliced_apart a f)
        (λ x i. ⊎_elim (λ (k : IsItem x piece). settled x k)
        (λ (k : IsItem x (take from old ++ drop to old)).
        let h = homed p index c there x (item_cut x from to old k) in
        let n = kept x h.0 in
        (n.0, n.1 (λ j. new_here f x j k) ∙ h.1))
        (in_spliced x i))
        (λ x h. let n = kept x h in (n.0, λ none. n.1 (λ j. none (piece_in x j))))
        (λ x i j. ⊎_elim (λ (k : IsItem x piece). new_beside f x k j)
        (λ (k : IsItem x (take from old ++ drop to old)).
        ⊎_elim (λ (b : IsItem x (chunks_before c p)). not_before p index c there x b (item_cut x from to old k))
        (λ (b : IsItem x (chunks_after c p)). not_after p index c there x b (item_cut x from to old k))
        (item-append x (chunks_before c p) (chunks_after c p) j))
        (in_spliced x i))
        (let w = spliced_weight in omega arith)

  -- another item of the same name at a place
  pub renewed_index : (place : ℕ) (i : Item) → place < length old → i.name ≡ (get_or old place nothing).name
      → weight_of (chunks_before c p ++ (take place old ++ i ∷ drop (place + 1) old) ++ chunks_after c p) < 2 ^ 31
      → IsIndex (now (take place old ++ i ∷ drop (place + 1) old))
  renewed_index place i below named light =
      let same = names_renewed old place i below named in
      fewer (take place old ++ i ∷ drop (place + 1) old) (let e = length_renewed old place i below in omega arith)
      (subst (λ (xs : List ℕ). Successive (λ (x y : ℕ). x ≢ y) xs) (sym same) (apart_in p index c there))
      (λ x k. subst (In x) same k) light

-- more room for homes
pub grown_index : (p : Parts) → IsIndex p → (next : List ℕ)
    → ((x : ℕ) → x < length p.homes → (x < length next) × (get_or next x 0 ≡ get_or p.homes x 0))
    → IsIndex (record p { homes = next })
grown_index p index next kept = record {
  each = λ i m. let o = index.each i m in record {
    within = o.within;
    some = o.some;
    apart = o.apart;
    told = o.told;
    homed = λ x k. let h = o.homed x k in let n = kept x h.0 in (n.0, n.1 ∙ h.1);
  };
  apart = index.apart;
  unused = index.unused;
  once = index.once;
  counted = index.counted;
  roomy = index.roomy;
  few = index.few;
  light = index.light;
}

-- what is read from the chunks before and after one is written
pub read_was : (inside chunks : List (List Item)) (c : ℕ) (r : List Item) → inside ≡ chunks → r ≡ get_or inside c r
    → c < length chunks → r ≡ chunk_at chunks c
read_was inside chunks c r same e w = e ∙ ap (λ (q : List (List Item)). get_or q c r) same
    ∙ get_or_default chunks c r [] w

pub read_new : (inside chunks : List (List Item)) (c : ℕ) (new r : List Item) → inside ≡ chunks → r
    ≡ get_or (set inside c new) c r → c < length chunks → r ≡ new
read_new inside chunks c new r same e w = e ∙ ap (λ (q : List (List Item)). get_or (set q c new) c r) same
    ∙ get_or-set_same chunks c new r w
