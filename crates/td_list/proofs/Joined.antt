-- Chunks one after another, and what a change of one of them changes.
use Rattle.std.proofs.Common.{◌≡◌, ◌≢◌, ◌<◌, ◌^◌, ℕ, suc, List, [], ◌∷◌, ◌++◌, length, get_or, set, refl}
use Rattle.std.proofs.Common.{sym, ap, ◌∙◌, subst, inl, inr, ⊎_elim, arith, append_assoc}
use Rattle.std.proofs.lemmas.List.{get_or-set_same, get_or-set_other, length-set}
use Rattle.td_base.specs.Lists.{In, Successive}
use Rattle.td_base.proofs.Lists.{In-append, In-front, In-back, In-map, all_in}
use Rattle.td_list.specs.Items.{Item, names, IsItem, AreApart, items_before, items_after, renew, weight_of}
use Rattle.td_list.specs.Index.{Parts, chunk_at, joined, all_items, chunks_before}
use Rattle.td_list.specs.Index.{chunks_after, summary, AreHomes, IsChunk, IsIndex}
use Rattle.td_list.proofs.Names.{weight-append, item-append, item-front, item-back, apart-append}
use Rattle.td_list.proofs.Parted.{Parted, parted, before_is, after_is, not_behind}

pub joined-append : (chunks : List (List Item)) (front back : List Item) → joined chunks (front ++ back)
    ≡ joined chunks front ++ joined chunks back
joined-append chunks [] back = refl
joined-append chunks (c ∷ front) back = ap (λ (q : List Item). chunk_at chunks c.name ++ q)
    (joined-append chunks front back) ∙ sym (append_assoc (chunk_at chunks c.name) (joined chunks front)
    (joined chunks back))

-- only the chunks of the order count
pub joined_same : (a b : List (List Item)) (order : List Item)
    → ((c : ℕ) → IsItem c order → chunk_at a c ≡ chunk_at b c) → joined a order ≡ joined b order
joined_same a b [] h = refl
joined_same a b (i ∷ order) h = λ k. h i.name (inl refl) k ++ joined_same a b order (λ c m. h c (inr m)) k

pub joined-set : (chunks : List (List Item)) (c : ℕ) (new : List Item) (order : List Item) → (IsItem c order → ⊥)
    → joined (set chunks c new) order ≡ joined chunks order
joined-set chunks c new order h = joined_same (set chunks c new) chunks order
    (λ d m. get_or-set_other chunks c d new [] (λ e. h (subst (λ (y : ℕ). IsItem y order) e m)))

pub item_joined : (chunks : List (List Item)) (x : ℕ) (order : List Item) → IsItem x (joined chunks order)
    → (i : Item) × In i order × IsItem x (chunk_at chunks i.name)
item_joined chunks x [] h = absurd h
item_joined chunks x (c ∷ order) h =
    ⊎_elim (λ (i : IsItem x (chunk_at chunks c.name)). (c, inl refl, i))
    (λ (i : IsItem x (joined chunks order)). let r = item_joined chunks x order i in (r.0, inr r.1, r.2))
    (item-append x (chunk_at chunks c.name) (joined chunks order) h)

pub joined_item : (chunks : List (List Item)) (x : ℕ) (i : Item) (order : List Item) → In i order
    → IsItem x (chunk_at chunks i.name) → IsItem x (joined chunks order)
joined_item chunks x i [] h k = absurd h
joined_item chunks x i (j ∷ order) h k =
    ⊎_elim (λ (e : i ≡ j). item-front x (chunk_at chunks j.name) (joined chunks order)
    (subst (λ (l : Item). IsItem x (chunk_at chunks l.name)) e k))
    (λ (m : In i order). item-back x (chunk_at chunks j.name) (joined chunks order)
    (joined_item chunks x i order m k)) h

-- what the order tells comes to what the chunks weigh
pub joined_weight : (chunks : List (List Item)) (order : List Item)
    → ((i : Item) → In i order → i ≡ summary i.name (chunk_at chunks i.name)) → weight_of (joined chunks order)
    ≡ weight_of order
joined_weight chunks [] h = refl
joined_weight chunks (i ∷ order) h =
    let one = weight-append (chunk_at chunks i.name) (joined chunks order) in
    let first = ap (λ (j : Item). j.weight) (h i (inl refl)) in
    let rest = joined_weight chunks order (λ j m. h j (inr m)) in
    omega arith

module _ (p : Parts) (index : IsIndex p) where
  -- where an item is
  pub home : (x : ℕ) → IsItem x (all_items p) → (x < length p.homes) × IsItem (get_or p.homes x 0) p.order
      × IsItem x (chunk_at p.chunks (get_or p.homes x 0))
  home x h =
      let r = item_joined p.chunks x p.order h in
      let e = (index.each r.0 r.1).homed x r.2 in (
        e.0,
        subst (λ (y : ℕ). IsItem y p.order) (sym e.1) (In-map (λ (i : Item). i.name) r.0 p.order r.1),
        subst
            (λ (y : ℕ). IsItem x (chunk_at p.chunks y)) (sym e.1) r.2,
      )

  pub all_weight : weight_of (all_items p) ≡ weight_of p.order
  all_weight = joined_weight p.chunks p.order (λ i m. (index.each i m).told)

  module _ (c : ℕ) (there : IsItem c p.order) where
    abbrev pub q : Parted c p.order
    q = parted c p.order there

    item_in : In q.item p.order
    item_in = subst (In q.item) (sym q.is) (In-back q.item q.front (q.item ∷ q.back) (inl refl))

    pub front_in : (i : Item) → In i q.front → In i p.order
    front_in i m = subst (In i) (sym q.is) (In-front i q.front (q.item ∷ q.back) m)

    pub back_in : (i : Item) → In i q.back → In i p.order
    back_in i m = subst (In i) (sym q.is) (In-back i q.front (q.item ∷ q.back) (inr m))

    abbrev the_chunk : IsChunk p.chunks p.homes q.item
    the_chunk = index.each q.item item_in

    abbrev pub old : List Item
    old = chunk_at p.chunks c

    pub within : c < length p.chunks
    within = subst (λ (y : ℕ). y < length p.chunks) q.named the_chunk.within

    pub some : 0 < length old
    some = subst (λ (y : ℕ). 0 < length (chunk_at p.chunks y)) q.named the_chunk.some

    pub apart_in : AreApart old
    apart_in = subst (λ (y : ℕ). AreApart (chunk_at p.chunks y)) q.named the_chunk.apart

    pub told : q.item ≡ summary c old
    told = the_chunk.told ∙ ap (λ (y : ℕ). summary y (chunk_at p.chunks y)) q.named

    pub homed : AreHomes c old p.homes
    homed = subst (λ (y : ℕ). AreHomes y (chunk_at p.chunks y) p.homes) q.named the_chunk.homed

    pub not_back : IsItem c q.back → ⊥
    not_back = not_behind c p.order there index.apart

    pub before_joined : chunks_before c p ≡ joined p.chunks q.front
    before_joined = ap (joined p.chunks) (before_is c p.order there)

    pub after_joined : chunks_after c p ≡ joined p.chunks q.back
    after_joined = ap (joined p.chunks) (after_is c p.order there)

    pub located : all_items p ≡ chunks_before c p ++ old ++ chunks_after c p
    located =
        ap (joined p.chunks) q.is ∙ joined-append p.chunks q.front (q.item ∷ q.back)
        ∙ sym (append_assoc (joined p.chunks q.front) (chunk_at p.chunks q.item.name) (joined p.chunks q.back))
        ∙ (λ i. sym before_joined i ++ chunk_at p.chunks (q.named i) ++ sym after_joined i)

    -- an item of another chunk has another home
    pub other_home : (x : ℕ) (order : List Item) → ((i : Item) → In i order → In i p.order) → (IsItem c order → ⊥)
        → IsItem x (joined p.chunks order) → IsItem x old → ⊥
    other_home x order sub away h i =
        let r = item_joined p.chunks x order h in
        let one = (index.each r.0 (sub r.0 r.1)).homed x r.2 in
        let two = homed x i in
        away (subst (λ (y : ℕ). IsItem y order) (sym one.1 ∙ two.1) (In-map (λ (j : Item). j.name) r.0 order r.1))

    pub not_before : (x : ℕ) → IsItem x (chunks_before c p) → IsItem x old → ⊥
    not_before x h = other_home x q.front front_in q.away (subst (IsItem x) before_joined h)

    pub not_after : (x : ℕ) → IsItem x (chunks_after c p) → IsItem x old → ⊥
    not_after x h = other_home x q.back back_in not_back (subst (IsItem x) after_joined h)

    pub renewed_is : (i : Item) → i.name ≡ c → renew i p.order ≡ q.front ++ i ∷ q.back
    renewed_is i e =
        (λ k. items_before (e k) p.order ++ i ∷ items_after (e k) p.order)
        ∙ (λ k. before_is c p.order there k ++ i ∷ after_is c p.order there k)

    module _ (new : List Item) where
      abbrev pub order_now : List Item
      order_now = renew (summary c new) p.order

      now_is : order_now ≡ q.front ++ summary c new ∷ q.back
      now_is = renewed_is (summary c new) refl

      -- the chunk with other items, in the whole list
      pub changed_all : joined (set p.chunks c new) order_now ≡ chunks_before c p ++ new ++ chunks_after c p
      changed_all =
          ap (joined (set p.chunks c new)) now_is ∙ joined-append (set p.chunks c new) q.front (summary c new ∷ q.back)
          ∙ (λ i. (joined-set p.chunks c new q.front q.away ∙ sym before_joined) i
          ++ (get_or-set_same p.chunks c new [] within i
          ++ (joined-set p.chunks c new q.back not_back ∙ sym after_joined) i))
          ∙ sym (append_assoc (chunks_before c p) new (chunks_after c p))

      pub changed_weight : weight_of order_now ≡ weight_of (chunks_before c p ++ new ++ chunks_after c p)
      changed_weight =
          let front = joined_weight p.chunks q.front (λ i m. (index.each i (front_in i m)).told) in
          let back = joined_weight p.chunks q.back (λ i m. (index.each i (back_in i m)).told) in
          let one = ap weight_of now_is in
          let two = weight-append q.front (summary c new ∷ q.back) in
          let three = weight-append (chunks_before c p ++ new) (chunks_after c p) in
          let four = weight-append (chunks_before c p) new in
          let five = ap weight_of before_joined in
          let six = ap weight_of after_joined in
          omega arith

      pub changed_names : names order_now ≡ names p.order
      changed_names = ap names now_is ∙ same_names q.front (summary c new) q.item q.back (sym q.named)
          ∙ ap names (sym q.is)
        where
          same_names : (front : List Item) (i j : Item) (back : List Item) → i.name ≡ j.name
              → names (front ++ i ∷ back) ≡ names (front ++ j ∷ back)
          same_names [] i j back e = ap (λ (x : ℕ). x ∷ names back) e
          same_names (f ∷ front) i j back e = ap (λ (xs : List ℕ). f.name ∷ xs) (same_names front i j back e)

      pub changed_length : length order_now ≡ length p.order
      changed_length = sym (counted order_now) ∙ ap (λ (xs : List ℕ). length xs) changed_names ∙ counted p.order
        where
          counted : (items : List Item) → length (names items) ≡ length items
          counted [] = refl
          counted (i ∷ items) = ap suc (counted items)

      -- the index, where the homes are those of the new items and else as they were
      pub changed_index : (next : List ℕ) → 0 < length new → AreApart new → AreHomes c new next
          → ((x : ℕ) → x < length p.homes → (x < length next)
          × ((IsItem x new → ⊥) → get_or next x 0 ≡ get_or p.homes x 0))
          → ((x : ℕ) → IsItem x new → IsItem x (chunks_before c p ++ chunks_after c p) → ⊥)
          → weight_of (chunks_before c p ++ new ++ chunks_after c p) < 2 ^ 31
          → IsIndex (record p { chunks = set p.chunks c new; order = order_now; homes = next })
      changed_index next filled apart home_now kept fresh light = record {
        each = λ i m. ⊎_elim (λ (f : In i q.front). other i (front_in i f) (λ e. q.away (named_in i q.front f e))
            (λ x k. item-front x (chunks_before c p) (chunks_after c p)
            (subst (IsItem x) (sym before_joined) (in_joined i q.front f x k))))
            (λ (t : In i (summary c new ∷ q.back)). ⊎_elim
            (λ (e : i ≡ summary c new). subst (IsChunk (set p.chunks c new) next) (sym e) here)
            (λ (b : In i q.back). other i (back_in i b) (λ e. not_back (named_in i q.back b e))
            (λ x k. item-back x (chunks_before c p) (chunks_after c p)
            (subst (IsItem x) (sym after_joined) (in_joined i q.back b x k)))) t)
            (In-append i q.front (summary c new ∷ q.back) (subst (In i) now_is m));
        apart = subst (λ (xs : List ℕ). Successive (λ (a b : ℕ). a ≢ b) xs) (sym changed_names) index.apart;
        unused = λ d m. let u = index.unused d m in
            (subst (λ (n : ℕ). d < n) (sym (length-set p.chunks c new)) u.0, λ k. u.1 (subst (In d) changed_names k));
        once = index.once;
        counted = let h = index.counted in let e = changed_length in let l = length-set p.chunks c new in omega arith;
        roomy = let h = index.roomy in let l = length-set p.chunks c new in omega arith;
        few = let h = index.few in let l = length-set p.chunks c new in omega arith;
        light = subst (λ (xs : List Item). weight_of xs < 2 ^ 31) (sym changed_all) light;
      }
        where
          named_in : (i : Item) (order : List Item) → In i order → i.name ≡ c → IsItem c order
          named_in i order m e = subst (λ (y : ℕ). IsItem y order) e (In-map (λ (j : Item). j.name) i order m)

          in_joined : (i : Item) (order : List Item) → In i order → (x : ℕ) → IsItem x (chunk_at p.chunks i.name)
              → IsItem x (joined p.chunks order)
          in_joined i order m x k = joined_item p.chunks x i order m k

          here : IsChunk (set p.chunks c new) next (summary c new)
          here =
              let same : chunk_at (set p.chunks c new) c ≡ new = get_or-set_same p.chunks c new [] within in
              record {
                within = subst (λ (n : ℕ). c < n) (sym (length-set p.chunks c new)) within;
                some = subst (λ (xs : List Item). 0 < length xs) (sym same) filled;
                apart = subst AreApart (sym same) apart;
                told = ap (summary c) (sym same);
                homed = subst (λ (xs : List Item). AreHomes c xs next) (sym same) home_now;
              }

          other : (i : Item) → In i p.order → (i.name ≡ c → ⊥)
              → ((x : ℕ) → IsItem x (chunk_at p.chunks i.name) → IsItem x (chunks_before c p ++ chunks_after c p))
              → IsChunk (set p.chunks c new) next i
          other i m n beside =
              let o = index.each i m in
              let same : chunk_at (set p.chunks c new) i.name
              ≡ chunk_at p.chunks i.name = get_or-set_other p.chunks c i.name new [] n in
              record {
                within = subst (λ (l : ℕ). i.name < l) (sym (length-set p.chunks c new)) o.within;
                some = subst (λ (xs : List Item). 0 < length xs) (sym same) o.some;
                apart = subst AreApart (sym same) o.apart;
                told = o.told ∙ ap (summary i.name) (sym same);
                homed = subst (λ (xs : List Item). AreHomes i.name xs next) (sym same)
                    (λ x k. let h = o.homed x k in let l = kept x h.0 in
                    (l.0, l.1 (λ j. fresh x j (beside x k)) ∙ h.1));
              }

-- no two items of chunks that are apart have one name
pub joined_apart : (chunks : List (List Item)) (homes : List ℕ) (order : List Item) → AreApart order
    → ((i : Item) → In i order → IsChunk chunks homes i) → AreApart (joined chunks order)
joined_apart chunks homes [] a h = tt
joined_apart chunks homes (i ∷ order) a h =
    apart-append (chunk_at chunks i.name) (joined chunks order) (h i (inl refl)).apart
    (joined_apart chunks homes order a.1 (λ j m. h j (inr m)))
    (λ x k l. let r = item_joined chunks x order l in
    let one = (h i (inl refl)).homed x k in
    let two = (h r.0 (inr r.1)).homed x r.2 in
    all_in (λ (y : ℕ). i.name ≢ y) (names order) a.0 r.0.name (In-map (λ (j : Item). j.name) r.0 order r.1)
    (sym one.1 ∙ two.1))
