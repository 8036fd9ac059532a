-- A chunk taken out of the order, a number for a new chunk, and a new chunk put in the order.
use Rattle.std.proofs.Common.{◌≡◌, ◌≢◌, ◌+◌, ◌-◌, ◌<◌, ◌≤◌, ◌^◌, ℕ, List, [], ◌∷◌, ◌++◌, length}
use Rattle.std.proofs.Common.{get_or, set, refl, sym, ap, ◌∙◌, subst, inl, inr, ⊎_elim, arith}
use Rattle.std.proofs.Common.{append_assoc, length-append, Option, Some, option_to_list}
use Rattle.std.proofs.lemmas.List.{get_or-set_same, get_or-set_other, length-set}
use Rattle.std.proofs.lemmas.List.{length_push, get_or_append_left, get_or_default}
use Rattle.td_base.specs.Lists.{In, Successive}
use Rattle.td_base.proofs.Lists.{In-append, In-front, In-back, In-map, all_of, across}
use Rattle.td_base.proofs.Lists.{successive_front, successive_append}
use Rattle.td_list.specs.Items.{Item, names, IsItem, AreApart, AreNew, without, weight_of}
use Rattle.td_list.specs.Index.{Parts, chunk_at, joined, all_items, chunks_before}
use Rattle.td_list.specs.Index.{chunks_after, summary, AreHomes, IsChunk, IsIndex}
use Rattle.td_list.proofs.Names.{weight-append, item-append, item-front, item-back, apart-ends}
use Rattle.td_list.proofs.Names.{apart-append, apart-front, apart-back, apart-parts}
use Rattle.td_list.proofs.Distinct.{In_at}
use Rattle.td_list.proofs.Parted.{before_is, after_is}
use Rattle.td_list.proofs.Joined.{q, front_in, back_in, within, located, not_back, joined-append, joined-set}
use Rattle.td_list.proofs.Joined.{joined_same, joined_item, before_joined, after_joined}

module _ (p : Parts) (index : IsIndex p) where
  item_named : (i : Item) (order : List Item) (c : ℕ) → In i order → i.name ≡ c → IsItem c order
  item_named i order c m e = subst (λ (y : ℕ). IsItem y order) e (In-map (λ (j : Item). j.name) i order m)

  -- a chunk that is left as it is
  kept_chunk : (i : Item) → In i p.order → (chunks : List (List Item)) → length p.chunks ≤ length chunks
      → chunk_at chunks i.name ≡ chunk_at p.chunks i.name → (next : List ℕ)
      → ((x : ℕ) → IsItem x (chunk_at p.chunks i.name) → x < length p.homes → (x < length next)
      × (get_or next x 0 ≡ get_or p.homes x 0)) → IsChunk chunks next i
  kept_chunk i m chunks more same next kept =
      let o = index.each i m in
      record {
        within = let w = o.within in omega arith;
        some = subst (λ (xs : List Item). 0 < length xs) (sym same) o.some;
        apart = subst AreApart (sym same) o.apart;
        told = o.told ∙ ap (summary i.name) (sym same);
        homed = subst (λ (xs : List Item). AreHomes i.name xs next) (sym same)
            (λ x k. let h = o.homed x k in let n = kept x k h.0 in (n.0, n.1 ∙ h.1));
      }

  module _ (c : ℕ) (there : IsItem c p.order) where
    abbrev f : List Item
    f = (q p index c there).front

    abbrev b : List Item
    b = (q p index c there).back

    pub without_is : without c p.order ≡ f ++ b
    without_is = λ i. before_is c p.order there i ++ after_is c p.order there i

    away : IsItem c (without c p.order) → ⊥
    away h = ⊎_elim (λ (k : IsItem c f). (q p index c there).away k) (λ (k : IsItem c b). not_back p index c there k)
        (item-append c f b (subst (IsItem c) without_is h))

    rest_in : (i : Item) → In i (without c p.order) → In i p.order
    rest_in i m = ⊎_elim (λ (k : In i f). front_in p index c there i k) (λ (k : In i b). back_in p index c there i k)
        (In-append i f b (subst (In i) without_is m))

    pub dropped_all : joined (set p.chunks c []) (without c p.order) ≡ chunks_before c p ++ chunks_after c p
    dropped_all =
        joined-set p.chunks c [] (without c p.order) away ∙ ap (joined p.chunks) without_is ∙ joined-append p.chunks f b
        ∙ (λ i. sym (before_joined p index c there) i ++ sym (after_joined p index c there) i)

    shorter : length (without c p.order) + 1 ≡ length p.order
    shorter =
        let one = ap (λ (xs : List Item). length xs) without_is in
        let two = length-append f b in
        let three = ap (λ (xs : List Item). length xs) (q p index c there).is in
        let four = length-append f ((q p index c there).item ∷ b) in
        omega arith

    pub dropped_index : (room : ℕ) → p.room ≤ room
        → IsIndex (record p {
          chunks = set p.chunks c [];
          order = without c p.order;
          free = p.free ++ c ∷ [];
          room = room;
        })
    dropped_index room more = record {
      each = λ i m. kept_chunk i (rest_in i m) (set p.chunks c []) (let l = length-set p.chunks c [] in omega arith)
          (get_or-set_other p.chunks c i.name [] [] (λ e. away (item_named i (without c p.order) c m e))) p.homes
          (λ x k h. (h, refl));
      apart = subst AreApart (sym without_is) (apart-ends f ((q p index c there).item ∷ []) b
          (subst AreApart (q p index c there).is index.apart));
      unused = λ d m. ⊎_elim
          (λ (k : In d p.free). let u = index.unused d k in
          (subst (λ (n : ℕ). d < n) (sym (length-set p.chunks c [])) u.0, λ j. u.1 (names_rest d j)))
          (λ (k : In d (c ∷ [])). ⊎_elim
          (λ (e : d ≡ c). (
            subst (λ (n : ℕ). d < n) (sym (length-set p.chunks c []))
                (subst (λ (y : ℕ). y < length p.chunks) (sym e) (within p index c there)),
            λ j. away
                (subst (λ (y : ℕ). IsItem y (without c p.order)) e j),
          ))
          (λ (z : ⊥). absurd z) k)
          (In-append d p.free (c ∷ []) m);
      once = successive_append (λ (x y : ℕ). x ≢ y) p.free (c ∷ []) index.once (tt, tt)
          (λ x y i j e. ⊎_elim (λ (h : y ≡ c). (index.unused x i).1
          (subst (λ (z : ℕ). IsItem z p.order) (sym (e ∙ h)) there)) (λ (z : ⊥). z) j);
      counted = let h = index.counted in let l = length-set p.chunks c [] in let s = shorter in
          let n = length_push p.free c in omega arith;
      roomy = let h = index.roomy in let l = length-set p.chunks c [] in omega arith;
      few = let h = index.few in let l = length-set p.chunks c [] in omega arith;
      light = let h = index.light in
          let a = ap weight_of dropped_all in
          let w = weight-append (chunks_before c p) (chunks_after c p) in
          let t = ap weight_of (located p index c there) in
          let u = weight-append (chunks_before c p ++ chunk_at p.chunks c) (chunks_after c p) in
          let v = weight-append (chunks_before c p) (chunk_at p.chunks c) in
          omega arith;
    }
      where
        names_rest : (d : ℕ) → IsItem d (without c p.order) → IsItem d p.order
        names_rest d h =
            subst (IsItem d) (sym (q p index c there).is)
            (⊎_elim (λ (k : IsItem d f). item-front d f ((q p index c there).item ∷ b) k)
            (λ (k : IsItem d b). item-back d f ((q p index c there).item ∷ b) (inr k))
            (item-append d f b (subst (IsItem d) without_is h)))

  -- one more number
  pub kept_at : (new : List Item) (d : ℕ) → IsItem d p.order → chunk_at (p.chunks ++ new ∷ []) d ≡ chunk_at p.chunks d
  kept_at new d m = get_or_append_left p.chunks (new ∷ []) [] d (within p index d m)

  pub spared_all : (new : List Item) → joined (p.chunks ++ new ∷ []) p.order ≡ all_items p
  spared_all new = joined_same (p.chunks ++ new ∷ []) p.chunks p.order (λ d m. kept_at new d m)

  pub spared_index : (room : ℕ) → p.free ≡ [] → length p.chunks + 1 ≤ room → length p.chunks + 1 < 2 ^ 32
      → IsIndex (record p { chunks = p.chunks ++ [] ∷ []; free = p.free ++ length p.chunks ∷ []; room = room })
  spared_index room none big few = record {
    each = λ i m. kept_chunk i m (p.chunks ++ [] ∷ []) (let l = length_push p.chunks [] in omega arith)
        (kept_at [] i.name (item_named i p.order i.name m refl)) p.homes (λ x k h. (h, refl));
    apart = index.apart;
    unused = λ d m. ⊎_elim (λ (k : In d p.free). absurd (subst (In d) none k))
        (λ (k : In d (length p.chunks ∷ [])). ⊎_elim
        (λ (e : d ≡ length p.chunks). (
          let l = length_push p.chunks [] in
              omega arith,
          λ j. let w = within p index d j in clash d (length p.chunks) w e,
        ))
        (λ (z : ⊥). absurd z) k)
        (In-append d p.free (length p.chunks ∷ []) m);
    once = subst (λ (xs : List ℕ). Successive (λ (x y : ℕ). x ≢ y) (xs ++ length p.chunks ∷ [])) (sym none) (tt, tt);
    counted = let h = index.counted in let l = length_push p.chunks [] in
        let n = length_push p.free (length p.chunks) in omega arith;
    roomy = let l = length_push p.chunks [] in omega arith;
    few = let l = length_push p.chunks [] in omega arith;
    light = subst (λ (xs : List Item). weight_of xs < 2 ^ 31) (sym (spared_all [])) index.light;
  }
    where
      clash : (a b : ℕ) → a < b → a ≡ b → ⊥
      clash a b h e = omega arith

  pub room_index : (room : ℕ) → p.room ≤ room → IsIndex (record p { room = room })
  room_index room more = record {
    each = index.each;
    apart = index.apart;
    unused = index.unused;
    once = index.once;
    counted = index.counted;
    roomy = let h = index.roomy in omega arith;
    few = index.few;
    light = index.light;
  }

  -- more chunks than are used
  pub longer_index : (room : ℕ) → length p.chunks + 1 ≤ room → length p.chunks + 1 < 2 ^ 32
      → IsIndex (record p { chunks = p.chunks ++ [] ∷ []; room = room })
  longer_index room big few = record {
    each = λ i m. kept_chunk i m (p.chunks ++ [] ∷ []) (let l = length_push p.chunks [] in omega arith)
        (kept_at [] i.name (item_named i p.order i.name m refl)) p.homes (λ x k h. (h, refl));
    apart = index.apart;
    unused = λ d m. let u = index.unused d m in (let l = length_push p.chunks [] in let w = u.0 in omega arith, u.1);
    once = index.once;
    counted = let h = index.counted in let l = length_push p.chunks [] in omega arith;
    roomy = let l = length_push p.chunks [] in omega arith;
    few = let l = length_push p.chunks [] in omega arith;
    light = subst (λ (xs : List Item). weight_of xs < 2 ^ 31) (sym (spared_all [])) index.light;
  }

-- a new chunk in the order, between a front and a back
module _ (p : Parts) (index : IsIndex p) (front back : List Item) (is : p.order ≡ front ++ back) (d : ℕ)
    (rest : List ℕ) (free : p.free ≡ rest ++ d ∷ []) (new : List Item) where
  abbrev pub order_with : List Item
  order_with = front ++ summary d new ∷ back

  d_free : In d p.free
  d_free = subst (In d) (sym free) (In-back d rest (d ∷ []) (inl refl))

  unused_d : IsItem d p.order → ⊥
  unused_d = (index.unused d d_free).1

  in_front : (i : Item) → In i front → In i p.order
  in_front i m = subst (In i) (sym is) (In-front i front back m)

  in_back : (i : Item) → In i back → In i p.order
  in_back i m = subst (In i) (sym is) (In-back i front back m)

  not_in_front : IsItem d front → ⊥
  not_in_front h = unused_d (subst (IsItem d) (sym is) (item-front d front back h))

  not_in_back : IsItem d back → ⊥
  not_in_back h = unused_d (subst (IsItem d) (sym is) (item-back d front back h))

  pub added_all : joined (set p.chunks d new) order_with ≡ joined p.chunks front ++ new ++ joined p.chunks back
  added_all =
      joined-append (set p.chunks d new) front (summary d new ∷ back)
      ∙ (λ i. joined-set p.chunks d new front not_in_front i
      ++ (get_or-set_same p.chunks d new [] (index.unused d d_free).0 i
      ++ joined-set p.chunks d new back not_in_back i))
      ∙ sym (append_assoc (joined p.chunks front) new (joined p.chunks back))

  pub was_all : all_items p ≡ joined p.chunks front ++ joined p.chunks back
  was_all = ap (joined p.chunks) is ∙ joined-append p.chunks front back

  pub added_index : (next : List ℕ) → 0 < length new → AreApart new → AreNew new (all_items p) → AreHomes d new next
      → ((x : ℕ) → x < length p.homes → (x < length next) × ((IsItem x new → ⊥) → get_or next x 0 ≡ get_or p.homes x 0))
      → weight_of (all_items p) + weight_of new < 2 ^ 31
      → IsIndex (record p { chunks = set p.chunks d new; order = order_with; homes = next; free = rest })
  added_index next filled apart fresh home kept light = record {
    each = λ i m. ⊎_elim (λ (k : In i front). other i (in_front i k)
        (λ e. not_in_front (item_named p index i front d k e)))
        (λ (k : In i (summary d new ∷ back)). ⊎_elim (λ (e : i ≡ summary d new). subst
        (IsChunk (set p.chunks d new) next) (sym e) here)
        (λ (j : In i back). other i (in_back i j) (λ e. not_in_back (item_named p index i back d j e))) k)
        (In-append i front (summary d new ∷ back) m);
    apart = apart-append front (summary d new ∷ back) (apart-front front back whole)
        (one_more (apart-back front back whole))
        (λ x i j. ⊎_elim (λ (e : x ≡ d). not_in_front (subst (λ (y : ℕ). IsItem y front) e i))
        (λ (k : IsItem x back). apart-parts front back whole x i k) j);
    unused = λ c m.
        let u = index.unused c (subst (In c) (sym free) (In-front c rest (d ∷ []) m)) in (
          subst (λ (n : ℕ). c < n) (sym (length-set p.chunks d new)) u.0,
          λ j. ⊎_elim (λ (k : IsItem c front). u.1 (subst (IsItem c) (sym is) (item-front c front back k)))
              (λ (k : IsItem c (summary d new ∷ back)). ⊎_elim
              (λ (e : c ≡ d). across (λ (x y : ℕ). x ≢ y) rest (d ∷ [])
              (subst (Successive (λ (x y : ℕ). x ≢ y)) free index.once) c d m (inl refl) e)
              (λ (l : IsItem c back). u.1 (subst (IsItem c) (sym is) (item-back c front back l))) k)
              (item-append c front (summary d new ∷ back) j),
        );
    once = successive_front (λ (x y : ℕ). x ≢ y) rest (d ∷ [])
        (subst (Successive (λ (x y : ℕ). x ≢ y)) free index.once);
    counted =
        let h = index.counted in
        let l = length-set p.chunks d new in
        let one = ap (λ (xs : List Item). length xs) is in
        let two = length-append front back in
        let three = length-append front (summary d new ∷ back) in
        let four = ap (λ (xs : List ℕ). length xs) free in
        let five = length_push rest d in
        omega arith;
    roomy = let h = index.roomy in let l = length-set p.chunks d new in omega arith;
    few = let h = index.few in let l = length-set p.chunks d new in omega arith;
    light =
        let a = ap weight_of added_all in
        let b = ap weight_of was_all in
        let one = weight-append (joined p.chunks front) (joined p.chunks back) in
        let two = weight-append (joined p.chunks front ++ new) (joined p.chunks back) in
        let three = weight-append (joined p.chunks front) new in
        omega arith;
  }
    where
      whole : AreApart (front ++ back)
      whole = subst AreApart is index.apart

      one_more : AreApart back → AreApart (summary d new ∷ back)
      one_more a = (
        all_of (λ (y : ℕ). d ≢ y) (names back)
            (λ y m e. not_in_back (subst (λ (z : ℕ). IsItem z back) (sym e) m)),
        a,
      )

      here : IsChunk (set p.chunks d new) next (summary d new)
      here =
          let same : chunk_at (set p.chunks d new) d ≡ new =
          get_or-set_same p.chunks d new [] (index.unused d d_free).0 in
          record {
            within = subst (λ (n : ℕ). d < n) (sym (length-set p.chunks d new)) (index.unused d d_free).0;
            some = subst (λ (xs : List Item). 0 < length xs) (sym same) filled;
            apart = subst AreApart (sym same) apart;
            told = ap (summary d) (sym same);
            homed = subst (λ (xs : List Item). AreHomes d xs next) (sym same) home;
          }

      other : (i : Item) → In i p.order → (i.name ≡ d → ⊥) → IsChunk (set p.chunks d new) next i
      other i m n =
          kept_chunk p index i m (set p.chunks d new) (let l = length-set p.chunks d new in omega arith)
          (get_or-set_other p.chunks d i.name new [] n) next
          (λ x k h. let l = kept x h in (l.0, l.1 (λ j. fresh x j (joined_item p.chunks x i p.order m k))))

-- the last of the free numbers
pub last_free : (inside free : List ℕ) (n d : ℕ) → inside ≡ free → 0 < length free → n ≡ length free → d
    ≡ get_or inside (n - 1) d → In d free
last_free inside free n d same some long e =
    subst (λ (y : ℕ). In y free) (sym (e ∙ (λ i. get_or (same i) (long i - 1) d)
    ∙ get_or_default free (length free - 1) d 0 (omega arith))) (In_at free (length free - 1) (omega arith))

pub popped : (inside free rest : List ℕ) (n d : ℕ) (r : Option ℕ) → inside ≡ free → 0 < length free → n ≡ length free
    → d ≡ get_or inside (n - 1) d
    → inside ≡ rest ++ option_to_list r → r ≡ Some (get_or inside (length inside - 1) d) → free ≡ rest ++ d ∷ []
popped inside free rest n d r same some long e parts is =
    let there : n ≡ length inside = long ∙ ap (λ (xs : List ℕ). length xs) (sym same) in
    sym same ∙ parts ∙ ap (λ (o : Option ℕ). rest ++ option_to_list o)
    (is ∙ ap Some (sym (e ∙ ap (λ (k : ℕ). get_or inside (k - 1) d) there)))
