-- The parts of a list after the chunks behind one were taken out, read in those before.
use Rattle.std.proofs.Common.{◌≡◌, ◌+◌, ◌≤◌, ℕ, List, [], ◌∷◌, ◌++◌, set, take, drop, sym, ap}
use Rattle.std.proofs.Common.{◌∙◌, subst, inl, inr, arith, Option, None, Some}
use Rattle.std.proofs.lemmas.Option.{same_Some, none-some}
use Rattle.std.proofs.lemmas.List.{get_or-set_other, get_or-set_same}
use Rattle.std.specs.Option.{ForSome}
use Rattle.td_list.specs.Items.{Item, IsItem, AreApart, items_before, items_from}
use Rattle.td_list.specs.Items.{items_after, items_from_end, renew, weight_of}
use Rattle.td_list.specs.Index.{Parts, chunk_at, joined, all_items, chunks_before, chunks_after, summary, IsIndex}
use Rattle.td_list.proofs.Found.{item_behind}
use Rattle.td_list.proofs.Changes.{weight_around}
use Rattle.td_list.proofs.Names.{weight-append, weight-parts, item-front, item-back, apart-parts, apart-back}
use Rattle.td_list.proofs.Parted.{Parted, parted, before_is, from_is, after_is, before_at, after_at}
use Rattle.td_list.proofs.Joined.{joined-append, joined_same, joined-set, within}
use Rattle.td_list.proofs.Dropping.{front_of, front_is, whole, end_follows}

module _ (was : Parts) (c : ℕ) (there : IsItem c was.order) (p : Parts) (back : List Item)
    (order : p.order ≡ front_of c was ++ back)
    (kept : (e : ℕ) → IsItem e (front_of c was) → chunk_at p.chunks e ≡ chunk_at was.chunks e) where
  abbrev r : Parted c was.order
  r = parted c was.order there

  order_is : p.order ≡ r.front ++ r.item ∷ back
  order_is = order ∙ whole c None was there back

  front_kept : (e : ℕ) → IsItem e r.front → chunk_at p.chunks e ≡ chunk_at was.chunks e
  front_kept e m = kept e (subst (IsItem e) (sym (front_is c None was there)) (item-front e r.front (r.item ∷ []) m))

  there_reached : IsItem c p.order
  there_reached = subst (IsItem c) (sym order_is) (item-back c r.front (r.item ∷ back) (inl (sym r.named)))

  chunk_reached : chunk_at p.chunks c ≡ chunk_at was.chunks c
  chunk_reached = kept c (subst (IsItem c) (sym (front_is c None was there))
      (item-back c r.front (r.item ∷ []) (inl (sym r.named))))

  before_reached : chunks_before c p ≡ chunks_before c was
  before_reached =
      ap (joined p.chunks) (ap (items_before c) order_is ∙ before_at c r.front r.item back r.named r.away)
      ∙ joined_same p.chunks was.chunks r.front front_kept ∙ ap (joined was.chunks) (sym (before_is c was.order there))

  after_reached : chunks_after c p ≡ joined p.chunks back
  after_reached = ap (joined p.chunks) (ap (items_after c) order_is ∙ after_at c r.front r.item back r.named r.away)

-- the rest weighs less
pub joined_parts : (chunks : List (List Item)) (xs ys zs : List Item) → weight_of (joined chunks (xs ++ (ys ++ zs)))
    ≡ weight_of (joined chunks (xs ++ zs)) + weight_of (joined chunks ys)
joined_parts chunks xs ys zs =
    let one = ap weight_of (joined-append chunks xs (ys ++ zs)) in
    let two = weight-append (joined chunks xs) (joined chunks (ys ++ zs)) in
    let three = ap weight_of (joined-append chunks ys zs) in
    let four = weight-append (joined chunks ys) (joined chunks zs) in
    let five = ap weight_of (joined-append chunks xs zs) in
    let six = weight-append (joined chunks xs) (joined chunks zs) in
    omega arith

-- the chunks behind one up to an end, taken out
module _ (was : Parts) (index : IsIndex was) (c : ℕ) (there : IsItem c was.order) (end : Option ℕ)
    (ends : ForSome end (λ e. IsItem e (items_after c was.order)))
    (p : Parts) (order : p.order ≡ front_of c was ++ items_from_end end was.order)
    (kept : (e : ℕ) → IsItem e p.order → chunk_at p.chunks e ≡ chunk_at was.chunks e) where
  abbrev eb : List Item
  eb = items_from_end end was.order

  front_stays : (e : ℕ) → IsItem e (front_of c was) → chunk_at p.chunks e ≡ chunk_at was.chunks e
  front_stays e m = kept e (subst (IsItem e) (sym order) (item-front e (front_of c was) eb m))

  lighter : weight_of (all_items p) ≤ weight_of (all_items was)
  lighter =
      let e = end_follows c end was there ends index.apart in
      let all = ap weight_of (joined_same p.chunks was.chunks p.order kept) in
      let now = ap (λ (xs : List Item). weight_of (joined was.chunks xs)) order in
      let old = ap (λ (xs : List Item). weight_of (joined was.chunks xs)) e.1 in
      let parts = joined_parts was.chunks (front_of c was) e.0 eb in
      omega arith

-- with the front of the chunk at the end cut off
module _ (was : Parts) (index : IsIndex was) (c : ℕ) (there : IsItem c was.order) (d : ℕ)
    (later : IsItem d (items_after c was.order))
    (p : Parts) (pindex : IsIndex p) (order : p.order ≡ front_of c was ++ items_from d was.order)
    (kept : (e : ℕ) → IsItem e p.order → chunk_at p.chunks e ≡ chunk_at was.chunks e)
    (d_there : IsItem d was.order) (new : List Item) where
  abbrev s : Parted d was.order
  s = parted d was.order d_there

  order_p : p.order ≡ front_of c was ++ s.item ∷ s.back
  order_p = order ∙ ap (λ (xs : List Item). front_of c was ++ xs) (from_is d was.order d_there)

  end_there : IsItem d p.order
  end_there = subst (IsItem d) (sym order_p) (item-back d (front_of c was) (s.item ∷ s.back) (inl (sym s.named)))

  end_kept : chunk_at p.chunks d ≡ chunk_at was.chunks d
  end_kept = kept d end_there

  apart_p : AreApart (front_of c was ++ s.item ∷ s.back)
  apart_p = subst AreApart order_p pindex.apart

  not_front : IsItem d (front_of c was) → ⊥
  not_front m = apart-parts (front_of c was) (s.item ∷ s.back) apart_p d m (inl (sym s.named))

  not_back : IsItem d s.back → ⊥
  not_back m = apart-parts (s.item ∷ []) s.back (apart-back (front_of c was) (s.item ∷ s.back) apart_p) d
      (inl (sym s.named)) m

  order_cut : renew (summary d new) p.order ≡ front_of c was ++ summary d new ∷ s.back
  order_cut =
      (λ k. items_before d (order_p k) ++ summary d new ∷ items_after d (order_p k))
      ∙ (λ k. before_at d (front_of c was) s.item s.back s.named not_front k
      ++ summary d new ∷ after_at d (front_of c was) s.item s.back s.named not_front k)

  front_cut : (e : ℕ) → IsItem e (front_of c was) → chunk_at (set p.chunks d new) e ≡ chunk_at was.chunks e
  front_cut e m =
      get_or-set_other p.chunks d e new [] (λ q. not_front (subst (λ (y : ℕ). IsItem y (front_of c was)) q m))
      ∙ kept e (subst (IsItem e) (sym order_p) (item-front e (front_of c was) (s.item ∷ s.back) m))

  back_cut : joined (set p.chunks d new) (summary d new ∷ s.back) ≡ new ++ chunks_after d was
  back_cut =
      (λ k. get_or-set_same p.chunks d new [] (within p pindex d end_there) k ++
      (joined-set p.chunks d new s.back not_back
      ∙ joined_same p.chunks was.chunks s.back (λ e m. kept e
      (subst (IsItem e) (sym order_p) (item-back e (front_of c was) (s.item ∷ s.back) (inr m))))
      ∙ ap (joined was.chunks) (sym (after_is d was.order d_there))) k)

-- before a chunk and at it q reads as `was` did, and behind it are these items
pub record IsFrontOf (was : Parts) (c : ℕ) (q : Parts) (behind : List Item) : Type 0 where
  pub there : IsItem c q.order
  pub before : chunks_before c q ≡ chunks_before c was
  pub chunk : chunk_at q.chunks c ≡ chunk_at was.chunks c
  pub after : chunks_after c q ≡ behind
  pub lighter : weight_of (all_items q) ≤ weight_of (all_items was)

-- room was made for homes, and then the chunks behind one up to an end were taken out
module _ (was grown : Parts) (index : IsIndex was) (c : ℕ) (there : IsItem c was.order)
    (orders : grown.order ≡ was.order) (chunks : grown.chunks ≡ was.chunks) (p : Parts)
    (same : (e : ℕ) → IsItem e p.order → chunk_at p.chunks e ≡ chunk_at grown.chunks e) where
  order_was : (end : Option ℕ) → p.order ≡ front_of c grown ++ items_from_end end grown.order
      → p.order ≡ front_of c was ++ items_from_end end was.order
  order_was end dropped =
      dropped
      ∙ ap (λ (xs : List Item). items_before c xs ++ take 1 (items_from c xs) ++ items_from_end end xs) orders

  kept_was : (e : ℕ) → IsItem e p.order → chunk_at p.chunks e ≡ chunk_at was.chunks e
  kept_was e m = same e m ∙ ap (λ (cs : List (List Item)). chunk_at cs e) chunks

  -- up to no end
  pub rest_dropped : p.order ≡ front_of c grown ++ items_from_end None grown.order → IsFrontOf was c p []
  rest_dropped dropped =
      let order = order_was None dropped in
      let ends : ForSome None (λ (e : ℕ). IsItem e (items_after c was.order)) = λ e n. absurd (none-some e n) in
      let stays = front_stays was index c there None ends p order kept_was in
      record {
        there = there_reached was c there p [] order stays;
        before = before_reached was c there p [] order stays;
        chunk = chunk_reached was c there p [] order stays;
        after = after_reached was c there p [] order stays;
        lighter = lighter was index c there None ends p order kept_was;
      }

  -- up to another chunk, of which the front is cut off then
  module _ (d : ℕ) (later : IsItem d (items_after c was.order)) (pindex : IsIndex p)
      (dropped : p.order ≡ front_of c grown ++ items_from_end (Some d) grown.order) where
    order_far : p.order ≡ front_of c was ++ items_from_end (Some d) was.order
    order_far = order_was (Some d) dropped

    d_there : IsItem d was.order
    d_there = item_behind was index c there d later

    pub last_there : IsItem d p.order
    last_there = end_there was index c there d later p pindex order_far kept_was d_there []

    pub last_kept : chunk_at p.chunks d ≡ chunk_at was.chunks d
    last_kept = end_kept was index c there d later p pindex order_far kept_was d_there []

    pub far_dropped : (place : ℕ) (q : Parts)
        → all_items q ≡ chunks_before d p ++ drop place (chunk_at p.chunks d) ++ chunks_after d p
        → q.chunks ≡ set p.chunks d (drop place (chunk_at p.chunks d))
        → q.order ≡ renew (summary d (drop place (chunk_at p.chunks d))) p.order
        → IsFrontOf was c q (drop place (chunk_at was.chunks d) ++ chunks_after d was)
    far_dropped place q all cut_chunks cut_order =
        let new : List Item = drop place (chunk_at was.chunks d) in
        let back : List Item = summary d new ∷ (parted d was.order d_there).back in
        let order2 : q.order ≡ front_of c was ++ back =
        cut_order ∙ ap (λ (xs : List Item). renew (summary d (drop place xs)) p.order) last_kept
        ∙ order_cut was index c there d later p pindex order_far kept_was d_there new in
        let chunks2 : q.chunks ≡ set p.chunks d new =
        cut_chunks ∙ ap (λ (xs : List Item). set p.chunks d (drop place xs)) last_kept in
        let stays : (e : ℕ) → IsItem e (front_of c was) → chunk_at q.chunks e ≡ chunk_at was.chunks e =
        λ e m. ap (λ (cs : List (List Item)). chunk_at cs e) chunks2
        ∙ front_cut was index c there d later p pindex order_far kept_was d_there new e m in
        let ends : ForSome (Some d) (λ (e : ℕ). IsItem e (items_after c was.order)) =
        λ e n. subst (λ (y : ℕ). IsItem y (items_after c was.order)) (same_Some d e n) later in
        let less = lighter was index c there (Some d) ends p order_far kept_was in
        let cut = ap weight_of all in
        let around = weight_around p pindex d last_there (drop place (chunk_at p.chunks d)) in
        let parts = weight-parts place (chunk_at p.chunks d) in
        record {
          there = there_reached was c there q back order2 stays;
          before = before_reached was c there q back order2 stays;
          chunk = chunk_reached was c there q back order2 stays;
          after =
              after_reached was c there q back order2 stays
              ∙ ap (λ (cs : List (List Item)). joined cs back) chunks2
              ∙ back_cut was index c there d later p pindex order_far kept_was d_there new;
          lighter = omega arith;
        }
