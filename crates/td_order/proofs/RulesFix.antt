-- The rules on two atoms fix the order: where two keys first differ, a rule says which atom stands first.
use Rattle.std.proofs.Common.{◌≡◌, ◌≢◌, ◌⊎◌, ◌<◌, ℕ, List, [], ◌∷◌, ◌++◌, true, false, refl, sym, ap}
use Rattle.std.proofs.Common.{◌∙◌, subst, inl, inr, ⊎_elim, arith, append_assoc}
use Rattle.std.proofs.lemmas.Bool.{cases_Bool}
use Rattle.td_base.specs.declared.bit.Bit.TheVariants.{Left, Right}
use Rattle.td_base.specs.Value.{DotValue, AtomIdValue}
use Rattle.td_base.specs.Lists.{In, Successive, StandsBefore}
use Rattle.td_base.proofs.Lists.{all_in, all_of}
use Rattle.td_path.specs.declared.slot.Slot.{Slot}
use Rattle.td_path.specs.declared.slot.Slot.TheVariants.{Root, At}
use Rattle.td_op.specs.Op.{OpValue}
use Rattle.td_op.specs.declared.insertion.Insertion.{Insertion}
use Rattle.td_order.specs.Insertions.{IsInsertionOf}
use Rattle.td_base.specs.Order.{dot_lt}
use Rattle.td_op.specs.Insertion.{ids_of}
use Rattle.td_order.specs.LineUp.{line_up}
use Rattle.td_order.specs.Under.{under}
use Rattle.td_order.specs.Place.{precedes}
use Rattle.td_order.specs.Order.{order}
use Rattle.td_order.specs.Causal.{HasEpochs, IsWellRooted}
use Rattle.td_order.specs.Standing.{HangsAt, HangsOn, the_atom, on_a_side, ObeysRules, StandsNearer, StandsOnSide}
use Rattle.td_order.proofs.Lex.{Tri, below, same, above}
use Rattle.td_order.proofs.Keys.{Key, StepLt, KeyLt, key_strict, step, id_of}
use Rattle.td_base.proofs.Orders.{dot_lt_from}
use Rattle.td_order.proofs.Family.{Names, IsRooted}
use Rattle.td_order.proofs.Fits.{slot_key, OlderRank, Found, find, key_end, ids_dot, rooted_at}
use Rattle.td_order.proofs.Fits.{same_insert, slot_key_same, snoc_last, snoc_not_nil}
use Rattle.td_order.proofs.Placing.{IdLt, id_trans, older_apart, placed-In}
use Rattle.td_order.proofs.PlaceRises.{cons_nil}
use Rattle.td_base.proofs.Rising.{one_rising, stands_last, stands_trans}
use Rattle.td_op.proofs.InsertionLemmas.{In-insertions}
use Rattle.td_order.proofs.LineUpLemmas.{In-line_up}
use Rattle.td_order.proofs.UnderLemmas.{under_by_slots}
use Rattle.td_order.proofs.StandingLemmas.{line, rank, K, fits, rises, in_line, same_rank, older_rank}
use Rattle.td_order.proofs.StandingLemmas.{sides_kept, runs_kept, concurrent_by_dot, newer_is_nearer}
use Rattle.td_order.proofs.Spliced.{order_atoms, order_distinct, order_members}

-- where two keys first differ
data Differ (u v : Key) : Type 0 where
  shorter : (p : Key) (w0 : List ℕ) (w : Key) → u ≡ p → v ≡ p ++ (w0 ∷ w) → Differ u v
  at_step : (p : Key) (s t : List ℕ) (u' v' : Key) → u ≡ p ++ (s ∷ u') → v ≡ p ++ (t ∷ v') → StepLt s t → Differ u v

differ_more : (x : List ℕ) (u v : Key) → Differ u v → Differ (x ∷ u) (x ∷ v)
differ_more x u v (shorter p w0 w a b) = shorter (x ∷ p) w0 w (λ i. x ∷ a i) (λ i. x ∷ b i)
differ_more x u v (at_step p s t u' v' a b lt) = at_step (x ∷ p) s t u' v' (λ i. x ∷ a i) (λ i. x ∷ b i) lt

differ : (u v : Key) → KeyLt u v → Differ u v
differ [] [] h = absurd h
differ (x ∷ u) [] h = absurd h
differ [] (y ∷ v) h = shorter [] y v refl refl
differ (x ∷ u) (y ∷ v) h =
    ⊎_elim
    (λ (a : StepLt x y). at_step [] x y u v refl refl a)
    (λ (b : (x ≡ y) × KeyLt u v). subst (λ z. Differ (x ∷ u) (z ∷ v)) b.0 (differ_more x u v (differ u v b.1)))
    h

step_cases : (r q : ℕ) (d e : DotValue) (i j s t : ℕ) → StepLt (step r d i s) (step q e j t) → (r < q)
    ⊎ ((r ≡ q) × ((dot_lt d e ≡ true) ⊎ ((d ≡ e) × ((i < j) ⊎ ((i ≡ j) × (s < t))))))
step_cases r q d e i j s t h =
    ⊎_elim (λ a. inl a)
    (λ (b : (r ≡ q) × StepLt (d.site ∷ d.seq ∷ i ∷ s ∷ []) (e.site ∷ e.seq ∷ j ∷ t ∷ [])). inr (
      b.0,
      ⊎_elim (λ a. inl (dot_lt_from d e (inl a)))
          (λ (c : (d.site ≡ e.site) × StepLt (d.seq ∷ i ∷ s ∷ []) (e.seq ∷ j ∷ t ∷ [])).
          ⊎_elim (λ a. inl (dot_lt_from d e (inr (c.0, a))))
          (λ (f : (d.seq ≡ e.seq) × StepLt (i ∷ s ∷ []) (j ∷ t ∷ [])). inr (
            (λ x. record { site = c.0 x; seq = f.0 x }),
            ⊎_elim (λ a. inl a) (λ (g : (i ≡ j) × StepLt (s ∷ []) (t ∷ [])). inr
                (g.0, ⊎_elim (λ a. a) (λ (k : (s ≡ t) × StepLt [] []). absurd k.1) g.1)) f.1,
          )) c.1)
          b.1,
    ))
    h

one_side : (r q : ℕ) (d e : DotValue) (i j s t : ℕ) → step r d i s ≡ step q e j t → s ≡ t
one_side r q d e i j s t h = cc

one_atom : (r q : ℕ) (x y : AtomIdValue) (s t : ℕ) → step r x.dot x.offset s ≡ step q y.dot y.offset t → x ≡ y
one_atom r q x y s t h =
    let a : x.dot.site ≡ y.dot.site = cc in
    let b : x.dot.seq ≡ y.dot.seq = cc in
    let c : x.offset ≡ y.offset = cc in
    λ i. record { dot = record { site = a i; seq = b i }; offset = c i }

side_case : (n : ℕ) → (n ≡ 1) ⊎ (n ≡ 1 → ⊥)
side_case n = grind arith

-- standing before, in a list that has each atom once
abbrev Distinct : List AtomIdValue → Type 0
Distinct list = Successive (λ (x y : AtomIdValue). x ≢ y) list

-- a list whose atoms stand as a strict order has them rises by it
rises_as : (lt : AtomIdValue → AtomIdValue → Type 0) (list : List AtomIdValue)
    → ((x y : AtomIdValue) → In x list → In y list → Tri lt x y)
    → Distinct list → ((x y : AtomIdValue) → In x list → In y list → lt x y → StandsBefore x y list)
    → Successive lt list
rises_as lt [] tri d h = tt
rises_as lt (w ∷ list) tri d h = (
  all_of (lt w) list (λ z i. at z i (tri w z (inl refl) (inr i))),
  rises_as lt list (λ x y i j. tri x y (inr i) (inr j)) d.1 (λ x y i j k.
      ⊎_elim (λ (a : (x ≡ w) × In y list). absurd (other x i (sym a.0))) (λ b. b) (h x y (inr i) (inr j) k)),
)
  where
    other : (z : AtomIdValue) → In z list → w ≢ z
    other = all_in (λ (v : AtomIdValue). w ≢ v) list d.0

    at : (z : AtomIdValue) → In z list → Tri lt w z → lt w z
    at z i (below a) = a
    at z i (same e) = absurd (other z i e)
    at z i (above a) = absurd (⊎_elim (λ (b : (z ≡ w) × In w list). other w b.1 refl)
        (λ b. other w (stands_last z w list b) refl) (h z w (inr i) (inl refl) a))

module _ (ops : List OpValue) (W : IsWellRooted ops) (E : HasEpochs ops) (list : List AtomIdValue)
    (R : ObeysRules ops list) where
  abbrev as_line : List Insertion
  as_line = line ops W E

  abbrev rk : Insertion → ℕ
  rk = rank ops W E

  abbrev KK : AtomIdValue → ℕ → Key
  KK = K ops W E

  of_line : (a : Insertion) → In a (line ops W E) → IsInsertionOf ops a
  of_line a i = let o = In-insertions (line_up ops) a i in
      record { op = o.0; inside = In-line_up ops o.0 o.1; is = o.2 }

  hang : (c : Insertion) → In c (line ops W E) → (x : AtomIdValue) → Names (line ops W E) x
      → under (line ops W E) c.dot x.dot ≡ true → HangsOn ops c x
  hang c i x n h =
      let d = n.0 in
      let dots : x.dot ≡ d.dot = ap (λ (y : AtomIdValue). y.dot) (ids_dot d.dot 0 d.run x n.2).1 in
      record {
        insertion = d;
        inside = of_line d n.1;
        below = (under_by_slots ops W c d (of_line c i) (of_line d n.1)).0
            (ap (under (line ops W E) c.dot) (sym dots) ∙ h);
        among = n.2;
      }

  -- x is the atom z, or hangs on the left or on the right of it
  data Spot (z x : AtomIdValue) (side : ℕ) : Type 0 where
    here : side ≡ 1 → x ≡ z → Spot z x side
    on_left : side ≡ 0 → (b : Insertion) → IsInsertionOf ops b → b.slot ≡ At z Left → HangsOn ops b x → Spot z x side
    on_right : side ≡ 2 → (b : Insertion) → IsInsertionOf ops b → b.slot ≡ At z Right → HangsOn ops b x → Spot z x side

  spot_at : (c b : Insertion) (offset side : ℕ) (q : Key) (w0 : List ℕ) (s : Slot) → b.slot ≡ s
      → IsRooted (line ops W E) s → q ++ (w0 ∷ []) ≡ slot_key KK s → w0 ≡ step (rk c) c.dot offset side
      → IsInsertionOf ops b → (x : AtomIdValue) → HangsOn ops b x → Spot (id_of c.dot offset) x side
  spot_at c b offset side q w0 Root e n k i j x h = absurd (snoc_not_nil KK rk q w0 k)
  spot_at c b offset side q w0 (At z Left) e n k i j x h =
      let p = key_end KK rk (line ops W E) (fits ops W E) z n in
      let one : step (rk c) c.dot offset side ≡ step p.1 z.dot z.offset 0 = sym i
      ∙ snoc_last KK rk q p.0 w0 (step p.1 z.dot z.offset 0) (k ∙ p.2 0) in
      let e1 : c.dot.site ≡ z.dot.site = cc in
      let e2 : c.dot.seq ≡ z.dot.seq = cc in
      let e3 : offset ≡ z.offset = cc in
      let e4 : side ≡ 0 = cc in
      let same_atom : z ≡ id_of c.dot offset = λ t. record
      { dot = record { site = sym e1 t; seq = sym e2 t }; offset = sym e3 t } in
      on_left e4 b j (e ∙ ap (λ y. At y Left) same_atom) h
  spot_at c b offset side q w0 (At z Right) e n k i j x h =
      let p = key_end KK rk (line ops W E) (fits ops W E) z n in
      let one : step (rk c) c.dot offset side ≡ step p.1 z.dot z.offset 2 = sym i
      ∙ snoc_last KK rk q p.0 w0 (step p.1 z.dot z.offset 2) (k ∙ p.2 2) in
      let e1 : c.dot.site ≡ z.dot.site = cc in
      let e2 : c.dot.seq ≡ z.dot.seq = cc in
      let e3 : offset ≡ z.offset = cc in
      let e4 : side ≡ 2 = cc in
      let same_atom : z ≡ id_of c.dot offset = λ t. record
      { dot = record { site = sym e1 t; seq = sym e2 t }; offset = sym e3 t } in
      on_right e4 b j (e ∙ ap (λ y. At y Right) same_atom) h

  spot_on : (x : AtomIdValue) (n : Names (line ops W E) x) (q : Key) (w0 : List ℕ) (w : Key) → KK x 1 ≡ q ++ (w0 ∷ w)
      → (f : Found KK rk (line ops W E) x 1 q w0 w) → (f.side ≡ 1 → ⊥) → Spot (id_of f.ins.dot f.offset) x f.side
  spot_on x n q w0 [] e f other = absurd (f.more refl other refl)
  spot_on x n q w0 (w1 ∷ w) e f other =
      let g = find KK rk (line ops W E) (fits ops W E) x n 1 (q ++ (w0 ∷ [])) w1 w
      (e ∙ sym (append_assoc q (w0 ∷ []) (w1 ∷ w))) in
      spot_at f.ins g.ins f.offset f.side q w0 g.ins.slot refl
      (rooted_at KK rk (line ops W E) (fits ops W E) g.ins g.inside) g.at f.is (of_line g.ins g.inside) x
      (hang g.ins g.inside x n g.above)

  spot : (x : AtomIdValue) (n : Names (line ops W E) x) (q : Key) (w0 : List ℕ) (w : Key) → KK x 1 ≡ q ++ (w0 ∷ w)
      → (f : Found KK rk (line ops W E) x 1 q w0 w) → Spot (id_of f.ins.dot f.offset) x f.side
  spot x n q w0 w e f = ⊎_elim (λ (one : f.side ≡ 1). here one (f.last one).1) (λ other. spot_on x n q w0 w e f other)
      (side_case f.side)

  hangs_at : (z x : AtomIdValue) (side : ℕ) → Spot z x side → HangsAt ops z x
  hangs_at z x side (here o e) = the_atom e
  hangs_at z x side (on_left o b i e h) = on_a_side b Left i e h
  hangs_at z x side (on_right o b i e h) = on_a_side b Right i e h

  left_before : (b : Insertion) (z x : AtomIdValue) → IsInsertionOf ops b → b.slot ≡ At z Left → HangsOn ops b x
      → StandsBefore x z list
  left_before b z x i e h = subst (λ s. StandsOnSide list s x) e (R.sides b i x h)

  right_after : (b : Insertion) (z x : AtomIdValue) → IsInsertionOf ops b → b.slot ≡ At z Right → HangsOn ops b x
      → StandsBefore z x list
  right_after b z x i e h = subst (λ s. StandsOnSide list s x) e (R.sides b i x h)

  by_sides : (z x y : AtomIdValue) (s t : ℕ) → Spot z x s → Spot z y t → s < t → StandsBefore x y list
  by_sides z x y s t (here o e) (here p g) lt = absurd (omega arith)
  by_sides z x y s t (here o e) (on_left p c j g k) lt = absurd (omega arith)
  by_sides z x y s t (here o e) (on_right p c j g k) lt =
      subst (λ w. StandsBefore w y list) (sym e) (right_after c z y j g k)
  by_sides z x y s t (on_left o b i e h) (here p g) lt =
      subst (λ w. StandsBefore x w list) (sym g) (left_before b z x i e h)
  by_sides z x y s t (on_left o b i e h) (on_left p c j g k) lt = absurd (omega arith)
  by_sides z x y s t (on_left o b i e h) (on_right p c j g k) lt =
      stands_trans list R.once x z y (left_before b z x i e h) (right_after c z y j g k)
  by_sides z x y s t (on_right o b i e h) (here p g) lt = absurd (omega arith)
  by_sides z x y s t (on_right o b i e h) (on_left p c j g k) lt = absurd (omega arith)
  by_sides z x y s t (on_right o b i e h) (on_right p c j g k) lt = absurd (omega arith)

  names_of : (z x : AtomIdValue) (side : ℕ) → Spot z x side → Names (line ops W E) x → Names (line ops W E) z
  names_of z x side (here o e) n = subst (λ w. Names (line ops W E) w) e n
  names_of z x side (on_left o b i e h) n = subst (λ s. IsRooted (line ops W E) s) e
      (rooted_at KK rk (line ops W E) (fits ops W E) b (in_line ops W E b i))
  names_of z x side (on_right o b i e h) n = subst (λ s. IsRooted (line ops W E) s) e
      (rooted_at KK rk (line ops W E) (fits ops W E) b (in_line ops W E b i))

  own_atom : (b : Insertion) (z : AtomIdValue) → In b (line ops W E) → z.dot ≡ b.dot → Names (line ops W E) z
      → In z (ids_of b)
  own_atom b z i e n =
      let d = n.0 in
      let same_one : d ≡ b = same_insert KK rk (line ops W E) (fits ops W E) d b n.1 i
      (sym (ap (λ (y : AtomIdValue). y.dot) (ids_dot d.dot 0 d.run z n.2).1) ∙ e) in
      subst (λ (a : Insertion). In z (ids_of a)) same_one n.2

  -- two insertions in one slot of which the first has the smaller rank
  newer_first : (b c : Insertion) (s : Slot) → c.slot ≡ s → IsInsertionOf ops b → IsInsertionOf ops c → b.slot
      ≡ c.slot → precedes c b ≡ true → OlderRank s (rk c) (rk b) → rk b < rk c
      → (x y : AtomIdValue) → HangsOn ops b x → HangsOn ops c y → StandsNearer list s x y → StandsBefore x y list
  newer_first b c Root e i j g p r lt x y h k near = near
  newer_first b c (At z Left) e i j g p r lt x y h k near = absurd (omega arith)
  newer_first b c (At z Right) e i j g p r lt x y h k near = near

  older_first : (b c : Insertion) (s : Slot) → OlderRank s (rk b) (rk c) → rk b < rk c → (x y : AtomIdValue)
      → StandsNearer list s y x → StandsBefore x y list
  older_first b c Root r lt x y near = absurd (omega arith)
  older_first b c (At z Left) r lt x y near = near
  older_first b c (At z Right) r lt x y near = absurd (omega arith)

  by_rank_at : (b c : Insertion) → IsInsertionOf ops b → IsInsertionOf ops c → b.slot ≡ c.slot → rk b < rk c
      → (x y : AtomIdValue) → HangsOn ops b x → HangsOn ops c y
      → (precedes b c ≡ true) ⊎ (precedes b c ≡ false) → (precedes c b ≡ true) ⊎ (precedes c b ≡ false)
      → StandsBefore x y list
  by_rank_at b c i j e lt x y h k p q =
      ⊎_elim
      (λ (t : precedes b c ≡ true). older_first b c c.slot (older_rank ops W E b c i j e t) lt x y
      (R.nearer b c i j e t y x k h))
      (λ (f : precedes b c ≡ false). ⊎_elim
      (λ (t : precedes c b ≡ true). newer_first b c b.slot (sym e) i j e t (older_rank ops W E c b j i (sym e) t) lt x
      y h k (R.nearer c b j i (sym e) t x y h k))
      (λ (g : precedes c b ≡ false). absurd (equal_ranks (rk b) (rk c) (same_rank ops W E b c i j e f g) lt))
      q)
      p
    where
      equal_ranks : (m n : ℕ) → m ≡ n → m < n → ⊥
      equal_ranks m n e lt = omega arith

  by_dot_at : (b c : Insertion) → IsInsertionOf ops b → IsInsertionOf ops c → b.slot ≡ c.slot → rk b ≡ rk c
      → dot_lt b.dot c.dot ≡ true → (x y : AtomIdValue) → HangsOn ops b x → HangsOn ops c y → StandsBefore x y list
  by_dot_at b c i j e r lt x y h k =
      R.by_dot b c i j e
      (λ t. older_apart c.slot (rk b) (rk c) (older_rank ops W E b c i j e t) r)
      (λ t. older_apart b.slot (rk c) (rk b) (older_rank ops W E c b j i (sym e) t) (sym r))
      lt x y h k

  by_run_at : (b c : Insertion) → In b (line ops W E) → In c (line ops W E) → b.dot ≡ c.dot → (m n s t : ℕ)
      → (x y : AtomIdValue) → Names (line ops W E) x → Names (line ops W E) y
      → Spot (id_of b.dot m) x s → Spot (id_of c.dot n) y t → (m < n) ⊎ ((m ≡ n) × (s < t)) → StandsBefore x y list
  by_run_at b c i j e m n s t x y u v p q h =
      let q' : Spot (id_of b.dot n) y t = subst (λ d. Spot (id_of d n) y t) (sym e) q in
      ⊎_elim
      (λ (lt : m < n). R.runs b (of_line b i) (id_of b.dot m) (id_of b.dot n)
      (own_atom b (id_of b.dot m) i refl (names_of (id_of b.dot m) x s p u))
      (own_atom b (id_of b.dot n) i refl (names_of (id_of b.dot n) y t q' v)) lt x y
      (hangs_at (id_of b.dot m) x s p) (hangs_at (id_of b.dot n) y t q'))
      (λ (k : (m ≡ n) × (s < t)). by_sides (id_of b.dot m) x y s t p
      (subst (λ o. Spot (id_of b.dot o) y t) (sym k.0) q') k.1)
      h

  by_step : (x y : AtomIdValue) (n : Names (line ops W E) x) (m : Names (line ops W E) y) (p : Key) (s t : List ℕ)
      (u v : Key) → KK x 1 ≡ p ++ (s ∷ u) → KK y 1 ≡ p ++ (t ∷ v) → StepLt s t → StandsBefore x y list
  by_step x y n m p s t u v a b lt =
      let f = find KK rk (line ops W E) (fits ops W E) x n 1 p s u a in
      let g = find KK rk (line ops W E) (fits ops W E) y m 1 p t v b in
      let slots : f.ins.slot ≡ g.ins.slot =
      slot_key_same KK rk (line ops W E) (fits ops W E) f.ins.slot g.ins.slot
      (rooted_at KK rk (line ops W E) (fits ops W E) f.ins f.inside)
      (rooted_at KK rk (line ops W E) (fits ops W E) g.ins g.inside) (sym f.at ∙ g.at) in
      let steps : StepLt (step (rk f.ins) f.ins.dot f.offset f.side) (step (rk g.ins) g.ins.dot g.offset g.side) =
      subst (λ w. StepLt w (step (rk g.ins) g.ins.dot g.offset g.side)) f.is (subst (λ w. StepLt s w) g.is lt) in
      let i = of_line f.ins f.inside in
      let j = of_line g.ins g.inside in
      let h = hang f.ins f.inside x n f.above in
      let k = hang g.ins g.inside y m g.above in
      ⊎_elim
      (λ r. by_rank_at f.ins g.ins i j slots r x y h k (cases_Bool (precedes f.ins g.ins))
      (cases_Bool (precedes g.ins f.ins)))
      (λ (r : (rk f.ins ≡ rk g.ins) × ((dot_lt f.ins.dot g.ins.dot ≡ true)
      ⊎ ((f.ins.dot ≡ g.ins.dot) × ((f.offset < g.offset) ⊎ ((f.offset ≡ g.offset) × (f.side < g.side)))))).
      ⊎_elim
      (λ d. by_dot_at f.ins g.ins i j slots r.0 d x y h k)
      (λ (d : (f.ins.dot ≡ g.ins.dot) × ((f.offset < g.offset) ⊎ ((f.offset ≡ g.offset) × (f.side < g.side)))).
      by_run_at f.ins g.ins f.inside g.inside d.0 f.offset g.offset f.side g.side x y n m (spot x n p s u a f)
      (spot y m p t v b g) d.1)
      r.1)
      (step_cases (rk f.ins) (rk g.ins) f.ins.dot g.ins.dot f.offset g.offset f.side g.side steps)

  -- the key of an atom is no front of another's
  no_shorter : (x y : AtomIdValue) (n : Names (line ops W E) x) (m : Names (line ops W E) y) (p : Key) (w0 : List ℕ)
      (w : Key) → KK x 1 ≡ p → KK y 1 ≡ p ++ (w0 ∷ w) → ⊥
  no_shorter x y n m p w0 w a b =
      let e = key_end KK rk (line ops W E) (fits ops W E) x n in
      let s0 = step e.1 x.dot x.offset 1 in
      let whole : KK y 1 ≡ e.0 ++ (s0 ∷ (w0 ∷ w)) = b
      ∙ (ap (λ k. k ++ (w0 ∷ w)) (sym a ∙ e.2 1) ∙ append_assoc e.0 (s0 ∷ []) (w0 ∷ w)) in
      let f = find KK rk (line ops W E) (fits ops W E) y m 1 e.0 s0 (w0 ∷ w) whole in
      cons_nil w0 w (f.last (sym (one_side e.1 (rk f.ins) x.dot f.ins.dot x.offset f.offset 1 f.side f.is))).0

  placed_by : (x y : AtomIdValue) (n : Names (line ops W E) x) (m : Names (line ops W E) y) → Differ (KK x 1) (KK y 1)
      → StandsBefore x y list
  placed_by x y n m (shorter p w0 w a b) = absurd (no_shorter x y n m p w0 w a b)
  placed_by x y n m (at_step p s t u v a b lt) = by_step x y n m p s t u v a b lt

  named_in : (x : AtomIdValue) → In x list → Names (line ops W E) x
  named_in x i = let a = (R.atoms x).0 i in (a.insertion, in_line ops W E a.insertion a.inside, a.among)

  one_key : (x y : AtomIdValue) → Names (line ops W E) x → Names (line ops W E) y → KK x 1 ≡ KK y 1 → x ≡ y
  one_key x y n m e =
      let p = key_end KK rk (line ops W E) (fits ops W E) x n in
      let q = key_end KK rk (line ops W E) (fits ops W E) y m in
      one_atom p.1 q.1 x y 1 1 (snoc_last KK rk p.0 q.0 (step p.1 x.dot x.offset 1) (step q.1 y.dot y.offset 1)
      (sym (p.2 1) ∙ (e ∙ q.2 1)))

  compared_at : (x y : AtomIdValue) → Names (line ops W E) x → Names (line ops W E) y → Tri KeyLt (KK x 1) (KK y 1)
      → Tri (IdLt KK rk) x y
  compared_at x y n m (below h) = below h
  compared_at x y n m (same e) = same (one_key x y n m e)
  compared_at x y n m (above h) = above h

  pub fixed : list ≡ order ops
  fixed =
      one_rising (IdLt KK rk) (λ x. key_strict.irrefl (KK x 1)) (id_trans KK rk) list (order ops)
      (rises_as (IdLt KK rk) list
      (λ x y i j. compared_at x y (named_in x i) (named_in y j) (key_strict.tri (KK x 1) (KK y 1)))
      R.once
      (λ x y i j lt. placed_by x y (named_in x i) (named_in y j) (differ (KK x 1) (KK y 1) lt)))
      (rises ops W E)
      (λ x i. placed-In (line ops W E) x (named_in x i))
      (λ x i. (R.atoms x).1 (order_atoms ops x i))

pub rules_fix : (ops : List OpValue) (list : List AtomIdValue) → IsWellRooted ops → HasEpochs ops
    → ObeysRules ops list → list ≡ order ops
rules_fix ops list W E R = fixed ops W E list R

pub rules_obeyed : (ops : List OpValue) → IsWellRooted ops → HasEpochs ops → ObeysRules ops (order ops)
rules_obeyed ops W E = record {
  atoms = order_members ops;
  once = order_distinct ops W.apart;
  sides = sides_kept ops W E;
  runs = runs_kept ops W E;
  by_dot = concurrent_by_dot ops W E;
  nearer = newer_is_nearer ops W E;
}

pub ruleset rules_of_order = (rules_obeyed, rules_fix)
