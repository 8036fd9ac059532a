-- Where atoms stand in the order, by their keys.
use Rattle.std.proofs.Common.{◌≡◌, ◌<◌, ℕ, List, [], ◌∷◌, ◌++◌, true, false, length, refl, sym, ap}
use Rattle.std.proofs.Common.{◌∙◌, subst, inl, inr, ⊎_elim, arith, append_assoc}
use Rattle.std.specs.Prelude.{IsTrue}
use Rattle.std.proofs.lemmas.Bool.{cases_Bool}
use Rattle.td_base.specs.declared.bit.Bit.{Bit}
use Rattle.td_base.specs.declared.bit.Bit.TheVariants.{Left, Right}
use Rattle.td_base.specs.Value.{AtomIdValue}
use Rattle.td_base.specs.Lists.{In, Successive, StandsBefore}
use Rattle.td_path.specs.declared.slot.Slot.{Slot}
use Rattle.td_path.specs.declared.slot.Slot.TheVariants.{Root, At}
use Rattle.td_op.specs.Op.{OpValue}
use Rattle.td_op.specs.declared.insertion.Insertion.{Insertion}
use Rattle.td_order.specs.Insertions.{IsInsertionOf}
use Rattle.td_base.specs.Order.{dot_lt}
use Rattle.td_op.specs.Insertion.{ids_of, insertions}
use Rattle.td_order.specs.LineUp.{line_up}
use Rattle.td_order.specs.Under.{under}
use Rattle.td_order.specs.Place.{precedes}
use Rattle.td_order.specs.Order.{order}
use Rattle.td_order.specs.Causal.{HasEpochs, IsWellRooted}
use Rattle.td_order.specs.Standing.{HangsAt, HangsOn, the_atom, on_a_side, StandsOnSide, StandsNearer}
use Rattle.td_order.proofs.Lex.{lex_append}
use Rattle.td_order.proofs.Keys.{Key, StepLt, KeyLt, key_strict, step_strict, id_of, step, rank_first, dot_first}
use Rattle.td_order.proofs.Family.{Names, IsRooted, AllFollow, HasPasts}
use Rattle.td_order.proofs.Fits.{slot_key, OlderRank, AllFit, fits_at, key_end}
use Rattle.td_order.proofs.Fits.{rooted_at, same_insert, under_key, ids_dot}
use Rattle.td_order.proofs.Placing.{IdLt, id_trans, placed-In}
use Rattle.td_order.proofs.PlaceRises.{placed_rises}
use Rattle.td_order.proofs.Ranks.{before, count_length, equally, fewer, older_by, rank_at, rank_of, key_in, fits_part}
use Rattle.td_op.proofs.InsertionLemmas.{insertions-In}
use Rattle.td_order.proofs.LineUpLemmas.{line_up-In}
use Rattle.td_order.proofs.OrderOfPart.{line_up_causal, pasts, whole_is_closed}
use Rattle.td_order.proofs.UnderLemmas.{under_by_slots}
use Rattle.td_base.proofs.Rising.{stands_from}

module _ (ops : List OpValue) (W : IsWellRooted ops) (E : HasEpochs ops) where
  abbrev pub line : List Insertion
  line = insertions (line_up ops)

  abbrev pub rank : Insertion → ℕ
  rank = rank_of line

  abbrev pub K : AtomIdValue → ℕ → Key
  K = key_in rank line

  follows : AllFollow line
  follows = line_up_causal ops (whole_is_closed ops W)

  history : HasPasts line
  history = pasts ops W E

  pub fits : AllFit K rank line
  fits = fits_part line history follows line follows (λ c i. i)

  pub rises : Successive (IdLt K rank) (order ops)
  rises = placed_rises K rank line fits

  pub in_line : (a : Insertion) → IsInsertionOf ops a → In a line
  in_line a i = insertions-In (line_up ops) i.op a (line_up-In ops i.op i.inside) i.is

  irrefl : (x : AtomIdValue) → IdLt K rank x x → ⊥
  irrefl x = key_strict.irrefl (K x 1)

  in_order : (x : AtomIdValue) → Names line x → In x (order ops)
  in_order x n = placed-In line x n

  ordered : (x y : AtomIdValue) → Names line x → Names line y → IdLt K rank x y → StandsBefore x y (order ops)
  ordered x y n m lt = stands_from (IdLt K rank) irrefl (id_trans K rank) (order ops) rises x y (in_order x n)
      (in_order y m) lt

  named : (b : Insertion) (x : AtomIdValue) → HangsOn ops b x → Names line x
  named b x h = (h.insertion, in_line h.insertion h.inside, h.among)

  -- the key of what hangs on an insertion begins with that of its slot and a step of it
  pub record HangingKey (b : Insertion) (x : AtomIdValue) : Type 0 where
    pub offset : ℕ
    pub side : ℕ
    pub rest : Key
    pub key : K x 1 ≡ slot_key K b.slot ++ (step (rank b) b.dot offset side ∷ rest)

  pub hanging : (b : Insertion) (x : AtomIdValue) → IsInsertionOf ops b → HangsOn ops b x → HangingKey b x
  hanging b x i h =
      let d = h.insertion in
      let dots : x.dot ≡ d.dot = ap (λ (y : AtomIdValue). y.dot) (ids_dot d.dot 0 d.run x h.among).1 in
      let u : under line b.dot x.dot ≡ true = subst (λ v. under line b.dot v ≡ true) (sym dots)
      ((under_by_slots ops W b d i h.inside).1 h.below) in
      let r = under_key K rank line fits b.dot x (named b x h) u 1 in
      let e : r.ins ≡ b = same_insert K rank line fits r.ins b r.inside (in_line b i) r.dot in
      record {
        offset = r.offset;
        side = r.side;
        rest = r.rest;
        key = r.key ∙ ap (λ (c : Insertion). slot_key K c.slot ++ (step (rank c) c.dot r.offset r.side ∷ r.rest)) e;
      }

  key_less : (x y : AtomIdValue) (u v : Key) → K x 1 ≡ u → K y 1 ≡ v → KeyLt u v → IdLt K rank x y
  key_less x y u v p q h = subst (λ (w : Key). KeyLt w (K y 1)) (sym p) (subst (λ (w : Key). KeyLt u w) (sym q) h)

  in_one_slot : (b c : Insertion) → b.slot ≡ c.slot → (x : AtomIdValue) → (h : HangingKey b x) → K x 1
      ≡ slot_key K c.slot ++ (step (rank b) b.dot h.offset h.side ∷ h.rest)
  in_one_slot b c s x h = h.key ∙ ap (λ t. slot_key K t ++ (step (rank b) b.dot h.offset h.side ∷ h.rest)) s

  -- concurrent insertions in one slot have one rank
  pub same_rank : (b c : Insertion) → IsInsertionOf ops b → IsInsertionOf ops c → b.slot ≡ c.slot → precedes b c
      ≡ false → precedes c b ≡ false → rank b ≡ rank c
  same_rank b c i j s p q =
      ap (λ t. rank_at t (length line) (before line b)) s
      ∙ ap (λ n. rank_at c.slot (length line) n) (equally line history b c (in_line b i) (in_line c j) s p q)

  not_true : (b c : Insertion) → ¬ IsTrue (precedes b c) → precedes b c ≡ false
  not_true b c n = ⊎_elim (λ t. absurd (n t)) (λ f. f) (cases_Bool (precedes b c))

  by_dot : (b c : Insertion) → IsInsertionOf ops b → IsInsertionOf ops c → b.slot ≡ c.slot → ¬ IsTrue (precedes b c)
      → ¬ IsTrue (precedes c b) → IsTrue (dot_lt b.dot c.dot)
      → (x y : AtomIdValue) → HangsOn ops b x → HangsOn ops c y → StandsBefore x y (order ops)
  by_dot b c i j s p q lt x y h k =
      let u = hanging b x i h in
      let v = hanging c y j k in
      ordered x y (named b x h) (named c y k)
      (key_less x y _ _ (in_one_slot b c s x u) v.key
      (lex_append StepLt step_strict (slot_key K c.slot) _ _
      (dot_first (rank b) (rank c) b.dot c.dot u.offset v.offset u.side v.side u.rest v.rest
      (same_rank b c i j s (not_true b c p) (not_true c b q)) lt)))

  -- of two insertions in one slot of which the first is in the past of the second
  pub older_rank : (b c : Insertion) → IsInsertionOf ops b → IsInsertionOf ops c → b.slot ≡ c.slot → precedes b c
      ≡ true → OlderRank c.slot (rank b) (rank c)
  older_rank b c i j s p =
      subst (λ t. OlderRank c.slot (rank_at t (length line) (before line b)) (rank c)) (sym s)
      (older_by line history c.slot (length line) (before line b) (before line c)
      (fewer line history b c (in_line b i) (in_line c j) s p) (count_length _ line))

  by_rank : (b c : Insertion) → IsInsertionOf ops b → IsInsertionOf ops c → b.slot ≡ c.slot → rank b < rank c
      → (x y : AtomIdValue) → HangsOn ops b x → HangsOn ops c y → StandsBefore x y (order ops)
  by_rank b c i j s lt x y h k =
      let u = hanging b x i h in
      let v = hanging c y j k in
      ordered x y (named b x h) (named c y k)
      (key_less x y _ _ (in_one_slot b c s x u) v.key
      (lex_append StepLt step_strict (slot_key K c.slot) _ _
      (rank_first (rank b) (rank c) b.dot c.dot u.offset v.offset u.side v.side u.rest v.rest lt)))

  nearer_at : (b c : Insertion) (s : Slot) → IsInsertionOf ops b → IsInsertionOf ops c → b.slot ≡ c.slot
      → OlderRank s (rank b) (rank c) → (new old : AtomIdValue) → HangsOn ops c new → HangsOn ops b old
      → StandsNearer (order ops) s new old
  nearer_at b c Root i j s r new old h k = by_rank c b j i (sym s) r new old h k
  nearer_at b c (At z Left) i j s r new old h k = by_rank b c i j s r old new k h
  nearer_at b c (At z Right) i j s r new old h k = by_rank c b j i (sym s) r new old h k

  nearer : (b c : Insertion) → IsInsertionOf ops b → IsInsertionOf ops c → b.slot ≡ c.slot → IsTrue (precedes b c)
      → (new old : AtomIdValue) → HangsOn ops c new → HangsOn ops b old → StandsNearer (order ops) c.slot new old
  nearer b c i j s p = nearer_at b c c.slot i j s (older_rank b c i j s p)

  -- what hangs on a side of an atom
  side_at : (b : Insertion) (s : Slot) → b.slot ≡ s → IsInsertionOf ops b → IsRooted line s → (x : AtomIdValue)
      → HangsOn ops b x → StandsOnSide (order ops) s x
  side_at b Root e i n x h = tt
  side_at b (At z Left) e i n x h =
      let u = hanging b x i h in
      let p = key_end K rank line fits z n in
      ordered x z (named b x h) n
      (key_less x z _ _ (u.key ∙ (ap (λ t. slot_key K t ++ (step (rank b) b.dot u.offset u.side ∷ u.rest)) e
      ∙ (ap (λ w. w ++ (step (rank b) b.dot u.offset u.side ∷ u.rest)) (p.2 0)
      ∙ append_assoc p.0 (step p.1 z.dot z.offset 0 ∷ []) (step (rank b) b.dot u.offset u.side ∷ u.rest)))) (p.2 1)
      (lex_append StepLt step_strict p.0 _ _ (inl (inr (refl, inr (refl, inr (refl, inr (refl, inl (omega arith)))))))))
  side_at b (At z Right) e i n x h =
      let u = hanging b x i h in
      let p = key_end K rank line fits z n in
      ordered z x n (named b x h)
      (key_less z x _ _ (p.2 1) (u.key ∙ (ap (λ t. slot_key K t ++ (step (rank b) b.dot u.offset u.side ∷ u.rest)) e
      ∙ (ap (λ w. w ++ (step (rank b) b.dot u.offset u.side ∷ u.rest)) (p.2 2)
      ∙ append_assoc p.0 (step p.1 z.dot z.offset 2 ∷ []) (step (rank b) b.dot u.offset u.side ∷ u.rest))))
      (lex_append StepLt step_strict p.0 _ _ (inl (inr (refl, inr (refl, inr (refl, inr (refl, inl (omega arith)))))))))

  on_side : (b : Insertion) → IsInsertionOf ops b → (x : AtomIdValue) → HangsOn ops b x
      → StandsOnSide (order ops) b.slot x
  on_side b i x h = side_at b b.slot refl i (rooted_at K rank line fits b (in_line b i)) x h

  -- the key of what hangs at an atom of an insertion begins with that of its slot and a step of the atom
  pub record AtomKey (a : Insertion) (offset : ℕ) (x : AtomIdValue) : Type 0 where
    pub side : ℕ
    pub rest : Key
    pub key : K x 1 ≡ slot_key K a.slot ++ (step (rank a) a.dot offset side ∷ rest)
    pub among : Names line x

  on_side_key : (a b : Insertion) (offset : ℕ) (bit : Bit) → IsInsertionOf ops a → IsInsertionOf ops b → b.slot
      ≡ At (id_of a.dot offset) bit → (x : AtomIdValue) → HangsOn ops b x → AtomKey a offset x
  on_side_key a b offset Left i j e x h =
      let u = hanging b x j h in
      record {
        side = 0;
        rest = step (rank b) b.dot u.offset u.side ∷ u.rest;
        key = u.key ∙ (ap (λ t. slot_key K t ++ (step (rank b) b.dot u.offset u.side ∷ u.rest)) e
            ∙ (ap (λ w. w ++ (step (rank b) b.dot u.offset u.side ∷ u.rest))
            (fits_at K rank line fits a (in_line a i) offset 0)
            ∙ append_assoc (slot_key K a.slot) (step (rank a) a.dot offset 0 ∷ [])
            (step (rank b) b.dot u.offset u.side ∷ u.rest)));
        among = named b x h;
      }
  on_side_key a b offset Right i j e x h =
      let u = hanging b x j h in
      record {
        side = 2;
        rest = step (rank b) b.dot u.offset u.side ∷ u.rest;
        key = u.key ∙ (ap (λ t. slot_key K t ++ (step (rank b) b.dot u.offset u.side ∷ u.rest)) e
            ∙ (ap (λ w. w ++ (step (rank b) b.dot u.offset u.side ∷ u.rest))
            (fits_at K rank line fits a (in_line a i) offset 2)
            ∙ append_assoc (slot_key K a.slot) (step (rank a) a.dot offset 2 ∷ [])
            (step (rank b) b.dot u.offset u.side ∷ u.rest)));
        among = named b x h;
      }

  pub atom_key_of : (a : Insertion) (offset : ℕ) → IsInsertionOf ops a → In (id_of a.dot offset) (ids_of a)
      → (x : AtomIdValue) → HangsAt ops (id_of a.dot offset) x → AtomKey a offset x
  atom_key_of a offset i n x (the_atom e) = record {
    side = 1;
    rest = [];
    key = ap (λ y. K y 1) e ∙ fits_at K rank line fits a (in_line a i) offset 1;
    among = (a, in_line a i, subst (λ y. In y (ids_of a)) (sym e) n);
  }
  atom_key_of a offset i n x (on_a_side b bit j e h) = on_side_key a b offset bit i j e x h

  by_offset : (a : Insertion) (m n : ℕ) → IsInsertionOf ops a → In (id_of a.dot m) (ids_of a)
      → In (id_of a.dot n) (ids_of a) → m < n
      → (x y : AtomIdValue) → HangsAt ops (id_of a.dot m) x → HangsAt ops (id_of a.dot n) y
      → StandsBefore x y (order ops)
  by_offset a m n i p q lt x y h k =
      let u = atom_key_of a m i p x h in
      let v = atom_key_of a n i q y k in
      ordered x y u.among v.among
      (key_less x y _ _ u.key v.key
      (lex_append StepLt step_strict (slot_key K a.slot) _ _ (inl (inr (refl, inr (refl, inr (refl, inl lt)))))))

pub concurrent_by_dot : (ops : List OpValue) → IsWellRooted ops → HasEpochs ops → (b c : Insertion)
    → IsInsertionOf ops b → IsInsertionOf ops c → b.slot ≡ c.slot
    → ¬ IsTrue (precedes b c) → ¬ IsTrue (precedes c b) → IsTrue (dot_lt b.dot c.dot) → (x y : AtomIdValue)
    → HangsOn ops b x → HangsOn ops c y → StandsBefore x y (order ops)
concurrent_by_dot ops W E b c i j s p q lt x y h k = by_dot ops W E b c i j s p q lt x y h k

pub newer_is_nearer : (ops : List OpValue) → IsWellRooted ops → HasEpochs ops → (b c : Insertion)
    → IsInsertionOf ops b → IsInsertionOf ops c → b.slot ≡ c.slot → IsTrue (precedes b c)
    → (new old : AtomIdValue) → HangsOn ops c new → HangsOn ops b old → StandsNearer (order ops) c.slot new old
newer_is_nearer ops W E b c i j s p new old h k = nearer ops W E b c i j s p new old h k

pub sides_kept : (ops : List OpValue) → IsWellRooted ops → HasEpochs ops → (b : Insertion) → IsInsertionOf ops b
    → (x : AtomIdValue) → HangsOn ops b x → StandsOnSide (order ops) b.slot x
sides_kept ops W E b i x h = on_side ops W E b i x h

pub runs_kept : (ops : List OpValue) → IsWellRooted ops → HasEpochs ops → (a : Insertion) → IsInsertionOf ops a
    → (z w : AtomIdValue) → In z (ids_of a) → In w (ids_of a) → z.offset < w.offset
    → (x y : AtomIdValue) → HangsAt ops z x → HangsAt ops w y → StandsBefore x y (order ops)
runs_kept ops W E a i z w p q lt x y h k =
    let m = ids_dot a.dot 0 a.run z p in
    let n = ids_dot a.dot 0 a.run w q in
    let e : z.offset ≡ m.0 = ap (λ (v : AtomIdValue). v.offset) m.1 in
    let g : w.offset ≡ n.0 = ap (λ (v : AtomIdValue). v.offset) n.1 in
    by_offset ops W E a m.0 n.0 i (subst (λ v. In v (ids_of a)) m.1 p) (subst (λ v. In v (ids_of a)) n.1 q)
    (omega (arith, e, g)) x y
    (subst (λ v. HangsAt ops v x) m.1 h) (subst (λ v. HangsAt ops v y) n.1 k)
