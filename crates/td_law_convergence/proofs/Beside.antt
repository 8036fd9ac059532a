-- Where the rows of a new insertion go in a document is where its atoms go in the order.
use Rattle.std.proofs.Common.{◌≡◌, ◌⊎◌, ◌<◌, ◌≤◌, ℕ, List, [], ◌∷◌, ◌++◌, true, false, refl, sym, ap, ◌∙◌}
use Rattle.std.proofs.Common.{subst, inl, inr, ⊎_elim, arith, append_assoc, append-nil}
use Rattle.std.proofs.lemmas.Bool.{cases_Bool}
use Rattle.td_base.specs.declared.bit.Bit.{Bit}
use Rattle.td_base.specs.declared.bit.Bit.TheVariants.{Left, Right}
use Rattle.td_base.specs.Value.{AtomIdValue}
use Rattle.td_base.specs.Lists.{In}
use Rattle.td_path.specs.Infix.{Pair, Pairs}
use Rattle.td_path.specs.declared.slot.Slot.TheVariants.{Root, At}
use Rattle.td_doc.specs.Document.{DocRow, row_id, last_id}
use Rattle.td_op.specs.declared.insertion.Insertion.{Insertion}
use Rattle.td_base.specs.Order.{dot_lt}
use Rattle.td_order.specs.Under.{under}
use Rattle.td_order.specs.Place.{precedes}
use Rattle.td_order.proofs.Lex.{Tri, below, same, above, lex_append, lex_cancel, lex_between}
use Rattle.td_order.proofs.Keys.{Key, StepLt, KeyLt, key_strict, step_strict, step, id_of, rank_first, dot_first}
use Rattle.td_order.proofs.Fits.{slot_key, OlderRank, Names, AllFit, fits_at, rooted_at, same_insert}
use Rattle.td_order.proofs.Fits.{key_end, Found, find, UnderKey, under_key, Mate, mate}
use Rattle.td_order.proofs.Placing.{IdLt, id_trans}
use Rattle.td_order.proofs.PlaceRises.{dot_other, pinned, one_or_two, zero_or_one, one_two}
use Rattle.td_order.proofs.PlaceRises.{zero_one, cons_nil, step_same, step_dot}
use Rattle.td_law_logs.proofs.Paths.{PathLt, RowLt, path_trans, path_not, above_left, above_right, path_append}
use Rattle.td_law_logs.proofs.Paths.{first_less, PathCase, sooner, later, here, deeper, path_case}

module _ (K : AtomIdValue → ℕ → Key) (rank : Insertion → ℕ) (all : List Insertion) (g : AllFit K rank all)
    (a : Insertion) (ia : In a all)
    (older : (c : Insertion) → In c all → c.slot ≡ a.slot → precedes c a ≡ true → OlderRank a.slot (rank c) (rank a))
    (equal : (c : Insertion) → In c all → c.slot ≡ a.slot → precedes c a ≡ false → rank c ≡ rank a)
    (doc : List DocRow)
    (named : (r : DocRow) → In r doc → Names all (row_id r))
    (beyond : (r : DocRow) → In r doc → under all a.dot (row_id r).dot ≡ true → ⊥)
    (agrees : (r q : DocRow) → In r doc → In q doc → RowLt r q → IdLt K rank (row_id r) (row_id q)) where
  abbrev Lt : AtomIdValue → AtomIdValue → Type 0
  Lt = IdLt K rank

  -- two rows stand in the document as their atoms in the order
  abbrev pub Both : DocRow → DocRow → Type 0
  Both r n = (RowLt r n × Lt (row_id r) (row_id n)) ⊎ (RowLt n r × Lt (row_id n) (row_id r))

  -- a row of the new insertion
  pub record New (slot_path : Pairs) (slot_side : Bit) (n : DocRow) : Type 0 where
    pub offset : ℕ
    pub id : row_id n ≡ id_of a.dot offset
    pub top : Pair
    pub rest : Pairs
    pub path : n.path ≡ slot_path ++ (top ∷ rest)
    pub side : top.0 ≡ slot_side
    pub dot : top.1.dot ≡ a.dot

  -- a row in the slot is under an insertion of the slot that is not in a's past
  pub record Inside (t : Pair) (r : DocRow) : Type 0 where
    pub ins : Insertion
    pub inside : In ins all
    pub slot : ins.slot ≡ a.slot
    pub apart : precedes ins a ≡ false
    pub top : t.1.dot ≡ ins.dot
    pub above : under all ins.dot (row_id r).dot ≡ true

  lt_keys : (x z : AtomIdValue) (u v : Key) → K x 1 ≡ u → K z 1 ≡ v → KeyLt u v → Lt x z
  lt_keys x z u v p q h = subst (λ (k : Key). KeyLt k (K z 1)) (sym p) (subst (λ (k : Key). KeyLt u k) (sym q) h)

  keys_lt : (x z : AtomIdValue) (u v : Key) → K x 1 ≡ u → K z 1 ≡ v → Lt x z → KeyLt u v
  keys_lt x z u v p q h = subst (λ (k : Key). KeyLt k v) p (subst (λ (k : Key). KeyLt (K x 1) k) q h)

  new_key : (path : Pairs) (side : Bit) (n : DocRow) → (w : New path side n)
      → K (row_id n) 1 ≡ slot_key K a.slot ++ (step (rank a) a.dot w.offset 1 ∷ [])
  new_key path side n w = ap (λ x. K x 1) w.id ∙ fits_at K rank all g a ia w.offset 1

  in_slot : (path : Pairs) (side : Bit) (n r : DocRow) → New path side n → In r doc → (t : Pair) (rest : Pairs)
      → r.path ≡ path ++ (t ∷ rest) → t.0 ≡ side → Inside t r → Both r n
  in_slot path side n r w i t rest e s c =
      ⊎_elim
      (λ (h : dot_lt c.ins.dot a.dot ≡ true).
      inl (
        rows h,
        lt_keys (row_id r) (row_id n) _ _ key (new_key path side n w)
            (lex_append StepLt step_strict (slot_key K a.slot) _ _
            (dot_first (rank c.ins) (rank a) c.ins.dot a.dot _ _ _ _ k.rest [] level h)),
      ))
      (λ (h : dot_lt a.dot c.ins.dot ≡ true).
      inr (
        rows_back h,
        lt_keys (row_id n) (row_id r) _ _ (new_key path side n w) key
            (lex_append StepLt step_strict (slot_key K a.slot) _ _
            (dot_first (rank a) (rank c.ins) a.dot c.ins.dot _ _ _ _ [] k.rest (sym level) h)),
      ))
      (dot_other c.ins.dot a.dot (λ d. beyond r i (subst (λ z. under all z (row_id r).dot ≡ true) d c.above)))
    where
      level : rank c.ins ≡ rank a
      level = equal c.ins c.inside c.slot c.apart

      k : UnderKey K rank all c.ins.dot (row_id r) 1
      k = under_key K rank all g c.ins.dot (row_id r) (named r i) c.above 1

      one : k.ins ≡ c.ins
      one = same_insert K rank all g k.ins c.ins k.inside c.inside k.dot

      key : K (row_id r) 1 ≡ slot_key K a.slot ++ (step (rank c.ins) c.ins.dot k.offset k.side ∷ k.rest)
      key = k.key
          ∙ (ap (λ (z : Insertion). slot_key K z.slot ++ (step (rank z) z.dot k.offset k.side ∷ k.rest)) one
          ∙ ap (λ z. slot_key K z ++ (step (rank c.ins) c.ins.dot k.offset k.side ∷ k.rest)) c.slot)

      sides : t.0 ≡ w.top.0
      sides = s ∙ sym w.side

      rows : dot_lt c.ins.dot a.dot ≡ true → RowLt r n
      rows h = subst (λ z. PathLt z n.path) (sym e) (subst (λ z. PathLt (path ++ (t ∷ rest)) z) (sym w.path)
          (path_append path (t ∷ rest) (w.top ∷ w.rest)
          (first_less t w.top rest w.rest sides
          (subst (λ z. dot_lt z w.top.1.dot ≡ true) (sym c.top)
          (subst (λ z. dot_lt c.ins.dot z ≡ true) (sym w.dot) h)))))

      rows_back : dot_lt a.dot c.ins.dot ≡ true → RowLt n r
      rows_back h = subst (λ z. PathLt n.path z) (sym e) (subst (λ z. PathLt z (path ++ (t ∷ rest))) (sym w.path)
          (path_append path (w.top ∷ w.rest) (t ∷ rest)
          (first_less w.top t w.rest rest (sym sides)
          (subst (λ z. dot_lt z t.1.dot ≡ true) (sym w.dot) (subst (λ z. dot_lt a.dot z ≡ true) (sym c.top) h)))))

  passed : (y : AtomIdValue) → Names all y → (w0 : List ℕ) (w : Key) → K y 1 ≡ slot_key K a.slot ++ (w0 ∷ w)
      → Mate rank all a.slot y w0
  passed = mate K rank all g a.slot (rooted_at K rank all g a ia)

  never_same : (path : Pairs) (side : Bit) (n r : DocRow) → New path side n → In r doc
      → K (row_id r) 1 ≡ K (row_id n) 1 → ⊥
  never_same path side n r w i e =
      let m = passed (row_id r) (named r i) _ _ (e ∙ new_key path side n w) in
      beyond r i (subst (λ z. under all z (row_id r).dot ≡ true) (sym (step_dot _ _ _ _ _ _ _ _ m.is)) m.above)

  pub root_both : (n r : DocRow) → a.slot ≡ Root → New [] Right n → In r doc → (t : Pair) (rest : Pairs)
      → r.path ≡ t ∷ rest → t.0 ≡ Right → Inside t r → Both r n
  root_both n r at w i t rest e s c = in_slot [] Right n r w i t rest e s c

  -- right of the row x
  module _ (x : DocRow) (ix : In x doc) (at : a.slot ≡ At (row_id x) Right)
      (inside : (r : DocRow) → In r doc → (t : Pair) (rest : Pairs) → r.path ≡ x.path ++ (t ∷ rest) → t.0 ≡ Right
      → Inside t r)
      (outside : (r : DocRow) → In r doc → (c : Insertion) → In c all → c.slot ≡ a.slot → precedes c a ≡ false
      → under all c.dot (row_id r).dot ≡ true → (t : Pair) × (rest : Pairs) × (r.path ≡ x.path ++ (t ∷ rest)))
      (n : DocRow) (w : New x.path Right n) where
    right_end : (e : Key) × (q : ℕ)
        × ((t : ℕ) → K (row_id x) t ≡ e ++ (step q (row_id x).dot (row_id x).offset t ∷ []))
    right_end = key_end K rank all g (row_id x) (named x ix)

    right_key : K
        (row_id n) 1 ≡ right_end.0
        ++ (step right_end.1 (row_id x).dot (row_id x).offset 2 ∷ step (rank a) a.dot w.offset 1 ∷ [])
    right_key = new_key x.path Right n w
        ∙ (ap (λ v. v ++ (step (rank a) a.dot w.offset 1 ∷ [])) (ap (slot_key K) at ∙ right_end.2 2)
        ∙ append_assoc right_end.0 (step right_end.1 (row_id x).dot (row_id x).offset 2 ∷ [])
        (step (rank a) a.dot w.offset 1 ∷ []))

    right_id : Lt (row_id x) (row_id n)
    right_id = lt_keys (row_id x) (row_id n) _ _ (right_end.2 1) right_key
        (lex_append StepLt step_strict right_end.0 _ _
        (inl (inr (refl, inr (refl, inr (refl, inr (refl, inl (omega arith))))))))

    right_row : RowLt x n
    right_row = subst (λ z. PathLt x.path z) (sym w.path) (above_right x.path w.top w.rest w.side)

    -- of two insertions in one slot the older is farther from its atom, and the other has its rows in the slot
    right_of : (r : DocRow) → In r doc → Lt (row_id r) (row_id n) → (w1 : List ℕ) (w2 : Key)
        → K (row_id r) 1 ≡ slot_key K a.slot ++ (w1 ∷ w2) → (c : Mate rank all a.slot (row_id r) w1)
        → (t : Pair) × (rest : Pairs) × (r.path ≡ x.path ++ (t ∷ rest))
    right_of r i k w1 w2 e3 c =
        ⊎_elim
        (λ (o : precedes c.ins a ≡ true).
        let far : rank a < rank c.ins =
        subst (λ s. OlderRank s (rank c.ins) (rank a)) at (older c.ins c.inside c.slot o) in
        let e4 : K (row_id r) 1 ≡ slot_key K a.slot ++ (step (rank c.ins) c.ins.dot c.offset c.side ∷ w2) =
        e3 ∙ ap (λ u. slot_key K a.slot ++ (u ∷ w2)) c.is in
        absurd (key_strict.irrefl (K (row_id r) 1) (id_trans K rank (row_id r) (row_id n) (row_id r) k
        (lt_keys (row_id n) (row_id r) _ _ (new_key x.path Right n w) e4
        (lex_append StepLt step_strict (slot_key K a.slot) _ _
        (rank_first (rank a) (rank c.ins) a.dot c.ins.dot w.offset c.offset 1 c.side [] w2 far))))))
        (λ o. outside r i c.ins c.inside c.slot o c.above)
        (cases_Bool (precedes c.ins a))

    -- an atom between x and the new ones is of a row in the slot
    right_at : (r : DocRow) → In r doc → Lt (row_id x) (row_id r) → Lt (row_id r) (row_id n) → (w0 : List ℕ) (v : Key)
        → K (row_id r) 1 ≡ right_end.0 ++ (w0 ∷ v) → (m : Found K rank all (row_id r) 1 right_end.0 w0 v)
        → (t : Pair) × (rest : Pairs) × (r.path ≡ x.path ++ (t ∷ rest))
    right_at r i h k w0 v e m =
        let e' : K (row_id r) 1 ≡ right_end.0 ++ (step (rank m.ins) m.ins.dot m.offset m.side ∷ v) =
        e ∙ ap (λ u. right_end.0 ++ (u ∷ v)) m.is in
        let low =
        lex_cancel StepLt step_strict right_end.0 _ _ (keys_lt (row_id x) (row_id r) _ _ (right_end.2 1) e' h) in
        let high = lex_cancel StepLt step_strict right_end.0 _ _ (keys_lt (row_id r) (row_id n) _ _ e' right_key k) in
        let pin = pinned right_end.1 (rank m.ins) (row_id x).dot m.ins.dot (row_id x).offset m.offset 1 m.side 2 [] v
        (step (rank a) a.dot w.offset 1 ∷ []) low high in
        among v m e' pin
      where
        at_x : (row_id r ≡ row_id x) → ⊥
        at_x q = key_strict.irrefl (K (row_id x) 1) (subst (λ z. Lt (row_id x) z) q h)

        among : (v : Key) → (m : Found K rank all (row_id r) 1 right_end.0 w0 v)
            → K (row_id r) 1 ≡ right_end.0 ++ (step (rank m.ins) m.ins.dot m.offset m.side ∷ v)
            → (m.ins.dot ≡ (row_id x).dot) × (m.offset ≡ (row_id x).offset) × (1 ≤ m.side) × (m.side ≤ 2)
            × (rank m.ins ≡ right_end.1) → (t : Pair) × (rest : Pairs) × (r.path ≡ x.path ++ (t ∷ rest))
        among [] m e' pin =
            ⊎_elim
            (λ (q : m.side ≡ 1). absurd (at_x ((m.last q).1 ∙ (λ j. record { dot = pin.0 j; offset = pin.1 j }))))
            (λ (q : m.side ≡ 2). absurd (m.more refl (λ q1. absurd (one_two (sym q1 ∙ q))) refl))
            (one_or_two m.side pin.2 pin.3)
        among (w1 ∷ w2) m e' pin =
            ⊎_elim
            (λ (q : m.side ≡ 1). absurd (cons_nil w1 w2 (m.last q).0))
            (λ (q : m.side ≡ 2). deep q)
            (one_or_two m.side pin.2 pin.3)
          where
            deep : m.side ≡ 2 → (t : Pair) × (rest : Pairs) × (r.path ≡ x.path ++ (t ∷ rest))
            deep q =
                let e2 : K
                (row_id r) 1 ≡ right_end.0 ++ (step right_end.1 (row_id x).dot (row_id x).offset 2 ∷ w1 ∷ w2) =
                e' ∙ ap (λ u. right_end.0 ++ (u ∷ w1 ∷ w2)) (step_same _ _ _ _ _ _ _ _ pin.4 pin.0 pin.1 q) in
                let e3 : K (row_id r) 1 ≡ slot_key K a.slot ++ (w1 ∷ w2) =
                e2 ∙ (sym
                (append_assoc right_end.0 (step right_end.1 (row_id x).dot (row_id x).offset 2 ∷ []) (w1 ∷ w2))
                ∙ ap (λ u. u ++ (w1 ∷ w2)) (sym (ap (slot_key K) at ∙ right_end.2 2))) in
                right_of r i k w1 w2 e3 (passed (row_id r) (named r i) w1 w2 e3)

    right_go : (r : DocRow) → In r doc → Lt (row_id x) (row_id r) → Lt (row_id r) (row_id n) → (v : Key)
        → K (row_id r) 1 ≡ right_end.0 ++ v → (t : Pair) × (rest : Pairs) × (r.path ≡ x.path ++ (t ∷ rest))
    right_go r i h k [] e =
        absurd (lex_cancel StepLt step_strict right_end.0 _ _ (keys_lt (row_id x) (row_id r) _ _ (right_end.2 1) e h))
    right_go r i h k (w0 ∷ v) e =
        right_at r i h k w0 v e (find K rank all g (row_id r) (named r i) 1 right_end.0 w0 v e)

    right_between : (r : DocRow) → In r doc → Lt (row_id x) (row_id r) → Lt (row_id r) (row_id n)
        → (t : Pair) × (rest : Pairs) × (r.path ≡ x.path ++ (t ∷ rest))
    right_between r i h k =
        let v = lex_between StepLt step_strict right_end.0 _ _ (K (row_id r) 1)
        (subst (λ (u : Key). KeyLt u (K (row_id r) 1)) (right_end.2 1) h)
        (subst (λ (u : Key). KeyLt (K (row_id r) 1) u) right_key k) in
        right_go r i h k v.0 v.1

    right_later : (r : DocRow) → In r doc → ((e : Pairs) → PathLt (x.path ++ e) r.path) → Lt (row_id x) (row_id r)
        → Lt (row_id n) (row_id r)
    right_later r i f h = cases (key_strict.tri (K (row_id r) 1) (K (row_id n) 1))
      where
        no : (t : Pair) × (rest : Pairs) × (r.path ≡ x.path ++ (t ∷ rest)) → ⊥
        no d = path_not r.path (subst (λ z. PathLt z r.path) (sym d.2) (f (d.0 ∷ d.1)))

        cases : Tri KeyLt (K (row_id r) 1) (K (row_id n) 1) → Lt (row_id n) (row_id r)
        cases (below k) = absurd (no (right_between r i h k))
        cases (above k) = k
        cases (same k) = absurd (never_same x.path Right n r w i k)

    pub right_both : (r : DocRow) → In r doc → Both r n
    right_both r i = cases (path_case r.path x.path)
      where
        end : x.path ++ [] ≡ x.path
        end = append-nil x.path

        by_side : (t : Pair) (rest : Pairs) → r.path ≡ x.path ++ (t ∷ rest) → (s : Bit) → t.0 ≡ s → Both r n
        by_side t rest e Right q = in_slot x.path Right n r w i t rest e q (inside r i t rest e q)
        by_side t rest e Left q =
            let rx : RowLt r x = subst (λ z. PathLt z x.path) (sym e) (above_left x.path t rest q) in
            inl (
              path_trans r.path x.path n.path rx right_row,
              id_trans K rank (row_id r) (row_id x) (row_id n)
                  (agrees r x i ix rx) right_id,
            )

        cases : PathCase r.path x.path → Both r n
        cases (sooner f) =
            let rx : RowLt r x = subst (λ z. PathLt r.path z) end (f []) in
            let rn : RowLt r n = subst (λ z. PathLt r.path z) (sym w.path) (f (w.top ∷ w.rest)) in
            let ids = agrees r x i ix rx in
            inl (rn, id_trans K rank (row_id r) (row_id x) (row_id n) ids right_id)
        cases (later f) =
            let xr : RowLt x r = subst (λ z. PathLt z r.path) end (f []) in
            let nr : RowLt n r = subst (λ z. PathLt z r.path) (sym w.path) (f (w.top ∷ w.rest)) in
            let ids = agrees x r ix i xr in
            inr (nr, right_later r i f ids)
        cases (here e) =
            let q : row_id r ≡ row_id x =
            ap (λ p. last_id (record { dot = record { site = 0; seq = 0 }; offset = 0 }) p) e in
            inl (subst (λ z. PathLt z n.path) (sym e) right_row, subst (λ z. Lt z (row_id n)) (sym q) right_id)
        cases (deeper t rest e) = by_side t rest e t.0 refl

  -- left of the row x
  module _ (x : DocRow) (ix : In x doc) (at : a.slot ≡ At (row_id x) Left)
      (inside : (r : DocRow) → In r doc → (t : Pair) (rest : Pairs) → r.path ≡ x.path ++ (t ∷ rest) → t.0 ≡ Left
      → Inside t r)
      (outside : (r : DocRow) → In r doc → (c : Insertion) → In c all → c.slot ≡ a.slot → precedes c a ≡ false
      → under all c.dot (row_id r).dot ≡ true → (t : Pair) × (rest : Pairs) × (r.path ≡ x.path ++ (t ∷ rest)))
      (n : DocRow) (w : New x.path Left n) where
    left_end : (e : Key) × (q : ℕ)
        × ((t : ℕ) → K (row_id x) t ≡ e ++ (step q (row_id x).dot (row_id x).offset t ∷ []))
    left_end = key_end K rank all g (row_id x) (named x ix)

    left_key : K
        (row_id n) 1 ≡ left_end.0
        ++ (step left_end.1 (row_id x).dot (row_id x).offset 0 ∷ step (rank a) a.dot w.offset 1 ∷ [])
    left_key = new_key x.path Left n w
        ∙ (ap (λ v. v ++ (step (rank a) a.dot w.offset 1 ∷ [])) (ap (slot_key K) at ∙ left_end.2 0)
        ∙ append_assoc left_end.0 (step left_end.1 (row_id x).dot (row_id x).offset 0 ∷ [])
        (step (rank a) a.dot w.offset 1 ∷ []))

    left_id : Lt (row_id n) (row_id x)
    left_id =
        lt_keys (row_id n) (row_id x) _ _ left_key (left_end.2 1)
        (lex_append StepLt step_strict left_end.0 _ _
        (inl (inr (refl, inr (refl, inr (refl, inr (refl, inl (omega arith))))))))

    left_row : RowLt n x
    left_row = subst (λ z. PathLt z x.path) (sym w.path) (above_left x.path w.top w.rest w.side)

    -- of two insertions in one slot the older is farther from its atom, and the other has its rows in the slot
    left_of : (r : DocRow) → In r doc → Lt (row_id n) (row_id r) → (w1 : List ℕ) (w2 : Key)
        → K (row_id r) 1 ≡ slot_key K a.slot ++ (w1 ∷ w2) → (c : Mate rank all a.slot (row_id r) w1)
        → (t : Pair) × (rest : Pairs) × (r.path ≡ x.path ++ (t ∷ rest))
    left_of r i h w1 w2 e3 c =
        ⊎_elim
        (λ (o : precedes c.ins a ≡ true).
        let far : rank c.ins < rank a =
        subst (λ s. OlderRank s (rank c.ins) (rank a)) at (older c.ins c.inside c.slot o) in
        let e4 : K (row_id r) 1 ≡ slot_key K a.slot ++ (step (rank c.ins) c.ins.dot c.offset c.side ∷ w2) =
        e3 ∙ ap (λ u. slot_key K a.slot ++ (u ∷ w2)) c.is in
        absurd (key_strict.irrefl (K (row_id r) 1) (id_trans K rank (row_id r) (row_id n) (row_id r)
        (lt_keys (row_id r) (row_id n) _ _ e4 (new_key x.path Left n w)
        (lex_append StepLt step_strict (slot_key K a.slot) _ _
        (rank_first (rank c.ins) (rank a) c.ins.dot a.dot c.offset w.offset c.side 1 w2 [] far))) h)))
        (λ o. outside r i c.ins c.inside c.slot o c.above)
        (cases_Bool (precedes c.ins a))

    -- an atom between x and the new ones is of a row in the slot
    left_at : (r : DocRow) → In r doc → Lt (row_id n) (row_id r) → Lt (row_id r) (row_id x) → (w0 : List ℕ) (v : Key)
        → K (row_id r) 1 ≡ left_end.0 ++ (w0 ∷ v) → (m : Found K rank all (row_id r) 1 left_end.0 w0 v)
        → (t : Pair) × (rest : Pairs) × (r.path ≡ x.path ++ (t ∷ rest))
    left_at r i h k w0 v e m =
        let e' : K (row_id r) 1 ≡ left_end.0 ++ (step (rank m.ins) m.ins.dot m.offset m.side ∷ v) =
        e ∙ ap (λ u. left_end.0 ++ (u ∷ v)) m.is in
        let low = lex_cancel StepLt step_strict left_end.0 _ _ (keys_lt (row_id n) (row_id r) _ _ left_key e' h) in
        let high =
        lex_cancel StepLt step_strict left_end.0 _ _ (keys_lt (row_id r) (row_id x) _ _ e' (left_end.2 1) k) in
        let pin = pinned left_end.1 (rank m.ins) (row_id x).dot m.ins.dot (row_id x).offset m.offset 0 m.side 1
        (step (rank a) a.dot w.offset 1 ∷ []) v [] low high in
        among v m e' pin
      where
        at_x : (row_id r ≡ row_id x) → ⊥
        at_x q = key_strict.irrefl (K (row_id x) 1) (subst (λ z. Lt z (row_id x)) q k)

        among : (v : Key) → (m : Found K rank all (row_id r) 1 left_end.0 w0 v)
            → K (row_id r) 1 ≡ left_end.0 ++ (step (rank m.ins) m.ins.dot m.offset m.side ∷ v)
            → (m.ins.dot ≡ (row_id x).dot) × (m.offset ≡ (row_id x).offset) × (0 ≤ m.side) × (m.side ≤ 1)
            × (rank m.ins ≡ left_end.1) → (t : Pair) × (rest : Pairs) × (r.path ≡ x.path ++ (t ∷ rest))
        among [] m e' pin =
            ⊎_elim
            (λ (q : m.side ≡ 0). absurd (m.more refl (λ q1. absurd (zero_one (sym q ∙ q1))) refl))
            (λ (q : m.side ≡ 1). absurd (at_x ((m.last q).1 ∙ (λ j. record { dot = pin.0 j; offset = pin.1 j }))))
            (zero_or_one m.side pin.2 pin.3)
        among (w1 ∷ w2) m e' pin =
            ⊎_elim
            (λ (q : m.side ≡ 0). deep q)
            (λ (q : m.side ≡ 1). absurd (cons_nil w1 w2 (m.last q).0))
            (zero_or_one m.side pin.2 pin.3)
          where
            deep : m.side ≡ 0 → (t : Pair) × (rest : Pairs) × (r.path ≡ x.path ++ (t ∷ rest))
            deep q =
                let e2 : K
                (row_id r) 1 ≡ left_end.0 ++ (step left_end.1 (row_id x).dot (row_id x).offset 0 ∷ w1 ∷ w2) =
                e' ∙ ap (λ u. left_end.0 ++ (u ∷ w1 ∷ w2)) (step_same _ _ _ _ _ _ _ _ pin.4 pin.0 pin.1 q) in
                let e3 : K (row_id r) 1 ≡ slot_key K a.slot ++ (w1 ∷ w2) =
                e2 ∙ (sym
                (append_assoc left_end.0 (step left_end.1 (row_id x).dot (row_id x).offset 0 ∷ []) (w1 ∷ w2))
                ∙ ap (λ u. u ++ (w1 ∷ w2)) (sym (ap (slot_key K) at ∙ left_end.2 0))) in
                left_of r i h w1 w2 e3 (passed (row_id r) (named r i) w1 w2 e3)

    left_go : (r : DocRow) → In r doc → Lt (row_id n) (row_id r) → Lt (row_id r) (row_id x) → (v : Key)
        → K (row_id r) 1 ≡ left_end.0 ++ v → (t : Pair) × (rest : Pairs) × (r.path ≡ x.path ++ (t ∷ rest))
    left_go r i h k [] e =
        absurd (lex_cancel StepLt step_strict left_end.0 _ _ (keys_lt (row_id n) (row_id r) _ _ left_key e h))
    left_go r i h k (w0 ∷ v) e = left_at r i h k w0 v e (find K rank all g (row_id r) (named r i) 1 left_end.0 w0 v e)

    left_between : (r : DocRow) → In r doc → Lt (row_id n) (row_id r) → Lt (row_id r) (row_id x)
        → (t : Pair) × (rest : Pairs) × (r.path ≡ x.path ++ (t ∷ rest))
    left_between r i h k =
        let v = lex_between StepLt step_strict left_end.0 _ _ (K (row_id r) 1)
        (subst (λ (u : Key). KeyLt u (K (row_id r) 1)) left_key h)
        (subst (λ (u : Key). KeyLt (K (row_id r) 1) u) (left_end.2 1) k) in
        left_go r i h k v.0 v.1

    left_sooner : (r : DocRow) → In r doc → ((e : Pairs) → PathLt r.path (x.path ++ e)) → Lt (row_id r) (row_id x)
        → Lt (row_id r) (row_id n)
    left_sooner r i f h = cases (key_strict.tri (K (row_id r) 1) (K (row_id n) 1))
      where
        no : (t : Pair) × (rest : Pairs) × (r.path ≡ x.path ++ (t ∷ rest)) → ⊥
        no d = path_not r.path (subst (λ z. PathLt r.path z) (sym d.2) (f (d.0 ∷ d.1)))

        cases : Tri KeyLt (K (row_id r) 1) (K (row_id n) 1) → Lt (row_id r) (row_id n)
        cases (below k) = k
        cases (above k) = absurd (no (left_between r i k h))
        cases (same k) = absurd (never_same x.path Left n r w i k)

    pub left_both : (r : DocRow) → In r doc → Both r n
    left_both r i = cases (path_case r.path x.path)
      where
        end : x.path ++ [] ≡ x.path
        end = append-nil x.path

        by_side : (t : Pair) (rest : Pairs) → r.path ≡ x.path ++ (t ∷ rest) → (s : Bit) → t.0 ≡ s → Both r n
        by_side t rest e Left q = in_slot x.path Left n r w i t rest e q (inside r i t rest e q)
        by_side t rest e Right q =
            let rx : RowLt x r = subst (λ z. PathLt x.path z) (sym e) (above_right x.path t rest q) in
            inr (
              path_trans n.path x.path r.path left_row rx,
              id_trans K rank (row_id n) (row_id x) (row_id r) left_id
                  (agrees x r ix i rx),
            )

        cases : PathCase r.path x.path → Both r n
        cases (sooner f) =
            let rx : RowLt r x = subst (λ z. PathLt r.path z) end (f []) in
            let rn : RowLt r n = subst (λ z. PathLt r.path z) (sym w.path) (f (w.top ∷ w.rest)) in
            let ids = agrees r x i ix rx in
            inl (rn, left_sooner r i f ids)
        cases (later f) =
            let xr : RowLt x r = subst (λ z. PathLt z r.path) end (f []) in
            let nr : RowLt n r = subst (λ z. PathLt z r.path) (sym w.path) (f (w.top ∷ w.rest)) in
            let ids = agrees x r ix i xr in
            inr (nr, id_trans K rank (row_id n) (row_id x) (row_id r) left_id ids)
        cases (here e) =
            let q : row_id r ≡ row_id x =
            ap (λ p. last_id (record { dot = record { site = 0; seq = 0 }; offset = 0 }) p) e in
            inr (subst (λ z. PathLt n.path z) (sym e) left_row, subst (λ z. Lt (row_id n) z) (sym q) left_id)
        cases (deeper t rest e) = by_side t rest e t.0 refl
