-- What hangs on an insertion, or at an atom, stands together in the order: between two keys that go on by one step
-- there are only keys that go on by it.
use Rattle.std.proofs.Common.{◌≡◌, ◌⊎◌, ◌<◌, ℕ, List, [], ◌∷◌, ◌++◌, true, refl, sym}
use Rattle.std.proofs.Common.{ap, ◌∙◌, subst, inl, inr, ⊎_elim, arith}
use Rattle.std.specs.Prelude.{IsTrue}
use Rattle.td_base.specs.declared.bit.Bit.{Bit}
use Rattle.td_base.specs.Value.{DotValue, AtomIdValue}
use Rattle.td_base.specs.Order.{dot_lt}
use Rattle.td_base.proofs.Orders.{dot_apart}
use Rattle.td_base.proofs.Rising.{stands_last}
use Rattle.td_base.specs.Lists.{In, Successive, StandsBefore}
use Rattle.td_base.proofs.Lists.{all_in}
use Rattle.td_path.specs.declared.slot.Slot.{Slot}
use Rattle.td_path.specs.declared.slot.Slot.TheVariants.{Root, At}
use Rattle.td_op.specs.Op.{OpValue}
use Rattle.td_op.specs.declared.insertion.Insertion.{Insertion}
use Rattle.td_op.specs.Insertion.{ids_of}
use Rattle.td_order.specs.Insertions.{IsInsertionOf, IsAtomOf}
use Rattle.td_order.specs.Under.{IsUnder, under, itself, by_slot, NamesAtomOf}
use Rattle.td_order.specs.Place.{precedes}
use Rattle.td_order.specs.Order.{order}
use Rattle.td_order.specs.Causal.{HasEpochs, IsRootedIn, IsWellRooted}
use Rattle.td_order.specs.Standing.{HangsOn, HangsAt, the_atom, on_a_side}
use Rattle.td_order.proofs.Lex.{lex_between, lex_cancel}
use Rattle.td_order.proofs.Keys.{first_step, Key, KeyLt, StepLt, step_strict, id_of, step}
use Rattle.td_order.proofs.Family.{Names}
use Rattle.td_order.proofs.Fits.{slot_key, ids_dot, mate, Mate, rooted_at}
use Rattle.td_order.proofs.Placing.{IdLt, In-placed}
use Rattle.td_order.proofs.PlaceRises.{pinned}
use Rattle.td_order.proofs.OrderOfPart.{past_of, past_to}
use Rattle.td_order.proofs.StandingLemmas.{line, rank, K, fits, rises, in_line, hanging, atom_key_of}
use Rattle.td_order.proofs.UnderLemmas.{dot_in, of_line, one_insertion, under_by_slots}
use Rattle.td_op.proofs.PastLemmas.{past_along}

-- of two elements of a list that rises the one that stands first is the lesser
stands_lt : {X : Type 0} (lt : X → X → Type 0) (list : List X) → Successive lt list → (x y : X)
    → StandsBefore x y list → lt x y
stands_lt lt [] r x y h = absurd h
stands_lt {X} lt (w ∷ list) r x y h =
    ⊎_elim (λ (k : (x ≡ w) × In y list). subst (λ (z : X). lt z y) (sym k.0) (all_in (lt w) list r.0 y k.1))
    (λ k. stands_lt lt list r.1 x y k) h

-- what is under b knew b
module _ (ops : List OpValue) (W : IsWellRooted ops) where
  onward : (c d e : Insertion) → IsInsertionOf ops c → IsInsertionOf ops d → IsInsertionOf ops e → precedes c d ≡ true
      → precedes d e ≡ true → precedes c e ≡ true
  onward c d e i j k h g =
      past_to ops W i.op k.op c e i.is k.is
      (past_along i.op j.op k.op (past_of ops W i.op j.op c d i.is j.is h)
      (W.causal.knows j.op k.op j.inside k.inside (past_of ops W j.op k.op d e j.is k.is g)))

  names_known : (c d : Insertion) (s : Slot) → IsRootedIn ops c s → NamesAtomOf s d → IsInsertionOf ops d
      → precedes d c ≡ true
  names_known c d Root r n j = absurd n
  names_known c d (At x bit) r n j =
      let one : r.0.insertion ≡ d =
      one_insertion ops W r.0.insertion d r.0.inside j (sym (dot_in r.0.insertion x r.0.among) ∙ dot_in d x n) in
      subst (λ (z : Insertion). precedes z c ≡ true) one r.1

  pub under_knew : (b c : Insertion) → IsInsertionOf ops b → IsInsertionOf ops c → IsUnder ops b c
      → (c ≡ b) ⊎ IsTrue (precedes b c)
  under_knew b c i j itself = inl refl
  under_knew b c i j (by_slot e d inside names u) =
      let last : precedes d e ≡ true = names_known e d e.slot (W.rooted e j) names inside in
      inr (⊎_elim (λ (k : d ≡ b). subst (λ (z : Insertion). precedes z e ≡ true) k last)
      (λ (k : precedes b d ≡ true). onward b d e i inside j k last) (under_knew b d i inside u))

-- between two steps of one insertion there are only steps of it
abbrev Goes : ℕ → ℕ → DotValue → DotValue → Key → Key → Type 0
Goes r q d e u w = (r < q) ⊎ ((r ≡ q) × ((dot_lt d e ≡ true) ⊎ ((d ≡ e) × KeyLt u w)))

one_dot : (r q : ℕ) (d e : DotValue) (u w x y : Key) → Goes r q d e u w → Goes q r e d x y → e ≡ d
one_dot r q d e u w x y (inl l) (inl m) = absurd (omega (arith, l, m))
one_dot r q d e u w x y (inl l) (inr (m, n)) = absurd (omega (arith, l, m))
one_dot r q d e u w x y (inr (l, k)) (inl m) = absurd (omega (arith, l, m))
one_dot r q d e u w x y (inr (l, inr (a, b))) g = sym a
one_dot r q d e u w x y (inr (l, inl a)) (inr (m, inr (b, k))) = b
one_dot r q d e u w x y (inr (l, inl a)) (inr (m, inl b)) = absurd (dot_apart d e a b)

squeezed : (r q : ℕ) (d e : DotValue) (i j k s t v : ℕ) (u w x : Key) → KeyLt (step r d i s ∷ u) (step q e j t ∷ w)
    → KeyLt (step q e j t ∷ w) (step r d k v ∷ x) → e ≡ d
squeezed r q d e i j k s t v u w x h g =
    one_dot r q d e ((i ∷ s ∷ []) ∷ u) ((j ∷ t ∷ []) ∷ w) ((j ∷ t ∷ []) ∷ w) ((k ∷ v ∷ []) ∷ x)
    (first_step r q d e i j s t u w h)
    (first_step q r e d j k t v w x g)

module _ (ops : List OpValue) (W : IsWellRooted ops) (E : HasEpochs ops) where
  abbrev Key1 : AtomIdValue → Key
  Key1 x = K ops W E x 1

  less : (x y : AtomIdValue) → StandsBefore x y (order ops) → KeyLt (Key1 x) (Key1 y)
  less x y h = stands_lt (IdLt (K ops W E) (rank ops W E)) (order ops) (rises ops W E) x y h

  named_in : (x y : AtomIdValue) → StandsBefore x y (order ops) → Names (line ops W E) y
  named_in x y h = In-placed (line ops W E) y (stands_last x y (order ops) h)

  -- an insertion of these operations, by its place in the line-up
  of : (c : Insertion) → In c (line ops W E) → IsInsertionOf ops c
  of c i = of_line ops W c i

  -- what is under an insertion, by the walk over the line-up, hangs on it
  hangs_by : (b : Insertion) → IsInsertionOf ops b → (y : AtomIdValue) → Names (line ops W E) y
      → under (line ops W E) b.dot y.dot ≡ true → HangsOn ops b y
  hangs_by b i y n u =
      let d = n.0 in
      let j = of d n.1 in
      record {
        insertion = d;
        inside = j;
        below = (under_by_slots ops W b d i j).0
            (subst (λ v. under (line ops W E) b.dot v ≡ true) (dot_in d y n.2) u);
        among = n.2;
      }

  -- the insertion in the slot of a through which the key goes of what stands between two atoms whose keys go through a
  record Between (a : Insertion) (y : AtomIdValue) (u v : Key) : Type 0 where
    rest : List ℕ
    more : Key
    key : Key1 y ≡ slot_key (K ops W E) a.slot ++ (rest ∷ more)
    low : KeyLt u (rest ∷ more)
    high : KeyLt (rest ∷ more) v
    mate : Mate (rank ops W E) (line ops W E) a.slot y rest

  between : (a : Insertion) → IsInsertionOf ops a → (x y z : AtomIdValue) (p q : List ℕ) (u v : Key)
      → Key1 x ≡ slot_key (K ops W E) a.slot ++ (p ∷ u) → Key1 z ≡ slot_key (K ops W E) a.slot ++ (q ∷ v)
      → StandsBefore x y (order ops) → StandsBefore y z (order ops) → Between a y (p ∷ u) (q ∷ v)
  between a i x y z p q u v e f h k =
      let low : KeyLt (slot_key (K ops W E) a.slot ++ (p ∷ u)) (Key1 y) =
      subst (λ (w : Key). KeyLt w (Key1 y)) e (less x y h) in
      let high : KeyLt (Key1 y) (slot_key (K ops W E) a.slot ++ (q ∷ v)) =
      subst (λ (w : Key). KeyLt (Key1 y) w) f (less y z k) in
      let r = lex_between StepLt step_strict (slot_key (K ops W E) a.slot) (p ∷ u) (q ∷ v) (Key1 y) low high in
      goes r.0 r.1
      (lex_cancel StepLt step_strict (slot_key (K ops W E) a.slot) (p ∷ u) r.0
      (subst (λ (w : Key). KeyLt (slot_key (K ops W E) a.slot ++ (p ∷ u)) w) r.1 low))
      (lex_cancel StepLt step_strict (slot_key (K ops W E) a.slot) r.0 (q ∷ v)
      (subst (λ (w : Key). KeyLt w (slot_key (K ops W E) a.slot ++ (q ∷ v))) r.1 high))
    where
      goes : (w : Key) → Key1 y ≡ slot_key (K ops W E) a.slot ++ w → KeyLt (p ∷ u) w → KeyLt w (q ∷ v)
          → Between a y (p ∷ u) (q ∷ v)
      goes [] g l m = absurd l
      goes (w0 ∷ w) g l m =
          record {
            rest = w0;
            more = w;
            key = g;
            low = l;
            high = m;
            mate = mate (K ops W E) (rank ops W E) (line ops W E) (fits ops W E) a.slot
                (rooted_at (K ops W E) (rank ops W E) (line ops W E) (fits ops W E) a (in_line ops W E a i)) y
                (named_in x y h) w0 w g;
          }

  -- what stands between two atoms that hang on a hangs on a
  pub under_together : (a : Insertion) → IsInsertionOf ops a → (x y z : AtomIdValue) → HangsOn ops a x
      → HangsOn ops a z
      → StandsBefore x y (order ops) → StandsBefore y z (order ops) → HangsOn ops a y
  under_together a i x y z p q h k =
      let u = hanging ops W E a x i p in
      let v = hanging ops W E a z i q in
      let b = between a i x y z _ _ u.rest v.rest u.key v.key h k in
      let c = b.mate.ins in
      let low = subst (λ (w : List ℕ). KeyLt (step (rank ops W E a) a.dot u.offset u.side ∷ u.rest) (w ∷ b.more))
      b.mate.is b.low in
      let high = subst (λ (w : List ℕ). KeyLt (w ∷ b.more) (step (rank ops W E a) a.dot v.offset v.side ∷ v.rest))
      b.mate.is b.high in
      let dot : c.dot ≡ a.dot =
      squeezed (rank ops W E a) (rank ops W E c) a.dot c.dot u.offset b.mate.offset v.offset u.side b.mate.side v.side
      u.rest b.more v.rest
      low high in
      hangs_by a i y (named_in x y h) (subst (λ (d : DotValue). under (line ops W E) d y.dot ≡ true) dot b.mate.above)

  -- what hangs on an insertion hangs at one of its atoms
  record AtAtom (a : Insertion) (y : AtomIdValue) : Type 0 where
    offset : ℕ
    among : In (id_of a.dot offset) (ids_of a)
    hangs : HangsAt ops (id_of a.dot offset) y

  at_atom : (a : Insertion) → IsInsertionOf ops a → (v y : AtomIdValue) → In v (ids_of a) → HangsAt ops v y
      → AtAtom a y
  at_atom a i v y m h =
      let o = ids_dot a.dot 0 a.run v m in
      record {
        offset = o.0;
        among = subst (λ (w : AtomIdValue). In w (ids_of a)) o.1 m;
        hangs = subst (λ (w : AtomIdValue). HangsAt ops w y) o.1 h;
      }

  named_slot : (a e : Insertion) → IsInsertionOf ops e → (s : Slot) → e.slot ≡ s → NamesAtomOf s a
      → IsInsertionOf ops a
      → (y : AtomIdValue) → In y (ids_of e) → AtAtom a y
  named_slot a e k Root f n i y m = absurd n
  named_slot a e k (At v bit) f n i y m =
      at_atom a i v y n (on_a_side e bit k f (record { insertion = e; inside = k; below = itself; among = m }))

  -- where the last insertion but one of a chain is a, the last is in a slot of it
  hung : (a d : Insertion) → IsInsertionOf ops a → IsInsertionOf ops d → IsUnder ops a d
      → (d ≡ a)
      ⊎ ((b : Insertion) × IsInsertionOf ops b × (v : AtomIdValue) × (bit : Bit) × In v (ids_of a)
      × (b.slot ≡ At v bit) × IsUnder ops b d)
  hung a d i j itself = inl refl
  hung a d i j (by_slot e f inside names u) =
      ⊎_elim (λ (k : f ≡ a). inr (first e.slot refl (subst (λ (z : Insertion). NamesAtomOf e.slot z) k names)))
      (λ (k : (b : Insertion) × IsInsertionOf ops b × (v : AtomIdValue) × (bit : Bit) × In v (ids_of a)
      × (b.slot ≡ At v bit) × IsUnder ops b f).
      inr (k.0, k.1, k.2, k.3, k.4, k.5, by_slot e f inside names k.6)) (hung a f i inside u)
    where
      first : (s : Slot) → e.slot ≡ s → NamesAtomOf s a
          → (b : Insertion) × IsInsertionOf ops b × (v : AtomIdValue) × (bit : Bit) × In v (ids_of a)
          × (b.slot ≡ At v bit) × IsUnder ops b e
      first Root g n = absurd n
      first (At v bit) g n = (e, j, v, bit, n, g, itself)

  hangs_somewhere : (a : Insertion) → IsInsertionOf ops a → (y : AtomIdValue) → HangsOn ops a y → AtAtom a y
  hangs_somewhere a i y h =
      ⊎_elim
      (λ (k : h.insertion ≡ a). at_atom a i y y (subst (λ (d : Insertion). In y (ids_of d)) k h.among)
      (the_atom refl))
      (λ (k : (b : Insertion) × IsInsertionOf ops b × (v : AtomIdValue) × (bit : Bit) × In v (ids_of a)
      × (b.slot ≡ At v bit) × IsUnder ops b h.insertion).
      at_atom a i k.2 y k.4
      (on_a_side k.0 k.3 k.1 k.5
      (record { insertion = h.insertion; inside = h.inside; below = k.6; among = h.among })))
      (hung a h.insertion i h.inside h.below)

  on_insertion : (a : Insertion) → IsInsertionOf ops a → (v y : AtomIdValue) → In v (ids_of a) → HangsAt ops v y
      → HangsOn ops a y
  on_insertion a i v y m (the_atom e) =
      record {
        insertion = a;
        inside = i;
        below = itself;
        among =
            subst (λ (w : AtomIdValue). In w (ids_of a)) (sym e) m;
      }
  on_insertion a i v y m (on_a_side b bit j e h) =
      record {
        insertion = h.insertion;
        inside = h.inside;
        below = along h.insertion h.below;
        among = h.among;
      }
    where
      along : (d : Insertion) → IsUnder ops b d → IsUnder ops a d
      along d itself = by_slot b a i (subst (λ (s : Slot). NamesAtomOf s a) (sym e) m) itself
      along d (by_slot f g inside names u) = by_slot f g inside names (along g u)

  -- what stands between two atoms that hang at v hangs at v
  pub at_together : (v x y z : AtomIdValue) → IsAtomOf ops v → HangsAt ops v x → HangsAt ops v z
      → StandsBefore x y (order ops)
      → StandsBefore y z (order ops) → HangsAt ops v y
  at_together v x y z put p q h k =
      let a = put.insertion in
      let i = put.inside in
      let o = ids_dot a.dot 0 a.run v put.among in
      let w = hangs_somewhere a i y
      (under_together a i x y z (on_insertion a i v x put.among p) (on_insertion a i v z put.among q) h k) in
      let n : In (id_of a.dot o.0) (ids_of a) = subst (λ (u : AtomIdValue). In u (ids_of a)) o.1 put.among in
      let s = atom_key_of ops W E a o.0 i n x (subst (λ (u : AtomIdValue). HangsAt ops u x) o.1 p) in
      let t = atom_key_of ops W E a o.0 i n z (subst (λ (u : AtomIdValue). HangsAt ops u z) o.1 q) in
      let m = atom_key_of ops W E a w.offset i w.among y w.hangs in
      let same : w.offset ≡ o.0 =
      (pinned (rank ops W E a) (rank ops W E a) a.dot a.dot o.0 w.offset s.side m.side t.side s.rest m.rest t.rest
      (cancel_less a x y _ _ s.key m.key (less x y h)) (cancel_less a y z _ _ m.key t.key (less y z k))).1 in
      subst (λ (u : AtomIdValue). HangsAt ops u y) (ap (λ (j : ℕ). id_of a.dot j) same ∙ sym o.1) w.hangs
    where
      cancel_less : (a : Insertion) (x y : AtomIdValue) (u v : Key) → Key1 x ≡ slot_key (K ops W E) a.slot ++ u
          → Key1 y ≡ slot_key (K ops W E) a.slot ++ v → KeyLt (Key1 x) (Key1 y) → KeyLt u v
      cancel_less a x y u v e f l =
          lex_cancel StepLt step_strict (slot_key (K ops W E) a.slot) u v
          (subst (λ (w : Key). KeyLt w (slot_key (K ops W E) a.slot ++ v)) e
          (subst (λ (w : Key). KeyLt (Key1 x) w) f l))

pub no_stranger : (ops : List OpValue) → IsWellRooted ops → HasEpochs ops → (a c : Insertion) → IsInsertionOf ops a
    → IsInsertionOf ops c → (x y z : AtomIdValue) → HangsOn ops a x → HangsOn ops a z → In y (ids_of c)
    → StandsBefore x y (order ops) → StandsBefore y z (order ops) → (c ≡ a) ⊎ IsTrue (precedes a c)
no_stranger ops W E a c i j x y z p q m h k =
    let r = under_together ops W E a i x y z p q h k in
    let one : r.insertion ≡ c =
    one_insertion ops W r.insertion c r.inside j (sym (dot_in r.insertion y r.among) ∙ dot_in c y m) in
    under_knew ops W a c i j (subst (λ (v : Insertion). IsUnder ops a v) one r.below)
