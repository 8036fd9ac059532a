-- Paths that pass a node, and how two slots lie on one path.
use Rattle.std.proofs.Common.{◌≡◌, ◌<◌, [], ◌∷◌, ◌++◌, length, true, ◌&&◌, refl, sym, ap, ◌∙◌, subst}
use Rattle.std.proofs.Common.{⊎_elim, true≢false, append_assoc, length-append, arith}
use Rattle.std.proofs.lemmas.Bool.{or_left, or_right, and_parts, or_cases}
use Rattle.td_base.specs.declared.bit.Bit.{Bit}
use Rattle.td_base.specs.Value.{AtomIdValue}
use Rattle.td_base.specs.Equality.{same_bit, same_id}
use Rattle.td_path.specs.Infix.{Pair, Pairs}
use Rattle.td_path.specs.declared.slot.Slot.{Slot}
use Rattle.td_path.specs.declared.slot.Slot.TheVariants.{Root, At}
use Rattle.td_base.proofs.Equals.{same_bit_true, same_bit_refl, same_id_true, same_id_refl}
use Rattle.td_base.proofs.Elements.{same_head, same_tail}
use Rattle.td_law_logs.specs.Places.{passes, slot_holds}

pub same_id_from : (x y : AtomIdValue) → x ≡ y → same_id x y ≡ true
same_id_from x y e = ap (λ z. same_id x z) (sym e) ∙ same_id_refl x

-- the path passes x and goes on by the bit
pub record Passes (x : AtomIdValue) (bit : Bit) (path : Pairs) : Type 0 where
  pub front : Pairs
  pub side : Bit
  pub next : AtomIdValue
  pub rest : Pairs
  pub is : path ≡ front ++ (side, x) ∷ (bit, next) ∷ rest

pub passes_parts : (x : AtomIdValue) (bit : Bit) (path : Pairs) → passes x bit path ≡ true → Passes x bit path
passes_parts x bit [] h = absurd (true≢false (sym h))
passes_parts x bit (p ∷ []) h = absurd (true≢false (sym h))
passes_parts x bit (p ∷ q ∷ path) h =
    ⊎_elim
    (λ (k : (same_id p.1 x && same_bit q.0 bit) ≡ true).
    let b = and_parts _ _ k in
    let e = same_id_true p.1 x b.0 in
    let f = same_bit_true q.0 bit b.1 in
    record { front = []; side = p.0; next = q.1; rest = path; is = λ i. (p.0, e i) ∷ (f i, q.1) ∷ path })
    (λ (k : passes x bit (q ∷ path) ≡ true).
    let r = passes_parts x bit (q ∷ path) k in
    record { front = p ∷ r.front; side = r.side; next = r.next; rest = r.rest; is = λ i. p ∷ r.is i })
    (or_cases _ _ h)

pub passes_cons : (x : AtomIdValue) (bit : Bit) (p : Pair) (path : Pairs) → passes x bit path ≡ true
    → passes x bit (p ∷ path) ≡ true
passes_cons x bit p [] h = absurd (true≢false (sym h))
passes_cons x bit p (q ∷ path) h = or_right _ _ h

pub passes_from : (x : AtomIdValue) (bit : Bit) (front : Pairs) (side : Bit) (next : AtomIdValue) (rest : Pairs)
    → passes x bit (front ++ (side, x) ∷ (bit, next) ∷ rest) ≡ true
passes_from x bit [] side next rest = or_left _ _ ((λ i. same_id_refl x i && same_bit bit bit) ∙ same_bit_refl bit)
passes_from x bit (p ∷ front) side next rest = passes_cons x bit p (front ++ (side, x) ∷ (bit, next) ∷ rest)
    (passes_from x bit front side next rest)

pub passes_more : (x : AtomIdValue) (bit : Bit) (path more : Pairs) → passes x bit path ≡ true
    → passes x bit (path ++ more) ≡ true
passes_more x bit path more h =
    let r = passes_parts x bit path h in
    let e : path ++ more ≡ r.front ++ (r.side, x) ∷ (bit, r.next) ∷ (r.rest ++ more) =
    ap (λ (q : Pairs). q ++ more) r.is ∙ append_assoc r.front ((r.side, x) ∷ (bit, r.next) ∷ r.rest) more in
    subst (λ (q : Pairs). passes x bit q ≡ true) (sym e) (passes_from x bit r.front r.side r.next (r.rest ++ more))

pub slot_more : (slot : Slot) (path more : Pairs) → slot_holds slot path ≡ true
    → slot_holds slot (path ++ more) ≡ true
slot_more Root path more h = refl
slot_more (At x bit) path more h = passes_more x bit path more h

-- y lies on the path, further down than x, on x's side of this bit
pub record Above (x : AtomIdValue) (b : Bit) (y : AtomIdValue) (path : Pairs) : Type 0 where
  pub front : Pairs
  pub side : Bit
  pub next : Pair
  pub rest : Pairs
  pub is : path ≡ front ++ (side, y) ∷ next ∷ rest
  pub passes : passes x b (front ++ (side, y) ∷ []) ≡ true

-- how two slots with one row in both lie
pub data TwoSlots (x : AtomIdValue) (b : Bit) (y : AtomIdValue) (c : Bit) (path : Pairs) : Type 0 where
  same_slots : x ≡ y → b ≡ c → TwoSlots x b y c path
  first_above : Above x b y path → TwoSlots x b y c path
  second_above : Above y c x path → TwoSlots x b y c path

-- y comes after x's pair
next_above : (x : AtomIdValue) (s b : Bit) (n : AtomIdValue) (r f : Pairs) (t : Bit) (y : AtomIdValue) (m : Pair)
    (q : Pairs) → (b, n) ∷ r ≡ f ++ (t, y) ∷ m ∷ q → passes x b ((s, x) ∷ f ++ (t, y) ∷ []) ≡ true
next_above x s b n r [] t y m q e =
    let k : b ≡ t = ap (λ (z : Pair). z.0) (same_head (b, n) r (t, y) (m ∷ q) e) in
    subst (λ z. passes x b ((s, x) ∷ (z, y) ∷ []) ≡ true) k (passes_from x b [] s y [])
next_above x s b n r (u ∷ f) t y m q e =
    let k : b ≡ u.0 = ap (λ (z : Pair). z.0) (same_head (b, n) r u _ e) in
    subst (λ z. passes x b ((s, x) ∷ (z, u.1) ∷ f ++ (t, y) ∷ []) ≡ true) k
    (passes_from x b [] s u.1 (f ++ (t, y) ∷ []))

above_cons : (u : Pair) (x : AtomIdValue) (b : Bit) (y : AtomIdValue) (path : Pairs) → Above x b y path
    → Above x b y (u ∷ path)
above_cons u x b y path a =
    record {
      front = u ∷ a.front;
      side = a.side;
      next = a.next;
      rest = a.rest;
      is = λ i. u ∷ a.is i;
      passes =
          passes_cons x b u (a.front ++ (a.side, y) ∷ []) a.passes;
    }

two_cons : (u : Pair) (x : AtomIdValue) (b : Bit) (y : AtomIdValue) (c : Bit) (path : Pairs) → TwoSlots x b y c path
    → TwoSlots x b y c (u ∷ path)
two_cons u x b y c path (same_slots e f) = same_slots e f
two_cons u x b y c path (first_above a) = first_above (above_cons u x b y path a)
two_cons u x b y c path (second_above a) = second_above (above_cons u y c x path a)

two_at : (x : AtomIdValue) (b : Bit) (y : AtomIdValue) (c : Bit) (f : Pairs) (s : Bit) (n : AtomIdValue) (r : Pairs)
    (g : Pairs) (t : Bit) (m : AtomIdValue) (q : Pairs)
    → f ++ (s, x) ∷ (b, n) ∷ r ≡ g ++ (t, y) ∷ (c, m) ∷ q → TwoSlots x b y c (f ++ (s, x) ∷ (b, n) ∷ r)
two_at x b y c [] s n r [] t m q e =
    let h = same_head (s, x) _ (t, y) _ e in
    let k = same_head (b, n) _ (c, m) _ (same_tail (s, x) _ (t, y) _ e) in
    same_slots (ap (λ (z : Pair). z.1) h) (ap (λ (z : Pair). z.0) k)
two_at x b y c [] s n r (v ∷ g) t m q e =
    let h : (s, x) ≡ v = same_head (s, x) _ v _ e in
    let k = same_tail (s, x) ((b, n) ∷ r) v (g ++ (t, y) ∷ (c, m) ∷ q) e in
    first_above
    (record {
      front = (s, x) ∷ g;
      side = t;
      next = (c, m);
      rest = q;
      is = λ i. (s, x) ∷ k i;
      passes =
          next_above x s b n r g t y (c, m) q k;
    })
two_at x b y c (u ∷ f) s n r [] t m q e =
    let h : u ≡ (t, y) = same_head u _ (t, y) _ e in
    let k = same_tail u (f ++ (s, x) ∷ (b, n) ∷ r) (t, y) ((c, m) ∷ q) e in
    second_above
    (record {
      front = u ∷ f;
      side = s;
      next = (b, n);
      rest = r;
      is = refl;
      passes =
          subst (λ (z : Pair). passes y c (z ∷ f ++ (s, x) ∷ []) ≡ true) (sym h)
          (next_above y t c m q f s x (b, n) r (sym k));
    })
two_at x b y c (u ∷ f) s n r (v ∷ g) t m q e =
    two_cons u x b y c (f ++ (s, x) ∷ (b, n) ∷ r) (two_at x b y c f s n r g t m q (same_tail u _ v _ e))

pub two_slots : (x : AtomIdValue) (b : Bit) (y : AtomIdValue) (c : Bit) (path : Pairs) → passes x b path ≡ true
    → passes y c path ≡ true → TwoSlots x b y c path
two_slots x b y c path h k =
    let p = passes_parts x b path h in
    let q = passes_parts y c path k in
    subst (λ (z : Pairs). TwoSlots x b y c z) (sym p.is)
    (two_at x b y c p.front p.side p.next p.rest q.front q.side q.next q.rest (sym p.is ∙ q.is))

pub shorter : (front : Pairs) (t u : Pair) (rest : Pairs) → length (front ++ t ∷ []) < length (front ++ t ∷ u ∷ rest)
shorter front t u rest = let a = length-append front (t ∷ []) in let b = length-append front (t ∷ u ∷ rest) in
    omega (arith, a, b)
