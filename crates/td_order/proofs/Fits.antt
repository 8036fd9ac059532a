-- Keys that fit a list of insertions: how a key is made up of the insertions above an atom.
use Rattle.std.proofs.Common.{◌≡◌, ◌<◌, ◌≤◌, ℕ, suc, List, [], ◌∷◌, ◌++◌, true, false, cond, ◌||◌, refl, sym, ap}
use Rattle.std.proofs.Common.{◌∙◌, subst, inl, inr, ⊎_elim, true≢false, arith, append_assoc}
use Rattle.std.proofs.lemmas.Bool.{cases_Bool, or_cases, or_left, or_right}
use Rattle.td_order.proofs.Keys.{Key, step, id_of}
use Rattle.td_base.proofs.Equals.{same_dot_true, same_dot_refl}
use Rattle.td_base.specs.Value.{DotValue, AtomIdValue}
use Rattle.td_base.specs.declared.bit.Bit.{Bit}
use Rattle.td_base.specs.declared.bit.Bit.TheVariants.{Left, Right}
use Rattle.td_base.specs.Lists.{In}
use Rattle.td_path.specs.declared.slot.Slot.{Slot}
use Rattle.td_path.specs.declared.slot.Slot.TheVariants.{Root, At}
use Rattle.td_op.specs.declared.insertion.Insertion.{Insertion}
use Rattle.td_base.specs.Equality.{same_dot}
use Rattle.td_base.specs.RunAtoms.{run_ids_from}
use Rattle.td_base.proofs.Elements.{same_head, same_tail}
pub use Rattle.td_order.proofs.Family.{Names, IsRooted}
use Rattle.td_order.specs.Under.{under, names_under}
use Rattle.td_order.specs.Place.{precedes, has_some}

-- the key with which the atoms in a slot begin
abbrev pub slot_key : (AtomIdValue → ℕ → Key) → Slot → Key
slot_key K Root = []
slot_key K (At x Left) = K x 0
slot_key K (At x Right) = K x 2

-- how the ranks of an older insert and of a newer one in one slot stand: the newer is nearer to the slot's atom
abbrev pub OlderRank : Slot → ℕ → ℕ → Type 0
OlderRank Root c a = a < c
OlderRank (At x Right) c a = a < c
OlderRank (At x Left) c a = c < a

pub record Fits (K : AtomIdValue → ℕ → Key) (rank : Insertion → ℕ) (a : Insertion) (os : List Insertion) : Type 0 where
  pub key : (offset side : ℕ) → K (id_of a.dot offset) side ≡ slot_key K a.slot
      ++ (step (rank a) a.dot offset side ∷ [])
  pub rooted : IsRooted os a.slot
  pub fresh : (c : Insertion) → In c os → c.dot ≡ a.dot → ⊥
  pub older : (c : Insertion) → In c os → c.slot ≡ a.slot → precedes c a ≡ true → OlderRank a.slot (rank c) (rank a)
  pub equal : (c : Insertion) → In c os → c.slot ≡ a.slot → precedes c a ≡ false → rank c ≡ rank a
  pub full : has_some a.run ≡ true

abbrev pub AllFit : (AtomIdValue → ℕ → Key) → (Insertion → ℕ) → List Insertion → Type 0
AllFit K rank [] = Unit {0}
AllFit K rank (a ∷ os) = Fits K rank a os × AllFit K rank os

pub ids_dot : (d : DotValue) (k : ℕ) (run : List (List ℕ)) (y : AtomIdValue) → In y (run_ids_from d k run)
    → (offset : ℕ) × (y ≡ id_of d offset) × (k ≤ offset)
ids_dot d k [] y h = absurd h
ids_dot d k (x ∷ run) y h = ⊎_elim (λ e. (k, e, omega arith))
    (λ i. let r = ids_dot d (suc k) run y i in let le : k ≤ r.0 = omega arith in (r.0, r.1, le)) h

pub first_id : (d : DotValue) (run : List (List ℕ)) → has_some run ≡ true → In (id_of d 0) (run_ids_from d 0 run)
first_id d [] h = absurd (true≢false (sym h))
first_id d (x ∷ run) h = inl refl

-- where a list with one more element at its end is cut
pub data Cut (xs : Key) (z : List ℕ) (q : Key) (w0 : List ℕ) (w : Key) : Type 0 where
  at_end : w ≡ [] → xs ≡ q → z ≡ w0 → Cut xs z q w0 w
  before : (v : Key) → w ≡ v ++ (z ∷ []) → xs ≡ q ++ (w0 ∷ v) → Cut xs z q w0 w

nil_append : (q : Key) (w0 : List ℕ) (w : Key) → [] ≡ q ++ (w0 ∷ w) → ⊥
nil_append [] w0 w e = cc
nil_append (x ∷ q) w0 w e = cc

cut_more : (x y : List ℕ) (xs : Key) (z : List ℕ) (q : Key) (w0 : List ℕ) (w : Key) → x ≡ y → Cut xs z q w0 w
    → Cut (x ∷ xs) z (y ∷ q) w0 w
cut_more x y xs z q w0 w e (at_end a b c) = at_end a (λ i. e i ∷ b i) c
cut_more x y xs z q w0 w e (before v a b) = before v a (λ i. e i ∷ b i)

pub cut : (xs : Key) (z : List ℕ) (q : Key) (w0 : List ℕ) (w : Key) → xs ++ (z ∷ []) ≡ q ++ (w0 ∷ w) → Cut xs z q w0 w
cut [] z [] w0 w e = at_end (sym (same_tail _ _ _ _ e)) refl (same_head _ _ _ _ e)
cut [] z (y ∷ q) w0 w e = absurd (nil_append q w0 w (same_tail _ _ _ _ e))
cut (x ∷ xs) z [] w0 w e = before xs (sym (same_tail _ _ _ _ e)) (λ i. same_head _ _ _ _ e i ∷ xs)
cut (x ∷ xs) z (y ∷ q) w0 w e = cut_more x y xs z q w0 w (same_head _ _ _ _ e) (cut xs z q w0 w (same_tail _ _ _ _ e))

pub under_head : (a : Insertion) (os : List Insertion) (b y : DotValue) → a.dot ≡ y
    → (same_dot y b || names_under (under os b) a.slot) ≡ true → under (a ∷ os) b y ≡ true
under_head a os b y e h = ap (λ v. cond v (same_dot y b || names_under (under os b) a.slot) (under os b y))
    (subst (λ d. same_dot a.dot d ≡ true) e (same_dot_refl a.dot)) ∙ h

pub under_tail : (a : Insertion) (os : List Insertion) (b y : DotValue) → (a.dot ≡ y → ⊥) → under (a ∷ os) b y
    ≡ under os b y
under_tail a os b y n =
    ap (λ v. cond v (same_dot y b || names_under (under os b) a.slot) (under os b y))
    (⊎_elim (λ t. absurd (n (same_dot_true a.dot y t))) (λ f. f) (cases_Bool (same_dot a.dot y)))

module _ (K : AtomIdValue → ℕ → Key) (rank : Insertion → ℕ) where
  pub fits_at : (os : List Insertion) → AllFit K rank os → (b : Insertion) → In b os → (offset side : ℕ)
      → K (id_of b.dot offset) side ≡ slot_key K b.slot ++ (step (rank b) b.dot offset side ∷ [])
  fits_at [] f b i = absurd i
  fits_at (a ∷ os) f b i = ⊎_elim (λ (e : b ≡ a). subst
      (λ (c : Insertion). (offset side : ℕ) → K (id_of c.dot offset) side ≡ slot_key K c.slot
      ++ (step (rank c) c.dot offset side ∷ [])) (sym e) f.0.key) (λ j. fits_at os f.1 b j) i

  pub full_at : (os : List Insertion) → AllFit K rank os → (b : Insertion) → In b os → has_some b.run ≡ true
  full_at [] f b i = absurd i
  full_at (a ∷ os) f b i = ⊎_elim (λ (e : b ≡ a). subst (λ (c : Insertion). has_some c.run ≡ true) (sym e) f.0.full)
      (λ j. full_at os f.1 b j) i

  names_more : (a : Insertion) (os : List Insertion) (s : Slot) → IsRooted os s → IsRooted (a ∷ os) s
  names_more a os Root h = tt
  names_more a os (At x s) h = (h.0, inr h.1, h.2)

  pub rooted_at : (os : List Insertion) → AllFit K rank os → (b : Insertion) → In b os → IsRooted os b.slot
  rooted_at [] f b i = absurd i
  rooted_at (a ∷ os) f b i =
      ⊎_elim (λ (e : b ≡ a). names_more a os b.slot (subst (λ (c : Insertion). IsRooted os c.slot) (sym e)
      f.0.rooted)) (λ j. names_more a os b.slot (rooted_at os f.1 b j)) i

  pub same_insert : (os : List Insertion) → AllFit K rank os → (b c : Insertion) → In b os → In c os → b.dot ≡ c.dot
      → b ≡ c
  same_insert [] f b c i j e = absurd i
  same_insert (a ∷ os) f b c i j e =
      ⊎_elim
      (λ (p : b ≡ a). ⊎_elim (λ (q : c ≡ a). p ∙ sym q)
      (λ k. absurd (f.0.fresh c k (sym e ∙ ap (λ (x : Insertion). x.dot) p))) j)
      (λ k. ⊎_elim (λ (q : c ≡ a). absurd (f.0.fresh b k (e ∙ ap (λ (x : Insertion). x.dot) q)))
      (λ l. same_insert os f.1 b c k l e) j)
      i

  -- an atom's key ends with a step that names it
  pub key_end : (os : List Insertion) → AllFit K rank os → (y : AtomIdValue) → Names os y → (p : Key) × (r : ℕ)
      × ((t : ℕ) → K y t ≡ p ++ (step r y.dot y.offset t ∷ []))
  key_end os f y n =
      let o = ids_dot n.0.dot 0 n.0.run y n.2 in (
        slot_key K n.0.slot,
        rank n.0,
        λ t. subst (λ (z : AtomIdValue). K z t ≡ slot_key K n.0.slot
            ++ (step (rank n.0) z.dot z.offset t ∷ [])) (sym o.1) (fits_at os f n.0 n.1 o.0 t),
      )

  -- what stands at one place of an atom's key
  pub record Found (os : List Insertion) (y : AtomIdValue) (t : ℕ) (q : Key) (w0 : List ℕ) (w : Key) : Type 0 where
    pub ins : Insertion
    pub offset : ℕ
    pub side : ℕ
    pub inside : In ins os
    pub at : q ≡ slot_key K ins.slot
    pub is : w0 ≡ step (rank ins) ins.dot offset side
    pub above : under os ins.dot y.dot ≡ true
    pub last : side ≡ 1 → (w ≡ []) × (y ≡ id_of ins.dot offset)
    pub more : t ≡ 1 → (side ≡ 1 → ⊥) → w ≡ [] → ⊥
    pub sides : (t ≡ 1 → ⊥) → side ≡ 1 → ⊥

  record FoundIn (os : List Insertion) (s : Slot) (q : Key) (w0 : List ℕ) : Type 0 where
    ins : Insertion
    offset : ℕ
    side : ℕ
    inside : In ins os
    at : q ≡ slot_key K ins.slot
    is : w0 ≡ step (rank ins) ins.dot offset side
    above : names_under (under os ins.dot) s ≡ true
    on : side ≡ 1 → ⊥

  abbrev Finds : List Insertion → Type 0
  Finds os = (y : AtomIdValue) → Names os y → (t : ℕ) (q : Key) (w0 : List ℕ) (w : Key) → K y t ≡ q ++ (w0 ∷ w)
      → Found os y t q w0 w

  in_slot : (os : List Insertion) → Finds os → (s : Slot) → IsRooted os s → (q : Key) (w0 : List ℕ) (v : Key)
      → slot_key K s ≡ q ++ (w0 ∷ v) → FoundIn os s q w0
  in_slot os find Root h q w0 v e = absurd (nil_append q w0 v e)
  in_slot os find (At x Left) h q w0 v e =
      let f = find x h 0 q w0 v e in
      record {
        ins = f.ins;
        offset = f.offset;
        side = f.side;
        inside = f.inside;
        at = f.at;
        is = f.is;
        above = f.above;
        on = f.sides (λ k. cc);
      }
  in_slot os find (At x Right) h q w0 v e =
      let f = find x h 2 q w0 v e in
      record {
        ins = f.ins;
        offset = f.offset;
        side = f.side;
        inside = f.inside;
        at = f.at;
        is = f.is;
        above = f.above;
        on = f.sides (λ k. cc);
      }

  pub snoc_not_nil : (v : Key) (z : List ℕ) → v ++ (z ∷ []) ≡ [] → ⊥
  snoc_not_nil [] z e = cc
  snoc_not_nil (x ∷ v) z e = cc

  find_head : (a : Insertion) (os : List Insertion) → Fits K rank a os → Finds os → (y : AtomIdValue) (o : ℕ) → y
      ≡ id_of a.dot o → (t : ℕ) (q : Key) (w0 : List ℕ) (w : Key)
      → Cut (slot_key K a.slot) (step (rank a) a.dot o t) q w0 w → Found (a ∷ os) y t q w0 w
  find_head a os f find y o e t q w0 w (at_end x z u) = record {
    ins = a;
    offset = o;
    side = t;
    inside = inl refl;
    at = sym z;
    is = sym u;
    above = under_head a os a.dot y.dot (sym (ap (λ (i : AtomIdValue). i.dot) e))
        (or_left _ _ (subst (λ d. same_dot d a.dot ≡ true) (sym (ap (λ (i : AtomIdValue). i.dot) e))
        (same_dot_refl a.dot)));
    last = λ k. (x, e);
    more = λ k n. absurd (n k);
    sides = λ n k. n k;
  }
  find_head a os f find y o e t q w0 w (before v x z) =
      let r = in_slot os find a.slot f.rooted q w0 v z in
      record {
        ins = r.ins;
        offset = r.offset;
        side = r.side;
        inside = inr r.inside;
        at = r.at;
        is = r.is;
        above = under_head a os r.ins.dot y.dot (sym (ap (λ (i : AtomIdValue). i.dot) e)) (or_right _ _ r.above);
        last = λ k. absurd (r.on k);
        more = λ k n m. snoc_not_nil v _ (sym x ∙ m);
        sides = λ n k. r.on k;
      }

  find_tail : (a : Insertion) (os : List Insertion) (y : AtomIdValue) → (a.dot ≡ y.dot → ⊥)
      → (t : ℕ) (q : Key) (w0 : List ℕ) (w : Key) → Found os y t q w0 w → Found (a ∷ os) y t q w0 w
  find_tail a os y n t q w0 w r = record {
    ins = r.ins;
    offset = r.offset;
    side = r.side;
    inside = inr r.inside;
    at = r.at;
    is = r.is;
    above = under_tail a os r.ins.dot y.dot n ∙ r.above;
    last = r.last;
    more = r.more;
    sides = r.sides;
  }

  pub find : (os : List Insertion) → AllFit K rank os → Finds os
  find [] f y n t q w0 w e = absurd n.1
  find (a ∷ os) f y n t q w0 w e =
      let o = ids_dot n.0.dot 0 n.0.run y n.2 in
      ⊎_elim
      (λ (p : n.0 ≡ a).
      let d : y ≡ id_of a.dot o.0 = o.1 ∙ ap (λ (c : Insertion). id_of c.dot o.0) p in
      find_head a os f.0 (find os f.1) y o.0 d t q w0 w
      (cut _ _ q w0 w (sym (f.0.key o.0 t) ∙ (ap (λ z. K z t) (sym d) ∙ e))))
      (λ (k : In n.0 os).
      find_tail a os y (λ d. f.0.fresh n.0 k (sym (d ∙ ap (λ (i : AtomIdValue). i.dot) o.1))) t q w0 w
      (find os f.1 y (n.0, k, n.2) t q w0 w e))
      n.1

  -- what is under an insert begins with its slot's key and a step of it
  pub record UnderKey (os : List Insertion) (d : DotValue) (y : AtomIdValue) (t : ℕ) : Type 0 where
    pub ins : Insertion
    pub inside : In ins os
    pub dot : ins.dot ≡ d
    pub offset : ℕ
    pub side : ℕ
    pub rest : Key
    pub key : K y t ≡ slot_key K ins.slot ++ (step (rank ins) ins.dot offset side ∷ rest)

  abbrev Unders : List Insertion → Type 0
  Unders os = (d : DotValue) (y : AtomIdValue) → Names os y → under os d y.dot ≡ true → (t : ℕ) → UnderKey os d y t

  record SlotUnder (os : List Insertion) (d : DotValue) (s : Slot) : Type 0 where
    ins : Insertion
    inside : In ins os
    dot : ins.dot ≡ d
    offset : ℕ
    side : ℕ
    rest : Key
    key : slot_key K s ≡ slot_key K ins.slot ++ (step (rank ins) ins.dot offset side ∷ rest)

  under_slot : (os : List Insertion) → Unders os → (d : DotValue) (s : Slot) → IsRooted os s
      → names_under (under os d) s ≡ true → SlotUnder os d s
  under_slot os u d Root h e = absurd (true≢false (sym e))
  under_slot os u d (At x Left) h e =
      let r = u d x h e 0 in record {
        ins = r.ins;
        inside = r.inside;
        dot = r.dot;
        offset = r.offset;
        side = r.side;
        rest = r.rest;
        key = r.key;
      }
  under_slot os u d (At x Right) h e =
      let r = u d x h e 2 in record {
        ins = r.ins;
        inside = r.inside;
        dot = r.dot;
        offset = r.offset;
        side = r.side;
        rest = r.rest;
        key = r.key;
      }

  pub under_key : (os : List Insertion) → AllFit K rank os → Unders os
  under_key [] f d y n e t = absurd n.1
  under_key (a ∷ os) f d y n e t =
      let o = ids_dot n.0.dot 0 n.0.run y n.2 in
      ⊎_elim
      (λ (p : n.0 ≡ a).
      let g : y ≡ id_of a.dot o.0 = o.1 ∙ ap (λ (c : Insertion). id_of c.dot o.0) p in
      let g' : a.dot ≡ y.dot = sym (ap (λ (i : AtomIdValue). i.dot) g) in
      let k : K y t ≡ slot_key K a.slot ++ (step (rank a) a.dot o.0 t ∷ []) = ap (λ z. K z t) g ∙ f.0.key o.0 t in
      let h : (same_dot y.dot d || names_under (under os d) a.slot) ≡ true =
      sym (ap (λ v. cond v (same_dot y.dot d || names_under (under os d) a.slot) (under os d y.dot))
      (subst (λ x. same_dot a.dot x ≡ true) g' (same_dot_refl a.dot))) ∙ e in
      ⊎_elim
      (λ m. record {
        ins = a;
        inside = inl refl;
        dot = g' ∙ same_dot_true y.dot d m;
        offset = o.0;
        side = t;
        rest = [];
        key = k;
      })
      (λ m. let r = under_slot os (under_key os f.1) d a.slot f.0.rooted m in
      record {
        ins = r.ins;
        inside = inr r.inside;
        dot = r.dot;
        offset = r.offset;
        side = r.side;
        rest = r.rest ++ (step (rank a) a.dot o.0 t ∷ []);
        key = k ∙ (ap (λ z. z ++ (step (rank a) a.dot o.0 t ∷ [])) r.key
            ∙ append_assoc (slot_key K r.ins.slot) (step (rank r.ins) r.ins.dot r.offset r.side ∷ r.rest)
            (step (rank a) a.dot o.0 t ∷ []));
      })
      (or_cases _ _ h))
      (λ (k : In n.0 os).
      let r = under_key os f.1 d y (n.0, k, n.2) (sym
      (under_tail a os d y.dot (λ x. f.0.fresh n.0 k (sym (x ∙ ap (λ (i : AtomIdValue). i.dot) o.1)))) ∙ e) t in
      record {
        ins = r.ins;
        inside = inr r.inside;
        dot = r.dot;
        offset = r.offset;
        side = r.side;
        rest = r.rest;
        key = r.key;
      })
      n.1

  pub under_self : (os : List Insertion) → AllFit K rank os → (b : Insertion) → In b os → under os b.dot b.dot ≡ true
  under_self [] f b i = absurd i
  under_self (a ∷ os) f b i =
      ⊎_elim
      (λ (e : b ≡ a). under_head a os b.dot b.dot (sym (ap (λ (c : Insertion). c.dot) e))
      (or_left _ _ (same_dot_refl b.dot)))
      (λ k. under_tail a os b.dot b.dot (λ x. f.0.fresh b k (sym x)) ∙ under_self os f.1 b k)
      i

  -- slots with one key are one slot
  abbrev side_number : Bit → ℕ
  side_number Left = 0
  side_number Right = 2

  side_back : (s t : Bit) → side_number s ≡ side_number t → s ≡ t
  side_back Left Left e = refl
  side_back Left Right e = absurd (omega arith)
  side_back Right Left e = absurd (omega arith)
  side_back Right Right e = refl

  slot_key_at : (x : AtomIdValue) (s : Bit) → slot_key K (At x s) ≡ K x (side_number s)
  slot_key_at x Left = refl
  slot_key_at x Right = refl

  pub snoc_last : (xs ys : Key) (x y : List ℕ) → xs ++ (x ∷ []) ≡ ys ++ (y ∷ []) → x ≡ y
  snoc_last xs ys x y e = last_of (cut xs x ys y [] e)
    where
      last_of : Cut xs x ys y [] → x ≡ y
      last_of (at_end a b c) = c
      last_of (before v a b) = absurd (snoc_not_nil v x (sym a))

  slot_at_same : (os : List Insertion) → AllFit K rank os → (x : AtomIdValue) (s : Bit) (y : AtomIdValue) (t : Bit)
      → Names os x → Names os y → K x (side_number s) ≡ K y (side_number t) → At x s ≡ At y t
  slot_at_same os f x s y t h k e =
      let a = key_end os f x h in
      let b = key_end os f y k in
      let last : step a.1 x.dot x.offset (side_number s)
      ≡ step b.1 y.dot y.offset (side_number t) = snoc_last a.0 b.0 _ _
      (sym (a.2 (side_number s)) ∙ (e ∙ b.2 (side_number t))) in
      let e1 : x.dot.site ≡ y.dot.site = cc in
      let e2 : x.dot.seq ≡ y.dot.seq = cc in
      let e3 : x.offset ≡ y.offset = cc in
      let e4 : side_number s ≡ side_number t = cc in
      let e5 = side_back s t e4 in
      λ i. At (record { dot = record { site = e1 i; seq = e2 i }; offset = e3 i }) (e5 i)

  key_not_nil : (os : List Insertion) → AllFit K rank os → (x : AtomIdValue) (s : Bit) → Names os x → []
      ≡ slot_key K (At x s) → ⊥
  key_not_nil os f x s h e = let a = key_end os f x h in
      snoc_not_nil a.0 _ (sym (e ∙ (slot_key_at x s ∙ a.2 (side_number s))))

  pub slot_key_same : (os : List Insertion) → AllFit K rank os → (s t : Slot) → IsRooted os s → IsRooted os t
      → slot_key K s ≡ slot_key K t → s ≡ t
  slot_key_same os f Root Root h k e = refl
  slot_key_same os f Root (At y t) h k e = absurd (key_not_nil os f y t k e)
  slot_key_same os f (At x s) Root h k e = absurd (key_not_nil os f x s h (sym e))
  slot_key_same os f (At x s) (At y t) h k e = slot_at_same os f x s y t h k
      (sym (slot_key_at x s) ∙ (e ∙ slot_key_at y t))

-- an insertion in a slot, which a key goes through where it goes on from the slot's
pub record Mate (rank : Insertion → ℕ) (os : List Insertion) (s : Slot) (x : AtomIdValue) (w0 : List ℕ) : Type 0 where
  pub ins : Insertion
  pub offset : ℕ
  pub side : ℕ
  pub inside : In ins os
  pub slot : ins.slot ≡ s
  pub is : w0 ≡ step (rank ins) ins.dot offset side
  pub above : under os ins.dot x.dot ≡ true

pub mate : (K : AtomIdValue → ℕ → Key) (rank : Insertion → ℕ) (os : List Insertion) → AllFit K rank os → (s : Slot)
    → IsRooted os s → (x : AtomIdValue) → Names os x
    → (w0 : List ℕ) (w : Key) → K x 1 ≡ slot_key K s ++ (w0 ∷ w) → Mate rank os s x w0
mate K rank os g s rooted x n w0 w e =
    let r = find K rank os g x n 1 (slot_key K s) w0 w e in
    record {
      ins = r.ins;
      offset = r.offset;
      side = r.side;
      inside = r.inside;
      is = r.is;
      above = r.above;
      slot = slot_key_same K rank os g r.ins.slot s (rooted_at K rank os g r.ins r.inside) rooted (sym r.at);
    }
