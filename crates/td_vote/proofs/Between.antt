-- Slots in the order of their places: a slot that overlaps another overlaps what stands between them, or the other
-- does.
use Rattle.std.proofs.Common.{◌≡◌, ◌⊎◌, List, Bool, true, false, ◌&&◌, ◌||◌, Option, Some, None}
use Rattle.std.proofs.Common.{refl, sym, ap, ◌∙◌, subst, inl, inr, ⊎_elim, true≢false}
use Rattle.std.proofs.lemmas.Bool.{or_right, or_cases, and_parts}
use Rattle.std.proofs.lemmas.Cmp.{tied_itself, then_total, on_total}
use Rattle.std.specs.Cmp.{IsTotalOrder}
use Rattle.std.specs.declared.cmp.Ordering.{Ordering}
use Rattle.std.specs.declared.cmp.Ordering.TheVariants.{Less, Equal, Greater}
use Rattle.std.specs.Ordering.{is_lt, ordering_reverse, ordering_then}
use Rattle.std.specs.Option.{option_map, is_some}
use Rattle.td_base.specs.declared.bit.Bit.{Bit}
use Rattle.td_base.specs.declared.bit.Bit.TheVariants.{Left, Right}
use Rattle.td_base.specs.Order.{bit_cmp}
use Rattle.td_base.specs.Equality.{same_bit, same_id}
use Rattle.td_base.specs.Value.{AtomIdValue}
use Rattle.td_base.proofs.Equals.{same_bit_true, same_id_true}
use Rattle.td_base.proofs.Orders.{bit_total, equal_bits, then_equal, less_of}
use Rattle.td_path.specs.Infix.{Pairs, path_cmp}
use Rattle.td_path.specs.Slot.{same_slot}
use Rattle.td_path.specs.SlotPaths.{goes_on}
use Rattle.td_path.specs.declared.slot.Slot.{Slot}
use Rattle.td_path.specs.declared.slot.Slot.TheVariants.{Root, At}
use Rattle.td_path.specs.declared.slot_path.SlotPath.TheVariants.{Root as Whole, Below}
use Rattle.td_path.proofs.InfixOrder.{path_total, equal_paths, goes_on_parts, left_before, right_after}
use Rattle.td_path.proofs.InfixOrder.{between_left, between_right}
use Rattle.td_doc.specs.Document.{DocRow, IsDocument, last_id, find_row}
use Rattle.td_doc.specs.Slots.{rows_below, is_within, contains_slot}
use Rattle.td_doc.proofs.ArrayRows.{nobody}
use Rattle.td_doc.proofs.Rules.{found}
use Rattle.td_doc.proofs.SubtreeRows.{within_is}
use Rattle.td_vote.specs.ByPlace.{place_cmp, path_before, place_before}

-- ---- the order of places

abbrev Place : Type 0
Place = Pairs × Bit

abbrev place_order : Place → Place → Ordering
place_order x y = place_cmp x.0 x.1 y.0 y.1

place_total : IsTotalOrder place_order
place_total = then_total (on_total (λ (x : Place). x.0) path_total) (on_total (λ (x : Place). x.1) bit_total)

abbrev Before : Pairs → Bit → Pairs → Bit → Type 0
Before p b q c = place_cmp p b q c ≡ Less

first_less : (o r : Ordering) → ordering_then o r ≡ Less → (o ≡ Less) ⊎ ((o ≡ Equal) × (r ≡ Less))
first_less Less r h = inl refl
first_less Equal r h = inr (refl, h)
first_less Greater r h = absurd cc

left_right : (b c : Bit) → bit_cmp b c ≡ Less → (b ≡ Left) × (c ≡ Right)
left_right Left Left h = absurd cc
left_right Left Right h = (refl, refl)
left_right Right Left h = absurd cc
left_right Right Right h = absurd cc

-- a path before another, or two sides of one
before_parts : (p : Pairs) (b : Bit) (q : Pairs) (c : Bit) → Before p b q c
    → (path_cmp p q ≡ Less) ⊎ ((p ≡ q) × (b ≡ Left) × (c ≡ Right))
before_parts p b q c h =
    ⊎_elim (λ (k : path_cmp p q ≡ Less). inl k)
    (λ (k : (path_cmp p q ≡ Equal) × (bit_cmp b c ≡ Less)).
    let sides = left_right b c k.1 in inr (equal_paths p q k.0, sides.0, sides.1))
    (first_less (path_cmp p q) (bit_cmp b c) h)

not_both : (p q : Pairs) → path_cmp p q ≡ Less → path_cmp q p ≡ Less → ⊥
not_both p q h k = differ (path_cmp p q) h (path_total.antisymm p q ∙ ap ordering_reverse k)
  where
    differ : (o : Ordering) → o ≡ Less → o ≡ Greater → ⊥
    differ o e f = cc

not_less_itself : (p : Pairs) → path_cmp p p ≡ Less → ⊥
not_less_itself p h = not_both p p h h

-- what hangs on a side stands on that side
on_right : (p q : Pairs) → goes_on p Right q ≡ true → path_cmp p q ≡ Less
on_right p q h =
    let g = goes_on_parts p Right q h in
    ap (path_cmp p) g.is ∙ right_after p g.id g.rest

on_left : (p q : Pairs) → goes_on p Left q ≡ true → path_cmp q p ≡ Less
on_left p q h =
    let g = goes_on_parts p Left q h in
    ap (λ (r : Pairs). path_cmp r p) g.is ∙ left_before p g.id g.rest

-- what stands between hangs on the same side
mid_right : (p w q : Pairs) → path_cmp p w ≡ Less → path_cmp w q ≡ Less → goes_on p Right q ≡ true
    → goes_on p Right w ≡ true
mid_right p w q h k g =
    let s = goes_on_parts p Right q g in
    between_right p w s.id s.rest h (ap (path_cmp w) (sym s.is) ∙ k)

mid_left : (p w q : Pairs) → path_cmp p w ≡ Less → path_cmp w q ≡ Less → goes_on q Left p ≡ true
    → goes_on q Left w ≡ true
mid_left p w q h k g =
    let s = goes_on_parts q Left p g in
    between_left q w s.id s.rest (ap (λ (r : Pairs). path_cmp r w) (sym s.is) ∙ h) k

-- the row of a later slot in an earlier one
later_in : (p : Pairs) (b : Bit) (w : Pairs) (e : Bit) (q : Pairs) (c : Bit) → Before p b w e → Before w e q c
    → goes_on p b q ≡ true → goes_on p b w ≡ true
later_in p b w e q c h k g =
    ⊎_elim
    (λ (pw : path_cmp p w ≡ Less). ⊎_elim (λ (wq : path_cmp w q ≡ Less). both b pw wq g)
    (λ (same : (w ≡ q) × (e ≡ Left) × (c ≡ Right)). ap (goes_on p b) same.0 ∙ g) (before_parts w e q c k))
    (λ (same : (p ≡ w) × (b ≡ Left) × (e ≡ Right)).
    let qp : path_cmp q p ≡ Less = on_left p q (subst (λ (s : Bit). goes_on p s q ≡ true) same.1 g) in
    ⊎_elim (λ (wq : path_cmp w q ≡ Less). absurd (not_both p q (ap (λ (r : Pairs). path_cmp r q) same.0 ∙ wq) qp))
    (λ (end : (w ≡ q) × (e ≡ Left) × (c ≡ Right)).
    absurd (not_less_itself p (ap (λ (r : Pairs). path_cmp r p) (same.0 ∙ end.0) ∙ qp)))
    (before_parts w e q c k))
    (before_parts p b w e h)
  where
    both : (s : Bit) → path_cmp p w ≡ Less → path_cmp w q ≡ Less → goes_on p s q ≡ true → goes_on p s w ≡ true
    both Left pw wq i = absurd (not_both p q (path_total.trans p w q pw wq) (on_left p q i))
    both Right pw wq i = mid_right p w q pw wq i

-- the row of an earlier slot in a later one
earlier_in : (p : Pairs) (b : Bit) (w : Pairs) (e : Bit) (q : Pairs) (c : Bit) → Before p b w e → Before w e q c
    → goes_on q c p ≡ true → goes_on q c w ≡ true
earlier_in p b w e q c h k g =
    ⊎_elim
    (λ (wq : path_cmp w q ≡ Less). ⊎_elim (λ (pw : path_cmp p w ≡ Less). both c pw wq g)
    (λ (same : (p ≡ w) × (b ≡ Left) × (e ≡ Right)). ap (goes_on q c) (sym same.0) ∙ g) (before_parts p b w e h))
    (λ (same : (w ≡ q) × (e ≡ Left) × (c ≡ Right)).
    let qp : path_cmp q p ≡ Less = on_right q p (subst (λ (s : Bit). goes_on q s p ≡ true) same.2 g) in
    ⊎_elim (λ (pw : path_cmp p w ≡ Less). absurd (not_both p q (ap (path_cmp p) (sym same.0) ∙ pw) qp))
    (λ (end : (p ≡ w) × (b ≡ Left) × (e ≡ Right)).
    absurd (not_less_itself q (ap (path_cmp q) (sym same.0 ∙ sym end.0) ∙ qp)))
    (before_parts p b w e h))
    (before_parts w e q c k)
  where
    both : (s : Bit) → path_cmp p w ≡ Less → path_cmp w q ≡ Less → goes_on q s p ≡ true → goes_on q s w ≡ true
    both Left pw wq i = mid_left p w q pw wq i
    both Right pw wq i = absurd (not_both p q (path_total.trans p w q pw wq) (on_right q p i))

-- ---- slots at rows

module _ (rows : List DocRow) (d : IsDocument rows) where
  within_at : (x : AtomIdValue) (b : Bit) (y : AtomIdValue) (r s : DocRow) → find_row x rows ≡ Some r → find_row y rows
      ≡ Some s → is_within rows y (At x b) ≡ goes_on r.path b s.path
  within_at x b y r s e f =
      let i = found y s rows f in
      ap (λ (o : Option DocRow).
      is_some (find_row y (rows_below rows (option_map (λ (q : DocRow). Below q.path b) o)))) e
      ∙ ap (λ (z : AtomIdValue). is_some (find_row z (rows_below rows (Some (Below r.path b))))) (sym i.1)
      ∙ within_is rows (Below r.path b) s d.apart i.0

  -- the atom of a slot is not in it
  pub not_in_its_slot : (x : AtomIdValue) (b : Bit) (r : DocRow) → find_row x rows ≡ Some r
      → is_within rows x (At x b) ≡ false
  not_in_its_slot x b r e = at (is_within rows x (At x b)) refl
    where
      itself : (c : Bit) → goes_on r.path c r.path ≡ true → ⊥
      itself Left h = not_less_itself r.path (on_left r.path r.path h)
      itself Right h = not_less_itself r.path (on_right r.path r.path h)

      at : (t : Bool) → is_within rows x (At x b) ≡ t → is_within rows x (At x b) ≡ false
      at true h = absurd (itself b (sym (within_at x b x r r e e) ∙ h))
      at false h = h

  pub contains_from : (x : AtomIdValue) (b : Bit) (y : AtomIdValue) (c : Bit) → is_within rows y (At x b) ≡ true
      → contains_slot rows (At x b) (At y c) ≡ true
  contains_from x b y c h = or_right (same_slot (At x b) (At y c) || false) (is_within rows y (At x b)) h

  same_ids : (x y : AtomIdValue) (b c : Bit) → (same_id x y && same_bit b c) ≡ true → (x ≡ y) × (b ≡ c)
  same_ids x y b c h = let p = and_parts (same_id x y) (same_bit b c) h in
      (same_id_true x y p.0, same_bit_true b c p.1)

  -- one slot, or a row within
  pub contains_parts : (x : AtomIdValue) (b : Bit) (y : AtomIdValue) (c : Bit)
      → contains_slot rows (At x b) (At y c) ≡ true
      → ((x ≡ y) × (b ≡ c)) ⊎ (is_within rows y (At x b) ≡ true)
  contains_parts x b y c h =
      ⊎_elim (λ (k : (same_slot (At x b) (At y c) || false) ≡ true). inl (same_ids x y b c (no_more _ k)))
      (λ (k : is_within rows y (At x b) ≡ true). inr k)
      (or_cases (same_slot (At x b) (At y c) || false) (is_within rows y (At x b)) h)
    where
      no_more : (t : Bool) → (t || false) ≡ true → t ≡ true
      no_more true k = refl
      no_more false k = k

  -- three rows in their order
  module _ (x : AtomIdValue) (b : Bit) (z : AtomIdValue) (e : Bit) (y : AtomIdValue) (c : Bit) (r w q : DocRow)
      (fx : find_row x rows ≡ Some r) (fz : find_row z rows ≡ Some w) (fy : find_row y rows ≡ Some q)
      (h : Before r.path b w.path e) (k : Before w.path e q.path c) where
    not_one : (x ≡ y) × (b ≡ c) → ⊥
    not_one same =
        let rows_one : Some r ≡ Some q = sym fx ∙ ap (λ (a : AtomIdValue). find_row a rows) same.0 ∙ fy in
        let paths : r.path ≡ q.path = path_of r q rows_one in
        let through : place_cmp r.path b q.path c ≡ Less =
        place_total.trans (r.path, b) (w.path, e) (q.path, c) h k in
        let itself : place_cmp r.path b r.path b ≡ Less =
        (λ i. place_cmp r.path b (paths i) (same.1 i)) ∙ through in
        differ (place_cmp r.path b r.path b) (tied_itself place_total (r.path, b)) itself
      where
        path_of : (r q : DocRow) → Some r ≡ Some q → r.path ≡ q.path
        path_of r q f = ap (λ (s : DocRow). s.path) (some_one r q f)
          where
            some_one : (r q : DocRow) → Some r ≡ Some q → r ≡ q
            some_one r q f = cc

        differ : (o : Ordering) → o ≡ Equal → o ≡ Less → ⊥
        differ o f g = cc

    later_held : contains_slot rows (At x b) (At y c) ≡ true → contains_slot rows (At x b) (At z e) ≡ true
    later_held h' =
        ⊎_elim (λ (same : (x ≡ y) × (b ≡ c)). absurd (not_one same))
        (λ (i : is_within rows y (At x b) ≡ true). contains_from x b z e (within_at x b z r w fx fz
        ∙ later_in r.path b w.path e q.path c h k (sym (within_at x b y r q fx fy) ∙ i)))
        (contains_parts x b y c h')

    earlier_held : contains_slot rows (At y c) (At x b) ≡ true → contains_slot rows (At y c) (At z e) ≡ true
    earlier_held h' =
        ⊎_elim (λ (same : (y ≡ x) × (c ≡ b)). absurd (not_one (sym same.0, sym same.1)))
        (λ (i : is_within rows x (At y c) ≡ true). contains_from y c z e (within_at y c z q w fy fz
        ∙ earlier_in r.path b w.path e q.path c h k (sym (within_at y c x q r fy fx) ∙ i)))
        (contains_parts y c x b h')

  -- ---- slots in their order

  before_at : (x : AtomIdValue) (b : Bit) (y : AtomIdValue) (c : Bit) (o u : Option DocRow)
      → path_before (option_map (λ (r : DocRow). Below r.path b) o) (option_map (λ (r : DocRow). Below r.path c) u)
      ≡ true
      → (r : DocRow) × (q : DocRow) × (o ≡ Some r) × (u ≡ Some q) × Before r.path b q.path c
  before_at x b y c None u h = absurd (true≢false (sym h))
  before_at x b y c (Some r) None h = absurd (true≢false (sym h))
  before_at x b y c (Some r) (Some q) h = (r, q, refl, refl, less_of (place_cmp r.path b q.path c) h)

  -- slots one before the other are at rows
  pub record AtRows (s t : Slot) : Type 0 where
    pub x : AtomIdValue
    pub b : Bit
    pub y : AtomIdValue
    pub c : Bit
    pub r : DocRow
    pub q : DocRow
    pub first : s ≡ At x b
    pub second : t ≡ At y c
    pub first_row : find_row x rows ≡ Some r
    pub second_row : find_row y rows ≡ Some q
    pub less : Before r.path b q.path c

  pub at_rows : (s t : Slot) → place_before rows s t ≡ true → AtRows s t
  at_rows Root t h = absurd (true≢false (sym h))
  at_rows (At x b) Root h = absurd (true≢false (sym (sym (never (find_row x rows)) ∙ h)))
    where
      never : (o : Option DocRow) → path_before (option_map (λ (r : DocRow). Below r.path b) o) (Some Whole) ≡ false
      never None = refl
      never (Some r) = refl
  at_rows (At x b) (At y c) h =
      let p = before_at x b y c (find_row x rows) (find_row y rows) h in
      record {
        x = x;
        b = b;
        y = y;
        c = c;
        r = p.0;
        q = p.1;
        first = refl;
        second = refl;
        first_row = p.2;
        second_row = p.3;
        less = p.4;
      }

  some_row : (r q : DocRow) → Some r ≡ Some q → r ≡ q
  some_row r q e = cc

  pub record ThreeRows (s m t : Slot) : Type 0 where
    pub x : AtomIdValue
    pub b : Bit
    pub z : AtomIdValue
    pub e : Bit
    pub y : AtomIdValue
    pub c : Bit
    pub r : DocRow
    pub w : DocRow
    pub q : DocRow
    pub first : s ≡ At x b
    pub middle : m ≡ At z e
    pub last : t ≡ At y c
    pub first_row : find_row x rows ≡ Some r
    pub middle_row : find_row z rows ≡ Some w
    pub last_row : find_row y rows ≡ Some q
    pub less : Before r.path b w.path e
    pub more : Before w.path e q.path c

  three_rows : (s m t : Slot) → place_before rows s m ≡ true → place_before rows m t ≡ true → ThreeRows s m t
  three_rows s m t h k =
      let a = at_rows s m h in
      let u = at_rows m t k in
      let ids = at_ids a.y a.c u.x u.b (sym a.second ∙ u.first) in
      let rows_one : a.q ≡ u.r =
      some_row a.q u.r (sym a.second_row ∙ ap (λ (y : AtomIdValue). find_row y rows) ids.0 ∙ u.first_row) in
      record {
        x = a.x;
        b = a.b;
        z = a.y;
        e = a.c;
        y = u.y;
        c = u.c;
        r = a.r;
        w = a.q;
        q = u.q;
        first = a.first;
        middle = a.second;
        last = u.second;
        first_row = a.first_row;
        middle_row = a.second_row;
        last_row = u.second_row;
        less = a.less;
        more = (λ i. place_cmp (rows_one i).path (ids.1 i) u.q.path u.c) ∙ u.less;
      }
    where
      at_ids : (x : AtomIdValue) (b : Bit) (y : AtomIdValue) (c : Bit) → At x b ≡ At y c → (x ≡ y) × (b ≡ c)
      at_ids x b y c f = (ids x b y c f, bits x b y c f)
        where
          ids : (x : AtomIdValue) (b : Bit) (y : AtomIdValue) (c : Bit) → At x b ≡ At y c → x ≡ y
          ids x b y c f = cc

          bits : (x : AtomIdValue) (b : Bit) (y : AtomIdValue) (c : Bit) → At x b ≡ At y c → b ≡ c
          bits x b y c f = cc

  -- a slot that contains one behind it contains what stands between
  pub contains_later : (s m t : Slot) → place_before rows s m ≡ true → place_before rows m t ≡ true
      → contains_slot rows s t ≡ true → contains_slot rows s m ≡ true
  contains_later s m t h k c =
      let a = three_rows s m t h k in
      (λ i. contains_slot rows (a.first i) (a.middle i))
      ∙ later_held a.x a.b a.z a.e a.y a.c a.r a.w a.q a.first_row a.middle_row a.last_row a.less a.more
      ((λ i. contains_slot rows (sym a.first i) (sym a.last i)) ∙ c)

  -- and one that contains one before it too
  pub contains_earlier : (s m t : Slot) → place_before rows s m ≡ true → place_before rows m t ≡ true
      → contains_slot rows t s ≡ true → contains_slot rows t m ≡ true
  contains_earlier s m t h k c =
      let a = three_rows s m t h k in
      (λ i. contains_slot rows (a.last i) (a.middle i))
      ∙ earlier_held a.x a.b a.z a.e a.y a.c a.r a.w a.q a.first_row a.middle_row a.last_row a.less a.more
      ((λ i. contains_slot rows (sym a.last i) (sym a.first i)) ∙ c)

  pub before_twice : (s m t : Slot) → place_before rows s m ≡ true → place_before rows m t ≡ true
      → place_before rows s t ≡ true
  before_twice s m t h k =
      let a = three_rows s m t h k in
      let less : Before a.r.path a.b a.q.path a.c =
      place_total.trans (a.r.path, a.b) (a.w.path, a.e) (a.q.path, a.c) a.less a.more in
      (λ i. place_before rows (a.first i) (a.last i))
      ∙ (λ i. path_before (option_map (λ (r : DocRow). Below r.path a.b) (a.first_row i))
      (option_map (λ (r : DocRow). Below r.path a.c) (a.last_row i)))
      ∙ ap is_lt less

  pub not_before_itself : (s : Slot) → place_before rows s s ≡ true → ⊥
  not_before_itself s h =
      let a = three_rows s s s h h in
      let less : Before a.r.path a.b a.q.path a.c =
      place_total.trans (a.r.path, a.b) (a.w.path, a.e) (a.q.path, a.c) a.less a.more in
      three_apart a.r.path a.b a.w.path a.e (at_paths a) a.less
    where
      at_paths : (a : ThreeRows s s s) → (a.r.path ≡ a.w.path) × (a.b ≡ a.e)
      at_paths a =
          let same : At a.x a.b ≡ At a.z a.e = sym a.first ∙ a.middle in
          let one : a.x ≡ a.z = ids a.x a.b a.z a.e same in (
            ap (λ (r : DocRow). r.path) (some_row a.r a.w
                (sym a.first_row ∙ ap (λ (y : AtomIdValue). find_row y rows) one ∙ a.middle_row)),
            bits a.x a.b a.z a.e same,
          )
        where
          ids : (x : AtomIdValue) (b : Bit) (y : AtomIdValue) (c : Bit) → At x b ≡ At y c → x ≡ y
          ids x b y c f = cc

          bits : (x : AtomIdValue) (b : Bit) (y : AtomIdValue) (c : Bit) → At x b ≡ At y c → b ≡ c
          bits x b y c f = cc

      three_apart : (p : Pairs) (b : Bit) (w : Pairs) (e : Bit) → (p ≡ w) × (b ≡ e) → Before p b w e → ⊥
      three_apart p b w e same k =
          differ (place_cmp p b p b) (tied_itself place_total (p, b))
          ((λ i. place_cmp p b (same.0 i) (same.1 i)) ∙ k)
        where
          differ : (o : Ordering) → o ≡ Equal → o ≡ Less → ⊥
          differ o f g = cc

  -- of two slots at rows one stands before the other, or they are one
  pub either_way : (x : AtomIdValue) (b : Bit) (y : AtomIdValue) (c : Bit) (r q : DocRow) → find_row x rows ≡ Some r
      → find_row y rows ≡ Some q → place_before rows (At x b) (At y c) ≡ false
      → (place_before rows (At y c) (At x b) ≡ true) ⊎ (At x b ≡ At y c)
  either_way x b y c r q e f h =
      at (place_cmp r.path b q.path c) refl ((λ i. path_before (option_map (λ (s : DocRow). Below s.path b) (sym e i))
      (option_map (λ (s : DocRow). Below s.path c) (sym f i))) ∙ h)
    where
      at : (o : Ordering) → place_cmp r.path b q.path c ≡ o → is_lt o ≡ false
          → (place_before rows (At y c) (At x b) ≡ true) ⊎ (At x b ≡ At y c)
      at Less k l = absurd (true≢false l)
      at Greater k l = inl ((λ i. path_before (option_map (λ (s : DocRow). Below s.path c) (f i))
          (option_map (λ (s : DocRow). Below s.path b) (e i)))
          ∙ ap is_lt (place_total.antisymm (q.path, c) (r.path, b) ∙ ap ordering_reverse k))
      at Equal k l =
          let both = then_equal (path_cmp r.path q.path) (bit_cmp b c) k in
          let one : x ≡ y =
          sym (found x r rows e).1 ∙ ap (last_id nobody) (equal_paths r.path q.path both.0) ∙ (found y q rows f).1 in
          let bits = equal_bits b c both.1 in
          inr (λ i. At (one i) (bits i))
