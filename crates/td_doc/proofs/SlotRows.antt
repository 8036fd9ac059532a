-- The rows of a slot stand next to each other, and a flatten puts an array in their place.
use Rattle.std.proofs.Common.{◌≡◌, ◌⊎◌, List, [], ◌∷◌, ◌++◌, Bool, true, false, not, map, filter, length, Option}
use Rattle.std.proofs.Common.{Some, None, refl, sym, ap, ◌∙◌, subst, inl, inr, ⊎_elim, true≢false}
use Rattle.std.proofs.lemmas.List.{append-nil}
use Rattle.std.specs.declared.cmp.Ordering.TheVariants.{Less}
use Rattle.td_base.specs.declared.bit.Bit.TheVariants.{Left, Right}
use Rattle.td_base.specs.Lists.{In, Successive}
use Rattle.td_base.proofs.Lists.{In-front, In-back, all_in}
use Rattle.td_path.specs.Infix.{Pairs, path_cmp}
use Rattle.td_path.specs.SlotPaths.{goes_on, slot_contains, path_in}
use Rattle.td_path.specs.declared.slot.Slot.{Slot}
use Rattle.td_path.specs.declared.slot_path.SlotPath.{SlotPath}
use Rattle.td_path.specs.declared.slot_path.SlotPath.TheVariants.{Root as Whole, Below}
use Rattle.td_path.proofs.InfixOrder.{path_total, left_before, right_after, between_left, between_right, goes_on_parts}
use Rattle.td_doc.specs.Document.{DocRow, live_rows, IsDocument}
use Rattle.td_doc.specs.Slots.{slot_path, rows_below, rows_in_slot}
use Rattle.td_doc.specs.Array.{named, array}
use Rattle.td_base.specs.RunAtoms.{NamedAtom}
use Rattle.td_doc.specs.Insertion.{put_rows}
use Rattle.td_doc.specs.Flatten.{rows_beside, flatten_below, flatten}
use Rattle.td_doc.specs.Stretches.{IsStretch, IsReplaced}
use Rattle.td_doc.proofs.PutRows.{Before, not_before_itself, not_both_before, three_ways, put_between}
use Rattle.td_doc.proofs.ArrayRows.{nobody, starts_contained, starts_here, array_starts, array_ascends}
use Rattle.std.proofs.lemmas.Bool.{false_from_ne_true}
use Rattle.td_base.proofs.Searches.{filter_all, filter_none, filter_parts}

-- a path outside a slot stands on one side of all that are in it

abbrev BeforeAll : SlotPath → Pairs → Type 0
BeforeAll slot p = (q : Pairs) → slot_contains slot q ≡ true → path_cmp p q ≡ Less

abbrev AfterAll : SlotPath → Pairs → Type 0
AfterAll slot p = (q : Pairs) → slot_contains slot q ≡ true → path_cmp q p ≡ Less

on_left : (node q : Pairs) → goes_on node Left q ≡ true → path_cmp q node ≡ Less
on_left node q h = let g = goes_on_parts node Left q h in
    subst (λ (p : Pairs). path_cmp p node ≡ Less) (sym g.is) (left_before node g.id g.rest)

on_right : (node q : Pairs) → goes_on node Right q ≡ true → path_cmp node q ≡ Less
on_right node q h = let g = goes_on_parts node Right q h in
    subst (λ (p : Pairs). path_cmp node p ≡ Less) (sym g.is) (right_after node g.id g.rest)

left_of_node : (node p : Pairs) → goes_on node Left p ≡ false → path_cmp p node ≡ Less → BeforeAll (Below node Left) p
left_of_node node p out l q h =
    ⊎_elim (λ (k : path_cmp p q ≡ Less). k)
    (λ (k : (p ≡ q) ⊎ (path_cmp q p ≡ Less)).
    absurd (⊎_elim (λ (e : p ≡ q). true≢false (sym h ∙ ap (goes_on node Left) (sym e) ∙ out))
    (λ (m : path_cmp q p ≡ Less).
    let g = goes_on_parts node Left q h in
    true≢false (sym (between_left node p g.id g.rest (subst (λ (r : Pairs). path_cmp r p ≡ Less) g.is m) l) ∙ out)) k))
    (three_ways p q)

right_of_node : (node p : Pairs) → goes_on node Right p ≡ false → path_cmp node p ≡ Less → AfterAll (Below node Right) p
right_of_node node p out l q h =
    ⊎_elim (λ (k : path_cmp q p ≡ Less). k)
    (λ (k : (q ≡ p) ⊎ (path_cmp p q ≡ Less)).
    absurd (⊎_elim (λ (e : q ≡ p). true≢false (sym h ∙ ap (goes_on node Right) e ∙ out))
    (λ (m : path_cmp p q ≡ Less).
    let g = goes_on_parts node Right q h in
    true≢false (sym (between_right node p g.id g.rest l (subst (λ (r : Pairs). path_cmp p r ≡ Less) g.is m)) ∙ out)) k))
    (three_ways q p)

pub one_side : (slot : SlotPath) (p : Pairs) → slot_contains slot p ≡ false → BeforeAll slot p ⊎ AfterAll slot p
one_side Whole p h = absurd (true≢false h)
one_side (Below node Left) p h =
    ⊎_elim (λ (l : path_cmp p node ≡ Less). inl (left_of_node node p h l))
    (λ (k : (p ≡ node) ⊎ (path_cmp node p ≡ Less)).
    inr (λ q i. ⊎_elim (λ (e : p ≡ node). subst (λ (r : Pairs). path_cmp q r ≡ Less) (sym e) (on_left node q i))
    (λ (m : path_cmp node p ≡ Less). path_total.trans q node p (on_left node q i) m) k))
    (three_ways p node)
one_side (Below node Right) p h =
    ⊎_elim (λ (l : path_cmp node p ≡ Less). inr (right_of_node node p h l))
    (λ (k : (node ≡ p) ⊎ (path_cmp p node ≡ Less)).
    inl (λ q i. ⊎_elim (λ (e : node ≡ p). subst (λ (r : Pairs). path_cmp r q ≡ Less) e (on_right node q i))
    (λ (m : path_cmp p node ≡ Less). path_total.trans p node q m (on_right node q i)) k))
    (three_ways node p)

-- the rows before those in a slot, those in it and those after

pub record Split (slot : SlotPath) (rows : List DocRow) : Type 0 where
  pub front : List DocRow
  pub inside : List DocRow
  pub back : List DocRow
  pub is : rows ≡ front ++ inside ++ back
  pub before : (r : DocRow) → In r front → BeforeAll slot r.path
  pub within : (r : DocRow) → In r inside → slot_contains slot r.path ≡ true
  pub after : (r : DocRow) → In r back → AfterAll slot r.path

empty_of : (xs : List DocRow) → ((x : DocRow) → In x xs → ⊥) → xs ≡ []
empty_of [] h = refl
empty_of (x ∷ xs) h = absurd (h x (inl refl))

in_front : (x : DocRow) (front inside back : List DocRow) → In x front → In x (front ++ inside ++ back)
in_front x front inside back i = In-front x (front ++ inside) back (In-front x front inside i)

in_middle : (x : DocRow) (front inside back : List DocRow) → In x inside → In x (front ++ inside ++ back)
in_middle x front inside back i = In-front x (front ++ inside) back (In-back x front inside i)

module _ (slot : SlotPath) (r : DocRow) (rows : List DocRow) (first : (x : DocRow) → In x rows → Before r x)
    (s : Split slot rows) where
  in_rows : (x : DocRow) → In x (s.front ++ s.inside ++ s.back) → In x rows
  in_rows x i = subst (In x) (sym s.is) i

  more_inside : slot_contains slot r.path ≡ true → Split slot (r ∷ rows)
  more_inside h =
      let none : s.front ≡ [] = empty_of s.front (λ x i. not_both_before x.path r.path (s.before x i r.path h)
      (first x (in_rows x (in_front x s.front s.inside s.back i)))) in
      record {
        front = [];
        inside = r ∷ s.inside;
        back = s.back;
        is = ap (λ (q : List DocRow). r ∷ q) (s.is ∙ ap (λ (f : List DocRow). f ++ s.inside ++ s.back) none);
        before = λ x i. absurd i;
        within = λ x i. ⊎_elim (λ (e : x ≡ r). subst (λ (q : DocRow). slot_contains slot q.path ≡ true) (sym e) h)
            (λ (k : In x s.inside). s.within x k) i;
        after = s.after;
      }

  more_before : BeforeAll slot r.path → Split slot (r ∷ rows)
  more_before h = record {
    front = r ∷ s.front;
    inside = s.inside;
    back = s.back;
    is = ap (λ (q : List DocRow). r ∷ q) s.is;
    before = λ x i. ⊎_elim (λ (e : x ≡ r). subst (λ (q : DocRow). BeforeAll slot q.path) (sym e) h)
        (λ (k : In x s.front). s.before x k) i;
    within = s.within;
    after = s.after;
  }

  more_after : AfterAll slot r.path → Split slot (r ∷ rows)
  more_after h =
      let some : Pairs = path_in slot nobody in
      let there : slot_contains slot some ≡ true = starts_contained slot some (starts_here slot nobody) in
      let none : s.front ≡ [] = empty_of s.front (λ x i. not_both_before x.path r.path
      (path_total.trans x.path some r.path (s.before x i some there) (h some there))
      (first x (in_rows x (in_front x s.front s.inside s.back i)))) in
      let nothing : s.inside ≡ [] = empty_of s.inside
      (λ x i. not_both_before x.path r.path (h x.path (s.within x i))
      (first x (in_rows x (in_middle x s.front s.inside s.back i)))) in
      record {
        front = [];
        inside = [];
        back = r ∷ s.back;
        is = ap (λ (q : List DocRow). r ∷ q) (s.is ∙ (λ i. none i ++ nothing i ++ s.back));
        before = λ x i. absurd i;
        within = λ x i. absurd i;
        after = λ x i. ⊎_elim (λ (e : x ≡ r). subst (λ (q : DocRow). AfterAll slot q.path) (sym e) h)
            (λ (k : In x s.back). s.after x k) i;
      }

  more_at : (b : Bool) → slot_contains slot r.path ≡ b → Split slot (r ∷ rows)
  more_at true h = more_inside h
  more_at false h = ⊎_elim more_before more_after (one_side slot r.path h)

pub split : (slot : SlotPath) (rows : List DocRow) → Successive Before rows → Split slot rows
split slot [] up = record {
  front = [];
  inside = [];
  back = [];
  is = refl;
  before = λ x i. absurd i;
  within = λ x i. absurd i;
  after = λ x i. absurd i;
}
split slot (r ∷ rows) up = more_at slot r rows (λ x i. all_in (Before r) rows up.0 x i) (split slot rows up.1)
    (slot_contains slot r.path) refl

pub contained_in : (slot : SlotPath) (atoms : List NamedAtom) (r : DocRow) → In r (array slot atoms)
    → slot_contains slot r.path ≡ true
contained_in slot atoms r i = starts_contained slot r.path (array_starts (length atoms) slot atoms r i)

module _ (slot : SlotPath) (rows : List DocRow) (s : Split slot rows) where
  abbrev contained : DocRow → Bool
  contained r = slot_contains slot r.path

  pub front_outside : (r : DocRow) → In r s.front → contained r ≡ false
  front_outside r i = false_from_ne_true (contained r) (λ h. not_before_itself r.path (s.before r i r.path h))

  pub back_outside : (r : DocRow) → In r s.back → contained r ≡ false
  back_outside r i = false_from_ne_true (contained r) (λ h. not_before_itself r.path (s.after r i r.path h))

  -- the rows in the slot
  pub split_inside : rows_below rows (Some slot) ≡ s.inside
  split_inside =
      ap (filter contained) s.is ∙ filter_parts contained s.front s.inside s.back
      ∙ (λ i. filter_none contained s.front front_outside i ++ filter_all contained s.inside s.within i
      ++ filter_none contained s.back back_outside i)
      ∙ append-nil s.inside

  -- the rows outside it
  pub split_outside : rows_beside slot rows ≡ s.front ++ s.back
  split_outside =
      ap (filter (λ (r : DocRow). not (contained r))) s.is
      ∙ filter_parts (λ (r : DocRow). not (contained r)) s.front s.inside s.back
      ∙ (λ i. filter_all (λ (r : DocRow). not (contained r)) s.front (λ r j. ap not (front_outside r j)) i
      ++ filter_none (λ (r : DocRow). not (contained r)) s.inside (λ r j. ap not (s.within r j)) i
      ++ filter_all (λ (r : DocRow). not (contained r)) s.back (λ r j. ap not (back_outside r j)) i)
      ∙ ap (λ (f : List DocRow). f ++ s.back) (append-nil s.front)

  -- an array in the slot, between the rows outside it
  pub put_array_between : (atoms : List NamedAtom) → put_rows (array slot atoms) (s.front ++ s.back) ≡ s.front
      ++ array slot atoms ++ s.back
  put_array_between atoms =
      put_between (array slot atoms) s.front s.back (array_ascends (length atoms) slot atoms)
      (λ r n i j. s.before r i n.path (contained_in slot atoms n j))
      (λ n r i j. s.after r j n.path (contained_in slot atoms n i))

  pub split_flatten : flatten_below (Some slot) rows ≡ s.front ++ array slot (map named (live_rows s.inside)) ++ s.back
  split_flatten = (λ i. put_rows (array slot (map named (live_rows (split_inside i)))) (split_outside i))
      ∙ put_array_between (map named (live_rows s.inside))

-- as the definitions have it

stretch_below : (o : Option SlotPath) (rows : List DocRow) → Successive Before rows → IsStretch (rows_below rows o) rows
stretch_below None rows up = record { front = []; back = rows; is = refl }
stretch_below (Some slot) rows up =
    let s = split slot rows up in
    record {
      front = s.front;
      back = s.back;
      is = s.is
          ∙ ap (λ (q : List DocRow). s.front ++ q ++ s.back) (sym (split_inside slot rows s));
    }

pub slot_stretch : (rows : List DocRow) (slot : Slot) → Successive Before rows → IsStretch (rows_in_slot rows slot) rows
slot_stretch rows slot up = stretch_below (slot_path rows slot) rows up

pub flatten_replaces : (rows : List DocRow) (slot : Slot) (path : SlotPath) → Successive Before rows
    → slot_path rows slot ≡ Some path
    → IsReplaced (rows_in_slot rows slot) (array path (map named (live_rows (rows_in_slot rows slot)))) rows
    (flatten slot rows)
flatten_replaces rows slot path up e =
    let s = split path rows up in
    let inside : rows_in_slot rows slot ≡ s.inside = ap (rows_below rows) e ∙ split_inside path rows s in
    record {
      front = s.front;
      back = s.back;
      was = s.is ∙ ap (λ (q : List DocRow). s.front ++ q ++ s.back) (sym inside);
      is = ap (λ (o : Option SlotPath). flatten_below o rows) e ∙ split_flatten path rows s
          ∙ ap (λ (q : List DocRow). s.front ++ array path (map named (live_rows q)) ++ s.back) (sym inside);
    }

pub slot_together : (rows : List DocRow) (slot : Slot) → IsDocument rows → IsStretch (rows_in_slot rows slot) rows
slot_together rows slot d = slot_stretch rows slot d.ascending
