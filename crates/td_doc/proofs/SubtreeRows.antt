-- The rows in the subtree of a row stand next to each other, and a flatten of a slot that does not have the row leaves
-- them there.
use Rattle.std.proofs.Common.{◌≡◌, ◌⊎◌, List, [], ◌∷◌, ◌++◌, Bool, true, false, ◌&&◌, cond, map, filter}
use Rattle.std.proofs.Common.{refl, sym, ap, ◌∙◌, subst, inl, inr, ⊎_elim, true≢false}
use Rattle.std.specs.Prelude.{IsSome, is_some, Option, Some, None}
use Rattle.std.specs.Option.{option_map}
use Rattle.std.specs.declared.cmp.Ordering.TheVariants.{Less}
use Rattle.td_base.specs.declared.bit.Bit.{Bit}
use Rattle.td_base.specs.declared.bit.Bit.TheVariants.{Left, Right}
use Rattle.td_base.specs.Value.{AtomIdValue}
use Rattle.td_base.specs.Lists.{In, Successive}
use Rattle.td_base.proofs.Lists.{In-front, In-back, In-filter, filter_In, In-map, map_In, all_in}
use Rattle.td_path.specs.Infix.{Pair, Pairs, same_pair, path_cmp}
use Rattle.td_path.specs.SlotPaths.{goes_on, slot_contains}
use Rattle.td_path.specs.declared.slot.Slot.{Slot}
use Rattle.td_path.specs.declared.slot.Slot.TheVariants.{Root, At}
use Rattle.td_path.specs.declared.slot_path.SlotPath.{SlotPath}
use Rattle.td_path.specs.declared.slot_path.SlotPath.TheVariants.{Root as Whole, Below}
use Rattle.td_path.proofs.InfixOrder.{first_pairs, same_pair_true, same_pair_from, same_pair_refl}
use Rattle.std.proofs.lemmas.Bool.{and_parts, false_from_ne_true, and_left}
use Rattle.td_path.proofs.SlotOverlap.{none_empty}
use Rattle.td_doc.specs.Document.{DocRow, row_id, find_row, is_live, live_rows, IsDocument}
use Rattle.td_doc.specs.Slots.{slot_path, rows_below, is_within}
use Rattle.td_doc.specs.Array.{named, array}
use Rattle.td_base.specs.RunAtoms.{NamedAtom}
use Rattle.td_doc.specs.Flatten.{rows_beside, flatten_below, flatten}
use Rattle.td_doc.specs.Answers.{IsRow}
use Rattle.td_doc.specs.Stretches.{IsStretch}
use Rattle.td_doc.specs.Subtrees.{begins, rows_at, rows_under, is_under, is_slot_under}
use Rattle.td_doc.proofs.PutRows.{Before, Differ, in_puts, puts_in}
use Rattle.td_doc.proofs.ArrayRows.{array_names}
use Rattle.td_doc.proofs.Rules.{found, in_found}
use Rattle.td_doc.proofs.SlotRows.{contained_in}
use Rattle.td_doc.proofs.Flattened.{same_row, beside, stays_beside, not_in_own_slots, contains_more, flatten_document}
use Rattle.td_base.specs.Equality.{same_bit}

-- what stands between two of a subtree is in it

no_path_between : (c : Pair) (p r : Pairs) → path_cmp (c ∷ p) [] ≡ Less → path_cmp [] (c ∷ r) ≡ Less → ⊥
no_path_between (Left, x) p r h k = cc
no_path_between (Right, x) p r h k = cc

pub begins_between : (node p q r : Pairs) → begins node p ≡ true → begins node r ≡ true → path_cmp p q ≡ Less
    → path_cmp q r ≡ Less → begins node q ≡ true
begins_between [] p q r a b h k = refl
begins_between (c ∷ node) [] q r a b h k = absurd (true≢false (sym a))
begins_between (c ∷ node) (x ∷ p) q [] a b h k = absurd (true≢false (sym b))
begins_between (c ∷ node) (x ∷ p) [] (z ∷ r) a b h k =
    let e = and_parts _ _ a in
    let f = and_parts _ _ b in
    let same : x ≡ z = sym (same_pair_true c x e.0) ∙ same_pair_true c z f.0 in
    absurd (no_path_between z p r (subst (λ (w : Pair). path_cmp (w ∷ p) [] ≡ Less) same h) k)
begins_between (c ∷ node) (x ∷ p) (y ∷ q) (z ∷ r) a b h k =
    let e = and_parts _ _ a in
    let f = and_parts _ _ b in
    let first : c ≡ x = same_pair_true c x e.0 in
    let last : c ≡ z = same_pair_true c z f.0 in
    let both = first_pairs c y (path_cmp p q) (path_cmp q r)
    (subst (λ (w : Pair). path_cmp (w ∷ p) (y ∷ q) ≡ Less) (sym first) h)
    (subst (λ (w : Pair). path_cmp (y ∷ q) (w ∷ r) ≡ Less) (sym last) k) in
    ap (λ (t : Bool). t && begins node q) (same_pair_from c y both.0) ∙ begins_between node p q r e.1 f.1 both.1 both.2

-- rows of which all between two are such rows

record Parts (test : DocRow → Bool) (rows : List DocRow) : Type 0 where
  front : List DocRow
  back : List DocRow
  is : rows ≡ front ++ filter test rows ++ back
  others : (r : DocRow) → In r front → test r ≡ false

module _ (test : DocRow → Bool) (between : (p q r : DocRow) → test p ≡ true → test r ≡ true → Before p q → Before q r
    → test q ≡ true) where
  parts_after : (r : DocRow) (rows inside : List DocRow) → test r ≡ true → Successive Before (r ∷ rows)
      → ((x : DocRow) → In x inside → test x ≡ true) → (front back : List DocRow) → rows ≡ front ++ inside ++ back
      → ((x : DocRow) → In x front → test x ≡ false)
      → (rest : List DocRow) × (r ∷ rows ≡ r ∷ (inside ++ rest))
  parts_after r rows [] e up all front back is others = (rows, refl)
  parts_after r rows (s ∷ inside) e up all [] back is others = (back, ap (λ (q : List DocRow). r ∷ q) is)
  parts_after r rows (s ∷ inside) e up all (x ∷ front) back is others =
      let first : Successive Before ((x ∷ front) ++ (s ∷ inside) ++ back) = subst (Successive Before) is up.1 in
      let r_before : Before r x = all_in (Before r) rows up.0 x (subst (In x) (sym is) (inl refl)) in
      let x_before : Before x s = all_in (Before x) (front ++ (s ∷ inside) ++ back) first.0 s
      (In-front s (front ++ s ∷ inside) back (In-back s front (s ∷ inside) (inl refl))) in
      absurd (true≢false (sym (between r x s e (all s (inl refl)) r_before x_before) ∙ others x (inl refl)))

  parts_at : (r : DocRow) (rows : List DocRow) (b : Bool) → test r ≡ b → Successive Before (r ∷ rows)
      → (p : Parts test rows) → (front : List DocRow) × (back : List DocRow)
      × (r ∷ rows ≡ front ++ cond b (r ∷ filter test rows) (filter test rows) ++ back)
      × ((x : DocRow) → In x front → test x ≡ false)
  parts_at r rows true e up p =
      let a = parts_after r rows (filter test rows) e up (λ x i. (In-filter test x rows i).1) p.front p.back p.is
      p.others in
      ([], a.0, a.1, λ x i. absurd i)
  parts_at r rows false e up p = (
    r ∷ p.front,
    p.back,
    ap (λ (q : List DocRow). r ∷ q) p.is,
    λ x i. ⊎_elim
        (λ (q : x ≡ r). ap test q ∙ e) (λ (k : In x p.front). p.others x k) i,
  )

  parts : (rows : List DocRow) → Successive Before rows → Parts test rows
  parts [] up = record { front = []; back = []; is = refl; others = λ r i. absurd i }
  parts (r ∷ rows) up = let a = parts_at r rows (test r) refl up (parts rows up.1) in
      record { front = a.0; back = a.1; is = a.2; others = a.3 }

stretch_at : (rows : List DocRow) (o : Option DocRow) → Successive Before rows → IsStretch (rows_at rows o) rows
stretch_at rows None up = record { front = []; back = rows; is = refl }
stretch_at rows (Some b) up =
    let p = parts (λ (r : DocRow). begins b.path r.path)
    (λ p q r a c h k. begins_between b.path p.path q.path r.path a c h k) rows up in
    record { front = p.front; back = p.back; is = p.is }

pub subtree_stretch : (rows : List DocRow) (b : AtomIdValue) → Successive Before rows
    → IsStretch (rows_under rows b) rows
subtree_stretch rows b up = stretch_at rows (find_row b rows) up

-- two rows of a slot are in the same subtrees of nodes outside it

first_other : (c p : Pair) (bit : Bit) → same_bit c.0 bit ≡ false → same_bit p.0 bit ≡ true → same_pair c p ≡ false
first_other c p bit n y = false_from_ne_true (same_pair c p)
    (λ h. true≢false (sym y ∙ ap (λ (q : Pair). same_bit q.0 bit) (sym (same_pair_true c p h)) ∙ n))

begins_alike : (front : Pairs) (bit : Bit) (node p q : Pairs) → goes_on front bit p ≡ true → goes_on front bit q
    ≡ true → goes_on front bit node ≡ false → begins node p ≡ begins node q
begins_alike front bit [] p q h k n = refl
begins_alike front bit (c ∷ node) [] q h k n = absurd (none_empty front bit h)
begins_alike front bit (c ∷ node) (x ∷ p) [] h k n = absurd (none_empty front bit k)
begins_alike [] bit (c ∷ node) (x ∷ p) (y ∷ q) h k n =
    and_left (same_pair c x) (begins node p) (first_other c x bit n h)
    ∙ sym (and_left (same_pair c y) (begins node q) (first_other c y bit n k))
begins_alike (g ∷ front) bit (c ∷ node) (x ∷ p) (y ∷ q) h k n =
    let a = and_parts _ _ h in
    let b = and_parts _ _ k in
    let first : g ≡ x = same_pair_true g x a.0 in
    let second : g ≡ y = same_pair_true g y b.0 in
    (λ i. same_pair c (sym first i) && begins node p)
    ∙ at (same_pair c g) refl (begins_alike front bit node p q a.1 b.1) ∙ (λ i. same_pair c (second i) && begins node q)
  where
    inner : same_pair c g ≡ true → goes_on front bit node ≡ false
    inner e = ap (λ (t : Bool). t && goes_on front bit node)
        (sym (ap (same_pair g) (same_pair_true c g e) ∙ same_pair_refl g)) ∙ n

    at : (b : Bool) → same_pair c g ≡ b → (goes_on front bit node ≡ false → begins node p ≡ begins node q)
        → (same_pair c g && begins node p) ≡ (same_pair c g && begins node q)
    at true e ih = ap (λ o. same_pair c g && o) (ih (inner e))
    at false e ih = and_left (same_pair c g) (begins node p) e ∙ sym (and_left (same_pair c g) (begins node q) e)

pub slot_alike : (slot : SlotPath) (node p q : Pairs) → slot_contains slot p ≡ true → slot_contains slot q ≡ true
    → slot_contains slot node ≡ false → begins node p ≡ begins node q
slot_alike Whole node p q h k n = absurd (true≢false n)
slot_alike (Below front bit) node p q h k n = begins_alike front bit node p q h k n

-- which row is found

find_in_at : (rows : List DocRow) (r : DocRow) → Successive Differ rows → In r rows → (o : Option DocRow)
    → find_row (row_id r) rows ≡ o → IsSome o → o ≡ Some r
find_in_at rows r apart i None e h = absurd (true≢false (sym h))
find_in_at rows r apart i (Some s) e h = let f = found (row_id r) s rows e in
    ap (λ (q : DocRow). Some q) (same_row rows apart s r f.0 i f.1)

-- a row is found by its identity
pub find_in : (rows : List DocRow) (r : DocRow) → Successive Differ rows → In r rows → find_row (row_id r) rows ≡ Some r
find_in rows r apart i = find_in_at rows r apart i (find_row (row_id r) rows) refl (in_found r rows i)

tested_at : (test : DocRow → Bool) (rows : List DocRow) (r : DocRow) → Successive Differ rows → In r rows → (b : Bool)
    → test r ≡ b → (o : Option DocRow) → find_row (row_id r) (filter test rows) ≡ o → is_some o ≡ b
tested_at test rows r apart i true e None f = absurd
    (true≢false (sym (in_found r (filter test rows) (filter_In test r rows i e)) ∙ ap is_some f))
tested_at test rows r apart i true e (Some s) f = refl
tested_at test rows r apart i false e None f = refl
tested_at test rows r apart i false e (Some s) f =
    let g = found (row_id r) s (filter test rows) f in
    let k = In-filter test s rows g.0 in
    absurd (true≢false (sym k.1 ∙ ap test (same_row rows apart s r k.0 i g.1) ∙ e))

-- whether a row is found among those that pass a test
pub find_tested : (test : DocRow → Bool) (rows : List DocRow) (r : DocRow) → Successive Differ rows → In r rows
    → is_some (find_row (row_id r) (filter test rows)) ≡ test r
find_tested test rows r apart i = tested_at test rows r apart i (test r) refl (find_row (row_id r) (filter test rows))
    refl

pub under_is : (rows : List DocRow) (b r : DocRow) → Successive Differ rows → In b rows → In r rows
    → is_under rows (row_id b) (row_id r) ≡ begins b.path r.path
under_is rows b r apart i j = ap (λ (o : Option DocRow). is_some (find_row (row_id r) (rows_at rows o)))
    (find_in rows b apart i) ∙ find_tested (λ (q : DocRow). begins b.path q.path) rows r apart j

pub within_is : (rows : List DocRow) (slot : SlotPath) (r : DocRow) → Successive Differ rows → In r rows
    → is_some (find_row (row_id r) (rows_below rows (Some slot))) ≡ slot_contains slot r.path
within_is rows slot r apart i = find_tested (λ (q : DocRow). slot_contains slot q.path) rows r apart i

-- a flatten at a slot that does not have the row

-- a row that stays, as it was
pub record Was (slot : SlotPath) (rows : List DocRow) (r : DocRow) : Type 0 where
  pub old : DocRow
  pub inside : In old rows
  pub named : row_id old ≡ row_id r
  pub moved : (old ≡ r) ⊎ ((slot_contains slot old.path ≡ true) × (slot_contains slot r.path ≡ true))

pub was : (slot : SlotPath) (rows : List DocRow) (r : DocRow) → In r (flatten_below (Some slot) rows) → Was slot rows r
was slot rows r i = ⊎_elim in_array outside (in_puts
    (array slot (map named (live_rows (rows_below rows (Some slot))))) (rows_beside slot rows) r i)
  where
    outside : In r (rows_beside slot rows) → Was slot rows r
    outside j = record { old = r; inside = (beside slot rows r j).0; named = refl; moved = inl refl }

    in_array : In r (array slot (map named (live_rows (rows_below rows (Some slot))))) → Was slot rows r
    in_array j =
        let atoms : List NamedAtom = map named (live_rows (rows_below rows (Some slot))) in
        let a = map_In named (named r) (live_rows (rows_below rows (Some slot)))
        (subst (In (named r)) (array_names slot atoms) (In-map named r (array slot atoms) j)) in
        let l = In-filter is_live a.0 (rows_below rows (Some slot)) a.1 in
        let c = In-filter (λ (x : DocRow). slot_contains slot x.path) a.0 rows l.0 in
        record {
          old = a.0;
          inside = c.0;
          named = ap (λ (b : NamedAtom). b.id) (sym a.2);
          moved = inr (c.1, contained_in slot atoms r j);
        }

under_kept_at : (rows : List DocRow) (slot : SlotPath) (b r : DocRow) → IsDocument rows
    → IsDocument (flatten_below (Some slot) rows) → In b rows → slot_contains slot b.path ≡ false
    → In r (flatten_below (Some slot) rows)
    → is_under (flatten_below (Some slot) rows) (row_id b) (row_id r) ≡ is_under rows (row_id b) (row_id r)
under_kept_at rows slot b r d e i out j =
    let w = was slot rows r j in
    let there : In b (flatten_below (Some slot) rows) =
    puts_in (array slot (map named (live_rows (rows_below rows (Some slot))))) (rows_beside slot rows) b
    (inr (stays_beside slot rows b i out)) in
    under_is (flatten_below (Some slot) rows) b r e.apart there j
    ∙ ⊎_elim (λ (q : w.old ≡ r). ap (λ (x : DocRow). begins b.path x.path) (sym q))
    (λ (q : (slot_contains slot w.old.path ≡ true) × (slot_contains slot r.path ≡ true)). slot_alike slot b.path
    r.path w.old.path q.1 q.0 out) w.moved
    ∙ sym (under_is rows b w.old d.apart i w.inside) ∙ ap (is_under rows (row_id b)) w.named

row_of_at : (x : AtomIdValue) (rows : List DocRow) (o : Option DocRow) → find_row x rows ≡ o → IsSome o → (r : DocRow)
    × In r rows × (row_id r ≡ x)
row_of_at x rows None e h = absurd (true≢false (sym h))
row_of_at x rows (Some r) e h = let f = found x r rows e in (r, f.0, f.1)

pub row_of : (x : AtomIdValue) (rows : List DocRow) → IsRow rows x → (r : DocRow) × In r rows × (row_id r ≡ x)
row_of x rows h = row_of_at x rows (find_row x rows) refl h

under_kept_in : (rows : List DocRow) (o : Option SlotPath) (b r : DocRow) → IsDocument rows
    → IsDocument (flatten_below o rows) → In b rows → is_some (find_row (row_id b) (rows_below rows o)) ≡ false
    → In r (flatten_below o rows)
    → is_under (flatten_below o rows) (row_id b) (row_id r) ≡ is_under rows (row_id b) (row_id r)
under_kept_in rows None b r d e i out j = refl
under_kept_in rows (Some slot) b r d e i out j =
    under_kept_at rows slot b r d e i (sym (within_is rows slot b d.apart i) ∙ out) j

-- what was in the subtree of a row outside the slot is there, and nothing else
pub under_kept : (rows : List DocRow) (slot : Slot) (b x : AtomIdValue) → IsDocument rows → IsRow rows b
    → is_within rows b slot ≡ false → IsRow (flatten slot rows) x → is_under (flatten slot rows) b x ≡ is_under rows b x
under_kept rows slot b x d h out k =
    let above = row_of b rows h in
    let row = row_of x (flatten slot rows) k in
    let same = under_kept_in rows (slot_path rows slot) above.0 row.0 d (flatten_document rows slot d) above.1
    (ap (λ (y : AtomIdValue). is_within rows y slot) above.2 ∙ out) row.1 in
    (λ i. is_under (flatten slot rows) (sym above.2 i) (sym row.2 i)) ∙ same
    ∙ (λ i. is_under rows (above.2 i) (row.2 i))

-- a row whose subtree has the slot is outside the slot

pub begins_parts : (node p : Pairs) → begins node p ≡ true → (more : Pairs) × (p ≡ node ++ more)
begins_parts [] p h = (p, refl)
begins_parts (c ∷ node) [] h = absurd (true≢false (sym h))
begins_parts (c ∷ node) (x ∷ p) h =
    let a = and_parts _ _ h in
    let m = begins_parts node p a.1 in
    (m.0, λ i. sym (same_pair_true c x a.0) i ∷ m.1 i)

outside_at : (p node : Pairs) (bit : Bit) → begins node p ≡ true → goes_on p bit node ≡ false
outside_at p node bit h =
    let m = begins_parts node p h in
    false_from_ne_true (goes_on p bit node) (λ k. not_in_own_slots p bit
    (ap (goes_on p bit) m.1 ∙ contains_more (Below p bit) node m.0 k))

above_at : (rows : List DocRow) (b x : AtomIdValue) (bit : Bit) → IsDocument rows → (o : Option DocRow)
    → find_row b rows ≡ o → is_some (find_row x (rows_at rows o)) ≡ true → is_within rows b (At x bit) ≡ false
above_at rows b x bit d None e h = absurd (true≢false (sym h))
above_at rows b x bit d (Some node) e h =
    let f = found b node rows e in
    let r = row_of x (rows_at rows (Some node)) h in
    let k = In-filter (λ (q : DocRow). begins node.path q.path) r.0 rows r.1 in
    let at : find_row x rows ≡ Some r.0 = ap (λ (y : AtomIdValue). find_row y rows) (sym r.2)
    ∙ find_in rows r.0 d.apart k.0 in
    ap (λ (o : Option DocRow). is_some (find_row b
    (rows_below rows (option_map (λ (q : DocRow). Below q.path bit) o)))) at
    ∙ ap (λ (y : AtomIdValue). is_some (find_row y (rows_below rows (Some (Below r.0.path bit))))) (sym f.1)
    ∙ within_is rows (Below r.0.path bit) node d.apart f.0 ∙ outside_at r.0.path node.path bit k.1

pub slot_above : (rows : List DocRow) (b : AtomIdValue) (slot : Slot) → IsDocument rows → is_slot_under rows b slot
    ≡ true → is_within rows b slot ≡ false
slot_above rows b Root d h = absurd (true≢false (sym h))
slot_above rows b (At x bit) d h = above_at rows b x bit d (find_row b rows) refl h

pub subtree_together : (rows : List DocRow) (b : AtomIdValue) → IsDocument rows → IsStretch (rows_under rows b) rows
subtree_together rows b d = subtree_stretch rows b d.ascending
