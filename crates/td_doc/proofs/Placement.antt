-- What is put in the allocated slot stands right after the row that it was placed after, or first.
use Rattle.std.proofs.Common.{◌≡◌, ◌≢◌, ◌⊎◌, ℕ, List, [], ◌∷◌, ◌++◌, Bool, true, false, cond, filter, Option, Some}
use Rattle.std.proofs.Common.{None, refl, sym, ap, ◌∙◌, subst, inl, inr, ⊎_elim, true≢false, append_assoc, length}
use Rattle.std.specs.Prelude.{IsSome}
use Rattle.std.specs.Option.{ForSome, option_map}
use Rattle.std.specs.declared.cmp.Ordering.TheVariants.{Less}
use Rattle.std.proofs.lemmas.Bool.{cases_Bool, false_from_ne_true}
use Rattle.td_base.specs.declared.bit.Bit.{Bit}
use Rattle.td_base.specs.declared.bit.Bit.TheVariants.{Left, Right}
use Rattle.td_base.specs.Value.{DotValue, AtomIdValue}
use Rattle.td_base.specs.Lists.{In, Successive}
use Rattle.td_base.proofs.Lists.{In-append, In-back, across, all_in, successive_back}
use Rattle.td_path.specs.Infix.{Pairs, path_cmp}
use Rattle.td_path.specs.SlotPaths.{goes_on}
use Rattle.td_path.specs.declared.slot.Slot.{Slot}
use Rattle.td_path.specs.declared.slot.Slot.TheVariants.{At}
use Rattle.td_path.specs.declared.slot_path.SlotPath.{SlotPath}
use Rattle.td_path.specs.declared.slot_path.SlotPath.TheVariants.{Root as Whole, Below}
use Rattle.td_path.proofs.InfixOrder.{path_total, left_before, right_after, between_left, between_right, goes_on_parts}
use Rattle.td_doc.specs.Document.{DocRow, row_id, has_id, find_row, is_empty_list, IsDocument}
use Rattle.td_doc.specs.Slots.{slot_path, rows_below, is_empty_slot}
use Rattle.td_doc.specs.Allocation.{first_id, next_id, slot_before, alloc}
use Rattle.td_doc.specs.Array.{row_in, array}
use Rattle.td_base.specs.RunAtoms.{NamedAtom, run_atoms}
use Rattle.td_doc.specs.Insertion.{put_rows, put_below, put_array_below, insert_atom, insert_run, IsNew, ComesBetween}
use Rattle.td_doc.specs.Answers.{IsRow}
use Rattle.td_doc.specs.Stretches.{RunBetween}
use Rattle.td_doc.proofs.PathEnds.{last_id-append}
use Rattle.td_doc.proofs.PutRows.{Before, Differ, not_before_itself, not_both_before}
use Rattle.td_doc.proofs.PutRows.{three_ways, put_between, put_before}
use Rattle.td_doc.proofs.ArrayRows.{array_starts, array_ascends, array_names}
use Rattle.td_doc.proofs.ArrayRows.{array_live, array_of_one, starts_contained}
use Rattle.td_base.proofs.Searches.{filter_none}
use Rattle.td_base.proofs.Equals.{same_id_true, same_id_refl}

-- finding a row

pub self_id : (r : DocRow) → has_id (row_id r) r ≡ true
self_id r = same_id_refl (row_id r)

pub has_id-true : (x : AtomIdValue) (r : DocRow) → has_id x r ≡ true → row_id r ≡ x
has_id-true x r h = same_id_true (row_id r) x h

pub has_id-false : (x : AtomIdValue) (r : DocRow) → row_id r ≢ x → has_id x r ≡ false
has_id-false x r n = ⊎_elim (λ (h : has_id x r ≡ true). absurd (n (has_id-true x r h)))
    (λ (h : has_id x r ≡ false). h) (cases_Bool (has_id x r))

find_first : (x : AtomIdValue) (r : DocRow) (rows : List DocRow) → has_id x r ≡ true → find_row x (r ∷ rows) ≡ Some r
find_first x r rows h = ap (λ b. cond b (Some r) (find_row x rows)) h

find_later : (x : AtomIdValue) (r : DocRow) (rows : List DocRow) → has_id x r ≡ false → find_row x (r ∷ rows)
    ≡ find_row x rows
find_later x r rows h = ap (λ b. cond b (Some r) (find_row x rows)) h

pub find_at : (front : List DocRow) (r : DocRow) (back : List DocRow)
    → ((s : DocRow) → In s front → row_id s ≢ row_id r) → find_row (row_id r) (front ++ r ∷ back) ≡ Some r
find_at [] r back h = find_first (row_id r) r back (self_id r)
find_at (s ∷ front) r back h = find_later (row_id r) s (front ++ r ∷ back)
    (has_id-false (row_id r) s (h s (inl refl))) ∙ find_at front r back (λ q i. h q (inr i))

next_at : (front : List DocRow) (r : DocRow) (back : List DocRow) → ((s : DocRow) → In s front → row_id s ≢ row_id r)
    → next_id (row_id r) (front ++ r ∷ back) ≡ first_id back
next_at [] r back h = ap (λ b. cond b (first_id back) (next_id (row_id r) back)) (self_id r)
next_at (s ∷ front) r back h =
    ap (λ b. cond b (first_id (front ++ r ∷ back)) (next_id (row_id r) (front ++ r ∷ back)))
    (has_id-false (row_id r) s (h s (inl refl))) ∙ next_at front r back (λ q i. h q (inr i))

-- what passes a test

module _ {X : Type 0} (test : X → Bool) where
  none_in_at : (x : X) (xs : List X) (b : Bool) → test x ≡ b
      → is_empty_list (cond b (x ∷ filter test xs) (filter test xs)) ≡ true
      → (is_empty_list (filter test xs) ≡ true → (y : X) → In y xs → test y ≡ true → ⊥) → (y : X) → (y ≡ x) ⊎ In y xs
      → test y ≡ true → ⊥
  none_in_at x xs true e h ih y i t = true≢false (sym h)
  none_in_at x xs false e h ih y i t = ⊎_elim (λ (s : y ≡ x). true≢false (sym t ∙ ap test s ∙ e))
      (λ (j : In y xs). ih h y j t) i

  none_in : (xs : List X) → is_empty_list (filter test xs) ≡ true → (y : X) → In y xs → test y ≡ true → ⊥
  none_in [] h y i t = i
  none_in (x ∷ xs) h y i t = none_in_at x xs (test x) refl h (none_in xs) y i t

  record Passes (xs : List X) : Type 0 where
    one : X
    inside : In one xs
    passes : test one ≡ true

  later_passes : (x : X) (xs : List X) → Passes xs → Passes (x ∷ xs)
  later_passes x xs p = record { one = p.one; inside = inr p.inside; passes = p.passes }

  some_in_at : (x : X) (xs : List X) (b : Bool) → test x ≡ b
      → is_empty_list (cond b (x ∷ filter test xs) (filter test xs)) ≡ false
      → (is_empty_list (filter test xs) ≡ false → Passes xs) → Passes (x ∷ xs)
  some_in_at x xs true e h ih = record { one = x; inside = inl refl; passes = e }
  some_in_at x xs false e h ih = later_passes x xs (ih h)

  some_in : (xs : List X) → is_empty_list (filter test xs) ≡ false → Passes xs
  some_in [] h = absurd (true≢false h)
  some_in (x ∷ xs) h = some_in_at x xs (test x) refl h (some_in xs)

-- an array put in a slot: what an insertion does

abbrev pub put_array : Slot → List NamedAtom → List DocRow → List DocRow
put_array slot atoms rows = put_array_below (slot_path rows slot) atoms rows

one_below : (o : Option SlotPath) (a : NamedAtom) (rows : List DocRow) → put_below o a rows
    ≡ put_array_below o (a ∷ []) rows
one_below None a rows = refl
one_below (Some slot) a rows = ap (λ (new : List DocRow). put_rows new rows) (sym (array_of_one slot a))

pub atom_is_array : (slot : Slot) (id : AtomIdValue) (atom : List ℕ) (rows : List DocRow)
    → insert_atom slot id atom rows ≡ put_array slot (record { id = id; atom = atom } ∷ []) rows
atom_is_array slot id atom rows = one_below (slot_path rows slot) (record { id = id; atom = atom }) rows

pub in_array : (slot : SlotPath) (atoms : List NamedAtom) (path : Pairs) (bit : Bit) → slot ≡ Below path bit
    → (n : DocRow) → In n (array slot atoms) → goes_on path bit n.path ≡ true
in_array slot atoms path bit e n i =
    subst (λ (s : SlotPath). In n (array s atoms) → goes_on path bit n.path ≡ true) (sym e)
    (λ j. starts_contained (Below path bit) n.path (array_starts (length atoms) (Below path bit) atoms n j)) i

-- the rows are the front, an array of the atoms and the back
pub record ArrayBetween (atoms : List NamedAtom) (front back rows : List DocRow) : Type 0 where
  pub slot : SlotPath
  pub is : rows ≡ front ++ array slot atoms ++ back

array_below : (rows : List DocRow) (r : DocRow) (bit : Bit) (atoms : List NamedAtom) → find_row (row_id r) rows ≡ Some r
    → put_array (At (row_id r) bit) atoms rows ≡ put_rows (array (Below r.path bit) atoms) rows
array_below rows r bit atoms e = ap (λ (o : Option DocRow). put_array_below
    (option_map (λ (q : DocRow). Below q.path bit) o) atoms rows) e

module _ (front : List DocRow) (r : DocRow) (back : List DocRow) (d : IsDocument (front ++ r ∷ back))
    (atoms : List NamedAtom) where
  apart : (s : DocRow) → In s front → row_id s ≢ row_id r
  apart s i = across Differ front (r ∷ back) d.apart s r i (inl refl)

  before : (s : DocRow) → In s front → Before s r
  before s i = across Before front (r ∷ back) d.ascending s r i (inl refl)

  after : (s : DocRow) → In s back → Before r s
  after s i = all_in (Before r) back (successive_back Before front (r ∷ back) d.ascending).0 s i

  found : find_row (row_id r) (front ++ r ∷ back) ≡ Some r
  found = find_at front r back apart

  regroup : (new : List DocRow) → (front ++ r ∷ []) ++ new ++ back ≡ front ++ r ∷ (new ++ back)
  regroup new = append_assoc (front ++ r ∷ []) new back ∙ append_assoc front (r ∷ []) (new ++ back)

  -- rows that come after the row and before those that follow it
  put_after : (new : List DocRow) → Successive Before new → ((n : DocRow) → In n new → Before r n)
      → ((n s : DocRow) → In n new → In s back → Before n s) → put_rows new (front ++ r ∷ back) ≡ (front ++ r ∷ [])
      ++ new ++ back
  put_after new up past ahead =
      ap (put_rows new) (sym (append_assoc front (r ∷ []) back))
      ∙ put_between new (front ++ r ∷ []) back up
      (λ s n i j. ⊎_elim (λ (k : In s front). path_total.trans s.path r.path n.path (before s k) (past n j))
      (λ (k : In s (r ∷ [])). ⊎_elim (λ (e : s ≡ r). subst (λ (q : DocRow). Before q n) (sym e) (past n j))
      (λ (z : ⊥). absurd z) k) (In-append s front (r ∷ []) i))
      ahead

  abbrev on_the_right : DocRow → Bool
  on_the_right q = goes_on r.path Right q.path

  right_slot : is_empty_slot (front ++ r ∷ back) (At (row_id r) Right)
      ≡ is_empty_list (filter on_the_right (front ++ r ∷ back))
  right_slot = ap (λ (o : Option DocRow). is_empty_list
      (rows_below (front ++ r ∷ back) (option_map (λ (q : DocRow). Below q.path Right) o))) found

  on_right_later : (q : DocRow) → on_the_right q ≡ true → Before r q
  on_right_later q h = let g = goes_on_parts r.path Right q.path h in
      subst (λ (p : Pairs). path_cmp r.path p ≡ Less) (sym g.is) (right_after r.path g.id g.rest)

  -- where nothing hangs on the right of the row, the new rows hang there

  none_there : (f : DocRow) → In f back → is_empty_list (filter on_the_right (front ++ r ∷ back)) ≡ true
      → on_the_right f ≡ true → ⊥
  none_there f i e h = none_in on_the_right (front ++ r ∷ back) e f (In-back f front (r ∷ back) (inr i)) h

  new_before : (n f : DocRow) → on_the_right n ≡ true → In f back
      → is_empty_list (filter on_the_right (front ++ r ∷ back)) ≡ true → Before n f
  new_before n f on i e =
      ⊎_elim (λ (h : path_cmp n.path f.path ≡ Less). h)
      (λ (k : (n.path ≡ f.path) ⊎ (path_cmp f.path n.path ≡ Less)).
      absurd (none_there f i e (⊎_elim
      (λ (q : n.path ≡ f.path). subst (λ (p : Pairs). goes_on r.path Right p ≡ true) q on)
      (λ (q : path_cmp f.path n.path ≡ Less).
      let g = goes_on_parts r.path Right n.path on in
      between_right r.path f.path g.id g.rest (after f i) (subst (λ (p : Pairs). path_cmp f.path p ≡ Less) g.is q))
      k)))
      (three_ways n.path f.path)

  placed_right : is_empty_slot (front ++ r ∷ back) (At (row_id r) Right) ≡ true
      → ArrayBetween atoms (front ++ r ∷ []) back (put_array (alloc (front ++ r ∷ back) (Some (row_id r))) atoms
      (front ++ r ∷ back))
  placed_right e =
      let new : List DocRow = array (Below r.path Right) atoms in
      let slot : alloc (front ++ r ∷ back) (Some (row_id r))
      ≡ At (row_id r) Right = ap (λ b. cond b (At (row_id r) Right)
      (slot_before (next_id (row_id r) (front ++ r ∷ back)))) e in
      let on : (n : DocRow) → In n new → on_the_right n
      ≡ true = λ n i. in_array (Below r.path Right) atoms r.path Right refl n i in
      record {
        slot = Below r.path Right;
        is = ap (λ (s : Slot). put_array s atoms (front ++ r ∷ back)) slot
            ∙ array_below (front ++ r ∷ back) r Right atoms found
            ∙ put_after new (array_ascends (length atoms) (Below r.path Right) atoms)
            (λ n i. on_right_later n (on n i)) (λ n f i j. new_before n f (on n i) j (sym right_slot ∙ e));
      }

  on_right_in_back : (q : DocRow) → In q (front ++ r ∷ back) → on_the_right q ≡ true → In q back
  on_right_in_back q i h =
      ⊎_elim (λ (j : In q front). absurd (not_both_before q.path r.path (before q j) (on_right_later q h)))
      (λ (j : In q (r ∷ back)). ⊎_elim (λ (e : q ≡ r). absurd
      (not_before_itself r.path (subst (λ (s : DocRow). Before r s) e (on_right_later q h))))
      (λ (k : In q back). k) j)
      (In-append q front (r ∷ back) i)

-- where something hangs there, a row follows, and the new rows hang on the left of that one
module _ (front : List DocRow) (r f : DocRow) (back : List DocRow) (d : IsDocument (front ++ r ∷ f ∷ back))
    (atoms : List NamedAtom) where
  abbrev all_rows : List DocRow
  all_rows = front ++ r ∷ f ∷ back

  regrouped : (front ++ r ∷ []) ++ f ∷ back ≡ all_rows
  regrouped = append_assoc front (r ∷ []) (f ∷ back)

  r_before_f : Before r f
  r_before_f = (successive_back Before front (r ∷ f ∷ back) d.ascending).0.0

  f_before : (s : DocRow) → In s back → Before f s
  f_before s i = all_in (Before f) back (successive_back Before front (r ∷ f ∷ back) d.ascending).1.0 s i

  apart_from_f : (s : DocRow) → In s (front ++ r ∷ []) → row_id s ≢ row_id f
  apart_from_f s i = across Differ (front ++ r ∷ []) (f ∷ back) (subst (Successive Differ) (sym regrouped) d.apart) s
      f i (inl refl)

  found_f : find_row (row_id f) all_rows ≡ Some f
  found_f = ap (find_row (row_id f)) (sym regrouped) ∙ find_at (front ++ r ∷ []) f back apart_from_f

  -- what is on the right of r is not on the left of f if r is
  not_on_left : (q : DocRow) → In q (f ∷ back) → goes_on r.path Right q.path ≡ true → goes_on f.path Left r.path
      ≡ true → ⊥
  not_on_left q i h k =
      let g = goes_on_parts r.path Right q.path h in
      let l = goes_on_parts f.path Left r.path k in
      let path : q.path ≡ f.path ++ (Left, l.id) ∷ (l.rest ++ (Right, g.id) ∷ g.rest) =
      g.is ∙ ap (λ (p : Pairs). p ++ (Right, g.id) ∷ g.rest) l.is
      ∙ append_assoc f.path ((Left, l.id) ∷ l.rest) ((Right, g.id) ∷ g.rest) in
      let q_before_f : Before q f = subst (λ (p : Pairs). path_cmp p f.path ≡ Less) (sym path)
      (left_before f.path l.id (l.rest ++ (Right, g.id) ∷ g.rest)) in
      ⊎_elim (λ (e : q ≡ f). not_before_itself f.path (subst (λ (s : DocRow). Before s f) e q_before_f))
      (λ (j : In q back). not_both_before f.path q.path (f_before q j) q_before_f)
      i

  new_after : (q n : DocRow) → goes_on f.path Left n.path ≡ true → In q (f ∷ back) → goes_on r.path Right q.path
      ≡ true → Before r n
  new_after q n on i h =
      ⊎_elim (λ (e : path_cmp r.path n.path ≡ Less). e)
      (λ (k : (r.path ≡ n.path) ⊎ (path_cmp n.path r.path ≡ Less)).
      absurd (not_on_left q i h (⊎_elim
      (λ (e : r.path ≡ n.path). subst (λ (p : Pairs). goes_on f.path Left p ≡ true) (sym e) on)
      (λ (e : path_cmp n.path r.path ≡ Less).
      let g = goes_on_parts f.path Left n.path on in
      between_left f.path r.path g.id g.rest (subst (λ (p : Pairs). path_cmp p r.path ≡ Less) g.is e) r_before_f)
      k)))
      (three_ways r.path n.path)

  new_before_f : (n : DocRow) → goes_on f.path Left n.path ≡ true → Before n f
  new_before_f n on = let g = goes_on_parts f.path Left n.path on in
      subst (λ (p : Pairs). path_cmp p f.path ≡ Less) (sym g.is) (left_before f.path g.id g.rest)

  new_before_back : (n s : DocRow) → goes_on f.path Left n.path ≡ true → In s (f ∷ back) → Before n s
  new_before_back n s on i =
      ⊎_elim (λ (e : s ≡ f). subst (λ (q : DocRow). Before n q) (sym e) (new_before_f n on))
      (λ (j : In s back). path_total.trans n.path f.path s.path (new_before_f n on) (f_before s j)) i

  placed_left : (q : DocRow) → In q (f ∷ back) → goes_on r.path Right q.path ≡ true
      → is_empty_slot all_rows (At (row_id r) Right) ≡ false
      → ArrayBetween atoms (front ++ r ∷ []) (f ∷ back) (put_array (alloc all_rows (Some (row_id r))) atoms all_rows)
  placed_left q i h e =
      let new : List DocRow = array (Below f.path Left) atoms in
      let slot : alloc all_rows (Some (row_id r)) ≡ At (row_id f) Left =
      ap (λ b. cond b (At (row_id r) Right) (slot_before (next_id (row_id r) all_rows))) e
      ∙ ap slot_before (next_at front r (f ∷ back) (apart front r (f ∷ back) d atoms)) in
      let on : (n : DocRow) → In n new → goes_on f.path Left n.path
      ≡ true = λ n j. in_array (Below f.path Left) atoms f.path Left refl n j in
      record {
        slot = Below f.path Left;
        is = ap (λ (s : Slot). put_array s atoms all_rows) slot ∙ array_below all_rows f Left atoms found_f
            ∙ put_after front r (f ∷ back) d atoms new (array_ascends (length atoms) (Below f.path Left) atoms)
            (λ n j. new_after q n (on n j) i h) (λ n s j k. new_before_back n s (on n j) k);
      }

  -- nothing hangs there yet

  left_of_f : (q : DocRow) → In q (f ∷ back) → goes_on r.path Right q.path ≡ true → (s : DocRow)
      → In s ((front ++ r ∷ []) ++ f ∷ back) → goes_on f.path Left s.path ≡ true → ⊥
  left_of_f q i h s j k =
      ⊎_elim
      (λ (m : In s (front ++ r ∷ [])).
      ⊎_elim
      (λ (n : In s front).
      let l = goes_on_parts f.path Left s.path k in
      let s_before_r : Before s r = before front r (f ∷ back) d atoms s n in
      not_on_left q i h (between_left f.path r.path l.id l.rest
      (subst (λ (p : Pairs). path_cmp p r.path ≡ Less) l.is s_before_r) r_before_f))
      (λ (n : In s (r ∷ [])). ⊎_elim (λ (e : s ≡ r). not_on_left q i h
      (subst (λ (t : DocRow). goes_on f.path Left t.path ≡ true) e k)) (λ (z : ⊥). z) n)
      (In-append s front (r ∷ []) m))
      (λ (m : In s (f ∷ back)).
      ⊎_elim (λ (e : s ≡ f). not_before_itself f.path (subst (λ (t : DocRow). Before t f) e (new_before_f s k)))
      (λ (n : In s back). not_both_before f.path s.path (f_before s n) (new_before_f s k)) m)
      (In-append s (front ++ r ∷ []) (f ∷ back) j)

  left_slot_empty : (q : DocRow) → In q (f ∷ back) → goes_on r.path Right q.path ≡ true
      → is_empty_slot all_rows (At (row_id f) Left) ≡ true
  left_slot_empty q i h =
      ap (λ (o : Option DocRow). is_empty_list (rows_below all_rows
      (option_map (λ (t : DocRow). Below t.path Left) o))) found_f
      ∙ ap is_empty_list (filter_none (λ (t : DocRow). goes_on f.path Left t.path) all_rows
      (λ s j. false_from_ne_true (goes_on f.path Left s.path) (left_of_f q i h s (subst (In s) (sym regrouped) j))))

  alloc_empty_left : (q : DocRow) → In q (f ∷ back) → goes_on r.path Right q.path ≡ true
      → is_empty_slot all_rows (At (row_id r) Right) ≡ false
      → is_empty_slot all_rows (alloc all_rows (Some (row_id r))) ≡ true
  alloc_empty_left q i h e =
      let slot : alloc all_rows (Some (row_id r)) ≡ At (row_id f) Left =
      ap (λ b. cond b (At (row_id r) Right) (slot_before (next_id (row_id r) all_rows))) e
      ∙ ap slot_before (next_at front r (f ∷ back) (apart front r (f ∷ back) d atoms)) in
      ap (is_empty_slot all_rows) slot ∙ left_slot_empty q i h

placed_left_of : (front : List DocRow) (r : DocRow) (back : List DocRow) (d : IsDocument (front ++ r ∷ back))
    (atoms : List NamedAtom) (q : DocRow) → In q back → goes_on r.path Right q.path ≡ true
    → is_empty_slot (front ++ r ∷ back) (At (row_id r) Right) ≡ false
    → ArrayBetween atoms (front ++ r ∷ []) back (put_array (alloc (front ++ r ∷ back) (Some (row_id r))) atoms
    (front ++ r ∷ back))
placed_left_of front r [] d atoms q i h e = absurd i
placed_left_of front r (f ∷ back) d atoms q i h e = placed_left front r f back d atoms q i h e

-- what is placed after a row stands right after it
pub array_after : (front : List DocRow) (r : DocRow) (back : List DocRow) → IsDocument (front ++ r ∷ back)
    → (atoms : List NamedAtom)
    → ArrayBetween atoms (front ++ r ∷ []) back (put_array (alloc (front ++ r ∷ back) (Some (row_id r))) atoms
    (front ++ r ∷ back))
array_after front r back d atoms =
    ⊎_elim
    (λ (e : is_empty_slot (front ++ r ∷ back) (At (row_id r) Right) ≡ true). placed_right front r back d atoms e)
    (λ (e : is_empty_slot (front ++ r ∷ back) (At (row_id r) Right) ≡ false).
    let some = some_in (λ (q : DocRow). goes_on r.path Right q.path) (front ++ r ∷ back)
    (sym (right_slot front r back d atoms) ∙ e) in
    placed_left_of front r back d atoms some.one (on_right_in_back front r back d atoms some.one some.inside
    some.passes) some.passes e)
    (cases_Bool (is_empty_slot (front ++ r ∷ back) (At (row_id r) Right)))

-- what is placed at the start stands first
pub array_first : (rows : List DocRow) → Successive Before rows → (atoms : List NamedAtom)
    → ArrayBetween atoms [] rows (put_array (alloc rows None) atoms rows)
array_first [] up atoms = record {
  slot = Whole;
  is = put_between (array Whole atoms) [] [] (array_ascends (length atoms) Whole atoms) (λ r s i j. absurd i)
      (λ r s i j. absurd j);
}
array_first (f ∷ rows) up atoms =
    let new : List DocRow = array (Below f.path Left) atoms in
    let first : (n : DocRow) → In n new → Before n f =
    λ n i. let g = goes_on_parts f.path Left n.path (in_array (Below f.path Left) atoms f.path Left refl n i) in
    subst (λ (p : Pairs). path_cmp p f.path ≡ Less) (sym g.is) (left_before f.path g.id g.rest) in
    record {
      slot = Below f.path Left;
      is = array_below (f ∷ rows) f Left atoms (find_first (row_id f) f rows (self_id f))
          ∙ put_between new [] (f ∷ rows) (array_ascends (length atoms) (Below f.path Left) atoms) (λ r s i j. absurd i)
          (λ n s i j. ⊎_elim (λ (e : s ≡ f). subst (λ (q : DocRow). Before n q) (sym e) (first n i))
          (λ (k : In s rows). path_total.trans n.path f.path s.path (first n i) (all_in (Before f) rows up.0 s k))
          j);
    }

-- the allocated slot has no row

alloc_empty_in_back : (front : List DocRow) (r : DocRow) (back : List DocRow) → IsDocument (front ++ r ∷ back)
    → (q : DocRow) → In q back → goes_on r.path Right q.path ≡ true
    → is_empty_slot (front ++ r ∷ back) (At (row_id r) Right) ≡ false
    → is_empty_slot (front ++ r ∷ back) (alloc (front ++ r ∷ back) (Some (row_id r))) ≡ true
alloc_empty_in_back front r [] d q i h e = absurd i
alloc_empty_in_back front r (f ∷ back) d q i h e = alloc_empty_left front r f back d [] q i h e

alloc_empty_after : (front : List DocRow) (r : DocRow) (back : List DocRow) → IsDocument (front ++ r ∷ back)
    → is_empty_slot (front ++ r ∷ back) (alloc (front ++ r ∷ back) (Some (row_id r))) ≡ true
alloc_empty_after front r back d =
    ⊎_elim
    (λ (e : is_empty_slot (front ++ r ∷ back) (At (row_id r) Right) ≡ true).
    ap (λ b. is_empty_slot (front ++ r ∷ back) (cond b (At (row_id r) Right)
    (slot_before (next_id (row_id r) (front ++ r ∷ back))))) e ∙ e)
    (λ (e : is_empty_slot (front ++ r ∷ back) (At (row_id r) Right) ≡ false).
    let some = some_in (λ (q : DocRow). goes_on r.path Right q.path) (front ++ r ∷ back)
    (sym (right_slot front r back d []) ∙ e) in
    alloc_empty_in_back front r back d some.one (on_right_in_back front r back d [] some.one some.inside some.passes)
    some.passes e)
    (cases_Bool (is_empty_slot (front ++ r ∷ back) (At (row_id r) Right)))

alloc_empty_first : (rows : List DocRow) → Successive Before rows → is_empty_slot rows (alloc rows None) ≡ true
alloc_empty_first [] up = refl
alloc_empty_first (f ∷ rows) up =
    let before_f : (s : DocRow) → goes_on f.path Left s.path ≡ true → Before s f =
    λ s h. let g = goes_on_parts f.path Left s.path h in
    subst (λ (p : Pairs). path_cmp p f.path ≡ Less) (sym g.is) (left_before f.path g.id g.rest) in
    ap (λ (o : Option DocRow). is_empty_list (rows_below (f ∷ rows)
    (option_map (λ (t : DocRow). Below t.path Left) o))) (find_first (row_id f) f rows (self_id f))
    ∙ ap is_empty_list (filter_none (λ (t : DocRow). goes_on f.path Left t.path) (f ∷ rows)
    (λ s i. false_from_ne_true (goes_on f.path Left s.path)
    (λ h. ⊎_elim (λ (e : s ≡ f). not_before_itself f.path (subst (λ (t : DocRow). Before t f) e (before_f s h)))
    (λ (k : In s rows). not_both_before f.path s.path (all_in (Before f) rows up.0 s k) (before_f s h)) i)))

-- a row, with the rows before it and after it
pub record Placed (rows : List DocRow) (x : AtomIdValue) : Type 0 where
  pub front : List DocRow
  pub row : DocRow
  pub back : List DocRow
  pub is : rows ≡ front ++ row ∷ back
  pub named : row_id row ≡ x

placed_at : (x : AtomIdValue) (r : DocRow) (rows : List DocRow) (b : Bool) → has_id x r ≡ b
    → IsSome (cond b (Some r) (find_row x rows)) → (IsSome (find_row x rows) → Placed rows x) → Placed (r ∷ rows) x
placed_at x r rows true e h ih = record { front = []; row = r; back = rows; is = refl; named = has_id-true x r e }
placed_at x r rows false e h ih =
    let p = ih h in
    record {
      front = r ∷ p.front;
      row = p.row;
      back = p.back;
      is = ap (λ (q : List DocRow). r ∷ q) p.is;
      named = p.named;
    }

pub placed : (x : AtomIdValue) (rows : List DocRow) → IsSome (find_row x rows) → Placed rows x
placed x [] h = absurd (true≢false (sym h))
placed x (r ∷ rows) h = placed_at x r rows (has_id x r) refl h (placed x rows)

alloc_empty_at : (rows : List DocRow) (x : AtomIdValue) → IsDocument rows → Placed rows x
    → is_empty_slot rows (alloc rows (Some x)) ≡ true
alloc_empty_at rows x d p =
    ap (λ (y : AtomIdValue). is_empty_slot rows (alloc rows (Some y))) (sym p.named)
    ∙ subst (λ (q : List DocRow). IsDocument q → is_empty_slot q (alloc q (Some (row_id p.row))) ≡ true) (sym p.is)
    (λ e. alloc_empty_after p.front p.row p.back e) d

pub alloc_empty : (rows : List DocRow) (after : Option AtomIdValue) → IsDocument rows → ForSome after (IsRow rows)
    → is_empty_slot rows (alloc rows after) ≡ true
alloc_empty rows None d h = alloc_empty_first rows d.ascending
alloc_empty rows (Some x) d h = alloc_empty_at rows x d (placed x rows (h x refl))

-- of a run, and of an atom

pub run_between : (atoms : List NamedAtom) (front back rows : List DocRow) → ArrayBetween atoms front back rows
    → RunBetween atoms front back rows
run_between atoms front back rows a = record {
  new = array a.slot atoms;
  atoms = array_names a.slot atoms;
  live = array_live a.slot atoms;
  is = a.is;
}

pub new_in : (slot : SlotPath) (a : NamedAtom) → IsNew a.id a.atom (row_in slot a)
new_in Whole a = record { named = refl; shows = refl; live = refl }
new_in (Below front bit) a = record { named = last_id-append _ front (bit, a.id); shows = refl; live = refl }

one_between : (id : AtomIdValue) (atom : List ℕ) (front back rows : List DocRow)
    → ArrayBetween (record { id = id; atom = atom } ∷ []) front back rows → ComesBetween id atom front back rows
one_between id atom front back rows a =
    record {
      row = row_in a.slot (record { id = id; atom = atom });
      new = new_in a.slot (record { id = id; atom = atom });
      is = a.is ∙ ap (λ (new : List DocRow). front ++ new ++ back)
          (array_of_one a.slot (record { id = id; atom = atom }))
          ∙ append_assoc front (row_in a.slot (record { id = id; atom = atom }) ∷ []) back;
    }

pub run_after : (front : List DocRow) (r : DocRow) (back : List DocRow) → IsDocument (front ++ r ∷ back)
    → (dot : DotValue) (run : List (List ℕ))
    → RunBetween (run_atoms dot run) (front ++ r ∷ []) back
    (insert_run (alloc (front ++ r ∷ back) (Some (row_id r))) dot run (front ++ r ∷ back))
run_after front r back d dot run = run_between (run_atoms dot run) (front ++ r ∷ []) back _
    (array_after front r back d (run_atoms dot run))

pub run_first : (rows : List DocRow) → IsDocument rows → (dot : DotValue) (run : List (List ℕ))
    → RunBetween (run_atoms dot run) [] rows (insert_run (alloc rows None) dot run rows)
run_first rows d dot run = run_between (run_atoms dot run) [] rows _ (array_first rows d.ascending (run_atoms dot run))

pub placed_after : (front : List DocRow) (r : DocRow) (back : List DocRow) → IsDocument (front ++ r ∷ back)
    → (id : AtomIdValue) (atom : List ℕ)
    → ComesBetween id atom (front ++ r ∷ []) back (insert_atom (alloc (front ++ r ∷ back) (Some (row_id r))) id atom
    (front ++ r ∷ back))
placed_after front r back d id atom =
    subst (ComesBetween id atom (front ++ r ∷ []) back)
    (sym (atom_is_array (alloc (front ++ r ∷ back) (Some (row_id r))) id atom (front ++ r ∷ back)))
    (one_between id atom (front ++ r ∷ []) back _ (array_after front r back d (record { id = id; atom = atom } ∷ [])))

-- an atom at the start stands first, in a document or not
pub placed_first : (rows : List DocRow) (id : AtomIdValue) (atom : List ℕ)
    → ComesBetween id atom [] rows (insert_atom (alloc rows None) id atom rows)
placed_first [] id atom = record {
  row = row_in Whole (record { id = id; atom = atom });
  new = new_in Whole (record { id = id; atom = atom });
  is = refl;
}
placed_first (f ∷ rows) id atom =
    let a : NamedAtom = record { id = id; atom = atom } in
    record {
      row = row_in (Below f.path Left) a;
      new = new_in (Below f.path Left) a;
      is = ap (λ (o : Option DocRow). put_below (option_map (λ (q : DocRow). Below q.path Left) o) a (f ∷ rows))
          (find_first (row_id f) f rows (self_id f)) ∙ put_before (row_in (Below f.path Left) a) f rows
          (left_before f.path id []);
    }
