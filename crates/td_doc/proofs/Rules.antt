-- What an insertion leaves is a document.
use Rattle.std.proofs.Common.{◌≡◌, ◌≢◌, ◌⊎◌, ◌≤◌, ℕ, suc, List, [], ◌∷◌, ◌++◌, Bool, true, false, cond, Option, Some}
use Rattle.std.proofs.Common.{None, refl, sym, ap, ◌∙◌, subst, inl, inr, ⊎_elim, true≢false, arith, length}
use Rattle.std.specs.Prelude.{is_some, IsNone, IsSome, IsTrue}
use Rattle.std.specs.Option.{ForSome, option_map}
use Rattle.td_base.specs.declared.bit.Bit.{Bit}
use Rattle.td_base.specs.declared.bit.Bit.TheVariants.{Right}
use Rattle.std.proofs.lemmas.List.{append-nil}
use Rattle.std.specs.declared.cmp.Ordering.TheVariants.{Less}
use Rattle.std.proofs.lemmas.Option.{none-some}
use Rattle.td_base.specs.Value.{DotValue, AtomIdValue}
use Rattle.td_base.specs.Order.{dot_cmp}
use Rattle.td_base.specs.Lists.{In, Successive}
use Rattle.td_base.proofs.Lists.{In-map, map_successive, all_in, all_of}
use Rattle.td_path.specs.Infix.{Pair, Pairs}
use Rattle.td_path.specs.declared.slot.Slot.{Slot}
use Rattle.td_path.specs.declared.slot.Slot.TheVariants.{Root, At}
use Rattle.td_path.specs.declared.slot_path.SlotPath.{SlotPath}
use Rattle.td_path.specs.declared.slot_path.SlotPath.TheVariants.{Root as Whole, Below}
use Rattle.td_doc.specs.Document.{DocRow, last_id, row_id, has_id, find_row, IsPath, IsDocument}
use Rattle.td_doc.specs.Slots.{slot_path, is_empty_slot}
use Rattle.td_doc.specs.Allocation.{first_id, next_id, slot_before, alloc}
use Rattle.td_doc.specs.Array.{named, array}
use Rattle.td_base.specs.RunAtoms.{NamedAtom, run_atoms_from, run_atoms}
use Rattle.td_doc.specs.Insertion.{put_rows, put_array_below, insert_atom, insert_run}
use Rattle.td_doc.specs.Answers.{IsRow, IsFresh, is_rooted}
use Rattle.td_doc.proofs.PutRows.{Before, Differ, IsOther, in_puts, puts_in, ascending_puts, apart_puts}
use Rattle.td_doc.proofs.ArrayRows.{IsSlotPath, IsAbove, array_ascends, array_names}
use Rattle.td_doc.proofs.ArrayRows.{array_bare, array_paths, array_fronts}
use Rattle.td_doc.proofs.Placement.{self_id, has_id-true, has_id-false, put_array, atom_is_array}

-- who is found

fresh_at : (x : AtomIdValue) (r : DocRow) (rows : List DocRow) (b : Bool) → has_id x r ≡ b
    → IsNone (cond b (Some r) (find_row x rows)) → (IsNone (find_row x rows) → (s : DocRow) → In s rows
    → x ≢ row_id s) → (s : DocRow) → In s (r ∷ rows) → x ≢ row_id s
fresh_at x r rows true e h ih s i q = true≢false h
fresh_at x r rows false e h ih s i q =
    ⊎_elim
    (λ (k : s ≡ r). true≢false (sym (self_id r) ∙ ap (λ (y : AtomIdValue). has_id y r) (sym (q ∙ ap row_id k)) ∙ e))
    (λ (j : In s rows). ih h s j q)
    i

-- an identity that is not found is that of no row
pub fresh : (x : AtomIdValue) (rows : List DocRow) → IsNone (find_row x rows) → (s : DocRow) → In s rows → x ≢ row_id s
fresh x [] h s i q = i
fresh x (r ∷ rows) h s i q = fresh_at x r rows (has_id x r) refl h (λ k t j w. fresh x rows k t j w) s i q

found_at : (x : AtomIdValue) (r s : DocRow) (rows : List DocRow) (b : Bool) → has_id x r ≡ b
    → cond b (Some r) (find_row x rows) ≡ Some s → (find_row x rows ≡ Some s → In s rows × (row_id s ≡ x))
    → In s (r ∷ rows) × (row_id s ≡ x)
found_at x r s rows true e h ih = let q : r ≡ s = some_same r s h in
    (inl (sym q), sym (ap row_id q) ∙ has_id-true x r e)
  where
    some_same : (r s : DocRow) → Some r ≡ Some s → r ≡ s
    some_same r s h = cc
found_at x r s rows false e h ih = let k = ih h in (inr k.0, k.1)

pub found : (x : AtomIdValue) (s : DocRow) (rows : List DocRow) → find_row x rows ≡ Some s → In s rows × (row_id s ≡ x)
found x s [] h = absurd (none-some s h)
found x s (r ∷ rows) h = found_at x r s rows (has_id x r) refl h (found x s rows)

-- rows put in a document

abbrev pub FrontsIn : (DocRow → Type 0) → DocRow → Type 0
FrontsIn IsThere n = (front : Pairs) (next : Pair) (rest : Pairs) → n.path ≡ front ++ next ∷ rest → front ≢ []
    → (s : DocRow) × IsThere s × (s.path ≡ front)

abbrev nobody : AtomIdValue
nobody = record { dot = record { site = 0; seq = 0 }; offset = 0 }

-- different identities are those of different paths
differ_free : (n x : DocRow) → Differ n x → n.path ≢ x.path
differ_free n x d e = d (ap (λ (p : Pairs). last_id nobody p) e)

pub puts_document : (new rows : List DocRow) → IsDocument rows → Successive Before new → Successive Differ new
    → ((n : DocRow) → In n new → IsOther n rows) → ((n : DocRow) → In n new → IsPath n.path)
    → ((n : DocRow) → In n new → FrontsIn (λ (s : DocRow). In s new ⊎ In s rows) n)
    → ((n : DocRow) → In n new → n.deletes ≡ []) → IsDocument (put_rows new rows)
puts_document new rows d up apart other paths fronts bare = record {
  ascending = ascending_puts new rows up d.ascending (λ n i x j. differ_free n x (other n i x j));
  apart = apart_puts new rows apart d.apart other;
  paths = λ r i. ⊎_elim (λ (j : In r new). paths r j) (λ (j : In r rows). d.paths r j) (in_puts new rows r i);
  rooted = λ r front next rest i e some.
      ⊎_elim
      (λ (j : In r new). let at = fronts r j front next rest e some in (at.0, puts_in new rows at.0 at.1, at.2))
      (λ (j : In r rows). let at = d.rooted r front next rest j e some in
      (at.0, puts_in new rows at.0 (inr at.1), at.2))
      (in_puts new rows r i);
  deletes = λ r i. ⊎_elim (λ (j : In r new). no_deletes r.deletes (bare r j)) (λ (j : In r rows). d.deletes r j)
      (in_puts new rows r i);
}
  where
    no_deletes : (dots : List DotValue) → dots ≡ [] → Successive (λ (a b : DotValue). dot_cmp a b ≡ Less) dots
    no_deletes dots e = subst (Successive (λ (a b : DotValue). dot_cmp a b ≡ Less)) (sym e) tt

-- the slot is the whole, or hangs below a row
pub record HangsIn (slot : SlotPath) (rows : List DocRow) : Type 0 where
  pub is_path : IsSlotPath slot
  pub above : (front : Pairs) → IsAbove slot front → front ≢ [] → (s : DocRow) × In s rows × (s.path ≡ front)

pub hangs_whole : (rows : List DocRow) → HangsIn Whole rows
hangs_whole rows = record { is_path = tt; above = λ front i some. absurd i }

pub hangs_below : (rows : List DocRow) → IsDocument rows → (r : DocRow) (bit : Bit) → In r rows
    → HangsIn (Below r.path bit) rows
hangs_below rows d r bit i = record { is_path = d.paths r i; above = λ front a some. at front a.0 a.1 some }
  where
    at : (front rest : Pairs) → r.path ≡ front ++ rest → front ≢ [] → (s : DocRow) × In s rows × (s.path ≡ front)
    at front [] e some = (r, i, e ∙ append-nil front)
    at front (next ∷ rest) e some = d.rooted r front next rest i e some

-- an array of new identities
pub array_document : (slot : SlotPath) (atoms : List NamedAtom) (rows : List DocRow) → IsDocument rows
    → HangsIn slot rows
    → Successive (λ (a b : NamedAtom). a.id ≢ b.id) atoms
    → ((a : NamedAtom) → In a atoms → (x : DocRow) → In x rows → a.id ≢ row_id x)
    → IsDocument (put_rows (array slot atoms) rows)
array_document slot atoms rows d h apart new =
    puts_document (array slot atoms) rows d (array_ascends (length atoms) slot atoms)
    (map_successive (λ (a b : NamedAtom). a.id ≢ b.id) named (array slot atoms)
    (subst (Successive (λ (a b : NamedAtom). a.id ≢ b.id)) (sym (array_names slot atoms)) apart))
    (λ n i x j e. let a = atom_of n i in new (named n) a x j e)
    (array_paths slot atoms h.is_path)
    (λ n i front next rest e some.
    ⊎_elim (λ (f : (q : DocRow) × In q (array slot atoms) × (q.path ≡ front)). (f.0, inl f.1, f.2))
    (λ (f : IsAbove slot front). let s = h.above front f some in (s.0, inr s.1, s.2))
    (array_fronts (length atoms) slot atoms n i front next rest e some))
    (λ n i. array_bare (length atoms) slot atoms n i)
  where
    atom_of : (n : DocRow) → In n (array slot atoms) → In (named n) atoms
    atom_of n i = subst (In (named n)) (array_names slot atoms) (In-map named n (array slot atoms) i)

abbrev pub IsNewIn : List NamedAtom → List DocRow → Type 0
IsNewIn atoms rows = (a : NamedAtom) → In a atoms → (x : DocRow) → In x rows → a.id ≢ row_id x

put_at : (rows : List DocRow) (x : AtomIdValue) (bit : Bit) (atoms : List NamedAtom) → IsDocument rows
    → Successive (λ (a b : NamedAtom). a.id ≢ b.id) atoms → IsNewIn atoms rows → (o : Option DocRow) → find_row x rows
    ≡ o → IsSome o
    → IsDocument (put_array_below (option_map (λ (r : DocRow). Below r.path bit) o) atoms rows)
put_at rows x bit atoms d apart new None e some = absurd (true≢false (sym some))
put_at rows x bit atoms d apart new (Some r) e some =
    array_document (Below r.path bit) atoms rows d (hangs_below rows d r bit (found x r rows e).0) apart new

put_keeps : (rows : List DocRow) (slot : Slot) (atoms : List NamedAtom) → IsDocument rows
    → Successive (λ (a b : NamedAtom). a.id ≢ b.id) atoms → IsNewIn atoms rows → IsTrue (is_rooted rows slot)
    → IsDocument (put_array slot atoms rows)
put_keeps rows Root atoms d apart new rooted = array_document Whole atoms rows d (hangs_whole rows) apart new
put_keeps rows (At x bit) atoms d apart new rooted = put_at rows x bit atoms d apart new (find_row x rows) refl rooted

-- an atom put in a slot whose atom is a row leaves a document
pub insert_keeps : (rows : List DocRow) (slot : Slot) (id : AtomIdValue) (atom : List ℕ) → IsDocument rows
    → IsNone (find_row id rows) → IsTrue (is_rooted rows slot) → IsDocument (insert_atom slot id atom rows)
insert_keeps rows slot id atom d new rooted =
    subst IsDocument (sym (atom_is_array slot id atom rows))
    (put_keeps rows slot (record { id = id; atom = atom } ∷ []) d (tt, tt)
    (λ a i x j e. ⊎_elim (λ (q : a ≡ record { id = id; atom = atom }). fresh id rows new x j
    (sym (ap (λ (b : NamedAtom). b.id) q) ∙ e)) (λ (z : ⊥). absurd z) i) rooted)

-- the identities of a run

later_offset : (dot : DotValue) (offset : ℕ) (run : List (List ℕ)) (a : NamedAtom)
    → In a (run_atoms_from dot offset run) → (a.id.dot ≡ dot) × (offset ≤ a.id.offset)
later_offset dot offset [] a i = absurd i
later_offset dot offset (atom ∷ run) a i =
    ⊎_elim (λ (e : a ≡ record { id = record { dot = dot; offset = offset }; atom = atom }). let same : a.id.offset
    ≡ offset = ap (λ (b : NamedAtom). b.id.offset) e in (ap (λ (b : NamedAtom). b.id.dot) e, omega arith))
    (λ (k : In a (run_atoms_from dot (suc offset) run)). let h = later_offset dot (suc offset) run a k in
    let more : suc offset ≤ a.id.offset = h.1 in (h.0, omega arith)) i

run_apart : (dot : DotValue) (offset : ℕ) (run : List (List ℕ))
    → Successive (λ (a b : NamedAtom). a.id ≢ b.id) (run_atoms_from dot offset run)
run_apart dot offset [] = tt
run_apart dot offset (atom ∷ run) = (
  all_of (λ (b : NamedAtom). record { dot = dot; offset = offset } ≢ b.id) (run_atoms_from dot (suc offset) run)
      (λ b i e. let h = (later_offset dot (suc offset) run b i).1 in
      let same : offset ≡ b.id.offset = ap (λ (x : AtomIdValue). x.offset) e in absurd (omega arith)),
  run_apart dot (suc offset) run,
)

-- those of a new run are of no row
pub run_is_new : (rows : List DocRow) (dot : DotValue) (run : List (List ℕ)) → IsFresh rows dot
    → IsNewIn (run_atoms dot run) rows
run_is_new rows dot run new a i x j e =
    all_in (λ (r : DocRow). (row_id r).dot ≢ dot) rows new x j
    (sym (ap (λ (y : AtomIdValue). y.dot) e) ∙ (later_offset dot 0 run a i).0)

-- a run put in a slot whose atom is a row leaves a document
pub run_keeps : (rows : List DocRow) (slot : Slot) (dot : DotValue) (run : List (List ℕ)) → IsDocument rows
    → IsFresh rows dot → IsTrue (is_rooted rows slot) → IsDocument (insert_run slot dot run rows)
run_keeps rows slot dot run d new rooted =
    put_keeps rows slot (run_atoms dot run) d (run_apart dot 0 run) (run_is_new rows dot run new) rooted

-- a row is found

in_found_at : (s r : DocRow) (rows : List DocRow) (b : Bool) → has_id (row_id s) r ≡ b → In s (r ∷ rows)
    → (In s rows → IsSome (find_row (row_id s) rows)) → IsSome (cond b (Some r) (find_row (row_id s) rows))
in_found_at s r rows true e i ih = refl
in_found_at s r rows false e i ih =
    ⊎_elim (λ (k : s ≡ r). absurd (true≢false (sym (self_id s) ∙ ap (has_id (row_id s)) k ∙ e)))
    (λ (j : In s rows). ih j) i

pub in_found : (s : DocRow) (rows : List DocRow) → In s rows → IsSome (find_row (row_id s) rows)
in_found s [] i = absurd i
in_found s (r ∷ rows) i = in_found_at s r rows (has_id (row_id s) r) refl i (in_found s rows)

unfound_at : (x : AtomIdValue) (r : DocRow) (rows : List DocRow) → has_id x r ≡ false → IsNone (find_row x rows)
    → IsNone (find_row x (r ∷ rows))
unfound_at x r rows e h = ap (λ (b : Bool). is_some (cond b (Some r) (find_row x rows))) e ∙ h

-- an identity that no row has is not found
pub unfound : (x : AtomIdValue) (rows : List DocRow) → ((s : DocRow) → In s rows → row_id s ≢ x)
    → IsNone (find_row x rows)
unfound x [] h = refl
unfound x (r ∷ rows) h = unfound_at x r rows (has_id-false x r (h r (inl refl))) (unfound x rows (λ s i. h s (inr i)))

-- the allocated slot names a row, or none

first_of_rooted : (rows all : List DocRow) → ((s : DocRow) → In s rows → In s all)
    → IsTrue (is_rooted all (slot_before (first_id rows)))
first_of_rooted [] all up = refl
first_of_rooted (r ∷ rows) all up = in_found r all (up r (inl refl))

next_rooted_at : (p : AtomIdValue) (r : DocRow) (rows all : List DocRow) (b : Bool)
    → ((s : DocRow) → In s (r ∷ rows) → In s all) → (((s : DocRow) → In s rows → In s all)
    → IsTrue (is_rooted all (slot_before (next_id p rows))))
    → IsTrue (is_rooted all (slot_before (cond b (first_id rows) (next_id p rows))))
next_rooted_at p r rows all true up ih = first_of_rooted rows all (λ s i. up s (inr i))
next_rooted_at p r rows all false up ih = ih (λ s i. up s (inr i))

next_rooted : (p : AtomIdValue) (rows all : List DocRow) → ((s : DocRow) → In s rows → In s all)
    → IsTrue (is_rooted all (slot_before (next_id p rows)))
next_rooted p [] all up = refl
next_rooted p (r ∷ rows) all up = next_rooted_at p r rows all (has_id p r) up (next_rooted p rows all)

alloc_rooted_at : (rows : List DocRow) (p : AtomIdValue) (b : Bool) → IsRow rows p
    → IsTrue (is_rooted rows (cond b (At p Right) (slot_before (next_id p rows))))
alloc_rooted_at rows p true h = h
alloc_rooted_at rows p false h = next_rooted p rows rows (λ s i. i)

pub alloc_rooted : (rows : List DocRow) (after : Option AtomIdValue) → ForSome after (IsRow rows)
    → IsTrue (is_rooted rows (alloc rows after))
alloc_rooted rows None h = first_of_rooted rows rows (λ s i. i)
alloc_rooted rows (Some p) h = alloc_rooted_at rows p (is_empty_slot rows (At p Right)) (h p refl)

-- whose rows they are afterwards

adds_at : (slot : SlotPath) (atoms : List NamedAtom) (rows : List DocRow) (s : DocRow)
    → In s (put_rows (array slot atoms) rows) → In s rows ⊎ In (named s) atoms
adds_at slot atoms rows s i = ⊎_elim (λ (j : In s (array slot atoms)). inr
    (subst (In (named s)) (array_names slot atoms) (In-map named s (array slot atoms) j))) (λ (j : In s rows). inl j)
    (in_puts (array slot atoms) rows s i)

below_adds : (o : Option SlotPath) (atoms : List NamedAtom) (rows : List DocRow) (s : DocRow)
    → In s (put_array_below o atoms rows) → In s rows ⊎ In (named s) atoms
below_adds None atoms rows s i = inl i
below_adds (Some slot) atoms rows s i = adds_at slot atoms rows s i

-- an insertion adds no row but the new ones
pub run_adds : (slot : Slot) (dot : DotValue) (run : List (List ℕ)) (rows : List DocRow) (s : DocRow)
    → In s (insert_run slot dot run rows) → In s rows ⊎ In (named s) (run_atoms dot run)
run_adds slot dot run rows s i = below_adds (slot_path rows slot) (run_atoms dot run) rows s i

pub insert_adds : (slot : Slot) (id : AtomIdValue) (atom : List ℕ) (rows : List DocRow) (s : DocRow)
    → In s (insert_atom slot id atom rows) → In s rows ⊎ (row_id s ≡ id)
insert_adds slot id atom rows s i =
    ⊎_elim (λ (j : In s rows). inl j) (λ (j : In (named s) (record { id = id; atom = atom } ∷ [])). ⊎_elim
    (λ (e : named s ≡ record { id = id; atom = atom }). inr (ap (λ (a : NamedAtom). a.id) e))
    (λ (z : ⊥). absurd z) j)
    (below_adds (slot_path rows slot) (record { id = id; atom = atom } ∷ []) rows s
    (subst (In s) (atom_is_array slot id atom rows) i))

-- no row goes

below_stays : (o : Option SlotPath) (atoms : List NamedAtom) (rows : List DocRow) (s : DocRow) → In s rows
    → In s (put_array_below o atoms rows)
below_stays None atoms rows s i = i
below_stays (Some slot) atoms rows s i = puts_in (array slot atoms) rows s (inr i)

pub run_stays : (slot : Slot) (dot : DotValue) (run : List (List ℕ)) (rows : List DocRow) (s : DocRow) → In s rows
    → In s (insert_run slot dot run rows)
run_stays slot dot run rows s i = below_stays (slot_path rows slot) (run_atoms dot run) rows s i

pub insert_stays : (slot : Slot) (id : AtomIdValue) (atom : List ℕ) (rows : List DocRow) (s : DocRow) → In s rows
    → In s (insert_atom slot id atom rows)
insert_stays slot id atom rows s i = subst (In s) (sym (atom_is_array slot id atom rows))
    (below_stays (slot_path rows slot) (record { id = id; atom = atom } ∷ []) rows s i)
