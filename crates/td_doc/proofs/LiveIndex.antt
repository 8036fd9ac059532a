-- Places among the live rows: that of a live row, and what a change does there.
use Rattle.std.proofs.Common.{◌≡◌, ◌≢◌, ◌<◌, ◌+◌, ℕ, suc, List, [], ◌∷◌, ◌++◌, Bool, true, false, not}
use Rattle.std.proofs.Common.{cond, map, filter, length, Option, Some, None, refl, sym, ap, ◌∙◌, subst}
use Rattle.std.proofs.Common.{inl, inr, true≢false, arith, append_assoc}
use Rattle.std.specs.Prelude.{remove, slice_get, IsTrue}
use Rattle.std.specs.List.{insert_slice}
use Rattle.std.specs.Option.{option_map}
use Rattle.std.proofs.lemmas.List.{append-nil}
use Rattle.std.proofs.lemmas.List.Elements.{filter-append}
use Rattle.std.proofs.lemmas.Option.{slice_get_within, same_Some}
use Rattle.td_base.specs.Value.{DotValue, AtomIdValue}
use Rattle.td_base.specs.Lists.{In}
use Rattle.td_base.proofs.Lists.{In-front, In-filter, across, all_in, successive_back}
use Rattle.td_path.specs.declared.slot.Slot.{Slot}
use Rattle.td_doc.specs.Document.{DocRow, row_id, has_id, find_row, is_live, live_rows}
use Rattle.td_doc.specs.Document.{live_atoms, live_id_at, IsDocument}
use Rattle.td_doc.specs.Allocation.{alloc}
use Rattle.td_base.specs.RunAtoms.{NamedAtom, run_atoms}
use Rattle.td_doc.specs.Array.{named}
use Rattle.td_doc.specs.Insertion.{insert_run}
use Rattle.td_doc.specs.Deletion.{delete}
use Rattle.td_doc.specs.Flatten.{flatten}
use Rattle.td_doc.specs.Answers.{IsFresh, is_rooted, is_live_found, is_live_id, live_before}
use Rattle.td_doc.proofs.PutRows.{Differ}
use Rattle.td_doc.proofs.Placement.{self_id, has_id-false, has_id-true, run_first}
use Rattle.td_base.proofs.Searches.{filter_all}
use Rattle.td_doc.proofs.Deleted.{delete_live}
use Rattle.td_doc.proofs.Flattened.{flatten_keeps_live}
use Rattle.td_doc.proofs.Typing.{live_split, live_id, live_atoms-append, atoms_named}
use Rattle.td_doc.proofs.Typing.{count_of_atoms, run_at, run_typed_after, run_typed_between}
use Rattle.td_doc.proofs.SubtreeRows.{find_in}
use Rattle.td_doc.proofs.Together.{run_together}
use Rattle.td_base.proofs.Elements.{remove_middle, insert_slice_nil, map-remove}

-- a live row with the identity, between the rows before it and those after it

pub record LiveRow (x : AtomIdValue) (rows : List DocRow) : Type 0 where
  pub front : List DocRow
  pub row : DocRow
  pub back : List DocRow
  pub is : rows ≡ front ++ row ∷ back
  pub named : row_id row ≡ x
  pub live : is_live row ≡ true

other_rows : (front : List DocRow) (r : DocRow) (back : List DocRow) → IsDocument (front ++ r ∷ back) → (s : DocRow)
    → In s front → row_id s ≢ row_id r
other_rows front r back d s i = across Differ front (r ∷ back) d.apart s r i (inl refl)

later_rows : (front : List DocRow) (r : DocRow) (back : List DocRow) → IsDocument (front ++ r ∷ back) → (s : DocRow)
    → In s back → row_id r ≢ row_id s
later_rows front r back d s i = all_in (Differ r) back (successive_back Differ front (r ∷ back) d.apart).0 s i

live_row_at : (x : AtomIdValue) (r : DocRow) (rows : List DocRow) (b : Bool) → has_id x r ≡ b
    → is_live_found (cond b (Some r) (find_row x rows)) ≡ true
    → (is_live_found (find_row x rows) ≡ true → LiveRow x rows) → LiveRow x (r ∷ rows)
live_row_at x r rows true e h ih = record {
  front = [];
  row = r;
  back = rows;
  is = refl;
  named = has_id-true x r e;
  live = h;
}
live_row_at x r rows false e h ih =
    let s = ih h in
    record {
      front = r ∷ s.front;
      row = s.row;
      back = s.back;
      is = ap (λ (q : List DocRow). r ∷ q) s.is;
      named = s.named;
      live = s.live;
    }

pub live_row_of : (x : AtomIdValue) (rows : List DocRow) → is_live_id rows x ≡ true → LiveRow x rows
live_row_of x [] h = absurd (true≢false (sym h))
live_row_of x (r ∷ rows) h = live_row_at x r rows (has_id x r) refl h (live_row_of x rows)

-- how many live rows stand before a row

abbrev one : Bool → ℕ
one b = cond b 1 0

live_count_at : (r : DocRow) (rows : List DocRow) (b : Bool) → is_live r ≡ b → length (live_rows (r ∷ rows))
    ≡ one b + length (live_rows rows)
live_count_at r rows true e = ap (λ b. length (cond b (r ∷ live_rows rows) (live_rows rows))) e ∙ omega arith
live_count_at r rows false e = ap (λ b. length (cond b (r ∷ live_rows rows) (live_rows rows))) e ∙ omega arith

before_at : (front : List DocRow) (r : DocRow) (back : List DocRow)
    → ((s : DocRow) → In s front → row_id s ≢ row_id r) → live_before (row_id r) (front ++ r ∷ back)
    ≡ length (live_rows front)
before_at [] r back h = ap (λ b. cond b 0 (one (is_live r) + live_before (row_id r) back)) (self_id r)
before_at (s ∷ front) r back h =
    ap (λ b. cond b 0 (one (is_live s) + live_before (row_id r) (front ++ r ∷ back)))
    (has_id-false (row_id r) s (h s (inl refl)))
    ∙ ap (λ n. one (is_live s) + n) (before_at front r back (λ q i. h q (inr i)))
    ∙ sym (live_count_at s front (is_live s) refl)

before_here : (x : AtomIdValue) (rows : List DocRow) → IsDocument rows → (s : LiveRow x rows) → live_before x rows
    ≡ length (live_rows s.front)
before_here x rows d s =
    (λ i. live_before (sym s.named i) (s.is i))
    ∙ before_at s.front s.row s.back (other_rows s.front s.row s.back (subst IsDocument s.is d))

-- the index that is told of a live row is the one at which it is found
pub found_at_index : (rows : List DocRow) (x : AtomIdValue) → IsDocument rows → is_live_id rows x ≡ true
    → live_id_at rows (live_before x rows) ≡ Some x
found_at_index rows x d h =
    let s = live_row_of x rows h in
    ap (live_id_at rows) (before_here x rows d s) ∙ live_id rows (length (live_rows s.front))
    (record { front = s.front; row = s.row; back = s.back; is = s.is; live = s.live; before = refl })
    ∙ ap (λ (y : AtomIdValue). Some y) s.named

some_within : (rows : List DocRow) (i : ℕ) (x : AtomIdValue) (o : Option DocRow) → slice_get (live_rows rows) i ≡ o
    → option_map row_id o ≡ Some x → i < length (live_rows rows)
some_within rows i x None e h = absurd cc
some_within rows i x (Some r) e h = slice_get_within (live_rows rows) i r e

live_here : (rows : List DocRow) (i : ℕ) (x : AtomIdValue) → IsDocument rows → live_id_at rows i ≡ Some x
    → (s : LiveRow x rows) × (length (live_rows s.front) ≡ i)
live_here rows i x d h =
    let s = live_split rows i (some_within rows i x (slice_get (live_rows rows) i) refl h) in (
      record {
        front = s.front;
        row = s.row;
        back = s.back;
        is = s.is;
        named = same_Some (row_id s.row) x (sym (live_id rows i s) ∙ h);
        live = s.live;
      },
      s.before,
    )

-- and back
pub index_of_found : (rows : List DocRow) (i : ℕ) (x : AtomIdValue) → IsDocument rows → live_id_at rows i ≡ Some x
    → live_before x rows ≡ i
index_of_found rows i x d h = let s = live_here rows i x d h in before_here x rows d s.0 ∙ s.1

-- what a delete takes away

abbrev others : AtomIdValue → DocRow → Bool
others x r = not (has_id x r)

keep_others : (x : AtomIdValue) (rows : List DocRow) → ((s : DocRow) → In s rows → row_id s ≢ x)
    → filter (others x) (live_rows rows) ≡ live_rows rows
keep_others x rows h = filter_all (others x) (live_rows rows)
    (λ s i. ap not (has_id-false x s (h s (In-filter is_live s rows i).0)))

one_gone : (front : List DocRow) (r : DocRow) (back : List DocRow) → IsDocument (front ++ r ∷ back) → is_live r ≡ true
    → filter (others (row_id r)) (live_rows (front ++ r ∷ back)) ≡ live_rows front ++ live_rows back
one_gone front r back d live =
    ap (filter (others (row_id r))) (filter-append is_live front (r ∷ back)
    ∙ ap (λ b. live_rows front ++ cond b (r ∷ live_rows back) (live_rows back)) live)
    ∙ filter-append (others (row_id r)) (live_rows front) (r ∷ live_rows back)
    ∙ (λ i. keep_others (row_id r) front (other_rows front r back d) i
    ++ cond (not (self_id r i)) (r ∷ filter (others (row_id r)) (live_rows back))
    (filter (others (row_id r)) (live_rows back)))
    ∙ ap (λ (q : List DocRow). live_rows front ++ q)
    (keep_others (row_id r) back (λ s i e. later_rows front r back d s i (sym e)))

cut_row : (x : AtomIdValue) (by : DotValue) (rows : List DocRow) → IsDocument rows → (s : LiveRow x rows)
    → live_rows (delete x by rows) ≡ remove (live_rows rows) (length (live_rows s.front))
cut_row x by rows d s =
    delete_live x by rows
    ∙ (λ i. filter (others (sym s.named i)) (live_rows (s.is i)))
    ∙ one_gone s.front s.row s.back (subst IsDocument s.is d) s.live
    ∙ remove_middle (live_rows s.front) s.row (live_rows s.back) (length (live_rows s.front)) refl
    ∙ ap (λ (q : List DocRow). remove q (length (live_rows s.front)))
    (sym (ap live_rows s.is ∙ filter-append is_live s.front (s.row ∷ s.back)
    ∙ ap (λ b. live_rows s.front ++ cond b (s.row ∷ live_rows s.back) (live_rows s.back)) s.live))

-- the atom at the index goes
pub deleted_at : (rows : List DocRow) (i : ℕ) (x : AtomIdValue) (by : DotValue) → IsDocument rows → live_id_at rows i
    ≡ Some x
    → live_rows (delete x by rows) ≡ remove (live_rows rows) i
deleted_at rows i x by d h = let s = live_here rows i x d h in
    cut_row x by rows d s.0 ∙ ap (remove (live_rows rows)) s.1

atoms_cut : (rows after : List DocRow) (i : ℕ) → live_rows after ≡ remove (live_rows rows) i → live_atoms after
    ≡ remove (live_atoms rows) i
atoms_cut rows after i e = ap (map (λ (r : DocRow). r.atom)) e ∙ map-remove (λ (r : DocRow). r.atom) (live_rows rows) i

pub delete_cuts : (rows : List DocRow) (x : AtomIdValue) (by : DotValue) → IsDocument rows → is_live_id rows x ≡ true
    → live_atoms (delete x by rows) ≡ remove (live_atoms rows) (live_before x rows)
delete_cuts rows x by d h = atoms_cut rows (delete x by rows) (live_before x rows)
    (deleted_at rows (live_before x rows) x by d (found_at_index rows x d h))

-- a delete of a tombstone, or of no row, takes nothing away
pub delete_again : (rows : List DocRow) (x : AtomIdValue) (by : DotValue) → IsDocument rows → is_live_id rows x
    ≡ false → live_rows (delete x by rows) ≡ live_rows rows
delete_again rows x by d h = delete_live x by rows ∙ filter_all (others x) (live_rows rows) kept
  where
    kept : (s : DocRow) → In s (live_rows rows) → others x s ≡ true
    kept s i =
        let q = In-filter is_live s rows i in
        ap not (has_id-false x s (λ e. true≢false (sym
        (ap is_live_found (ap (λ (y : AtomIdValue). find_row y rows) (sym e) ∙ find_in rows s d.apart q.0) ∙ q.1)
        ∙ h)))

-- where a run comes to stand

heads : (a b : NamedAtom) (more rest : List NamedAtom) → a ∷ more ≡ b ∷ rest → a ≡ b
heads a b more rest e = cc

abbrev first_of : DotValue → AtomIdValue
first_of dot = record { dot = dot; offset = 0 }

first_before : (x : AtomIdValue) (front : List DocRow) (n : DocRow) (ns back : List DocRow) → row_id n ≡ x
    → ((s : DocRow) → In s front → row_id s ≢ x)
    → live_before x (front ++ (n ∷ ns) ++ back) ≡ length (live_rows front)
first_before x front n ns back e h =
    ap (live_before x) (append_assoc front (n ∷ ns) back) ∙ (λ i. live_before (sym e i) (front ++ n ∷ (ns ++ back)))
    ∙ before_at front n (ns ++ back) (λ s i q. h s i (q ∙ e))

module _ (dot : DotValue) (front back rows after : List DocRow) (was : rows ≡ front ++ back)
    (new : (s : DocRow) → In s front → row_id s ≢ first_of dot) where
  shown_before : live_atoms rows ≡ live_atoms front ++ live_atoms back
  shown_before = ap live_atoms was ∙ live_atoms-append front back

  put_at_first : (run : List (List ℕ)) (rows_of : List DocRow) → map named rows_of ≡ run_atoms dot run → after ≡ front
      ++ rows_of ++ back
      → live_atoms after ≡ live_atoms front ++ run ++ live_atoms back → live_atoms after
      ≡ insert_slice (live_atoms rows) (live_before (first_of dot) after) run
  put_at_first [] rows_of e is shown =
      shown ∙ ap (λ (q : List (List ℕ)). q ++ live_atoms back) (append-nil (live_atoms front)) ∙ sym shown_before
      ∙ sym (insert_slice_nil (live_atoms rows) (live_before (first_of dot) after))
  put_at_first (a ∷ run) [] e is shown = absurd cc
  put_at_first (a ∷ run) (n ∷ ns) e is shown =
      let place : live_before (first_of dot) after ≡ length (live_atoms front) =
      ap (live_before (first_of dot)) is ∙ first_before (first_of dot) front n ns back (first_named n ns e) new
      ∙ sym (count_of_atoms front) in
      shown ∙ run_at (live_atoms front) (live_atoms back) (a ∷ run) (live_before (first_of dot) after) (sym place)
      ∙ ap (λ (q : List (List ℕ)). insert_slice q (live_before (first_of dot) after) (a ∷ run)) (sym shown_before)
    where
      first_named : (n : DocRow) (ns : List DocRow) → map named (n ∷ ns) ≡ run_atoms dot (a ∷ run) → row_id n
          ≡ first_of dot
      first_named n ns e = ap (λ (b : NamedAtom). b.id) (heads _ _ _ _ e)

-- the atoms of a run stand at the place of the first of them
pub run_put : (rows : List DocRow) (slot : Slot) (dot : DotValue) (run : List (List ℕ)) → IsDocument rows
    → IsFresh rows dot → IsTrue (is_rooted rows slot)
    → live_atoms (insert_run slot dot run rows) ≡ insert_slice (live_atoms rows)
    (live_before (first_of dot) (insert_run slot dot run rows)) run
run_put rows slot dot run d new rooted =
    let t = run_together rows slot dot run d new rooted in
    put_at_first dot t.front t.back rows (insert_run slot dot run rows) t.was
    (λ s i e. all_in (λ (r : DocRow). (row_id r).dot ≢ dot) rows new s
    (subst (In s) (sym t.was) (In-front s t.front t.back i)) (ap (λ (y : AtomIdValue). y.dot) e))
    run t.is.new t.is.atoms t.is.is (run_typed_between dot run t.front t.back (insert_run slot dot run rows) t.is)

-- after a live atom
pub run_put_after : (rows : List DocRow) (x : AtomIdValue) (dot : DotValue) (run : List (List ℕ)) → IsDocument rows
    → is_live_id rows x ≡ true
    → live_atoms (insert_run (alloc rows (Some x)) dot run rows)
    ≡ insert_slice (live_atoms rows) (suc (live_before x rows)) run
run_put_after rows x dot run d h =
    let s = live_row_of x rows h in
    let i = length (live_rows s.front) in
    ap (λ (y : AtomIdValue). live_atoms (insert_run (alloc rows (Some y)) dot run rows)) (sym s.named)
    ∙ run_typed_after rows i dot run d (record {
      front = s.front;
      row = s.row;
      back = s.back;
      is = s.is;
      live = s.live;
      before = refl;
    })
    ∙ ap (λ k. insert_slice (live_atoms rows) (suc k) run) (sym (before_here x rows d s))

-- a flatten changes no atom that is shown
pub flatten_shows : (rows : List DocRow) (slot : Slot) → IsDocument rows → live_atoms (flatten slot rows)
    ≡ live_atoms rows
flatten_shows rows slot d =
    sym (atoms_named (live_rows (flatten slot rows)))
    ∙ ap (map (λ (a : NamedAtom). a.atom)) (flatten_keeps_live rows slot d) ∙ atoms_named (live_rows rows)

-- at the start
pub run_put_first : (rows : List DocRow) (dot : DotValue) (run : List (List ℕ)) → IsDocument rows
    → live_atoms (insert_run (alloc rows None) dot run rows) ≡ insert_slice (live_atoms rows) 0 run
run_put_first rows dot run d = run_typed_between dot run [] rows _ (run_first rows d dot run)
