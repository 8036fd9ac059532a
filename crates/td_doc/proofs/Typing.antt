-- What is typed at an index stands at that index.
use Rattle.std.proofs.Common.{◌≡◌, ◌<◌, ◌≤◌, ◌-◌, ℕ, zero, suc, List, [], ◌∷◌, ◌++◌, Bool, true, false}
use Rattle.std.proofs.Common.{cond, map, take, drop, length, nat_eq, Option, Some, None, refl, sym, ap}
use Rattle.std.proofs.Common.{◌∙◌, subst, inl, arith, append_assoc, length-append}
use Rattle.std.specs.Prelude.{insert, slice_get}
use Rattle.std.specs.Option.{ForSome, option_map}
use Rattle.std.proofs.Math.Seq.{get_or-append_seam}
use Rattle.std.proofs.lemmas.Bool.Decides.{nat_tests}
use Rattle.std.proofs.lemmas.Option.{slice_get-get_or, same_Some, none-some}
use Rattle.std.proofs.lemmas.List.{map-append, take_at, drop_at}
use Rattle.std.proofs.lemmas.List.Elements.{filter-append}
use Rattle.td_base.specs.Value.{DotValue, AtomIdValue}
use Rattle.td_base.specs.Lists.{In}
use Rattle.td_base.proofs.Lists.{In-back}
use Rattle.td_doc.specs.Document.{DocRow, row_id, is_live, is_empty_list, live_rows, live_atoms, live_id_at, IsDocument}
use Rattle.td_doc.specs.Allocation.{alloc, anchor}
use Rattle.td_doc.specs.Insertion.{insert_atom, insert_run, IsNew, ComesBetween}
use Rattle.td_doc.specs.Array.{named}
use Rattle.td_base.specs.RunAtoms.{NamedAtom, run_atoms_from, run_atoms}
use Rattle.td_doc.specs.Stretches.{RunBetween}
use Rattle.td_doc.specs.Answers.{IsRow}
use Rattle.td_doc.proofs.Rules.{in_found}
use Rattle.td_doc.proofs.Placement.{placed_after, placed_first, run_after, run_first}

pub live_atoms-append : (xs ys : List DocRow) → live_atoms (xs ++ ys) ≡ live_atoms xs ++ live_atoms ys
live_atoms-append xs ys = ap (map (λ (r : DocRow). r.atom)) (filter-append is_live xs ys)
    ∙ map-append (λ (r : DocRow). r.atom) (live_rows xs) (live_rows ys)

live_atoms-live : (r : DocRow) (rows : List DocRow) → is_live r ≡ true → live_atoms (r ∷ rows)
    ≡ r.atom ∷ live_atoms rows
live_atoms-live r rows h = ap (λ b. map (λ (q : DocRow). q.atom) (cond b (r ∷ live_rows rows) (live_rows rows))) h

new_is_live : (id : AtomIdValue) (atom : List ℕ) (n : DocRow) → IsNew id atom n → is_live n ≡ true
new_is_live id atom n h = ap is_empty_list h.live

-- one more atom between those of the front and those of the back
typed_between : (id : AtomIdValue) (atom : List ℕ) (front back after : List DocRow)
    → ComesBetween id atom front back after → live_atoms after ≡ live_atoms front ++ atom ∷ live_atoms back
typed_between id atom front back after h =
    ap live_atoms h.is ∙ live_atoms-append front (h.row ∷ back)
    ∙ ap (λ (atoms : List (List ℕ)). live_atoms front ++ atoms)
    (live_atoms-live h.row back (new_is_live id atom h.row h.new)
    ∙ ap (λ (a : List ℕ). a ∷ live_atoms back) h.new.shows)

insert_at : (xs ys : List (List ℕ)) (i : ℕ) (a : List ℕ) → length xs ≡ i → xs ++ a ∷ ys ≡ insert (xs ++ ys) i a
insert_at xs ys i a h = λ k. sym (take_at xs ys i h) k ++ a ∷ sym (drop_at xs ys i h) k

-- the live row at an index, with the rows before it and after it
pub record LiveAt (rows : List DocRow) (i : ℕ) : Type 0 where
  pub front : List DocRow
  pub row : DocRow
  pub back : List DocRow
  pub is : rows ≡ front ++ row ∷ back
  pub live : is_live row ≡ true
  pub before : length (live_rows front) ≡ i

live_split_at : (r : DocRow) (rows : List DocRow) (i : ℕ) (b : Bool) → is_live r ≡ b
    → i < length (cond b (r ∷ live_rows rows) (live_rows rows))
    → ((j : ℕ) → j < length (live_rows rows) → LiveAt rows j) → LiveAt (r ∷ rows) i
live_split_at r rows zero true e h ih = record { front = []; row = r; back = rows; is = refl; live = e; before = refl }
live_split_at r rows (suc i) true e h ih =
    let s = ih i (omega arith) in
    record {
      front = r ∷ s.front;
      row = s.row;
      back = s.back;
      is = ap (λ (q : List DocRow). r ∷ q) s.is;
      live = s.live;
      before = ap (λ b. length (cond b (r ∷ live_rows s.front) (live_rows s.front))) e ∙ ap suc s.before;
    }
live_split_at r rows i false e h ih =
    let s = ih i h in
    record {
      front = r ∷ s.front;
      row = s.row;
      back = s.back;
      is = ap (λ (q : List DocRow). r ∷ q) s.is;
      live = s.live;
      before = ap (λ b. length (cond b (r ∷ live_rows s.front) (live_rows s.front))) e ∙ s.before;
    }

pub live_split : (rows : List DocRow) (i : ℕ) → i < length (live_rows rows) → LiveAt rows i
live_split [] i h = absurd (omega arith)
live_split (r ∷ rows) i h = live_split_at r rows i (is_live r) refl h (λ j k. live_split rows j k)

get_at : (xs : List DocRow) (x : DocRow) (ys : List DocRow) (i : ℕ) → length xs ≡ i → slice_get (xs ++ x ∷ ys) i
    ≡ Some x
get_at xs x ys i h =
    subst (λ k. slice_get (xs ++ x ∷ ys) k ≡ Some x) h
    (slice_get-get_or (xs ++ x ∷ ys) (length xs) x (omega (arith, length-append xs (x ∷ ys)))
    ∙ ap (λ (y : DocRow). Some y) (get_or-append_seam xs x ys x))

-- it is the one that the definition gives
pub live_row : (rows : List DocRow) (i : ℕ) (s : LiveAt rows i) → slice_get (live_rows rows) i ≡ Some s.row
live_row rows i s =
    let split : live_rows rows ≡ live_rows s.front ++ s.row ∷ live_rows s.back =
    ap live_rows s.is ∙ filter-append is_live s.front (s.row ∷ s.back)
    ∙ ap (λ b. live_rows s.front ++ cond b (s.row ∷ live_rows s.back) (live_rows s.back)) s.live in
    ap (λ (q : List DocRow). slice_get q i) split ∙ get_at (live_rows s.front) s.row (live_rows s.back) i s.before

pub live_id : (rows : List DocRow) (i : ℕ) (s : LiveAt rows i) → live_id_at rows i ≡ Some (row_id s.row)
live_id rows i s = ap (option_map row_id) (live_row rows i s)

length-map : (rows : List DocRow) → length (map (λ (r : DocRow). r.atom) rows) ≡ length rows
length-map [] = refl
length-map (r ∷ rows) = ap suc (length-map rows)

-- after the live row that has i live ones before it
typed_split : (front : List DocRow) (r : DocRow) (back : List DocRow) (i : ℕ) (id : AtomIdValue) (atom : List ℕ)
    → IsDocument (front ++ r ∷ back) → is_live r ≡ true → length (live_rows front) ≡ i
    → live_atoms (insert_atom (alloc (front ++ r ∷ back) (Some (row_id r))) id atom (front ++ r ∷ back))
    ≡ insert (live_atoms (front ++ r ∷ back)) (suc i) atom
typed_split front r back i id atom d live count =
    let first : List DocRow = front ++ r ∷ [] in
    let rows : live_rows first ≡ live_rows front ++ r ∷ [] =
    filter-append is_live front (r ∷ []) ∙ ap (λ b. live_rows front ++ cond b (r ∷ []) []) live in
    let so_many : length (live_atoms first) ≡ suc i =
    omega (arith, length-map (live_rows first), ap length rows, length-append (live_rows front) (r ∷ []), count) in
    typed_between id atom first back _ (placed_after front r back d id atom)
    ∙ insert_at (live_atoms first) (live_atoms back) (suc i) atom so_many
    ∙ ap (λ (atoms : List (List ℕ)). insert atoms (suc i) atom)
    (sym (live_atoms-append first back) ∙ ap live_atoms (append_assoc front (r ∷ []) back))

typed_after : (rows : List DocRow) (i : ℕ) (id : AtomIdValue) (atom : List ℕ) → IsDocument rows → (s : LiveAt rows i)
    → live_atoms (insert_atom (alloc rows (Some (row_id s.row))) id atom rows) ≡ insert (live_atoms rows) (suc i) atom
typed_after rows i id atom d s =
    subst (λ (q : List DocRow). IsDocument q → live_atoms (insert_atom (alloc q (Some (row_id s.row))) id atom q)
    ≡ insert (live_atoms q) (suc i) atom) (sym s.is)
    (λ e. typed_split s.front s.row s.back i id atom e s.live s.before) d

not_zero : (i : ℕ) → nat_eq (suc i) 0 ≡ false
not_zero i = grind (arith, nat_tests)

anchor_further : (rows : List DocRow) (i : ℕ) → anchor rows (suc i) ≡ live_id_at rows i
anchor_further rows i =
    let one_less : suc i - 1 ≡ i = omega arith in
    ap (λ b. cond b None (live_id_at rows (suc i - 1))) (not_zero i) ∙ ap (live_id_at rows) one_less

-- what is typed at an index stands at that index
pub typed : (rows : List DocRow) (index : ℕ) (id : AtomIdValue) (atom : List ℕ) → IsDocument rows
    → index ≤ length (live_rows rows) → live_atoms (insert_atom (alloc rows (anchor rows index)) id atom rows)
    ≡ insert (live_atoms rows) index atom
typed rows zero id atom d h = typed_between id atom [] rows _ (placed_first rows id atom)
typed rows (suc i) id atom d h =
    let s = live_split rows i (omega arith) in
    ap (λ (after : Option AtomIdValue). live_atoms (insert_atom (alloc rows after) id atom rows))
    (anchor_further rows i ∙ live_id rows i s) ∙ typed_after rows i id atom d s

-- what is before an index is a row, or the start
pub anchor_row : (rows : List DocRow) (index : ℕ) → index ≤ length (live_rows rows)
    → ForSome (anchor rows index) (IsRow rows)
anchor_row rows zero h = λ x e. absurd (none-some x e)
anchor_row rows (suc i) h =
    let s = live_split rows i (omega arith) in
    let there = in_found s.row rows (subst (In s.row) (sym s.is) (In-back s.row s.front (s.row ∷ s.back) (inl refl))) in
    λ x e. subst (IsRow rows) (same_Some (row_id s.row) x (sym (anchor_further rows i ∙ live_id rows i s) ∙ e)) there

pub count_of_atoms : (rows : List DocRow) → length (live_atoms rows) ≡ length (live_rows rows)
count_of_atoms rows = length-map (live_rows rows)

-- a run

pub atoms_named : (rows : List DocRow) → map (λ (a : NamedAtom). a.atom) (map named rows)
    ≡ map (λ (r : DocRow). r.atom) rows
atoms_named [] = refl
atoms_named (r ∷ rows) = ap (λ (q : List (List ℕ)). r.atom ∷ q) (atoms_named rows)

run_shown : (dot : DotValue) (offset : ℕ) (run : List (List ℕ))
    → map (λ (a : NamedAtom). a.atom) (run_atoms_from dot offset run) ≡ run
run_shown dot offset [] = refl
run_shown dot offset (atom ∷ run) = ap (λ (q : List (List ℕ)). atom ∷ q) (run_shown dot (suc offset) run)

-- the atoms of a run between those of the front and those of the back
pub run_typed_between : (dot : DotValue) (run : List (List ℕ)) (front back after : List DocRow)
    → RunBetween (run_atoms dot run) front back after → live_atoms after ≡ live_atoms front ++ run ++ live_atoms back
run_typed_between dot run front back after h =
    let shown : live_atoms h.new ≡ run = ap (map (λ (r : DocRow). r.atom)) h.live ∙ sym (atoms_named h.new)
    ∙ ap (map (λ (a : NamedAtom). a.atom)) h.atoms ∙ run_shown dot 0 run in
    ap live_atoms h.is ∙ live_atoms-append (front ++ h.new) back
    ∙ ap (λ (q : List (List ℕ)). q ++ live_atoms back)
    (live_atoms-append front h.new ∙ ap (λ (q : List (List ℕ)). live_atoms front ++ q) shown)

pub run_at : (xs ys run : List (List ℕ)) (i : ℕ) → length xs ≡ i → xs ++ run ++ ys ≡ take i (xs ++ ys) ++ run
    ++ drop i (xs ++ ys)
run_at xs ys run i h = λ k. sym (take_at xs ys i h) k ++ run ++ sym (drop_at xs ys i h) k

run_typed_split : (front : List DocRow) (r : DocRow) (back : List DocRow) (i : ℕ) (dot : DotValue)
    (run : List (List ℕ)) → IsDocument (front ++ r ∷ back) → is_live r ≡ true → length (live_rows front) ≡ i
    → live_atoms (insert_run (alloc (front ++ r ∷ back) (Some (row_id r))) dot run (front ++ r ∷ back))
    ≡ take (suc i) (live_atoms (front ++ r ∷ back)) ++ run ++ drop (suc i) (live_atoms (front ++ r ∷ back))
run_typed_split front r back i dot run d live count =
    let first : List DocRow = front ++ r ∷ [] in
    let rows : live_rows first ≡ live_rows front ++ r ∷ [] =
    filter-append is_live front (r ∷ []) ∙ ap (λ b. live_rows front ++ cond b (r ∷ []) []) live in
    let so_many : length (live_atoms first) ≡ suc i =
    omega (arith, length-map (live_rows first), ap length rows, length-append (live_rows front) (r ∷ []), count) in
    run_typed_between dot run first back _ (run_after front r back d dot run)
    ∙ run_at (live_atoms first) (live_atoms back) run (suc i) so_many
    ∙ ap (λ (atoms : List (List ℕ)). take (suc i) atoms ++ run ++ drop (suc i) atoms)
    (sym (live_atoms-append first back) ∙ ap live_atoms (append_assoc front (r ∷ []) back))

pub run_typed_after : (rows : List DocRow) (i : ℕ) (dot : DotValue) (run : List (List ℕ)) → IsDocument rows
    → (s : LiveAt rows i) → live_atoms (insert_run (alloc rows (Some (row_id s.row))) dot run rows)
    ≡ take (suc i) (live_atoms rows) ++ run ++ drop (suc i) (live_atoms rows)
run_typed_after rows i dot run d s =
    subst (λ (q : List DocRow). IsDocument q → live_atoms (insert_run (alloc q (Some (row_id s.row))) dot run q)
    ≡ take (suc i) (live_atoms q) ++ run ++ drop (suc i) (live_atoms q)) (sym s.is)
    (λ e. run_typed_split s.front s.row s.back i dot run e s.live s.before) d

-- what is pasted at an index stands at that index
pub run_typed : (rows : List DocRow) (index : ℕ) (dot : DotValue) (run : List (List ℕ)) → IsDocument rows
    → index ≤ length (live_rows rows)
    → live_atoms (insert_run (alloc rows (anchor rows index)) dot run rows) ≡ take index (live_atoms rows) ++ run
    ++ drop index (live_atoms rows)
run_typed rows zero dot run d h = run_typed_between dot run [] rows _ (run_first rows d dot run)
run_typed rows (suc i) dot run d h =
    let s = live_split rows i (omega arith) in
    ap (λ (after : Option AtomIdValue). live_atoms (insert_run (alloc rows after) dot run rows))
    (anchor_further rows i ∙ live_id rows i s) ∙ run_typed_after rows i dot run d s
