-- The rows of an insert's run, in one new leaf.
use Rattle.std.proofs.Common.{◌≡◌, ◌≢◌, ◌+◌, ◌-◌, ◌*◌, ◌/◌, ◌<◌, ◌≤◌, ◌^◌, ℕ, zero, suc, List, [], ◌∷◌, ◌++◌, length}
use Rattle.std.proofs.Common.{get_or, map, refl, sym, ap, ◌∙◌, subst, inl, ⊎_elim, arith, Option, Some}
use Rattle.std.specs.Prelude.{IsNone, IsTrue}
use Rattle.std.specs.List.{range_with_len}
use Rattle.std.proofs.lemmas.List.{append-nil, get_or_push, length_push, get_or-append-add, take_all}
use Rattle.std.proofs.lemmas.List.FromFn.{length-range_with_len, get_or-range_with_len}
use Rattle.td_base.specs.Lists.{In}
use Rattle.td_base.specs.RunAtoms.{run_atoms_from, run_atoms}
use Rattle.td_base.specs.Value.{DotValue, AtomIdValue}
use Rattle.td_base.proofs.Lists.{all_in}
use Rattle.td_path.specs.declared.slot.Slot.{Slot}
use Rattle.td_doc.specs.Document.{DocRow, row_id, find_row}
use Rattle.td_doc.specs.Slots.{slot_path}
use Rattle.td_doc.specs.Answers.{IsFresh, is_rooted}
use Rattle.td_doc.specs.Insertion.{insert_run}
use Rattle.td_doc.proofs.Rules.{unfound}
use Rattle.td_list.specs.Items.{Item, AreApart, put_at}
use Rattle.td_brackets.specs.Brackets.{Token, Leaf, Entry, atom_of, numbers_of, slot_of, rows_of, IsBrackets}
use Rattle.td_brackets.specs.Laws.{Standing, AllAfter}
use Rattle.td_brackets.proofs.Kept.{same_standing}
use Rattle.td_brackets.proofs.PutRuns.{put_run_is, put_run_brackets}
use Rattle.td_tree.specs.declared.tree_row.RowState.TheVariants.{InArray}
use Rattle.td_tree.specs.Parts.{RowValue, Parts, nobody, row_at, state_at, table, array_at, part}
use Rattle.td_tree.specs.Parts.{row_of_array, tokens_of, tokens, doc_rows, IsPart, IsToken}
use Rattle.td_tree.specs.Parts.{atom_item, leaf_item, Cut, OneLeaf, IsAt, IsTree}
use Rattle.td_tree.specs.Places.{IsPlace, IsNewPlace, run_rows, top_id, IsRunPut}
use Rattle.td_tree.proofs.ArrayParts.{part_length, part_place, part_halves}
use Rattle.td_tree.proofs.ItemTokens.{leaf_token}
use Rattle.td_tree.proofs.Pieces.{leaf_is_token}
use Rattle.td_tree.proofs.Grown.{put_parts, long, agree, old_tokens, new_tokens, grown_tree}
use Rattle.td_base.proofs.Lists.{In-back}

-- the new rows, and their identities

pub run_long : (a : ℕ) (dot : DotValue) (k : ℕ) (run : List (List ℕ)) → length (run_rows a dot k run) ≡ length run
run_long a dot k [] = refl
run_long a dot k (atom ∷ run) = ap suc (run_long a dot (suc k) run)

abbrev pub run_row : ℕ → DotValue → ℕ → List ℕ → RowValue
run_row a dot k atom = record {
  entry = record { id = record { dot = dot; offset = k }; atom = atom; deletes = [] };
  state = InArray a k;
}

pub run_row_at : (a : ℕ) (dot : DotValue) (k : ℕ) (run : List (List ℕ)) (i : ℕ) → i < length run
    → get_or (run_rows a dot k run) i nobody ≡ run_row a dot (k + i) (get_or run i [])
run_row_at a dot k [] i l = absurd (omega arith)
run_row_at a dot k (atom ∷ run) zero l = let e : k ≡ k + 0 = omega arith in ap (λ (o : ℕ). run_row a dot o atom) e
run_row_at a dot k (atom ∷ run) (suc i) l =
    let e : suc k + i ≡ k + suc i = omega arith in
    run_row_at a dot (suc k) run i (omega arith) ∙ ap (λ (o : ℕ). run_row a dot o (get_or run i [])) e

run_names : (next : ℕ → Entry) (dot : DotValue) (k n : ℕ) (run : List (List ℕ))
    → ((i : ℕ) → i < length run → atom_of next (n + i)
    ≡ record { id = record { dot = dot; offset = k + i }; atom = get_or run i [] })
    → map (atom_of next) (range_with_len n (length run)) ≡ run_atoms_from dot k run
run_names next dot k n [] h = refl
run_names next dot k n (atom ∷ run) h = λ i. first i ∷ run_names next dot (suc k) (n + 1) run rest i
  where
    first : atom_of next n ≡ record { id = record { dot = dot; offset = k }; atom = atom }
    first =
        let e : n ≡ n + 0 = omega arith in
        let f : k + 0 ≡ k = omega arith in
        ap (atom_of next) e ∙ h 0 (omega arith) ∙ (λ i. record { id = record { dot = dot; offset = f i }; atom = atom })

    rest : (i : ℕ) → i < length run → atom_of next ((n + 1) + i)
        ≡ record { id = record { dot = dot; offset = suc k + i }; atom = get_or run i [] }
    rest i l =
        let e : (n + 1) + i ≡ n + suc i = omega arith in
        let f : k + suc i ≡ suc k + i = omega arith in
        ap (atom_of next) e ∙ h (suc i) (omega arith) ∙ (λ j. record
        { id = record { dot = dot; offset = f j }; atom = get_or run i [] })

-- no row has the identity of a fresh dot
pub fresh_unfound : (rows : List DocRow) (dot : DotValue) (k : ℕ) → IsFresh rows dot
    → IsNone (find_row (record { dot = dot; offset = k }) rows)
fresh_unfound rows dot k fresh = unfound (record { dot = dot; offset = k }) rows
    (λ s i e. all_in (λ (r : DocRow). (row_id r).dot ≢ dot) rows fresh s i (ap (λ (x : AtomIdValue). x.dot) e))

-- the item of the leaf
abbrev pub run_item : ℕ → ℕ → Item
run_item n j = atom_item (n + j / 2) j

module _ (p : Parts) (t : IsTree p) (at : Option ℕ) (dot : DotValue) (run : List (List ℕ)) where
  abbrev n : ℕ
  n = length p.rows

  abbrev j : ℕ
  j = length run

  abbrev a : ℕ
  a = length p.arrays

  abbrev numbers : List ℕ
  numbers = range_with_len n j

  abbrev more : List RowValue
  more = run_rows a dot 0 run

  abbrev pub with_run : Parts
  with_run = record {
    items = put_at at (run_item (length p.rows) (length run) ∷ []) p.items;
    rows = p.rows ++ run_rows (length p.arrays) dot 0 run;
    arrays = p.arrays ++ range_with_len (length p.rows) (length run) ∷ [];
    nodes = p.nodes;
    count = p.count + length run;
  }

  module _ (slot : Slot) (place : IsNewPlace p slot (top_id dot run) at) (fresh : IsFresh (doc_rows p) dot)
      (some : 0 < length run) (few : length p.rows + length run < 2 ^ 30)
      (rooted : IsTrue (is_rooted (doc_rows p) slot)) where
    abbrev pl : IsPlace p slot (top_id dot run) at
    pl = place.place

    abbrev q : Parts
    q = with_run

    abbrev piece : List Item
    piece = run_item n j ∷ []

    items_are : q.items ≡ pl.front ++ (piece ++ pl.back)
    items_are = ap (put_at at piece) pl.is ∙ put_parts at piece pl.front pl.back (subst AreApart pl.is t.apart) pl.here

    more_rows : length q.rows ≡ n + j
    more_rows = let two = run_long a dot 0 run in let one =
        long p t pl.front pl.back pl.is q piece more (numbers ∷ []) items_are refl refl in omega arith

    numbers_long : length numbers ≡ j
    numbers_long = length-range_with_len n j

    array_is : array_at q a ≡ numbers
    array_is = get_or_push p.arrays numbers [] a refl

    array_long : length (array_at q a) ≡ j
    array_long = ap length array_is ∙ numbers_long

    row_there : (k : ℕ) → k < j → row_of_array q a k ≡ n + k
    row_there k l = ap (λ (xs : List ℕ). get_or xs k 0) array_is ∙ get_or-range_with_len n j k 0 l

    row_is : (k : ℕ) → k < j → row_at q (n + k) ≡ run_row a dot k (get_or run k [])
    row_is k l = get_or-append-add p.rows more k nobody ∙ run_row_at a dot 0 run k l
        ∙ (let e : 0 + k ≡ k = omega arith in ap (λ (o : ℕ). run_row a dot o (get_or run k [])) e)

    state_is : (k : ℕ) → k < j → state_at q (n + k) ≡ InArray a k
    state_is k l = ap (λ (v : RowValue). v.state) (row_is k l)

    arrays_long : length q.arrays ≡ a + 1
    arrays_long = length_push p.arrays numbers

    arrays_more : a < length q.arrays
    arrays_more = omega (arith, arrays_long)

    is_part : IsPart q a 0 j
    is_part = record {
      array = arrays_more;
      some = some;
      within = omega (arith, array_long);
      stand = λ k low high. let l : k < j = omega arith in ap (state_at q) (row_there k l) ∙ state_is k l;
    }

    half : j / 2 < j
    half = omega arith

    item_is : leaf_item q a 0 j ≡ run_item n j
    item_is = let e : 0 + j / 2 ≡ j / 2 = omega arith in
        ap (λ (r : ℕ). atom_item r j) (ap (row_of_array q a) e ∙ row_there (j / 2) half)

    -- the leaf, parted at its top

    abbrev before : List ℕ
    before = part numbers 0 (j / 2)

    abbrev m : ℕ
    m = get_or numbers (0 + j / 2) 0

    abbrev after : List ℕ
    after = part numbers (0 + j / 2 + 1) (j - j / 2 - 1)

    abbrev rs : List ℕ
    rs = before ++ m ∷ after

    whole : numbers ≡ rs
    whole = sym (take_all j numbers (omega (arith, numbers_long)))
        ∙ part_halves numbers 0 j some (omega (arith, numbers_long))

    top_is : m ≡ n + j / 2
    top_is = let e : 0 + j / 2 ≡ j / 2 = omega arith in
        ap (λ (k : ℕ). get_or numbers k 0) e ∙ get_or-range_with_len n j (j / 2) 0 half

    in_middle : length before ≡ length rs / 2
    in_middle = part_length numbers 0 (j / 2) (omega (arith, numbers_long, half))
        ∙ ap (λ (k : ℕ). k / 2) (sym numbers_long ∙ ap length whole)

    piece_is : tokens_of q piece ≡ Leaf rs ∷ []
    piece_is =
        ap (tokens_of q) (ap (λ (i : Item). i ∷ []) (sym item_is))
        ∙ ap (λ (x : Token). x ∷ []) (leaf_token q a 0 j is_part ∙ ap (λ (xs : List ℕ). Leaf (part xs 0 j)) array_is
        ∙ ap Leaf (take_all j numbers (omega (arith, numbers_long)) ∙ whole))

    rs_long : length (rs ++ []) ≡ j
    rs_long = ap length (append-nil rs ∙ sym whole) ∙ numbers_long

    in_run : (r : ℕ) → In r rs → (k : ℕ) × (k < j) × (r ≡ n + k)
    in_run r i =
        let f : (k : ℕ) × (0 ≤ k) × (k < 0 + j) × (r ≡ get_or numbers k 0) =
        part_place numbers 0 j r (subst (In r) (sym whole
        ∙ sym (take_all j numbers (omega (arith, numbers_long)))) i) in
        let l : f.0 < j = below f.0 f.2 in
        (f.0, l, f.3 ∙ get_or-range_with_len n j f.0 0 l)
      where
        below : (k : ℕ) → k < 0 + j → k < j
        below k l = omega arith

    live : (r : ℕ) → In r rs → (table q r).deletes ≡ []
    live r i = let f = in_run r i in ap (λ (x : ℕ). (table q x).deletes) f.2
        ∙ ap (λ (v : RowValue). v.entry.deletes) (row_is f.0 f.1)

    atoms : map (atom_of (table q)) rs ≡ run_atoms dot run
    atoms =
        ap (map (atom_of (table q))) (sym whole)
        ∙ run_names (table q) dot 0 n run
        (λ k l. let e : k ≡ 0 + k = omega arith in (λ i. record
        { id = (row_is k l i).entry.id; atom = (row_is k l i).entry.atom })
        ∙ (λ i. record { id = record { dot = dot; offset = e i }; atom = get_or run k [] }))

    named : top_id dot run ≡ (table q m).id
    named = sym (ap (λ (x : ℕ). (table q x).id) top_is ∙ ap (λ (v : RowValue). v.entry.id) (row_is (j / 2) half))

    -- the place

    agrees : (s : ℕ) → In s (numbers_of (tokens p)) → table q s ≡ table p s
    agrees = agree p t pl.front pl.back pl.is q piece more (numbers ∷ []) items_are refl refl

    was : tokens p ≡ tokens_of p pl.front ++ tokens_of p pl.back
    was = old_tokens p t pl.front pl.back pl.is q piece more (numbers ∷ []) items_are refl refl

    moved : Standing (table q) (tokens p) pl.stack (top_id dot run) (tokens_of p pl.front) (tokens_of p pl.back)
        × AllAfter (table q) pl.stack (top_id dot run) (tokens_of p pl.back)
        × (slot_of (table q) pl.stack ≡ slot_of (table p) pl.stack)
    moved =
        same_standing (table p) (table q) (tokens p) pl.stack (top_id dot run) (tokens_of p pl.front)
        (tokens_of p pl.back) t.brackets.word agrees
        (record { is = was; moved = pl.moved; before = pl.before }) place.after

    there : slot_path (doc_rows p) slot ≡ Some (slot_of (table q) pl.stack)
    there = pl.slot_is ∙ ap Some (sym moved.2)

    standing : Standing (table q) (tokens p) pl.stack (table q m).id (tokens_of p pl.front) (tokens_of p pl.back)
    standing = subst (λ (x : AtomIdValue). Standing (table q) (tokens p) pl.stack x (tokens_of p pl.front)
        (tokens_of p pl.back)) named moved.0

    behind : AllAfter (table q) pl.stack (table q m).id (tokens_of p pl.back)
    behind = subst (λ (x : AtomIdValue). AllAfter (table q) pl.stack x (tokens_of p pl.back)) named moved.1

    brackets : IsBrackets (table q) (tokens_of p pl.front ++ Leaf rs ∷ tokens_of p pl.back)
    brackets = put_run_brackets (table p) (table q) (tokens p) t.brackets agrees dot run fresh before m after
        in_middle atoms live (tokens_of p pl.front) (tokens_of p pl.back) was pl.stack slot standing behind there rooted

    each_new : (i : Item) → In i piece → IsToken q i
    each_new i x =
        ⊎_elim
        (λ (e : i ≡ run_item n j).
        let f : 0 + j / 2 ≡ j / 2 = omega arith in
        let at_top = ap (row_of_array q a) f ∙ row_there (j / 2) half in
        subst (IsToken q) (item_is ∙ sym e) (leaf_is_token q a 0 j (omega (arith, at_top, more_rows, half)) is_part))
        (λ (z : ⊥). absurd z) x

    at_new : (r : ℕ) → n ≤ r → r < length q.rows → IsAt q r (state_at q r)
    at_new r low high =
        let k : ℕ = r - n in
        let l : k < j = omega (arith, more_rows) in
        let same : n + k ≡ r = omega arith in
        subst (λ (x : ℕ). IsAt q x (state_at q x)) same
        (subst (IsAt q (n + k)) (sym (state_is k l)) (arrays_more, omega (arith, array_long), row_there k l))

    cut_new : (b : ℕ) → a ≤ b → b < length q.arrays → Cut q b 0 (length (array_at q b))
    cut_new b low high =
        let same : a ≡ b = omega (arith, arrays_long) in
        subst (λ (x : ℕ). Cut q x 0 (length (array_at q x))) same
        (subst (Cut q a 0) (sym array_long)
        (OneLeaf 0 j is_part
        (subst (λ (i : Item). In i q.items) (sym item_is)
        (subst (In (run_item n j)) (sym items_are) (In-back (run_item n j) pl.front (piece ++ pl.back)
        (inl refl))))))

    named_new : (b k : ℕ) → a ≤ b → b < length q.arrays → k < length (array_at q b) → row_of_array q b k < length q.rows
    named_new b k low high l =
        let same : b ≡ a = omega (arith, arrays_long) in
        let m : k < j = subst (λ (x : ℕ). k < x) array_long (subst (λ (x : ℕ). k < length (array_at q x)) same l) in
        let at_top : row_of_array q a k ≡ n + k = row_there k m in
        subst (λ (x : ℕ). row_of_array q x k < length q.rows) (sym same) (omega (arith, more_rows))

    short_new : (b : ℕ) → a ≤ b → b < length q.arrays → length (array_at q b) ≤ 2 ^ 30
    short_new b low high =
        let same : b ≡ a = omega (arith, arrays_long) in
        subst (λ (x : ℕ). length (array_at q x) ≤ 2 ^ 30) (sym same) (omega (arith, array_long))

    pub run_tree : IsTree q
    run_tree =
        grown_tree p t pl.front pl.back pl.is q piece more (numbers ∷ []) items_are refl refl (Leaf rs ∷ []) piece_is
        brackets
        each_new (tt, tt) (λ x i. ⊎_elim (λ (e : x ≡ 3 * (n + j / 2) + 1). omega arith) (λ (z : ⊥). absurd z) i)
        at_new cut_new named_new short_new (omega arith)
        (omega (arith, rs_long)) (omega (arith, rs_long, run_long a dot 0 run))
        (omega (arith, rs_long, run_long a dot 0 run)) (omega (arith, run_long a dot 0 run))
        (omega (arith, more_rows))

    pub run_is : doc_rows q ≡ insert_run slot dot run (doc_rows p)
    run_is =
        ap (rows_of (table q)) (new_tokens p t pl.front pl.back pl.is q piece more (numbers ∷ []) items_are refl refl
        (Leaf rs ∷ []) piece_is)
        ∙ put_run_is (table p) (table q) (tokens p) t.brackets agrees dot run fresh before m after in_middle atoms
        live (tokens_of p pl.front) (tokens_of p pl.back) was pl.stack slot standing behind there

  pub is_run_put : IsFresh (doc_rows p) dot → 0 < length run → length p.rows + length run < 2 ^ 30
      → IsRunPut p with_run at dot run
  is_run_put fresh some few = record {
    rows = refl;
    nodes = refl;
    there = λ slot place rooted. (
      run_tree slot place fresh some few rooted,
      run_is slot place fresh some few
          rooted,
    );
  }
