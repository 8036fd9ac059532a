-- A run put as one leaf at the place of its top is the insertion of the run.
use Rattle.std.proofs.Common.{◌≡◌, ◌≢◌, ◌⊎◌, ◌/◌, ℕ, List, [], ◌∷◌, ◌++◌, Option, Some, true, false, map}
use Rattle.std.proofs.Common.{length, sym, ap, ◌∙◌, subst, ⊎_elim, append_assoc, true≢false}
use Rattle.std.proofs.lemmas.List.{append-nil}
use Rattle.std.specs.declared.cmp.Ordering.TheVariants.{Less}
use Rattle.td_base.specs.declared.bit.Bit.{Bit}
use Rattle.td_base.specs.declared.bit.Bit.TheVariants.{Left, Right}
use Rattle.td_base.specs.Value.{DotValue, AtomIdValue}
use Rattle.td_base.specs.Lists.{In}
use Rattle.td_base.proofs.Lists.{In-front, In-back}
use Rattle.td_path.specs.Infix.{Pairs, path_cmp}
use Rattle.td_path.specs.SlotPaths.{goes_on, path_in}
use Rattle.td_path.specs.declared.slot.Slot.{Slot}
use Rattle.td_path.specs.declared.slot_path.SlotPath.{SlotPath}
use Rattle.td_path.specs.declared.slot_path.SlotPath.TheVariants.{Root as Whole, Below}
use Rattle.td_path.proofs.InfixOrder.{path_total, between_right, between_left, right_after}
use Rattle.td_path.proofs.InfixOrder.{left_before, goes_on_from, goes_on_parts}
use Rattle.td_doc.specs.Document.{DocRow, row_id, last_id, IsDocument}
use Rattle.td_doc.specs.Slots.{slot_path}
use Rattle.td_doc.specs.Array.{array}
use Rattle.td_base.specs.RunAtoms.{NamedAtom, run_atoms}
use Rattle.td_doc.specs.Insertion.{put_rows, put_array_below, insert_run}
use Rattle.td_doc.proofs.ArrayRows.{array_ascends}
use Rattle.std.proofs.lemmas.Bool.{false_from_ne_true}
use Rattle.td_doc.proofs.PutRows.{Before, three_ways, put_between}
use Rattle.td_brackets.specs.Brackets.{Token, Leaf, Entry, Level, atom_of, leaf_rows, slot_of, rows_from, rows_of}
use Rattle.td_brackets.specs.Laws.{Standing, AllAfter}
use Rattle.td_brackets.proofs.Sides.{row_named}
use Rattle.td_brackets.proofs.NodeRows.{rows_then}
use Rattle.td_brackets.proofs.Standing.{Under}
use Rattle.td_brackets.proofs.Leaves.{under_leaf}

-- what stands before a node, and not below it, stands before all below it; and so after

before_side : (node q : Pairs) (side : Bit) (y : AtomIdValue) (rest : Pairs) → path_cmp q node ≡ Less
    → goes_on node Left q ≡ false → path_cmp q (node ++ (side, y) ∷ rest) ≡ Less
before_side node q Right y rest h out = path_total.trans q node (node ++ (Right, y) ∷ rest) h (right_after node y rest)
before_side node q Left y rest h out =
    ⊎_elim (λ (l : path_cmp q (node ++ (Left, y) ∷ rest) ≡ Less). l)
    (λ (k : (q ≡ (node ++ (Left, y) ∷ rest)) ⊎ (path_cmp (node ++ (Left, y) ∷ rest) q ≡ Less)).
    absurd (⊎_elim (λ (e : q ≡ (node ++ (Left, y) ∷ rest)). true≢false
    (sym (goes_on_from node Left y rest) ∙ ap (goes_on node Left) (sym e) ∙ out))
    (λ (l : path_cmp (node ++ (Left, y) ∷ rest) q ≡ Less). true≢false (sym (between_left node q y rest l h) ∙ out)) k))
    (three_ways q (node ++ (Left, y) ∷ rest))

before_below : (node q rest : Pairs) → path_cmp q node ≡ Less → goes_on node Left q ≡ false
    → path_cmp q (node ++ rest) ≡ Less
before_below node q [] h out = ap (path_cmp q) (append-nil node) ∙ h
before_below node q (p ∷ rest) h out = before_side node q p.0 p.1 rest h out

after_side : (node q : Pairs) (side : Bit) (y : AtomIdValue) (rest : Pairs) → path_cmp node q ≡ Less
    → goes_on node Right q ≡ false → path_cmp (node ++ (side, y) ∷ rest) q ≡ Less
after_side node q Left y rest h out = path_total.trans (node ++ (Left, y) ∷ rest) node q (left_before node y rest) h
after_side node q Right y rest h out =
    ⊎_elim (λ (l : path_cmp (node ++ (Right, y) ∷ rest) q ≡ Less). l)
    (λ (k : ((node ++ (Right, y) ∷ rest) ≡ q) ⊎ (path_cmp q (node ++ (Right, y) ∷ rest) ≡ Less)).
    absurd (⊎_elim (λ (e : (node ++ (Right, y) ∷ rest) ≡ q). true≢false
    (sym (goes_on_from node Right y rest) ∙ ap (goes_on node Right) e ∙ out))
    (λ (l : path_cmp q (node ++ (Right, y) ∷ rest) ≡ Less). true≢false (sym (between_right node q y rest h l) ∙ out))
    k))
    (three_ways (node ++ (Right, y) ∷ rest) q)

after_below : (node q rest : Pairs) → path_cmp node q ≡ Less → goes_on node Right q ≡ false
    → path_cmp (node ++ rest) q ≡ Less
after_below node q [] h out = ap (λ (p : Pairs). path_cmp p q) (append-nil node) ∙ h
after_below node q (p ∷ rest) h out = after_side node q p.0 p.1 rest h out

path_some : (slot : SlotPath) (x : AtomIdValue) → path_in slot x ≢ []
path_some Whole x e = cc
path_some (Below [] bit) x e = cc
path_some (Below (p ∷ front) bit) x e = cc

abbrev nobody : AtomIdValue
nobody = record { dot = record { site = 0; seq = 0 }; offset = 0 }

module _ (table : ℕ → Entry) (tokens : List Token) (stack : List Level) (before : List ℕ) (m : ℕ) (after : List ℕ)
    (half : length before ≡ length (before ++ m ∷ after) / 2) (live : (table m).deletes ≡ [])
    (front back : List Token) (d : IsDocument (rows_of table tokens))
    (unknown : (s : DocRow) → In s (rows_of table tokens) → row_id s ≢ (table m).id)
    (p : Standing table tokens stack (table m).id front back) (behind : AllAfter table stack (table m).id back) where
  abbrev rs : List ℕ
  rs = before ++ m ∷ after

  abbrev node : Pairs
  node = path_in (slot_of table stack) (table m).id

  -- no row stands below a new one
  none_below : (q : DocRow) (side : Bit) → In q (rows_of table tokens) → goes_on node side q.path ≡ false
  none_below q side i =
      false_from_ne_true (goes_on node side q.path) (λ (h : goes_on node side q.path ≡ true).
      let g = goes_on_parts node side q.path h in
      let r = d.rooted q node (side, g.id) g.rest i g.is (path_some (slot_of table stack) (table m).id) in
      unknown r.0 r.1 (ap (last_id nobody) r.2 ∙ row_named table (slot_of table stack) m))

  parts : rows_of table tokens ≡ rows_of table front ++ rows_from table stack back
  parts = ap (rows_of table) p.is ∙ rows_then table [] stack front back p.moved

  under : (r : DocRow) → In r (leaf_rows table (slot_of table stack) rs)
      → Under (slot_of table stack) (table m).id r.path
  under r i = under_leaf table tokens stack (table m).id before m after half live front back r i

  past : (q r : DocRow) → In q (rows_of table front) → In r (leaf_rows table (slot_of table stack) rs) → Before q r
  past q r i j =
      let u = under r j in
      let there : In q (rows_of table tokens) = subst (In q) (sym parts)
      (In-front q (rows_of table front) (rows_from table stack back) i) in
      subst (λ (path : Pairs). path_cmp q.path path ≡ Less) (sym u.is)
      (before_below node q.path u.rest (p.before q i) (none_below q Left there))

  ahead : (r q : DocRow) → In r (leaf_rows table (slot_of table stack) rs) → In q (rows_from table stack back)
      → Before r q
  ahead r q i j =
      let u = under r i in
      let there : In q (rows_of table tokens) = subst (In q) (sym parts)
      (In-back q (rows_of table front) (rows_from table stack back) j) in
      subst (λ (path : Pairs). path_cmp path q.path ≡ Less) (sym u.is)
      (after_below node q.path u.rest (behind q j) (none_below q Right there))

  pub leaf_put : rows_of table (front ++ Leaf rs ∷ back)
      ≡ put_rows (leaf_rows table (slot_of table stack) rs) (rows_of table tokens)
  leaf_put =
      let new : List DocRow = leaf_rows table (slot_of table stack) rs in
      rows_then table [] stack front (Leaf rs ∷ back) p.moved
      ∙ sym (append_assoc (rows_of table front) new (rows_from table stack back))
      ∙ sym (put_between new (rows_of table front) (rows_from table stack back)
      (array_ascends (length (map (atom_of table) rs)) (slot_of table stack) (map (atom_of table) rs)) past ahead)
      ∙ ap (put_rows new) (sym parts)

  -- as the insertion of a run
  pub run_inserted : (slot : Slot) (dot : DotValue) (run : List (List ℕ)) → slot_path (rows_of table tokens) slot
      ≡ Some (slot_of table stack) → map (atom_of table) rs ≡ run_atoms dot run
      → rows_of table (front ++ Leaf rs ∷ back) ≡ insert_run slot dot run (rows_of table tokens)
  run_inserted slot dot run there atoms =
      leaf_put
      ∙ ap (λ (atoms_there : List NamedAtom). put_rows (array (slot_of table stack) atoms_there)
      (rows_of table tokens)) atoms
      ∙ ap (λ (o : Option SlotPath). put_array_below o (run_atoms dot run) (rows_of table tokens)) (sym there)
