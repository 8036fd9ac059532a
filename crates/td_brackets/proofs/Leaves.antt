-- Leaves: exploded they mean the same rows, a walk over siblings passes them by their top, and a flatten makes one.
use Rattle.std.proofs.Common.{◌≡◌, ◌+◌, ◌/◌, ℕ, zero, suc, List, [], ◌∷◌, ◌++◌, map, length, take, drop, refl, sym}
use Rattle.std.proofs.Common.{ap, ◌∙◌, subst, inl, ⊎_elim, arith, append_assoc, length-append}
use Rattle.std.proofs.lemmas.List.{append-nil, map-append, length-map, take_at, drop_at}
use Rattle.std.specs.declared.cmp.Ordering.TheVariants.{Less}
use Rattle.td_base.specs.declared.bit.Bit.TheVariants.{Left, Right}
use Rattle.td_base.specs.Value.{AtomIdValue}
use Rattle.td_base.specs.Order.{id_cmp}
use Rattle.td_base.specs.Lists.{In, Successive}
use Rattle.td_base.proofs.Lists.{In-append, In-back, across, successive_back}
use Rattle.td_path.specs.Infix.{Pairs, path_cmp}
use Rattle.td_path.specs.SlotPaths.{path_in}
use Rattle.td_path.specs.declared.slot_path.SlotPath.{SlotPath}
use Rattle.td_path.specs.declared.slot_path.SlotPath.TheVariants.{Below}
use Rattle.td_path.proofs.InfixOrder.{path_total}
use Rattle.td_doc.specs.Document.{DocRow}
use Rattle.td_doc.specs.Array.{row_in, around, array_upto, array}
use Rattle.td_base.specs.RunAtoms.{NamedAtom}
use Rattle.td_doc.proofs.PutRows.{Before}
use Rattle.td_doc.proofs.ArrayPlaces.{enough}
use Rattle.td_brackets.specs.Brackets.{Token, Leaf, Entry, Level, move_all, IsWord, atom_of, leaf_rows}
use Rattle.td_brackets.specs.Brackets.{slot_of, row_of, rows_from, rows_of, IsBrackets}
use Rattle.td_brackets.specs.Laws.{Standing, AllAfter, leaf_word, exploded}
use Rattle.td_brackets.proofs.Words.{rows-append, move-append}
use Rattle.td_brackets.proofs.NodeRows.{rows_then}
use Rattle.td_brackets.proofs.Standing.{Under, whole_rows, whole_moves, under_top, sibling_before, sibling_after}

-- an array is its middle with an array on each side

around_same : (f g : SlotPath → List NamedAtom → List DocRow) (slot : SlotPath) (before : List NamedAtom)
    (middle : NamedAtom) (after : List NamedAtom)
    → f (Below (path_in slot middle.id) Left) before ≡ g (Below (path_in slot middle.id) Left) before
    → f (Below (path_in slot middle.id) Right) after ≡ g (Below (path_in slot middle.id) Right) after
    → around f slot before (middle ∷ after) ≡ around g slot before (middle ∷ after)
around_same f g slot before middle after p q = λ i. p i ++ row_in slot middle ∷ q i

array_at : (n : ℕ) (slot : SlotPath) (before : List NamedAtom) (middle : NamedAtom) (after : List NamedAtom) → n
    ≡ length (before ++ middle ∷ after) → length before ≡ n / 2
    → array_upto n slot (before ++ middle ∷ after) ≡ array (Below (path_in slot middle.id) Left) before
    ++ row_in slot middle ∷ array (Below (path_in slot middle.id) Right) after
array_at zero slot before middle after e h = absurd
    (none (length before) (length after) (e ∙ length-append before (middle ∷ after)))
  where
    none : (a b : ℕ) → 0 ≡ a + suc b → ⊥
    none a b e = omega arith
array_at (suc n) slot before middle after e h =
    let half : length before ≡ length (before ++ middle ∷ after) / 2 = h ∙ ap (λ (k : ℕ). k / 2) e in
    let front : take (length (before ++ middle ∷ after) / 2) (before ++ middle ∷ after)
    ≡ before = take_at before (middle ∷ after) (length (before ++ middle ∷ after) / 2) half in
    let back : drop (length (before ++ middle ∷ after) / 2) (before ++ middle ∷ after)
    ≡ middle ∷ after = drop_at before (middle ∷ after) (length (before ++ middle ∷ after) / 2) half in
    let long = length-append before (middle ∷ after) in
    (λ i. around (array_upto n) slot (front i) (back i))
    ∙ around_same (array_upto n) array slot before middle after
    (enough n (length before) (Below (path_in slot middle.id) Left) before (omega arith) (omega arith))
    (enough n (length after) (Below (path_in slot middle.id) Right) after (omega arith) (omega arith))

pub array_halves : (slot : SlotPath) (before : List NamedAtom) (middle : NamedAtom) (after : List NamedAtom)
    → length before ≡ length (before ++ middle ∷ after) / 2
    → array slot (before ++ middle ∷ after) ≡ array (Below (path_in slot middle.id) Left) before
    ++ row_in slot middle ∷ array (Below (path_in slot middle.id) Right) after
array_halves slot before middle after h = array_at (length (before ++ middle ∷ after)) slot before middle after refl h

-- a leaf by itself; none where it has no rows

pub leaf_word_fits : (rs : List ℕ) → IsWord (leaf_word rs)
leaf_word_fits [] = (tt, refl)
leaf_word_fits (r ∷ rs) = ((refl, tt), refl)

pub leaf_word_rows : (table : ℕ → Entry) (stack : List Level) (rs : List ℕ) → rows_from table stack (leaf_word rs)
    ≡ leaf_rows table (slot_of table stack) rs
leaf_word_rows table stack [] = refl
leaf_word_rows table stack (r ∷ rs) = append-nil (leaf_rows table (slot_of table stack) (r ∷ rs))

bare : (e : Entry) (slot : SlotPath) → e.deletes ≡ [] → row_in slot (record { id = e.id; atom = e.atom })
    ≡ record { path = path_in slot e.id; atom = e.atom; deletes = e.deletes }
bare e slot h = λ i. record { path = path_in slot e.id; atom = e.atom; deletes = sym h i }

-- one step: the middle row with a leaf on each side
pub explode_rows : (table : ℕ → Entry) (stack : List Level) (before : List ℕ) (m : ℕ) (after : List ℕ) → length before
    ≡ length (before ++ m ∷ after) / 2 → (table m).deletes ≡ []
    → leaf_rows table (slot_of table stack) (before ++ m ∷ after) ≡ rows_from table stack (exploded before m after)
explode_rows table stack before m after h live =
    let atom : ℕ → NamedAtom = atom_of table in
    let slot : SlotPath = slot_of table stack in
    let long : length (map atom before) ≡ length (map atom before ++ atom m ∷ map atom after) / 2 =
    length-map before atom ∙ h ∙ ap (λ (k : ℕ). k / 2)
    (sym (length-map (before ++ m ∷ after) atom) ∙ ap length (map-append atom before (m ∷ after))) in
    ap (array slot) (map-append atom before (m ∷ after))
    ∙ array_halves slot (map atom before) (atom m) (map atom after) long
    ∙ (λ i. sym (leaf_word_rows table ((m, Left) ∷ stack) before) i
    ++ bare (table m) slot live i ∷ sym (leaf_word_rows table ((m, Right) ∷ stack) after) i)
    ∙ sym (whole_rows table stack m (leaf_word before) (leaf_word after) (leaf_word_fits before) (leaf_word_fits after))

-- among the tokens
pub explode : (table : ℕ → Entry) (stack : List Level) (front back : List Token) (before : List ℕ) (m : ℕ)
    (after : List ℕ) → length before ≡ length (before ++ m ∷ after) / 2 → (table m).deletes ≡ []
    → rows_from table stack (front ++ Leaf (before ++ m ∷ after) ∷ back)
    ≡ rows_from table stack (front ++ (exploded before m after ++ back))
explode table stack front back before m after h live =
    let under : List Level = move_all stack front in
    rows-append table stack front (Leaf (before ++ m ∷ after) ∷ back)
    ∙ ap (λ (q : List DocRow). rows_from table stack front ++ q)
    (ap (λ (q : List DocRow). q ++ rows_from table under back) (explode_rows table under before m after h live)
    ∙ sym (rows_then table under under (exploded before m after) back
    (whole_moves table under m (leaf_word before) (leaf_word after) (leaf_word_fits before)
    (leaf_word_fits after))))
    ∙ sym (rows-append table stack front (exploded before m after ++ back))

-- the walk over siblings

module _ (table : ℕ → Entry) (tokens : List Token) (stack : List Level) (id : AtomIdValue) (before : List ℕ) (m : ℕ)
    (after : List ℕ) (half : length before ≡ length (before ++ m ∷ after) / 2) (live : (table m).deletes ≡ [])
    (front rest : List Token) where
  abbrev rs : List ℕ
  rs = before ++ m ∷ after

  pub under_leaf : (q : DocRow) → In q (leaf_rows table (slot_of table stack) rs)
      → Under (slot_of table stack) (table m).id q.path
  under_leaf q i = under_top table stack m (leaf_word before) (leaf_word after) (leaf_word_fits before)
      (leaf_word_fits after) q (subst (In q) (explode_rows table stack before m after half live) i)

  -- over a leaf whose top is smaller
  pub over_leaf : Standing table tokens stack id front (Leaf rs ∷ rest) → id_cmp (table m).id id ≡ Less
      → Standing table tokens stack id (front ++ Leaf rs ∷ []) rest
  over_leaf p less = record {
    is = p.is ∙ sym (append_assoc front (Leaf rs ∷ []) rest);
    moved = move-append [] front (Leaf rs ∷ []) ∙ p.moved;
    before = λ q i. ⊎_elim (λ (k : In q (rows_of table front)). p.before q k)
        (λ (k : In q (rows_from table stack (Leaf rs ∷ []))).
        let u = under_leaf q (subst (In q) (append-nil (leaf_rows table (slot_of table stack) rs)) k) in
        subst (λ (path : Pairs). path_cmp path (path_in (slot_of table stack) id) ≡ Less) (sym u.is)
        (sibling_before (slot_of table stack) (table m).id id u.rest less))
        (In-append q (rows_of table front) (rows_from table stack (Leaf rs ∷ []))
        (subst (In q) (rows_then table [] stack front (Leaf rs ∷ []) p.moved) i));
  }

  -- before a leaf whose top is greater
  pub at_leaf : IsBrackets table tokens → Standing table tokens stack id front (Leaf rs ∷ rest)
      → id_cmp id (table m).id ≡ Less → AllAfter table stack id (Leaf rs ∷ rest)
  at_leaf b p less q i =
      let slot : SlotPath = slot_of table stack in
      let top : DocRow = row_of table slot m in
      let whole_is : leaf_rows table slot rs ≡ rows_from table ((m, Left) ∷ stack) (leaf_word before)
      ++ top ∷ rows_from table ((m, Right) ∷ stack) (leaf_word after) =
      explode_rows table stack before m after half live
      ∙ whole_rows table stack m (leaf_word before) (leaf_word after) (leaf_word_fits before)
      (leaf_word_fits after) in
      let top_in : In top (leaf_rows table slot rs) =
      subst (In top) (sym whole_is) (In-back top (rows_from table ((m, Left) ∷ stack) (leaf_word before))
      (top ∷ rows_from table ((m, Right) ∷ stack) (leaf_word after)) (inl refl)) in
      let here : path_cmp (path_in slot id) top.path
      ≡ Less = subst (λ (path : Pairs). path_cmp (path_in slot id) path ≡ Less)
      (append-nil (path_in slot (table m).id)) (sibling_after slot (table m).id id [] less) in
      let up : Successive Before (leaf_rows table slot rs ++ rows_from table stack rest) =
      successive_back Before (rows_of table front) (leaf_rows table slot rs ++ rows_from table stack rest)
      (subst (Successive Before) (ap (rows_of table) p.is ∙ rows_then table [] stack front (Leaf rs ∷ rest) p.moved)
      b.document.ascending) in
      ⊎_elim
      (λ (k : In q (leaf_rows table slot rs)).
      let u = under_leaf q k in
      subst (λ (path : Pairs). path_cmp (path_in slot id) path ≡ Less) (sym u.is)
      (sibling_after slot (table m).id id u.rest less))
      (λ (k : In q (rows_from table stack rest)). path_total.trans (path_in slot id) top.path q.path here
      (across Before (leaf_rows table slot rs) (rows_from table stack rest) up top q top_in k))
      (In-append q (leaf_rows table slot rs) (rows_from table stack rest) i)
