-- The place of a new row among the tokens: where all rows before it stand before it and all behind stand after it.
use Rattle.std.proofs.Common.{◌≡◌, ◌≢◌, ◌⊎◌, ℕ, List, [], ◌∷◌, ◌++◌, Option, Some, false, refl, sym}
use Rattle.std.proofs.Common.{ap, ◌∙◌, subst, inl, ⊎_elim, append_assoc, true≢false}
use Rattle.std.proofs.lemmas.List.{append-nil}
use Rattle.std.specs.declared.cmp.Ordering.{Ordering}
use Rattle.std.specs.declared.cmp.Ordering.TheVariants.{Less, Equal}
use Rattle.std.specs.Ordering.{ordering_then}
use Rattle.td_base.specs.declared.bit.Bit.{Bit}
use Rattle.td_base.specs.declared.bit.Bit.TheVariants.{Left, Right}
use Rattle.td_base.specs.Value.{AtomIdValue}
use Rattle.td_base.specs.Order.{id_cmp}
use Rattle.td_base.specs.Lists.{In, Successive}
use Rattle.td_base.proofs.Lists.{In-append, In-front, In-back, all_in}
use Rattle.td_path.specs.Infix.{Pairs, path_cmp}
use Rattle.td_path.specs.SlotPaths.{goes_on, path_in}
use Rattle.td_path.specs.declared.slot.Slot.{Slot}
use Rattle.td_path.specs.declared.slot_path.SlotPath.{SlotPath}
use Rattle.td_path.specs.declared.slot_path.SlotPath.TheVariants.{Root as Whole, Below}
use Rattle.td_path.proofs.InfixOrder.{path_total, same_pairs, between_right, between_left}
use Rattle.td_path.proofs.InfixOrder.{right_after, left_before, goes_on_from}
use Rattle.td_doc.specs.Document.{DocRow}
use Rattle.td_doc.specs.Slots.{slot_path}
use Rattle.td_doc.specs.Insertion.{put_row, put_below, insert_atom}
use Rattle.td_doc.proofs.ArrayRows.{Starts}
use Rattle.td_doc.proofs.PutRows.{Before, three_ways, put_between}
use Rattle.td_brackets.specs.Brackets.{Token, Open, Atom, Close, Entry, Level, move_all, IsWord}
use Rattle.td_brackets.specs.Brackets.{slot_of, row_of, rows_from, rows_of, IsBrackets}
use Rattle.td_brackets.specs.Laws.{Standing, AllAfter, whole}
use Rattle.td_brackets.proofs.Words.{rows-append, move-append, word_moves, Node, node, group}
use Rattle.td_brackets.proofs.Sides.{inside}
use Rattle.td_brackets.proofs.NodeRows.{rows_then, behind, after_row, before_row, front_outside, back_outside}
use Rattle.td_brackets.proofs.NodeRows.{n, front_rows, left_rows, row, right_rows, back_rows}

-- paths with one front compare as what follows it

same_front : (front p q : Pairs) → path_cmp (front ++ p) (front ++ q) ≡ path_cmp p q
same_front [] p q = refl
same_front (a ∷ front) p q = ap (λ (o : Ordering). ordering_then o (path_cmp (front ++ p) (front ++ q)))
    (same_pairs a) ∙ same_front front p q

abbrev then_rest : Ordering → Ordering → Ordering
then_rest o rest = ordering_then (ordering_then Equal o) rest

-- siblings, and what hangs below them, compare by their identities

pub sibling_before : (slot : SlotPath) (y z : AtomIdValue) (rest : Pairs) → id_cmp y z ≡ Less
    → path_cmp (path_in slot y ++ rest) (path_in slot z) ≡ Less
sibling_before Whole y z rest h = ap (λ (o : Ordering). then_rest o (path_cmp rest [])) h
sibling_before (Below front Left) y z rest h =
    ap (λ (p : Pairs). path_cmp p (front ++ (Left, z) ∷ [])) (append_assoc front ((Left, y) ∷ []) rest)
    ∙ same_front front ((Left, y) ∷ rest) ((Left, z) ∷ []) ∙ ap (λ (o : Ordering). then_rest o (path_cmp rest [])) h
sibling_before (Below front Right) y z rest h =
    ap (λ (p : Pairs). path_cmp p (front ++ (Right, z) ∷ [])) (append_assoc front ((Right, y) ∷ []) rest)
    ∙ same_front front ((Right, y) ∷ rest) ((Right, z) ∷ [])
    ∙ ap (λ (o : Ordering). then_rest o (path_cmp rest [])) h

pub sibling_after : (slot : SlotPath) (y z : AtomIdValue) (rest : Pairs) → id_cmp z y ≡ Less
    → path_cmp (path_in slot z) (path_in slot y ++ rest) ≡ Less
sibling_after Whole y z rest h = ap (λ (o : Ordering). then_rest o (path_cmp [] rest)) h
sibling_after (Below front Left) y z rest h =
    ap (path_cmp (front ++ (Left, z) ∷ [])) (append_assoc front ((Left, y) ∷ []) rest)
    ∙ same_front front ((Left, z) ∷ []) ((Left, y) ∷ rest) ∙ ap (λ (o : Ordering). then_rest o (path_cmp [] rest)) h
sibling_after (Below front Right) y z rest h =
    ap (path_cmp (front ++ (Right, z) ∷ [])) (append_assoc front ((Right, y) ∷ []) rest)
    ∙ same_front front ((Right, z) ∷ []) ((Right, y) ∷ rest)
    ∙ ap (λ (o : Ordering). then_rest o (path_cmp [] rest)) h

-- what stands after a node and not in its right slot stands after all in that slot, and so on the left

pub after_slot : (node q : Pairs) (y : AtomIdValue) → path_cmp node q ≡ Less → goes_on node Right q ≡ false
    → path_cmp (node ++ (Right, y) ∷ []) q ≡ Less
after_slot node q y h out =
    ⊎_elim (λ (l : path_cmp (node ++ (Right, y) ∷ []) q ≡ Less). l)
    (λ (k : ((node ++ (Right, y) ∷ []) ≡ q) ⊎ (path_cmp q (node ++ (Right, y) ∷ []) ≡ Less)).
    absurd (⊎_elim (λ (e : (node ++ (Right, y) ∷ []) ≡ q). true≢false
    (sym (goes_on_from node Right y []) ∙ ap (goes_on node Right) e ∙ out))
    (λ (l : path_cmp q (node ++ (Right, y) ∷ []) ≡ Less). true≢false (sym (between_right node q y [] h l) ∙ out)) k))
    (three_ways (node ++ (Right, y) ∷ []) q)

pub before_slot : (node q : Pairs) (y : AtomIdValue) → path_cmp q node ≡ Less → goes_on node Left q ≡ false
    → path_cmp q (node ++ (Left, y) ∷ []) ≡ Less
before_slot node q y h out =
    ⊎_elim (λ (l : path_cmp q (node ++ (Left, y) ∷ []) ≡ Less). l)
    (λ (k : (q ≡ (node ++ (Left, y) ∷ [])) ⊎ (path_cmp (node ++ (Left, y) ∷ []) q ≡ Less)).
    absurd (⊎_elim (λ (e : q ≡ (node ++ (Left, y) ∷ [])). true≢false
    (sym (goes_on_from node Left y []) ∙ ap (goes_on node Left) (sym e) ∙ out))
    (λ (l : path_cmp (node ++ (Left, y) ∷ []) q ≡ Less). true≢false (sym (between_left node q y [] l h) ∙ out)) k))
    (three_ways q (node ++ (Left, y) ∷ []))

-- one place in a list without repetition

pub split_unique : (xs xs' ys ys' : List Token) (t : Token) → Successive (λ (a b : Token). a ≢ b) (xs ++ t ∷ ys) → xs
    ++ t ∷ ys ≡ xs' ++ t ∷ ys' → (xs ≡ xs') × (ys ≡ ys')
split_unique [] [] ys ys' t once e = (refl, tails t t ys ys' e)
  where
    tails : (a b : Token) (p q : List Token) → a ∷ p ≡ b ∷ q → p ≡ q
    tails a b p q e = cc
split_unique [] (b ∷ xs') ys ys' t once e =
    absurd (all_in (λ (c : Token). t ≢ c) ys once.0 t
    (subst (In t) (sym (tails t b ys (xs' ++ t ∷ ys') e)) (In-back t xs' (t ∷ ys') (inl refl))) refl)
  where
    tails : (a b : Token) (p q : List Token) → a ∷ p ≡ b ∷ q → p ≡ q
    tails a b p q e = cc
split_unique (a ∷ xs) [] ys ys' t once e = absurd
    (all_in (λ (c : Token). a ≢ c) (xs ++ t ∷ ys) once.0 t (In-back t xs (t ∷ ys) (inl refl))
    (heads a t (xs ++ t ∷ ys) ys' e))
  where
    heads : (a b : Token) (p q : List Token) → a ∷ p ≡ b ∷ q → a ≡ b
    heads a b p q e = cc
split_unique (a ∷ xs) (b ∷ xs') ys ys' t once e =
    let r = split_unique xs xs' ys ys' t once.1 (tails a b (xs ++ t ∷ ys) (xs' ++ t ∷ ys') e) in
    let h = heads a b (xs ++ t ∷ ys) (xs' ++ t ∷ ys') e in
    ((λ i. h i ∷ r.0 i), r.1)
  where
    tails : (a b : Token) (p q : List Token) → a ∷ p ≡ b ∷ q → p ≡ q
    tails a b p q e = cc

    heads : (a b : Token) (p q : List Token) → a ∷ p ≡ b ∷ q → a ≡ b
    heads a b p q e = cc

pub record Under (slot : SlotPath) (x : AtomIdValue) (path : Pairs) : Type 0 where
  pub rest : Pairs
  pub is : path ≡ path_in slot x ++ rest

under_side : (slot : SlotPath) (x : AtomIdValue) (side : Bit) (path : Pairs)
    → Starts (Below (path_in slot x) side) path → Under slot x path
under_side slot x side path s = record {
  rest = (side, s.id) ∷ s.rest;
  is = s.is ∙ append_assoc (path_in slot x) ((side, s.id) ∷ []) s.rest;
}

under_itself : (slot : SlotPath) (x : AtomIdValue) → Under slot x (path_in slot x)
under_itself slot x = record { rest = []; is = sym (append-nil (path_in slot x)) }

module _ (table : ℕ → Entry) (stack : List Level) (s : ℕ) (left right : List Token) (lw : IsWord left)
    (rw' : IsWord right) where
  abbrev top : DocRow
  top = row_of table (slot_of table stack) s

  pub whole_rows : rows_from table stack (whole s left right) ≡ rows_from table ((s, Left) ∷ stack) left
      ++ top ∷ rows_from table ((s, Right) ∷ stack) right
  whole_rows =
      rows_then table ((s, Left) ∷ stack) ((s, Left) ∷ stack) left (Atom s ∷ (right ++ Close s ∷ []))
      (word_moves ((s, Left) ∷ stack) left lw)
      ∙ ap (λ (q : List DocRow). rows_from table ((s, Left) ∷ stack) left ++ top ∷ q)
      (rows_then table ((s, Right) ∷ stack) ((s, Right) ∷ stack) right (Close s ∷ [])
      (word_moves ((s, Right) ∷ stack) right rw') ∙ append-nil (rows_from table ((s, Right) ∷ stack) right))

  pub whole_moves : move_all stack (whole s left right) ≡ stack
  whole_moves =
      move-append ((s, Left) ∷ stack) left (Atom s ∷ (right ++ Close s ∷ []))
      ∙ ap (λ (k : List Level). move_all k (Atom s ∷ (right ++ Close s ∷ [])))
      (word_moves ((s, Left) ∷ stack) left lw)
      ∙ move-append ((s, Right) ∷ stack) right (Close s ∷ [])
      ∙ ap (λ (k : List Level). move_all k (Close s ∷ [])) (word_moves ((s, Right) ∷ stack) right rw')

  pub under_top : (q : DocRow) → In q (rows_from table stack (whole s left right))
      → Under (slot_of table stack) (table s).id q.path
  under_top q i =
      ⊎_elim (λ (k : In q (rows_from table ((s, Left) ∷ stack) left)). under_side (slot_of table stack) (table s).id
      Left q.path (inside table [] ((s, Left) ∷ stack) left lw.0 q k))
      (λ (k : In q (top ∷ rows_from table ((s, Right) ∷ stack) right)).
      ⊎_elim (λ (e : q ≡ top). subst (λ (p : DocRow). Under (slot_of table stack) (table s).id p.path) (sym e)
      (under_itself (slot_of table stack) (table s).id))
      (λ (j : In q (rows_from table ((s, Right) ∷ stack) right)). under_side (slot_of table stack) (table s).id Right
      q.path (inside table [] ((s, Right) ∷ stack) right rw'.0 q j)) k)
      (In-append q (rows_from table ((s, Left) ∷ stack) left) (top ∷ rows_from table ((s, Right) ∷ stack) right)
      (subst (In q) whole_rows i))

-- over a sibling with a smaller identity
pub over_sibling : (table : ℕ → Entry) (tokens : List Token) (stack : List Level) (id : AtomIdValue) (s : ℕ)
    (front rest : List Token) → Standing table tokens stack id front (Open s ∷ rest)
    → id_cmp (table s).id id ≡ Less → (m : Node s front rest)
    → Standing table tokens stack id (front ++ whole s m.left m.right) m.back
over_sibling table tokens stack id s front rest p less m = record {
  is = p.is ∙ ap (λ (q : List Token). front ++ Open s ∷ q) (m.is ∙ regroup m.left m.right m.back)
      ∙ sym (append_assoc front (whole s m.left m.right) m.back);
  moved = move-append [] front (whole s m.left m.right)
      ∙ ap (λ (k : List Level). move_all k (whole s m.left m.right)) p.moved
      ∙ whole_moves table stack s m.left m.right m.left_word m.right_word;
  before = λ q i. ⊎_elim (λ (k : In q (rows_of table front)). p.before q k)
      (λ (k : In q (rows_from table (move_all [] front) (whole s m.left m.right))).
      let u = under_top table stack s m.left m.right m.left_word m.right_word q
      (subst (λ (t : List Level). In q (rows_from table t (whole s m.left m.right))) p.moved k) in
      subst (λ (path : Pairs). path_cmp path (path_in (slot_of table stack) id) ≡ Less) (sym u.is)
      (sibling_before (slot_of table stack) (table s).id id u.rest less))
      (In-append q (rows_of table front) (rows_from table (move_all [] front) (whole s m.left m.right))
      (subst (In q) (rows-append table [] front (whole s m.left m.right)) i));
}
  where
    regroup : (a b c : List Token) → a ++ Atom s ∷ (b ++ Close s ∷ c) ≡ (a ++ Atom s ∷ (b ++ Close s ∷ [])) ++ c
    regroup a b c = simp append_assoc

-- before a sibling with a greater identity
at_sibling_here : (table : ℕ → Entry) (id : AtomIdValue) (s : ℕ) (front rest : List Token)
    → IsBrackets table (front ++ Open s ∷ rest) → id_cmp id (table s).id ≡ Less
    → AllAfter table (move_all [] front) id (Open s ∷ rest)
at_sibling_here table id s front rest b less q i =
    let slot = slot_of table (move_all [] front) in
    let one : DocRow = row table front rest s b in
    let here : path_cmp (path_in slot id) one.path
    ≡ Less = subst (λ (path : Pairs). path_cmp (path_in slot id) path ≡ Less)
    (append-nil (path_in slot (table s).id)) (sibling_after slot (table s).id id [] less) in
    ⊎_elim
    (λ (k : In q (left_rows table front rest s b)).
    let u = under_side slot (table s).id Left q.path
    (inside table [] ((s, Left) ∷ move_all [] front) (n table front rest s b).left
    (n table front rest s b).left_word.0 q k) in
    subst (λ (path : Pairs). path_cmp (path_in slot id) path ≡ Less) (sym u.is)
    (sibling_after slot (table s).id id u.rest less))
    (λ (k : In q (one ∷ (right_rows table front rest s b ++ back_rows table front rest s b))).
    ⊎_elim (λ (e : q ≡ one). subst (λ (p : DocRow). path_cmp (path_in slot id) p.path ≡ Less) (sym e) here)
    (λ (j : In q (right_rows table front rest s b ++ back_rows table front rest s b)). path_total.trans
    (path_in slot id) one.path q.path here (after_row table front rest s b q j)) k)
    (In-append q (left_rows table front rest s b) (one ∷ (right_rows table front rest s b
    ++ back_rows table front rest s b)) (subst (In q) (behind table front rest s b) i))

pub at_sibling : (table : ℕ → Entry) (tokens : List Token) (stack : List Level) (id : AtomIdValue) (s : ℕ)
    (front rest : List Token) → IsBrackets table tokens → Standing table tokens stack id front (Open s ∷ rest)
    → id_cmp id (table s).id ≡ Less → AllAfter table stack id (Open s ∷ rest)
at_sibling table tokens stack id s front rest b p less =
    subst (λ (k : List Level). AllAfter table k id (Open s ∷ rest)) p.moved
    (at_sibling_here table id s front rest (subst (IsBrackets table) p.is b) less)

-- the start of the right slot of a row, and its end

module _ (table : ℕ → Entry) (front tokens : List Token) (x : ℕ) (b : IsBrackets table (front ++ Open x ∷ tokens))
    (id : AtomIdValue) where
  abbrev under : List Level
  under = move_all [] front

  abbrev m : Node x front tokens
  m = n table front tokens x b

  abbrev node_path : Pairs
  node_path = path_in (slot_of table under) (table x).id

  right_parts : front ++ Open x ∷ tokens ≡ (front ++ Open x ∷ (m.left ++ Atom x ∷ [])) ++ (m.right ++ Close x ∷ m.back)
  right_parts = ap (λ (q : List Token). front ++ Open x ∷ q) m.is ∙ regroup m.left (m.right ++ Close x ∷ m.back)
    where
      regroup : (a c : List Token) → front ++ Open x ∷ (a ++ Atom x ∷ c) ≡ (front ++ Open x ∷ (a ++ Atom x ∷ [])) ++ c
      regroup a c = simp append_assoc

  left_parts : front ++ Open x ∷ tokens ≡ (front ++ Open x ∷ []) ++ (m.left ++ Atom x ∷ (m.right ++ Close x ∷ m.back))
  left_parts = ap (λ (q : List Token). front ++ Open x ∷ q) m.is
      ∙ sym (append_assoc front (Open x ∷ []) (m.left ++ Atom x ∷ (m.right ++ Close x ∷ m.back)))

  pub start_right : Standing table (front ++ Open x ∷ tokens) ((x, Right) ∷ under) id
      (front ++ Open x ∷ (m.left ++ Atom x ∷ [])) (m.right ++ Close x ∷ m.back)
  start_right = record {
    is = right_parts;
    moved = move-append [] front (Open x ∷ (m.left ++ Atom x ∷ []))
        ∙ move-append ((x, Left) ∷ under) m.left (Atom x ∷ [])
        ∙ ap (λ (k : List Level). move_all k (Atom x ∷ [])) (word_moves ((x, Left) ∷ under) m.left m.left_word);
    before = λ q i. ⊎_elim
        (λ (k : In q (front_rows table front tokens x b ++ left_rows table front tokens x b)). path_total.trans q.path
        node_path (path_in (Below node_path Right) id) (before_row table front tokens x b q k)
        (right_after node_path id []))
        (λ (k : In q (row table front tokens x b ∷ [])). ⊎_elim
        (λ (e : q ≡ row table front tokens x b). subst
        (λ (p : DocRow). path_cmp p.path (path_in (Below node_path Right) id) ≡ Less) (sym e)
        (right_after node_path id [])) (λ (z : ⊥). absurd z) k)
        (In-append q (front_rows table front tokens x b ++ left_rows table front tokens x b)
        (row table front tokens x b ∷ []) (subst (In q) up_to i));
  }
    where
      up_to : rows_of table (front ++ Open x ∷ (m.left ++ Atom x ∷ []))
          ≡ (front_rows table front tokens x b ++ left_rows table front tokens x b) ++ row table front tokens x b ∷ []
      up_to =
          rows-append table [] front (Open x ∷ (m.left ++ Atom x ∷ []))
          ∙ ap (λ (q : List DocRow). front_rows table front tokens x b ++ q)
          (rows_then table ((x, Left) ∷ under) ((x, Left) ∷ under) m.left (Atom x ∷ [])
          (word_moves ((x, Left) ∷ under) m.left m.left_word))
          ∙ sym (append_assoc (front_rows table front tokens x b) (left_rows table front tokens x b)
          (row table front tokens x b ∷ []))

  pub start_left : Standing table (front ++ Open x ∷ tokens) ((x, Left) ∷ under) id (front ++ Open x ∷ [])
      (m.left ++ Atom x ∷ (m.right ++ Close x ∷ m.back))
  start_left = record {
    is = left_parts;
    moved = move-append [] front (Open x ∷ []);
    before = λ q i.
        let k : In q (front_rows table front tokens x b) =
        subst (In q) (rows-append table [] front (Open x ∷ []) ∙ append-nil (rows_of table front)) i in
        before_slot node_path q.path id (before_row table front tokens x b q
        (In-front q (front_rows table front tokens x b) (left_rows table front tokens x b) k))
        (front_outside table front tokens x b Left q k);
  }

  pub end_right : (before rest : List Token) → Standing table (front ++ Open x ∷ tokens) ((x, Right) ∷ under) id
      before (Close x ∷ rest) → AllAfter table ((x, Right) ∷ under) id (Close x ∷ rest)
  end_right before rest p q i =
      let parts : (front ++ Open x ∷ (m.left ++ Atom x ∷ m.right)) ++ Close x ∷ m.back ≡ before
      ++ Close x ∷ rest = sym closed ∙ p.is in
      let u = split_unique (front ++ Open x ∷ (m.left ++ Atom x ∷ m.right)) before m.back rest (Close x)
      (subst (Successive (λ (a b : Token). a ≢ b)) closed b.once) parts in
      let k : In q (back_rows table front tokens x b) =
      subst (λ (t : List Token). In q (rows_from table under t)) (sym u.1) i in
      after_slot node_path q.path id (after_row table front tokens x b q
      (In-back q (right_rows table front tokens x b) (back_rows table front tokens x b) k))
      (back_outside table front tokens x b Right q k)
    where
      closed : front ++ Open x ∷ tokens ≡ (front ++ Open x ∷ (m.left ++ Atom x ∷ m.right)) ++ Close x ∷ m.back
      closed = ap (λ (q : List Token). front ++ Open x ∷ q) m.is ∙ regroup m.left m.right m.back
        where
          regroup : (a c d : List Token) → front ++ Open x ∷ (a ++ Atom x ∷ (c ++ Close x ∷ d))
              ≡ (front ++ Open x ∷ (a ++ Atom x ∷ c)) ++ Close x ∷ d
          regroup a c d = simp append_assoc

  pub end_left : (before rest : List Token) → Standing table (front ++ Open x ∷ tokens) ((x, Left) ∷ under) id before
      (Atom x ∷ rest) → AllAfter table ((x, Left) ∷ under) id (Atom x ∷ rest)
  end_left before rest p q i =
      let parts : (front ++ Open x ∷ m.left) ++ Atom x ∷ (m.right ++ Close x ∷ m.back) ≡ before
      ++ Atom x ∷ rest = sym opened ∙ p.is in
      let u = split_unique (front ++ Open x ∷ m.left) before (m.right ++ Close x ∷ m.back) rest (Atom x)
      (subst (Successive (λ (a b : Token). a ≢ b)) opened b.once) parts in
      let same : rows_from table ((x, Right) ∷ under) rest ≡ right_rows table front tokens x b
      ++ back_rows table front tokens x b =
      ap (rows_from table ((x, Right) ∷ under)) (sym u.1)
      ∙ rows_then table ((x, Right) ∷ under) ((x, Right) ∷ under) m.right (Close x ∷ m.back)
      (word_moves ((x, Right) ∷ under) m.right m.right_word) in
      ⊎_elim (λ (e : q ≡ row table front tokens x b). subst
      (λ (p : DocRow). path_cmp (path_in (Below node_path Left) id) p.path ≡ Less) (sym e)
      (left_before node_path id []))
      (λ (k : In q (rows_from table ((x, Right) ∷ under) rest)).
      path_total.trans (path_in (Below node_path Left) id) node_path q.path (left_before node_path id [])
      (after_row table front tokens x b q (subst (In q) same k)))
      i
    where
      opened : front ++ Open x ∷ tokens ≡ (front ++ Open x ∷ m.left) ++ Atom x ∷ (m.right ++ Close x ∷ m.back)
      opened = ap (λ (q : List Token). front ++ Open x ∷ q) m.is
          ∙ sym (append_assoc front (Open x ∷ m.left) (Atom x ∷ (m.right ++ Close x ∷ m.back)))

-- the root

pub start_root : (table : ℕ → Entry) (tokens : List Token) (id : AtomIdValue) → Standing table tokens [] id [] tokens
start_root table tokens id = record { is = refl; moved = refl; before = λ q i. absurd i }

pub end_root : (table : ℕ → Entry) (id : AtomIdValue) → AllAfter table [] id []
end_root table id q i = absurd i

-- the new row put there stands where the infix order has it
pub put_there : (table : ℕ → Entry) (tokens : List Token) (stack : List Level) (new : ℕ) (front back : List Token)
    → Standing table tokens stack (table new).id front back → AllAfter table stack (table new).id back
    → rows_of table (front ++ (group new ++ back))
    ≡ put_row (row_of table (slot_of table stack) new) (rows_of table tokens)
put_there table tokens stack new front back p after =
    let fresh : DocRow = row_of table (slot_of table stack) new in
    rows_then table [] stack front (group new ++ back) p.moved
    ∙ sym (append_assoc (rows_of table front) (fresh ∷ []) (rows_from table stack back))
    ∙ sym (put_between (fresh ∷ []) (rows_of table front) (rows_from table stack back) (tt, tt)
    (λ q r i j. ⊎_elim (λ (e : r ≡ fresh). subst (λ (d : DocRow). Before q d) (sym e) (p.before q i))
    (λ (z : ⊥). absurd z) j)
    (λ r q i j. ⊎_elim (λ (e : r ≡ fresh). subst (λ (d : DocRow). Before d q) (sym e) (after q j))
    (λ (z : ⊥). absurd z) i))
    ∙ ap (put_row fresh) (sym (rows_then table [] stack front back p.moved) ∙ ap (rows_of table) (sym p.is))

-- as an insertion of the document
pub inserted : (table : ℕ → Entry) (tokens : List Token) (stack : List Level) (new : ℕ) (front back : List Token)
    (slot : Slot) (id : AtomIdValue) (atom : List ℕ)
    → Standing table tokens stack (table new).id front back → AllAfter table stack (table new).id back
    → slot_path (rows_of table tokens) slot ≡ Some (slot_of table stack)
    → table new ≡ record { id = id; atom = atom; deletes = [] } → rows_of table (front ++ (group new ++ back))
    ≡ insert_atom slot id atom (rows_of table tokens)
inserted table tokens stack new front back slot id atom p after there is =
    put_there table tokens stack new front back p after
    ∙ ap (λ (e : Entry). put_row (record {
      path = path_in (slot_of table stack) e.id;
      atom = e.atom;
      deletes = e.deletes;
    }) (rows_of table tokens)) is
    ∙ ap (λ (o : Option SlotPath). put_below o (record { id = id; atom = atom }) (rows_of table tokens)) (sym there)
