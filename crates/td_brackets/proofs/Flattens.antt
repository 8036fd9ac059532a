-- A flatten among the tokens: what stands between the brackets of a side is replaced by a word whose rows are the
-- array.
use Rattle.std.proofs.Common.{◌≡◌, ◌⊎◌, ℕ, List, [], ◌∷◌, ◌++◌, true, false, map, Option, sym}
use Rattle.std.proofs.Common.{ap, ◌∙◌, subst, ⊎_elim, append_assoc, true≢false}
use Rattle.std.specs.declared.cmp.Ordering.TheVariants.{Less}
use Rattle.td_base.specs.declared.bit.Bit.TheVariants.{Left, Right}
use Rattle.td_base.specs.Lists.{In}
use Rattle.td_base.proofs.Lists.{In-append, In-front, In-back}
use Rattle.td_path.specs.Infix.{Pairs, path_cmp}
use Rattle.td_path.specs.SlotPaths.{goes_on}
use Rattle.td_path.specs.declared.slot.Slot.TheVariants.{At}
use Rattle.td_path.specs.declared.slot_path.SlotPath.{SlotPath}
use Rattle.td_path.specs.declared.slot_path.SlotPath.TheVariants.{Below}
use Rattle.td_path.proofs.InfixOrder.{path_total, goes_on_parts, between_left, between_right}
use Rattle.td_doc.specs.Document.{DocRow, live_rows}
use Rattle.td_doc.specs.Array.{named, array}
use Rattle.td_doc.specs.Flatten.{flatten_below, flatten}
use Rattle.td_doc.proofs.PutRows.{three_ways}
use Rattle.td_doc.proofs.SlotRows.{Split, split_flatten}
use Rattle.td_brackets.specs.Brackets.{Token, Open, Atom, Close, Entry, Level, IsWord, rows_from, rows_of, IsBrackets}
use Rattle.td_brackets.proofs.Words.{rows-append, word_moves, Node}
use Rattle.td_brackets.proofs.Sides.{on_left, on_right}
use Rattle.td_brackets.proofs.NodeRows.{rows_then, regrouped, after_row, before_row, n, base, all}
use Rattle.td_brackets.proofs.NodeRows.{front_rows, left_rows, row, right_rows, back_rows, front_outside}
use Rattle.td_brackets.proofs.NodeRows.{back_outside, left_inside, right_inside, slot_is}

-- what stands before the node, or is it, stands before all on its right, and so on

before_right : (node q p : Pairs) → path_cmp q node ≡ Less → goes_on node Right p ≡ true → path_cmp q p ≡ Less
before_right node q p h k = path_total.trans q node p h (on_right node p k)

after_left : (node q p : Pairs) → path_cmp node q ≡ Less → goes_on node Left p ≡ true → path_cmp p q ≡ Less
after_left node q p h k = path_total.trans p node q (on_left node p k) h

outside_right : (node q p : Pairs) → path_cmp node q ≡ Less → goes_on node Right q ≡ false → goes_on node Right p
    ≡ true → path_cmp p q ≡ Less
outside_right node q p h out k =
    let g = goes_on_parts node Right p k in
    ⊎_elim (λ (l : path_cmp p q ≡ Less). l)
    (λ (e : (p ≡ q) ⊎ (path_cmp q p ≡ Less)).
    absurd (⊎_elim (λ (f : p ≡ q). true≢false (sym k ∙ ap (goes_on node Right) f ∙ out))
    (λ (l : path_cmp q p ≡ Less). true≢false (sym (between_right node q g.id g.rest h
    (subst (λ (r : Pairs). path_cmp q r ≡ Less) g.is l)) ∙ out)) e))
    (three_ways p q)

outside_left : (node q p : Pairs) → path_cmp q node ≡ Less → goes_on node Left q ≡ false → goes_on node Left p ≡ true
    → path_cmp q p ≡ Less
outside_left node q p h out k =
    let g = goes_on_parts node Left p k in
    ⊎_elim (λ (l : path_cmp q p ≡ Less). l)
    (λ (e : (q ≡ p) ⊎ (path_cmp p q ≡ Less)).
    absurd (⊎_elim (λ (f : q ≡ p). true≢false (sym k ∙ ap (goes_on node Left) (sym f) ∙ out))
    (λ (l : path_cmp p q ≡ Less). true≢false (sym (between_left node q g.id g.rest
    (subst (λ (r : Pairs). path_cmp r q ≡ Less) g.is l) h) ∙ out)) e))
    (three_ways q p)

module _ (table : ℕ → Entry) (front tokens : List Token) (x : ℕ) (b : IsBrackets table (front ++ Open x ∷ tokens)) where
  abbrev node_row : DocRow
  node_row = row table front tokens x b

  abbrev rights : List DocRow
  rights = right_rows table front tokens x b

  abbrev lefts : List DocRow
  lefts = left_rows table front tokens x b

  abbrev firsts : List DocRow
  firsts = front_rows table front tokens x b

  abbrev backs : List DocRow
  backs = back_rows table front tokens x b

  -- the rows parted by the right side of the row, and by its left side

  right_split : Split (Below node_row.path Right) (all table front tokens x b)
  right_split = record {
    front = firsts ++ lefts ++ node_row ∷ [];
    inside = rights;
    back = backs;
    is = regrouped table front tokens x b ∙ regroup (firsts ++ lefts) rights backs;
    before = λ q i p k. ⊎_elim (λ (j : In q (firsts ++ lefts)). before_right node_row.path q.path p
        (before_row table front tokens x b q j) k)
        (λ (j : In q (node_row ∷ [])). ⊎_elim (λ (e : q ≡ node_row). subst (λ (r : DocRow). path_cmp r.path p ≡ Less)
        (sym e) (on_right node_row.path p k)) (λ (z : ⊥). absurd z) j)
        (In-append q (firsts ++ lefts) (node_row ∷ []) i);
    within = right_inside table front tokens x b;
    after = λ q i p k. outside_right node_row.path q.path p
        (after_row table front tokens x b q (In-back q rights backs i))
        (back_outside table front tokens x b Right q i) k;
  }
    where
      regroup : (a c d : List DocRow) → a ++ node_row ∷ (c ++ d) ≡ (a ++ node_row ∷ []) ++ c ++ d
      regroup a c d = simp append_assoc

  left_split : Split (Below node_row.path Left) (all table front tokens x b)
  left_split = record {
    front = firsts;
    inside = lefts;
    back = node_row ∷ (rights ++ backs);
    is = regrouped table front tokens x b;
    before = λ q i p k. outside_left node_row.path q.path p
        (before_row table front tokens x b q (In-front q firsts lefts i))
        (front_outside table front tokens x b Left q i) k;
    within = left_inside table front tokens x b;
    after = λ q i p k. ⊎_elim (λ (e : q ≡ node_row). subst (λ (r : DocRow). path_cmp p r.path ≡ Less) (sym e)
        (on_left node_row.path p k)) (λ (j : In q (rights ++ backs)). after_left node_row.path q.path p
        (after_row table front tokens x b q j) k) i;
  }

  abbrev m : Node x front tokens
  m = n table front tokens x b

  abbrev under : List Level
  under = base table front tokens x b

  -- a word in place of what stands on the right
  pub flatten_right : (word : List Token) → IsWord word → rows_from table ((x, Right) ∷ under) word
      ≡ array (Below node_row.path Right) (map named (live_rows rights))
      → rows_of table (front ++ Open x ∷ (m.left ++ Atom x ∷ (word ++ Close x ∷ m.back)))
      ≡ flatten (At (table x).id Right) (all table front tokens x b)
  unfolding right_split
  flatten_right word w e =
      rows-append table [] front (Open x ∷ (m.left ++ Atom x ∷ (word ++ Close x ∷ m.back)))
      ∙ ap (λ (q : List DocRow). firsts ++ q)
      (rows_then table ((x, Left) ∷ under) ((x, Left) ∷ under) m.left (Atom x ∷ (word ++ Close x ∷ m.back))
      (word_moves ((x, Left) ∷ under) m.left m.left_word)
      ∙ ap (λ (q : List DocRow). lefts ++ node_row ∷ q)
      (rows_then table ((x, Right) ∷ under) ((x, Right) ∷ under) word (Close x ∷ m.back)
      (word_moves ((x, Right) ∷ under) word w) ∙ ap (λ (q : List DocRow). q ++ backs) e))
      ∙ regroup firsts lefts (array (Below node_row.path Right) (map named (live_rows rights))) backs
      ∙ sym (split_flatten (Below node_row.path Right) (all table front tokens x b) right_split)
      ∙ ap (λ (o : Option SlotPath). flatten_below o (all table front tokens x b))
      (sym (slot_is table front tokens x b Right))
    where
      regroup : (a c d e : List DocRow) → a ++ (c ++ node_row ∷ (d ++ e)) ≡ (a ++ c ++ node_row ∷ []) ++ d ++ e
      regroup a c d e = simp append_assoc

  -- and on the left
  pub flatten_left : (word : List Token) → IsWord word → rows_from table ((x, Left) ∷ under) word
      ≡ array (Below node_row.path Left) (map named (live_rows lefts))
      → rows_of table (front ++ Open x ∷ (word ++ Atom x ∷ (m.right ++ Close x ∷ m.back)))
      ≡ flatten (At (table x).id Left) (all table front tokens x b)
  unfolding left_split
  flatten_left word w e =
      rows-append table [] front (Open x ∷ (word ++ Atom x ∷ (m.right ++ Close x ∷ m.back)))
      ∙ ap (λ (q : List DocRow). firsts ++ q)
      (rows_then table ((x, Left) ∷ under) ((x, Left) ∷ under) word (Atom x ∷ (m.right ++ Close x ∷ m.back))
      (word_moves ((x, Left) ∷ under) word w)
      ∙ (λ i. e i ++ node_row ∷ rows_then table ((x, Right) ∷ under) ((x, Right) ∷ under) m.right (Close x ∷ m.back)
      (word_moves ((x, Right) ∷ under) m.right m.right_word) i))
      ∙ sym (append_assoc firsts (array (Below node_row.path Left) (map named (live_rows lefts)))
      (node_row ∷ (rights ++ backs)))
      ∙ sym (split_flatten (Below node_row.path Left) (all table front tokens x b) left_split)
      ∙ ap (λ (o : Option SlotPath). flatten_below o (all table front tokens x b))
      (sym (slot_is table front tokens x b Left))
