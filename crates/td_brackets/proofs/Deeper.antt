-- Down into a leaf: a part of it stands as a leaf of its own among tokens of the same rows, and so its middle row
-- stands in brackets.
use Rattle.std.proofs.Common.{◌≡◌, ◌≢◌, ◌/◌, ℕ, List, [], ◌∷◌, ◌++◌, false, map, length, Some}
use Rattle.std.proofs.Common.{refl, sym, ap, ◌∙◌, subst, inl, inr, append_assoc}
use Rattle.std.proofs.lemmas.List.{append-nil}
use Rattle.td_base.specs.declared.bit.Bit.TheVariants.{Left, Right}
use Rattle.td_base.specs.Lists.{In, Successive}
use Rattle.td_base.proofs.Lists.{In-front, In-back, successive_back}
use Rattle.td_path.specs.declared.slot.Slot.{Slot}
use Rattle.td_path.specs.declared.slot.Slot.TheVariants.{At}
use Rattle.td_doc.specs.Document.{DocRow, find_row, is_empty_list}
use Rattle.td_doc.specs.Slots.{rows_in_slot, own_slot}
use Rattle.td_brackets.specs.Brackets.{Token, Open, Atom, Close, Leaf, Entry, Level, move_all, slot_of}
use Rattle.td_brackets.specs.Brackets.{slot_round, rows_from, rows_of, IsBrackets, LeafIn}
use Rattle.td_brackets.specs.Laws.{leaf_word, exploded}
use Rattle.td_brackets.specs.RowNumbers.{row_numbers, entry_of}
use Rattle.td_brackets.proofs.Words.{move-append, word_moves, Node, node}
use Rattle.td_brackets.proofs.Sides.{row_named}
use Rattle.td_brackets.proofs.NodeRows.{row, found, left_slot, right_slot}
use Rattle.td_brackets.proofs.Standing.{split_unique}
use Rattle.td_brackets.proofs.OwnSlots.{own_slot_is}
use Rattle.td_brackets.proofs.Leaves.{explode, leaf_word_fits}
use Rattle.td_brackets.proofs.Once.{explode_brackets}
use Rattle.td_brackets.proofs.Entries.{entries_are}

-- what is known of the row x: it is found, in its slot, and its two slots have these rows
pub record RowTold (table : ℕ → Entry) (rows : List DocRow) (x : ℕ) (round : Slot) (left right : List ℕ) : Type 0 where
  pub row : DocRow
  pub found : find_row (table x).id rows ≡ Some row
  pub entry : entry_of row ≡ table x
  pub own : own_slot row ≡ round
  pub in_left : map entry_of (rows_in_slot rows (At (table x).id Left)) ≡ map table left
  pub in_right : map entry_of (rows_in_slot rows (At (table x).id Right)) ≡ map table right

module _ (table : ℕ → Entry) where
  -- of a row in brackets
  pub told_at : (front left right back : List Token) (x : ℕ)
      → IsBrackets table (front ++ Open x ∷ (left ++ Atom x ∷ (right ++ Close x ∷ back)))
      → RowTold table (rows_of table (front ++ Open x ∷ (left ++ Atom x ∷ (right ++ Close x ∷ back)))) x
      (slot_round table (move_all [] front)) (row_numbers left) (row_numbers right)
  told_at front left right back x b =
      let tokens : List Token = left ++ Atom x ∷ (right ++ Close x ∷ back) in
      let n : Node x front tokens = node front tokens x b.word in
      let once : Successive (λ (s t : Token). s ≢ t) tokens =
      (successive_back (λ (s t : Token). s ≢ t) front (Open x ∷ tokens) b.once).1 in
      let first = split_unique left n.left (right ++ Close x ∷ back) (n.right ++ Close x ∷ n.back) (Atom x) once n.is in
      let after : Successive (λ (s t : Token). s ≢ t) (right ++ Close x ∷ back) =
      (successive_back (λ (s t : Token). s ≢ t) left (Atom x ∷ (right ++ Close x ∷ back)) once).1 in
      let second = split_unique right n.right back n.back (Close x) after first.1 in
      let there_left : (t : Token) → In t left → In t (front ++ Open x ∷ tokens) =
      λ t i. In-back t front (Open x ∷ tokens) (inr (In-front t left (Atom x ∷ (right ++ Close x ∷ back)) i)) in
      let there_right : (t : Token) → In t right → In t (front ++ Open x ∷ tokens) =
      λ t i. In-back t front (Open x ∷ tokens) (inr (In-back t left (Atom x ∷ (right ++ Close x ∷ back))
      (inr (In-front t right (Close x ∷ back) i)))) in
      record {
        row = row table front tokens x b;
        found = found table front tokens x b;
        entry = λ i. record {
          id = row_named table (slot_of table (move_all [] front)) x i;
          atom = (table x).atom;
          deletes = (table x).deletes;
        };
        own = own_slot_is table (move_all [] front) x;
        in_left = ap (map entry_of) (left_slot table front tokens x b
            ∙ ap (rows_from table ((x, Left) ∷ move_all [] front)) (sym first.0))
            ∙ entries_are table ((x, Left) ∷ move_all [] front) left
            (λ rs r i j. b.live rs r (there_left (Leaf rs) i) j);
        in_right = ap (map entry_of) (right_slot table front tokens x b
            ∙ ap (rows_from table ((x, Right) ∷ move_all [] front)) (sym second.0))
            ∙ entries_are table ((x, Right) ∷ move_all [] front) right
            (λ rs r i j. b.live rs r (there_right (Leaf rs) i) j);
      }

  not_empty : (before : List ℕ) (m : ℕ) (after : List ℕ) → is_empty_list (before ++ m ∷ after) ≡ false
  not_empty [] m after = refl
  not_empty (x ∷ before) m after = refl

  module _ (rows : List DocRow) (before : List ℕ) (m : ℕ) (after : List ℕ) (round : Slot)
      (half : length before ≡ length (before ++ m ∷ after) / 2)
      (l : LeafIn table rows (before ++ m ∷ after) round) where
    abbrev rs : List ℕ
    rs = before ++ m ∷ after

    abbrev tokens : List Token
    tokens = l.front ++ (exploded before m after ++ l.back)

    live : (table m).deletes ≡ []
    live = l.brackets.live rs m (In-back (Leaf rs) l.front (Leaf rs ∷ l.back) (inl refl))
        (In-back m before (m ∷ after) (inl refl))

    brackets : IsBrackets table tokens
    brackets = explode_brackets table l.front l.back before m after half l.brackets

    same : rows ≡ rows_of table tokens
    same = l.same ∙ explode table [] l.front l.back before m after half live

    regroup : (b c d : List Token) → (Open m ∷ (b ++ Atom m ∷ (c ++ Close m ∷ []))) ++ d
        ≡ Open m ∷ (b ++ Atom m ∷ (c ++ Close m ∷ d))
    regroup b c d = simp append_assoc

    parts : tokens ≡ l.front ++ Open m ∷ (leaf_word before ++ Atom m ∷ (leaf_word after ++ Close m ∷ l.back))
    parts = ap (λ (q : List Token). l.front ++ q) (regroup (leaf_word before) (leaf_word after) l.back)

    leaf_numbers : (rs : List ℕ) → row_numbers (leaf_word rs) ≡ rs
    leaf_numbers [] = refl
    leaf_numbers (r ∷ others) = append-nil (r ∷ others)

    -- of its middle row
    pub told_top : RowTold table rows m round before after
    told_top =
        let k = told_at l.front (leaf_word before) (leaf_word after) l.back m
        (subst (IsBrackets table) parts brackets) in
        let back : rows_of table (l.front ++ Open m ∷ (leaf_word before
        ++ Atom m ∷ (leaf_word after ++ Close m ∷ l.back))) ≡ rows = ap (rows_of table) (sym parts) ∙ sym same in
        subst (λ (q : List DocRow). RowTold table q m round before after) back
        (record {
          row = k.row;
          found = k.found;
          entry = k.entry;
          own = k.own ∙ l.round_is;
          in_left = k.in_left ∙ ap (map table) (leaf_numbers before);
          in_right = k.in_right ∙ ap (map table) (leaf_numbers after);
        })

    one_leaf : (rs : List ℕ) → is_empty_list rs ≡ false → leaf_word rs ≡ Leaf rs ∷ []
    one_leaf [] e = absurd cc
    one_leaf (r ∷ others) e = refl

    -- the rows before the middle one stand on its left
    pub leaf_left : is_empty_list before ≡ false → LeafIn table rows before (At (table m).id Left)
    leaf_left some =
        let back : List Token = Atom m ∷ (leaf_word after ++ Close m ∷ l.back) in
        let is : tokens ≡ (l.front ++ Open m ∷ []) ++ Leaf before ∷ back =
        parts ∙ ap (λ (w : List Token). l.front ++ Open m ∷ (w ++ back)) (one_leaf before some)
        ∙ sym (append_assoc l.front (Open m ∷ []) (Leaf before ∷ back)) in
        record {
          front = l.front ++ Open m ∷ [];
          back = back;
          brackets = subst (IsBrackets table) is brackets;
          same = same ∙ ap (rows_of table) is;
          round_is = ap (slot_round table) (move-append [] l.front (Open m ∷ []));
        }

    -- and those after it on its right
    pub leaf_right : is_empty_list after ≡ false → LeafIn table rows after (At (table m).id Right)
    leaf_right some =
        let front : List Token = l.front ++ Open m ∷ (leaf_word before ++ Atom m ∷ []) in
        let is : tokens ≡ front ++ Leaf after ∷ (Close m ∷ l.back) =
        parts ∙ ap (λ (w : List Token). l.front ++ Open m ∷ (leaf_word before ++ Atom m ∷ (w ++ Close m ∷ l.back)))
        (one_leaf after some) ∙ sym (regrouped l.front (leaf_word before) (Leaf after ∷ (Close m ∷ l.back))) in
        record {
          front = front;
          back = Close m ∷ l.back;
          brackets = subst (IsBrackets table) is brackets;
          same = same ∙ ap (rows_of table) is;
          round_is = ap (slot_round table)
              (move-append [] l.front (Open m ∷ (leaf_word before ++ Atom m ∷ []))
              ∙ move-append ((m, Left) ∷ move_all [] l.front) (leaf_word before) (Atom m ∷ [])
              ∙ ap (λ (s : List Level). move_all s (Atom m ∷ []))
              (word_moves ((m, Left) ∷ move_all [] l.front) (leaf_word before) (leaf_word_fits before)));
        }
      where
        regrouped : (a b c : List Token) → (a ++ Open m ∷ (b ++ Atom m ∷ [])) ++ c ≡ a ++ Open m ∷ (b ++ Atom m ∷ c)
        regrouped a b c = simp append_assoc
