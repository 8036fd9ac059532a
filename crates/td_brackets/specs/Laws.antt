-- What the brackets of a row tell of its slots.
use Rattle.std.specs.Prelude.{◌≡◌, ◌++◌, ℕ, List, [], ◌∷◌, map, if◌then◌else◌}
use Rattle.std.specs.Option.{option_map}
use Rattle.td_base.specs.declared.bit.Bit.TheVariants.{Left, Right}
use Rattle.td_path.specs.declared.slot.Slot.TheVariants.{At}
use Rattle.td_doc.specs.Document.{live_rows, is_empty_list, DocRow}
use Rattle.td_doc.specs.Slots.{rows_in_slot}
use Rattle.td_doc.specs.Allocation.{next_id}
use Rattle.td_doc.specs.Array.{named, array}
use Rattle.td_doc.specs.Flatten.{flatten}
use Rattle.td_brackets.specs.Brackets.{Token, Open, Atom, Close, Leaf, Level, Entry, move_all, IsWord}
use Rattle.td_brackets.specs.Brackets.{IsBrackets, slot_of, rows_from, rows_of, next_row}
use Rattle.std.specs.declared.cmp.Ordering.TheVariants.{Less}
use Rattle.td_base.specs.Value.{AtomIdValue}
use Rattle.td_base.specs.Lists.{In}
use Rattle.td_path.specs.Infix.{path_cmp}
use Rattle.td_path.specs.SlotPaths.{path_in}

-- the tokens, parted by the three of a row: the words on its sides mean the rows of its two slots, the next atom is
-- the row that follows, and a word in place of the one on a side whose rows are the array of the live ones means the
-- flatten of that side
pub record Sides (table : ℕ → Entry) (tokens : List Token) (x : ℕ) : Type 0 where
  pub front : List Token
  pub left : List Token
  pub right : List Token
  pub back : List Token
  pub is : tokens ≡ front ++ Open x ∷ (left ++ Atom x ∷ (right ++ Close x ∷ back))
  pub left_word : IsWord left
  pub right_word : IsWord right
  pub in_left : rows_in_slot (rows_of table tokens) (At (table x).id Left)
      ≡ rows_from table ((x, Left) ∷ move_all [] front) left
  pub in_right : rows_in_slot (rows_of table tokens) (At (table x).id Right)
      ≡ rows_from table ((x, Right) ∷ move_all [] front) right
  pub next : next_id (table x).id (rows_of table tokens)
      ≡ option_map (λ (r : ℕ). (table r).id) (next_row (right ++ Close x ∷ back))
  pub flat_right : (word : List Token) → IsWord word
      → rows_from table ((x, Right) ∷ move_all [] front) word ≡ array (slot_of table ((x, Right) ∷ move_all [] front))
      (map named (live_rows (rows_from table ((x, Right) ∷ move_all [] front) right)))
      → rows_of table (front ++ Open x ∷ (left ++ Atom x ∷ (word ++ Close x ∷ back)))
      ≡ flatten (At (table x).id Right) (rows_of table tokens)
  pub flat_left : (word : List Token) → IsWord word
      → rows_from table ((x, Left) ∷ move_all [] front) word ≡ array (slot_of table ((x, Left) ∷ move_all [] front))
      (map named (live_rows (rows_from table ((x, Left) ∷ move_all [] front) left)))
      → rows_of table (front ++ Open x ∷ (word ++ Atom x ∷ (right ++ Close x ∷ back)))
      ≡ flatten (At (table x).id Left) (rows_of table tokens)

-- a place among the tokens, in the slot of some levels, before which each row stands before a new row in that slot
pub record Standing (table : ℕ → Entry) (tokens : List Token) (stack : List Level) (id : AtomIdValue)
    (front back : List Token) : Type 0 where
  pub is : tokens ≡ front ++ back
  pub moved : move_all [] front ≡ stack
  pub before : (q : DocRow) → In q (rows_of table front) → path_cmp q.path (path_in (slot_of table stack) id) ≡ Less

-- and behind it each stands after it
abbrev pub AllAfter : (ℕ → Entry) → List Level → AtomIdValue → List Token → Type 0
AllAfter table stack id back =
    (q : DocRow) → In q (rows_from table stack back) → path_cmp (path_in (slot_of table stack) id) q.path ≡ Less

-- the group of a row: all from its opening to its closing bracket
abbrev pub whole : ℕ → List Token → List Token → List Token
whole s left right = Open s ∷ (left ++ Atom s ∷ (right ++ Close s ∷ []))

-- a leaf by itself; none where it has no rows
abbrev pub leaf_word : List ℕ → List Token
leaf_word [] = []
leaf_word (r ∷ rs) = Leaf (r ∷ rs) ∷ []

-- a leaf exploded one step: its middle row with a leaf on each side
abbrev pub exploded : List ℕ → ℕ → List ℕ → List Token
exploded before m after = whole m (leaf_word before) (leaf_word after)

-- the live ones among the rows of some tokens, in their order; those of a leaf are live
abbrev pub live_number : (ℕ → Entry) → Token → List ℕ
live_number table (Open r) = []
live_number table (Atom r) = if is_empty_list (table r).deletes then r ∷ [] else []
live_number table (Close r) = []
live_number table (Leaf rs) = rs

abbrev pub live_numbers : (ℕ → Entry) → List Token → List ℕ
live_numbers table [] = []
live_numbers table (t ∷ tokens) = live_number table t ++ live_numbers table tokens

-- a leaf, exploded down to its row x: what comes to stand in its place means the same, and x is a node there, with a
-- leaf on each side
pub record ExplodedTo (table : ℕ → Entry) (front back : List Token) (rs : List ℕ) (x : ℕ) : Type 0 where
  pub opened : List Token
  pub closed : List Token
  pub before : List ℕ
  pub after : List ℕ
  pub rows : rows_of table (front ++ Leaf rs ∷ back)
      ≡ rows_of table ((front ++ opened) ++ (exploded before x after ++ (closed ++ back)))
  pub brackets : IsBrackets table ((front ++ opened) ++ (exploded before x after ++ (closed ++ back)))
