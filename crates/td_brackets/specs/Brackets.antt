-- A document as a list of brackets: which lists are one, and which rows they mean.
use Rattle.std.specs.Prelude.{◌≡◌, ◌≢◌, ◌++◌, ℕ, List, [], ◌∷◌, false, map, Option, Some, None}
use Rattle.td_base.specs.declared.bit.Bit.{Bit}
use Rattle.td_base.specs.declared.bit.Bit.TheVariants.{Left, Right}
use Rattle.td_base.specs.Lists.{In, Successive}
use Rattle.td_base.specs.Value.{DotValue, AtomIdValue}
use Rattle.td_path.specs.declared.slot_path.SlotPath.{SlotPath}
use Rattle.td_path.specs.declared.slot_path.SlotPath.TheVariants.{Root as Whole, Below}
use Rattle.td_path.specs.declared.slot.Slot.{Slot}
use Rattle.td_path.specs.declared.slot.Slot.TheVariants.{Root, At}
use Rattle.td_path.specs.SlotPaths.{path_in}
use Rattle.td_doc.specs.Document.{DocRow, is_empty_list, IsDocument}
use Rattle.td_doc.specs.Array.{array}
use Rattle.td_base.specs.RunAtoms.{NamedAtom}

-- what stands in the list: the brackets of a row and the row itself, by its number, or the rows of a leaf in order
pub data Token : Type 0 where
  Open : ℕ → Token
  Atom : ℕ → Token
  Close : ℕ → Token
  Leaf : List ℕ → Token

-- what is kept of a row besides its place
pub record Entry : Type 0 where
  pub id : AtomIdValue
  pub atom : List ℕ
  pub deletes : List DotValue

-- a row that is open, and the side of it that is being read
abbrev pub Level : Type 0
Level = ℕ × Bit

-- the open rows after a token, the innermost first
abbrev pub move : List Level → Token → List Level
move stack (Open r) = (r, Left) ∷ stack
move [] (Atom r) = []
move (l ∷ stack) (Atom r) = (l.0, Right) ∷ stack
move [] (Close r) = []
move (l ∷ stack) (Close r) = stack
move stack (Leaf rs) = stack

abbrev pub move_all : List Level → List Token → List Level
move_all stack [] = stack
move_all stack (t ∷ tokens) = move_all (move stack t) tokens

-- whether a token may stand there: an atom between the two sides of its row, a closing bracket after the right side
abbrev pub Fits : List Level → Token → Type 0
Fits stack (Open r) = Unit {0}
Fits [] (Atom r) = ⊥
Fits (l ∷ stack) (Atom r) = l ≡ (r, Left)
Fits [] (Close r) = ⊥
Fits (l ∷ stack) (Close r) = l ≡ (r, Right)
Fits stack (Leaf rs) = is_empty_list rs ≡ false

-- each token fits, from these open rows on
abbrev pub AllFit : List Level → List Token → Type 0
AllFit stack [] = Unit {0}
AllFit stack (t ∷ tokens) = Fits stack t × AllFit (move stack t) tokens

-- each token fits, and what is opened is closed
abbrev pub IsWord : List Token → Type 0
IsWord tokens = AllFit [] tokens × (move_all [] tokens ≡ [])

-- the slot that is being read
abbrev pub slot_of : (ℕ → Entry) → List Level → SlotPath
slot_of table [] = Whole
slot_of table (l ∷ stack) = Below (path_in (slot_of table stack) (table l.0).id) l.1

-- the row r in a slot
abbrev pub row_of : (ℕ → Entry) → SlotPath → ℕ → DocRow
row_of table slot r = record { path = path_in slot (table r).id; atom = (table r).atom; deletes = (table r).deletes }

abbrev pub outer : List Level → List Level
outer [] = []
outer (l ∷ stack) = stack

abbrev pub atom_of : (ℕ → Entry) → ℕ → NamedAtom
atom_of table r = record { id = (table r).id; atom = (table r).atom }

-- the rows of a leaf in a slot: the array of their atoms
abbrev pub leaf_rows : (ℕ → Entry) → SlotPath → List ℕ → List DocRow
leaf_rows table slot rs = array slot (map (atom_of table) rs)

-- the rows that a token is
abbrev pub row_at : (ℕ → Entry) → List Level → Token → List DocRow
row_at table stack (Open r) = []
row_at table stack (Atom r) = row_of table (slot_of table (outer stack)) r ∷ []
row_at table stack (Close r) = []
row_at table stack (Leaf rs) = leaf_rows table (slot_of table stack) rs

-- the rows that the tokens mean
abbrev pub rows_from : (ℕ → Entry) → List Level → List Token → List DocRow
rows_from table stack [] = []
rows_from table stack (t ∷ tokens) = row_at table stack t ++ rows_from table (move stack t) tokens

abbrev pub rows_of : (ℕ → Entry) → List Token → List DocRow
rows_of table tokens = rows_from table [] tokens

-- the rows that come with a token
abbrev pub numbers_at : Token → List ℕ
numbers_at (Open r) = r ∷ []
numbers_at (Atom r) = []
numbers_at (Close r) = []
numbers_at (Leaf rs) = rs

abbrev pub numbers_of : List Token → List ℕ
numbers_of [] = []
numbers_of (t ∷ tokens) = numbers_at t ++ numbers_of tokens

-- a list of brackets
pub record IsBrackets (table : ℕ → Entry) (tokens : List Token) : Type 0 where
  pub word : IsWord tokens
  -- no token stands twice
  pub once : Successive (λ (s t : Token). s ≢ t) tokens
  -- each row stands once, and identities differ
  pub apart : Successive (λ (r s : ℕ). (table r).id ≢ (table s).id) (numbers_of tokens)
  -- the rows of leaves are live
  pub live : (rs : List ℕ) (r : ℕ) → In (Leaf rs) tokens → In r rs → (table r).deletes ≡ []
  pub document : IsDocument (rows_of table tokens)

-- the row that the next atom is
abbrev pub next_row : List Token → Option ℕ
next_row [] = None
next_row (Open r ∷ tokens) = next_row tokens
next_row (Atom r ∷ tokens) = Some r
next_row (Close r ∷ tokens) = next_row tokens
next_row (Leaf [] ∷ tokens) = next_row tokens
next_row (Leaf (r ∷ rs) ∷ tokens) = Some r

-- the slot that is being read, by the identity of its atom
abbrev pub slot_round : (ℕ → Entry) → List Level → Slot
slot_round table [] = Root
slot_round table (l ∷ stack) = At (table l.0).id l.1

-- among tokens of the same rows a leaf of these rows stands in a slot
pub record LeafIn (table : ℕ → Entry) (rows : List DocRow) (rs : List ℕ) (round : Slot) : Type 0 where
  pub front : List Token
  pub back : List Token
  pub brackets : IsBrackets table (front ++ Leaf rs ∷ back)
  pub same : rows ≡ rows_of table (front ++ Leaf rs ∷ back)
  pub round_is : slot_round table (move_all [] front) ≡ round
