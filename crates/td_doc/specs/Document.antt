-- Rows and documents (Preguiça et al. 2009): a Treedoc document as the list of its rows in infix order.
use Rattle.std.specs.Prelude.{◌≡◌, ◌≢◌, ℕ, List, [], ◌∷◌, ◌++◌, Bool, true, false, filter, find, map, slice_get, Option}
use Rattle.std.specs.declared.cmp.Ordering.TheVariants.{Less}
use Rattle.std.specs.List.{concat}
use Rattle.std.specs.Option.{option_map}
use Rattle.td_base.specs.declared.bit.Bit.TheVariants.{Right}
use Rattle.td_base.specs.Lists.{In, Successive}
use Rattle.td_base.specs.Value.{DotValue, AtomIdValue}
use Rattle.td_base.specs.Order.{dot_cmp}
use Rattle.td_base.specs.Equality.{same_id}
use Rattle.td_path.specs.Infix.{Pair, Pairs, path_cmp}

-- a row: its path, its atom, and the dots of the deletes that named it, in their order
pub record DocRow : Type 0 where
  pub path : Pairs
  pub atom : List ℕ
  pub deletes : List DotValue

-- the identity of the last pair, or x where there is none
abbrev pub last_id : AtomIdValue → Pairs → AtomIdValue
last_id x [] = x
last_id x (p ∷ path) = last_id p.1 path

-- the identity of a row: that of its last pair (a row's path is not empty)
abbrev pub row_id : DocRow → AtomIdValue
row_id r = last_id (record { dot = record { site = 0; seq = 0 }; offset = 0 }) r.path

abbrev pub is_empty_list : {X : Type 0} → List X → Bool
is_empty_list [] = true
is_empty_list (x ∷ xs) = false

-- a row without delete dots is live, another is a tombstone
abbrev pub is_live : DocRow → Bool
is_live r = is_empty_list r.deletes

abbrev pub live_rows : List DocRow → List DocRow
live_rows rows = filter is_live rows

-- the atoms that a document shows
abbrev pub live_atoms : List DocRow → List (List ℕ)
live_atoms rows = map (λ (r : DocRow). r.atom) (live_rows rows)

-- the text that it shows: those atoms, joined
abbrev pub text_of : List DocRow → List ℕ
text_of rows = concat (live_atoms rows)

-- the identity of the live row at an index
abbrev pub live_id_at : List DocRow → ℕ → Option AtomIdValue
live_id_at rows index = option_map row_id (slice_get (live_rows rows) index)

abbrev pub has_id : AtomIdValue → DocRow → Bool
has_id x r = same_id (row_id r) x

abbrev pub find_row : AtomIdValue → List DocRow → Option DocRow
find_row x rows = find (has_id x) rows

-- a path has a pair, and its first pair has the bit Right
abbrev pub IsPath : Pairs → Type 0
IsPath [] = ⊥
IsPath (p ∷ path) = p.0 ≡ Right

-- the rules of a document
pub record IsDocument (rows : List DocRow) : Type 0 where
  -- paths increase by infix order
  pub ascending : Successive (λ (r s : DocRow). path_cmp r.path s.path ≡ Less) rows
  -- identities differ
  pub apart : Successive (λ (r s : DocRow). row_id r ≢ row_id s) rows
  pub paths : (r : DocRow) → In r rows → IsPath r.path
  -- each nonempty proper front of a row's path is the path of a row
  pub rooted : (r : DocRow) (front : Pairs) (next : Pair) (rest : Pairs) → In r rows
      → r.path ≡ front ++ next ∷ rest → front ≢ []
      → (s : DocRow) × In s rows × (s.path ≡ front)
  -- delete dots are a set, told in their order
  pub deletes : (r : DocRow) → In r rows → Successive (λ (d e : DotValue). dot_cmp d e ≡ Less) r.deletes
