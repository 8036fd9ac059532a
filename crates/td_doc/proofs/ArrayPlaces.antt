-- The rows of an array: whose they are, and how one of them is reached from the top node.
use Rattle.std.proofs.Common.{◌≡◌, ℕ, zero, suc, ◌+◌, ◌-◌, ◌/◌, ◌<◌, ◌≤◌, List, [], ◌∷◌, ◌++◌, length}
use Rattle.std.proofs.Common.{take, drop, get_or, Some, refl, sym, ap, ◌∙◌, arith}
use Rattle.std.specs.Prelude.{slice_get}
use Rattle.std.proofs.lemmas.List.{length-map, length-take-le, length-drop, take_more}
use Rattle.std.proofs.lemmas.Option.{slice_get_within, get_or_from_slice_get}
use Rattle.td_base.specs.declared.bit.Bit.{Bit}
use Rattle.td_base.specs.declared.bit.Bit.TheVariants.{Left, Right}
use Rattle.td_base.specs.Value.{AtomIdValue}
use Rattle.td_path.specs.Infix.{Pairs}
use Rattle.td_path.specs.SlotPaths.{path_in}
use Rattle.td_path.specs.declared.slot_path.SlotPath.{SlotPath}
use Rattle.td_path.specs.declared.slot_path.SlotPath.TheVariants.{Below}
use Rattle.td_doc.specs.Document.{DocRow}
use Rattle.td_doc.specs.Array.{named, row_in, around, array_upto, array}
use Rattle.td_base.specs.RunAtoms.{NamedAtom}
use Rattle.td_doc.proofs.ArrayRows.{array_names}
use Rattle.td_base.proofs.Elements.{get_front}

-- what is given in place of the length does not matter

abbrev Maker : Type 0
Maker = SlotPath → List NamedAtom → List DocRow

around_same : (f g : Maker) (slot : SlotPath) (before rest : List NamedAtom)
    → ((s : SlotPath) → f s before ≡ g s before) → ((s : SlotPath) (m : NamedAtom) (after : List NamedAtom) → rest
    ≡ m ∷ after → f s after ≡ g s after)
    → around f slot before rest ≡ around g slot before rest
around_same f g slot before [] left right = refl
around_same f g slot before (m ∷ after) left right = λ i. left (Below (path_in slot m.id) Left) i
    ++ row_in slot m ∷ right (Below (path_in slot m.id) Right) m after refl i

half_below : (n : ℕ) → 0 < n → n / 2 < n
half_below n some = omega arith

length_before : (n : ℕ) (atoms : List NamedAtom) → length atoms ≤ suc n → length (take (length atoms / 2) atoms) ≤ n
length_before n [] h = omega arith
length_before n (a ∷ atoms) h =
    let half = half_below (length (a ∷ atoms)) (omega arith) in
    omega (arith, length-take-le (length (a ∷ atoms) / 2) (a ∷ atoms) (omega (arith, half)), half)

length_after : (n : ℕ) (atoms : List NamedAtom) (m : NamedAtom) (after : List NamedAtom) → length atoms ≤ suc n
    → drop (length atoms / 2) atoms ≡ m ∷ after → length after ≤ n
length_after n atoms m after h e =
    let all : length (drop (length atoms / 2) atoms) ≡ length (m ∷ after) = ap length e in
    omega (arith, length-drop (length atoms / 2) atoms, all)

pub enough : (n k : ℕ) (slot : SlotPath) (atoms : List NamedAtom) → length atoms ≤ n → length atoms ≤ k
    → array_upto n slot atoms ≡ array_upto k slot atoms
enough zero zero slot atoms h l = refl
enough zero (suc k) slot [] h l = refl
enough zero (suc k) slot (a ∷ atoms) h l = absurd (omega arith)
enough (suc n) zero slot [] h l = refl
enough (suc n) zero slot (a ∷ atoms) h l = absurd (omega arith)
enough (suc n) (suc k) slot atoms h l =
    around_same (array_upto n) (array_upto k) slot (take (length atoms / 2) atoms) (drop (length atoms / 2) atoms)
    (λ s. enough n k s (take (length atoms / 2) atoms) (length_before n atoms h) (length_before k atoms l))
    (λ s m after e. enough n k s after (length_after n atoms m after h e) (length_after k atoms m after l e))

pub length_array : (slot : SlotPath) (atoms : List NamedAtom) → length (array slot atoms) ≡ length atoms
length_array slot atoms = sym (length-map (array slot atoms) named) ∙ ap length (array_names slot atoms)

-- an array of two parts around its top node

pub record Halves (atoms : List NamedAtom) (middle : NamedAtom) : Type 0 where
  pub some : 0 < length atoms
  pub is : drop (length atoms / 2) atoms ≡ middle ∷ drop (length atoms / 2 + 1) atoms

pub halved : (slot : SlotPath) (atoms : List NamedAtom) (middle : NamedAtom) → Halves atoms middle
    → array slot atoms ≡ array (Below (path_in slot middle.id) Left) (take (length atoms / 2) atoms)
    ++ row_in slot middle ∷ array (Below (path_in slot middle.id) Right) (drop (length atoms / 2 + 1) atoms)
halved slot [] middle h = absurd (omega (arith, h.some))
halved slot (a ∷ atoms) middle h =
    let n = length atoms in
    let k = length (a ∷ atoms) / 2 in
    let before = take k (a ∷ atoms) in
    let after = drop (k + 1) (a ∷ atoms) in
    ap (around (array_upto n) slot before) h.is
    ∙ (λ i.
    enough n (length before) (Below (path_in slot middle.id) Left) before (length_before n (a ∷ atoms) (omega arith))
    (omega arith) i
    ++ row_in slot middle ∷ enough n (length after) (Below (path_in slot middle.id) Right) after
    (length_after n (a ∷ atoms) middle after (omega arith) h.is) (omega arith) i)

-- the middle atom, read
pub halves : (atoms : List NamedAtom) (middle : NamedAtom) → 0 < length atoms → middle
    ≡ get_or atoms (length atoms / 2) middle → Halves atoms middle
halves atoms middle some is = record {
  some = some;
  is = read atoms (length atoms / 2) middle (half_below (length atoms) some) is;
}
  where
    read : (atoms : List NamedAtom) (k : ℕ) (middle : NamedAtom) → k < length atoms → middle ≡ get_or atoms k middle
        → drop k atoms ≡ middle ∷ drop (k + 1) atoms
    read [] k middle h is = absurd (omega arith)
    read (a ∷ atoms) zero middle h is = λ i. sym is i ∷ atoms
    read (a ∷ atoms) (suc k) middle h is = let next : suc k + 1 ≡ suc (k + 1) = omega arith in
        rw next (read atoms k middle (omega arith) is)

-- where a row of the array is

get_middle : {X : Type 0} (xs ys : List X) (x : X) (k : ℕ) → k ≡ length xs → slice_get (xs ++ x ∷ ys) k ≡ Some x
get_middle [] ys x zero h = refl
get_middle [] ys x (suc k) h = absurd (omega arith)
get_middle (z ∷ xs) ys x zero h = absurd (omega arith)
get_middle (z ∷ xs) ys x (suc k) h = get_middle xs ys x k (omega arith)

get_back : {X : Type 0} (xs ys : List X) (x : X) (k : ℕ) → length xs < k → slice_get (xs ++ x ∷ ys) k
    ≡ slice_get ys (k - (length xs + 1))
get_back [] ys x zero h = absurd (omega arith)
get_back [] ys x (suc k) h = let less : suc k - (0 + 1) ≡ k = omega arith in rw less refl
get_back (z ∷ xs) ys x zero h = absurd (omega arith)
get_back (z ∷ xs) ys x (suc k) h = let less : suc k - (suc (length xs) + 1) ≡ k - (length xs + 1) = omega arith in
    rw less (get_back xs ys x k (omega arith))

length_left : (slot : SlotPath) (atoms : List NamedAtom) (middle : NamedAtom) → Halves atoms middle
    → length (array slot (take (length atoms / 2) atoms)) ≡ length atoms / 2
length_left slot atoms middle h = length_array slot (take (length atoms / 2) atoms)
    ∙ length-take-le (length atoms / 2) atoms (omega (arith, half_below (length atoms) h.some))

pub go_left : (slot : SlotPath) (atoms : List NamedAtom) (middle : NamedAtom) (k : ℕ) → Halves atoms middle
    → k < length atoms / 2
    → slice_get (array slot atoms) k ≡ slice_get (array (Below (path_in slot middle.id) Left)
    (take (length atoms / 2) atoms)) k
go_left slot atoms middle k h less =
    let left = Below (path_in slot middle.id) Left in
    ap (λ (rows : List DocRow). slice_get rows k) (halved slot atoms middle h)
    ∙ get_front (array left (take (length atoms / 2) atoms)) _ k
    (omega (arith, less, length_left left atoms middle h))

pub stop_here : (slot : SlotPath) (atoms : List NamedAtom) (middle : NamedAtom) (k : ℕ) → Halves atoms middle → k
    ≡ length atoms / 2 → slice_get (array slot atoms) k ≡ Some (row_in slot middle)
stop_here slot atoms middle k h same =
    let left = Below (path_in slot middle.id) Left in
    ap (λ (rows : List DocRow). slice_get rows k) (halved slot atoms middle h)
    ∙ get_middle (array left (take (length atoms / 2) atoms)) _ (row_in slot middle) k
    (omega (arith, same, length_left left atoms middle h))

pub go_right : (slot : SlotPath) (atoms : List NamedAtom) (middle : NamedAtom) (k : ℕ) → Halves atoms middle
    → length atoms / 2 < k
    → slice_get (array slot atoms) k ≡ slice_get (array (Below (path_in slot middle.id) Right)
    (drop (length atoms / 2 + 1) atoms)) (k - (length atoms / 2 + 1))
go_right slot atoms middle k h more =
    let left = Below (path_in slot middle.id) Left in
    let right = array (Below (path_in slot middle.id) Right) (drop (length atoms / 2 + 1) atoms) in
    let before = array left (take (length atoms / 2) atoms) in
    ap (λ (rows : List DocRow). slice_get rows k) (halved slot atoms middle h)
    ∙ get_back before right (row_in slot middle) k (omega (arith, more, length_left left atoms middle h))
    ∙ ap (λ (n : ℕ). slice_get right (k - (n + 1))) (length_left left atoms middle h)

-- the root is the right of the empty path

around_front : (f : Maker) (slot : SlotPath) (front : Pairs) (bit : Bit)
    → ((id : AtomIdValue) → path_in slot id ≡ front ++ (bit, id) ∷ []) → (before rest : List NamedAtom)
    → around f slot before rest ≡ around f (Below front bit) before rest
around_front f slot front bit is before [] = refl
around_front f slot front bit is before (m ∷ after) = λ i. f (Below (is m.id i) Left) before
    ++ record { path = is m.id i; atom = m.atom; deletes = [] } ∷ f (Below (is m.id i) Right) after

pub array_front : (slot : SlotPath) (front : Pairs) (bit : Bit) (atoms : List NamedAtom)
    → ((id : AtomIdValue) → path_in slot id ≡ front ++ (bit, id) ∷ []) → array slot atoms
    ≡ array (Below front bit) atoms
array_front slot front bit [] is = refl
array_front slot front bit (a ∷ atoms) is = around_front (array_upto (length atoms)) slot front bit is
    (take (length (a ∷ atoms) / 2) (a ∷ atoms)) (drop (length (a ∷ atoms) / 2) (a ∷ atoms))

-- one more row
pub next_row : (rows made : List DocRow) (k : ℕ) (row : DocRow) → made ≡ take k rows → slice_get rows k ≡ Some row
    → made ++ row ∷ [] ≡ take (k + 1) rows
next_row rows made k row so_far is =
    rw (so_far, take_more rows k row (slice_get_within rows k row is), get_or_from_slice_get rows k row row is) refl

-- one step down

module _ (atoms : List NamedAtom) (node : NamedAtom) (path below : Pairs) (bit : Bit) (k : ℕ)
    (within : k < length atoms) (read : node ≡ get_or atoms (length atoms / 2) node)
    (pushed : below ≡ path ++ (bit, node.id) ∷ []) where
  split : Halves atoms node
  split = halves atoms node (omega arith) read

  pub step_left : k < length atoms / 2 → slice_get (array (Below below Left) (take (length atoms / 2) atoms)) k
      ≡ slice_get (array (Below path bit) atoms) k
  step_left less = rw pushed (sym (go_left (Below path bit) atoms node k split less))

  pub step_right : length atoms / 2 < k → slice_get (array (Below below Right) (drop (length atoms / 2 + 1) atoms))
      (k - (length atoms / 2 + 1)) ≡ slice_get (array (Below path bit) atoms) k
  step_right more = rw pushed (sym (go_right (Below path bit) atoms node k split more))

  pub arrived : (row : DocRow) → k ≡ length atoms / 2 → row ≡ record { path = below; atom = node.atom; deletes = [] }
      → slice_get (array (Below path bit) atoms) k ≡ Some row
  arrived row same is = rw (is, pushed) (stop_here (Below path bit) atoms node k split same)
