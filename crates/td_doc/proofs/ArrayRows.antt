-- The rows of an array.
use Rattle.std.proofs.Common.{◌≡◌, ◌≢◌, ◌⊎◌, ◌≤◌, ◌-◌, ◌/◌, ℕ, zero, suc, List, [], ◌∷◌, ◌++◌, true, cond, map}
use Rattle.std.proofs.Common.{length, take, drop, refl, sym, ap, ◌∙◌, subst, inl, inr, ⊎_elim, arith}
use Rattle.std.proofs.Common.{append_assoc, take-append-drop, length-drop, length-take-le}
use Rattle.std.proofs.lemmas.List.{map-append, append-nil}
use Rattle.td_base.specs.declared.bit.Bit.{Bit}
use Rattle.td_base.specs.declared.bit.Bit.TheVariants.{Left, Right}
use Rattle.td_base.specs.Value.{AtomIdValue}
use Rattle.std.specs.declared.cmp.Ordering.TheVariants.{Less}
use Rattle.td_base.specs.Lists.{In, Successive}
use Rattle.td_base.proofs.Lists.{In-append, In-front, In-back, all_of, successive_append}
use Rattle.td_path.specs.Infix.{Pair, Pairs, path_cmp}
use Rattle.td_path.specs.SlotPaths.{goes_on, slot_contains, path_in}
use Rattle.td_path.specs.declared.slot_path.SlotPath.{SlotPath}
use Rattle.td_path.specs.declared.slot_path.SlotPath.TheVariants.{Root as Whole, Below}
use Rattle.td_path.proofs.InfixOrder.{path_total, left_before, right_after, goes_on_from}
use Rattle.td_doc.specs.Document.{DocRow, is_empty_list, live_rows, IsPath}
use Rattle.td_doc.specs.Array.{named, row_in, around, array_upto, array}
use Rattle.td_base.specs.RunAtoms.{NamedAtom}
use Rattle.td_doc.proofs.PathEnds.{last_id-append}
use Rattle.td_doc.proofs.PutRows.{Before}

-- a path that begins with that of an atom right in the slot
pub record Starts (slot : SlotPath) (path : Pairs) : Type 0 where
  pub id : AtomIdValue
  pub rest : Pairs
  pub is : path ≡ path_in slot id ++ rest

path_in_more : (front : Pairs) (bit : Bit) (x : AtomIdValue) (rest : Pairs) → path_in (Below front bit) x ++ rest
    ≡ front ++ (bit, x) ∷ rest
path_in_more front bit x rest = append_assoc front ((bit, x) ∷ []) rest

pub starts_contained : (slot : SlotPath) (path : Pairs) → Starts slot path → slot_contains slot path ≡ true
starts_contained Whole path s = refl
starts_contained (Below front bit) path s = subst (λ (p : Pairs). goes_on front bit p ≡ true)
    (sym (s.is ∙ path_in_more front bit s.id s.rest)) (goes_on_from front bit s.id s.rest)

starts_deeper : (slot : SlotPath) (x : AtomIdValue) (side : Bit) (path : Pairs)
    → Starts (Below (path_in slot x) side) path → Starts slot path
starts_deeper slot x side path s = record {
  id = x;
  rest = (side, s.id) ∷ s.rest;
  is = s.is ∙ path_in_more (path_in slot x) side s.id s.rest;
}

pub starts_here : (slot : SlotPath) (x : AtomIdValue) → Starts slot (path_in slot x)
starts_here slot x = record { id = x; rest = []; is = sym (append-nil (path_in slot x)) }

before_node : (node path : Pairs) → Starts (Below node Left) path → path_cmp path node ≡ Less
before_node node path s = subst (λ (p : Pairs). path_cmp p node ≡ Less)
    (sym (s.is ∙ path_in_more node Left s.id s.rest)) (left_before node s.id s.rest)

after_node : (node path : Pairs) → Starts (Below node Right) path → path_cmp node path ≡ Less
after_node node path s = subst (λ (p : Pairs). path_cmp node p ≡ Less)
    (sym (s.is ∙ path_in_more node Right s.id s.rest)) (right_after node s.id s.rest)

-- a fact of each row, from the node and what hangs on each side
around_all : (P : SlotPath → DocRow → Type 0) (rows : SlotPath → List NamedAtom → List DocRow)
    → ((slot : SlotPath) (atoms : List NamedAtom) (r : DocRow) → In r (rows slot atoms) → P slot r)
    → ((slot : SlotPath) (a : NamedAtom) → P slot (row_in slot a))
    → ((slot : SlotPath) (x : AtomIdValue) (side : Bit) (r : DocRow) → P (Below (path_in slot x) side) r → P slot r)
    → (slot : SlotPath) (before after : List NamedAtom) (r : DocRow) → In r (around rows slot before after) → P slot r
around_all P rows ih here deeper slot before [] r i = absurd i
around_all P rows ih here deeper slot before (middle ∷ after) r i =
    ⊎_elim (λ (k : In r (rows (Below (path_in slot middle.id) Left) before)). deeper slot middle.id Left r
    (ih (Below (path_in slot middle.id) Left) before r k))
    (λ (k : In r (row_in slot middle ∷ rows (Below (path_in slot middle.id) Right) after)).
    ⊎_elim (λ (e : r ≡ row_in slot middle). subst (P slot) (sym e) (here slot middle))
    (λ (j : In r (rows (Below (path_in slot middle.id) Right) after)). deeper slot middle.id Right r
    (ih (Below (path_in slot middle.id) Right) after r j)) k)
    (In-append r (rows (Below (path_in slot middle.id) Left) before)
    (row_in slot middle ∷ rows (Below (path_in slot middle.id) Right) after) i)

abbrev StartsIn : SlotPath → DocRow → Type 0
StartsIn slot r = Starts slot r.path

pub array_starts : (n : ℕ) (slot : SlotPath) (atoms : List NamedAtom) (r : DocRow) → In r (array_upto n slot atoms)
    → Starts slot r.path
array_starts zero slot atoms r i = absurd i
array_starts (suc n) slot atoms r i =
    around_all StartsIn (array_upto n) (λ t l q j. array_starts n t l q j) (λ t a. starts_here t a.id)
    (λ t x side q s. starts_deeper t x side q.path s) slot (take (length atoms / 2) atoms)
    (drop (length atoms / 2) atoms) r i

abbrev IsBare : SlotPath → DocRow → Type 0
IsBare slot r = r.deletes ≡ []

pub array_bare : (n : ℕ) (slot : SlotPath) (atoms : List NamedAtom) (r : DocRow) → In r (array_upto n slot atoms)
    → r.deletes ≡ []
array_bare zero slot atoms r i = absurd i
array_bare (suc n) slot atoms r i = around_all IsBare (array_upto n) (λ t l q j. array_bare n t l q j) (λ t a. refl)
    (λ t x side q s. s) slot (take (length atoms / 2) atoms) (drop (length atoms / 2) atoms) r i

-- the rows stand in infix order

around_ascends : (rows : SlotPath → List NamedAtom → List DocRow)
    → ((slot : SlotPath) (atoms : List NamedAtom) (r : DocRow) → In r (rows slot atoms) → Starts slot r.path)
    → ((slot : SlotPath) (atoms : List NamedAtom) → Successive Before (rows slot atoms))
    → (slot : SlotPath) (before after : List NamedAtom) → Successive Before (around rows slot before after)
around_ascends rows starts ih slot before [] = tt
around_ascends rows starts ih slot before (middle ∷ after) =
    let node : DocRow = row_in slot middle in
    let left : List DocRow = rows (Below node.path Left) before in
    let right : List DocRow = rows (Below node.path Right) after in
    let past : (r : DocRow) → In r left → Before r node =
    λ r i. before_node node.path r.path (starts (Below node.path Left) before r i) in
    let ahead : (r : DocRow) → In r right → Before node r =
    λ r i. after_node node.path r.path (starts (Below node.path Right) after r i) in
    successive_append Before left (node ∷ right) (ih (Below node.path Left) before)
    (all_of (Before node) right ahead, ih (Below node.path Right) after)
    (λ r s i j. ⊎_elim (λ (e : s ≡ node). subst (λ (q : DocRow). Before r q) (sym e) (past r i))
    (λ (k : In s right). path_total.trans r.path node.path s.path (past r i) (ahead s k)) j)

pub array_ascends : (n : ℕ) (slot : SlotPath) (atoms : List NamedAtom) → Successive Before (array_upto n slot atoms)
array_ascends zero slot atoms = tt
array_ascends (suc n) slot atoms = around_ascends (array_upto n) (λ t l r i. array_starts n t l r i)
    (λ t l. array_ascends n t l) slot (take (length atoms / 2) atoms) (drop (length atoms / 2) atoms)

-- the rows have the atoms in their order

abbrev pub nobody : AtomIdValue
nobody = record { dot = record { site = 0; seq = 0 }; offset = 0 }

pub named_row : (slot : SlotPath) (a : NamedAtom) → named (row_in slot a) ≡ a
named_row Whole a = refl
named_row (Below front bit) a = λ i. record { id = last_id-append nobody front (bit, a.id) i; atom = a.atom }

none_left : {X : Type 0} (xs : List X) → 0 ≡ length xs - length xs / 2 → xs ≡ []
none_left [] h = refl
none_left (x ∷ xs) h = absurd (omega arith)

around_named : (rows : SlotPath → List NamedAtom → List DocRow) (bound : ℕ)
    → ((slot : SlotPath) (atoms : List NamedAtom) → length atoms ≤ bound → map named (rows slot atoms) ≡ atoms)
    → (slot : SlotPath) (atoms before after : List NamedAtom) → before ++ after ≡ atoms → length before ≤ bound
    → length after ≡ length atoms - length atoms / 2 → length atoms ≤ suc bound
    → map named (around rows slot before after) ≡ atoms
around_named rows bound ih slot atoms before [] e few rest small = sym (none_left atoms rest)
around_named rows bound ih slot atoms before (middle ∷ after) e few rest small =
    let node : Pairs = path_in slot middle.id in
    map-append named (rows (Below node Left) before) (row_in slot middle ∷ rows (Below node Right) after)
    ∙ (λ i. ih (Below node Left) before few i ++ named_row slot middle i ∷ ih (Below node Right) after fewer i) ∙ e
  where
    fewer : length after ≤ bound
    fewer = omega arith

pub array_named : (n : ℕ) (slot : SlotPath) (atoms : List NamedAtom) → length atoms ≤ n
    → map named (array_upto n slot atoms) ≡ atoms
array_named zero slot [] h = refl
array_named zero slot (a ∷ atoms) h = absurd (omega arith)
array_named (suc n) slot atoms h =
    around_named (array_upto n) n (λ t l k. array_named n t l k) slot atoms (take (length atoms / 2) atoms)
    (drop (length atoms / 2) atoms)
    (take-append-drop (length atoms / 2) atoms) (omega (arith, length-take-le (length atoms / 2) atoms (omega arith)))
    (length-drop (length atoms / 2) atoms) h

-- the first pair of the paths

path_more : (path rest : Pairs) → IsPath path → IsPath (path ++ rest)
path_more [] rest h = absurd h
path_more (p ∷ path) rest h = h

abbrev pub IsSlotPath : SlotPath → Type 0
IsSlotPath Whole = Unit {0}
IsSlotPath (Below path bit) = IsPath path

starts_path : (slot : SlotPath) (path : Pairs) → IsSlotPath slot → Starts slot path → IsPath path
starts_path Whole path h s = subst IsPath (sym s.is) refl
starts_path (Below front bit) path h s = subst IsPath (sym (s.is ∙ path_in_more front bit s.id s.rest))
    (path_more front ((bit, s.id) ∷ s.rest) h)

pub array_paths : (slot : SlotPath) (atoms : List NamedAtom) → IsSlotPath slot → (r : DocRow)
    → In r (array slot atoms) → IsPath r.path
array_paths slot atoms h r i = starts_path slot r.path h (array_starts (length atoms) slot atoms r i)

-- each front of a path in an array is the path of a row of it, or that of the slot's atom or a front of it

abbrev pub IsAbove : SlotPath → Pairs → Type 0
IsAbove Whole front = ⊥
IsAbove (Below path bit) front = (rest : Pairs) × (path ≡ front ++ rest)

no_pairs : (front : Pairs) (next : Pair) (rest : Pairs) → [] ≡ front ++ next ∷ rest → ⊥
no_pairs [] next rest e = cc
no_pairs (p ∷ front) next rest e = cc

pub tails_same : (p q : Pair) (path front : Pairs) → p ∷ path ≡ q ∷ front → (p ≡ q) × (path ≡ front)
tails_same p q path front e = (cc, cc)

-- where a path with one more pair is cut
cut : (path : Pairs) (last : Pair) (front : Pairs) (next : Pair) (rest : Pairs) → path ++ last ∷ [] ≡ front
    ++ next ∷ rest → (more : Pairs) × (path ≡ front ++ more)
cut path last [] next rest e = (path, refl)
cut [] last (q ∷ front) next rest e = absurd (no_pairs front next rest
    (tails_same last q [] (front ++ next ∷ rest) e).1)
cut (p ∷ path) last (q ∷ front) next rest e =
    let t = tails_same p q (path ++ last ∷ []) (front ++ next ∷ rest) e in
    let c = cut path last front next rest t.1 in
    (c.0, λ i. t.0 i ∷ c.1 i)

above_node : (slot : SlotPath) (x : AtomIdValue) (front : Pairs) (next : Pair) (rest : Pairs) → path_in slot x ≡ front
    ++ next ∷ rest → front ≢ [] → IsAbove slot front
above_node Whole x [] next rest e some = absurd (some refl)
above_node Whole x (q ∷ front) next rest e some =
    absurd (no_pairs front next rest (tails_same (Right, x) q [] (front ++ next ∷ rest) e).1)
above_node (Below path bit) x front next rest e some = cut path (bit, x) front next rest e

abbrev IsFrontIn : List DocRow → SlotPath → Pairs → Type 0
IsFrontIn rows slot front = ((q : DocRow) × In q rows × (q.path ≡ front)) ⊎ IsAbove slot front

abbrev FrontsIn : (SlotPath → List NamedAtom → List DocRow) → Type 0
FrontsIn rows = (slot : SlotPath) (atoms : List NamedAtom) (r : DocRow) → In r (rows slot atoms)
    → (front : Pairs) (next : Pair) (rest : Pairs) → r.path ≡ front ++ next ∷ rest → front ≢ []
    → IsFrontIn (rows slot atoms) slot front

around_fronts : (rows : SlotPath → List NamedAtom → List DocRow) → FrontsIn rows
    → (slot : SlotPath) (before after : List NamedAtom) (r : DocRow) → In r (around rows slot before after)
    → (front : Pairs) (next : Pair) (rest : Pairs) → r.path ≡ front ++ next ∷ rest → front ≢ []
    → IsFrontIn (around rows slot before after) slot front
around_fronts rows ih slot before [] r i front next rest e some = absurd i
around_fronts rows ih slot before (middle ∷ after) r i front next rest e some =
    cases (In-append r left (node ∷ right) i)
  where
    node : DocRow
    node = row_in slot middle

    left : List DocRow
    left = rows (Below (path_in slot middle.id) Left) before

    right : List DocRow
    right = rows (Below (path_in slot middle.id) Right) after

    at_node : (more : Pairs) → path_in slot middle.id ≡ front ++ more → IsFrontIn (left ++ node ∷ right) slot front
    at_node [] k = inl (node, In-back node left (node ∷ right) (inl refl), k ∙ append-nil front)
    at_node (p ∷ more) k = inr (above_node slot middle.id front p more k some)

    deeper : (side : Bit) (part : List NamedAtom) → ((q : DocRow)
        → In q (rows (Below (path_in slot middle.id) side) part) → In q (left ++ node ∷ right))
        → In r (rows (Below (path_in slot middle.id) side) part) → IsFrontIn (left ++ node ∷ right) slot front
    deeper side part up k =
        ⊎_elim (λ (f : (q : DocRow) × In q (rows (Below (path_in slot middle.id) side) part) × (q.path ≡ front)). inl
        (f.0, up f.0 f.1, f.2))
        (λ (f : (more : Pairs) × (path_in slot middle.id ≡ front ++ more)). at_node f.0 f.1)
        (ih (Below (path_in slot middle.id) side) part r k front next rest e some)

    cases : In r left ⊎ In r (node ∷ right) → IsFrontIn (left ++ node ∷ right) slot front
    cases (inl k) = deeper Left before (λ q j. In-front q left (node ∷ right) j) k
    cases (inr (inl k)) = inr (above_node slot middle.id front next rest (sym (ap (λ (q : DocRow). q.path) k) ∙ e) some)
    cases (inr (inr k)) = deeper Right after (λ q j. In-back q left (node ∷ right) (inr j)) k

pub array_fronts : (n : ℕ) → FrontsIn (array_upto n)
array_fronts zero = λ slot atoms r i front next rest e some. absurd i
array_fronts (suc n) = λ slot atoms r i front next rest e some. around_fronts (array_upto n) (array_fronts n) slot
    (take (length atoms / 2) atoms) (drop (length atoms / 2) atoms) r i front next rest e some

-- a run of live rows

pub array_names : (slot : SlotPath) (atoms : List NamedAtom) → map named (array slot atoms) ≡ atoms
array_names slot atoms = array_named (length atoms) slot atoms (omega arith)

all_live : (rows : List DocRow) → ((r : DocRow) → In r rows → r.deletes ≡ []) → live_rows rows ≡ rows
all_live [] h = refl
all_live (r ∷ rows) h = ap (λ b. cond b (r ∷ live_rows rows) (live_rows rows)) (ap is_empty_list (h r (inl refl)))
    ∙ ap (λ (q : List DocRow). r ∷ q) (all_live rows (λ q i. h q (inr i)))

pub array_live : (slot : SlotPath) (atoms : List NamedAtom) → live_rows (array slot atoms) ≡ array slot atoms
array_live slot atoms = all_live (array slot atoms) (λ r i. array_bare (length atoms) slot atoms r i)

pub array_of_one : (slot : SlotPath) (a : NamedAtom) → array slot (a ∷ []) ≡ row_in slot a ∷ []
array_of_one slot a = refl

pub array_order : (slot : SlotPath) (atoms : List NamedAtom) → Successive Before (array slot atoms)
array_order slot atoms = array_ascends (length atoms) slot atoms
