-- The rows of an array hang below its slot by the bits of the shape.
use Rattle.std.proofs.Common.{◌≡◌, ◌≤◌, ◌<◌, ◌+◌, ◌-◌, ◌/◌, ℕ, zero, suc, List, [], ◌∷◌, ◌++◌, map, length, take}
use Rattle.std.proofs.Common.{drop, refl, sym, ap, ◌∙◌, arith, append_assoc, length-drop, length-take-le}
use Rattle.std.proofs.Common.{length-append}
use Rattle.std.proofs.lemmas.List.{map-append, drop_at, append-nil}
use Rattle.td_base.specs.declared.bit.Bit.{Bit}
use Rattle.td_base.specs.declared.bit.Bit.TheVariants.{Left, Right}
use Rattle.td_base.specs.Value.{AtomIdValue}
use Rattle.td_base.specs.Lists.{In}
use Rattle.td_path.specs.Infix.{Pair, Pairs}
use Rattle.td_path.specs.SlotPaths.{path_in}
use Rattle.td_path.specs.Shape.{Bits, shape_upto, shape}
use Rattle.td_path.specs.declared.slot_path.SlotPath.{SlotPath}
use Rattle.td_path.specs.declared.slot_path.SlotPath.TheVariants.{Root as Whole, Below}
use Rattle.td_path.proofs.ArrayShape.{below, after, shape_node}
use Rattle.td_doc.specs.Document.{DocRow}
use Rattle.td_doc.specs.Array.{row_in, around, array_upto, array}
use Rattle.td_base.specs.RunAtoms.{NamedAtom}
use Rattle.td_doc.specs.Subtrees.{slot_depth, bits_in}
use Rattle.td_doc.proofs.ArrayRows.{Starts, array_starts}
use Rattle.td_base.proofs.Elements.{map_same}

node_length : (slot : SlotPath) (x : AtomIdValue) → length (path_in slot x) ≡ slot_depth slot + 1
node_length Whole x = refl
node_length (Below path bit) x = length-append path ((bit, x) ∷ [])

bits_after : (slot : SlotPath) (x : AtomIdValue) (rest : Pairs) → bits_in slot (path_in slot x ++ rest)
    ≡ map (λ (p : Pair). p.0) rest
bits_after slot x rest = ap (map (λ (p : Pair). p.0))
    (drop_at (path_in slot x) rest (slot_depth slot + 1) (node_length slot x))

bits_at_node : (slot : SlotPath) (x : AtomIdValue) → bits_in slot (path_in slot x) ≡ []
bits_at_node slot x = ap (bits_in slot) (sym (append-nil (path_in slot x))) ∙ bits_after slot x []

-- one bit more from the node above
bits_deeper : (slot : SlotPath) (x : AtomIdValue) (side : Bit) (path : Pairs)
    → Starts (Below (path_in slot x) side) path → bits_in slot path ≡ side ∷ bits_in (Below (path_in slot x) side) path
bits_deeper slot x side path s =
    let longer : path ≡ path_in slot x ++ (side, s.id) ∷ s.rest = s.is
    ∙ append_assoc (path_in slot x) ((side, s.id) ∷ []) s.rest in
    ap (bits_in slot) longer ∙ bits_after slot x ((side, s.id) ∷ s.rest)
    ∙ ap (λ (bits : Bits). side ∷ bits) (sym (ap (bits_in (Below (path_in slot x) side)) s.is
    ∙ bits_after (Below (path_in slot x) side) s.id s.rest))

map_twice : (side : Bit) (f : DocRow → Bits) (rows : List DocRow) → map (λ (r : DocRow). side ∷ f r) rows
    ≡ below side (map f rows)
map_twice side f [] = refl
map_twice side f (r ∷ rows) = ap (λ (q : List Bits). (side ∷ f r) ∷ q) (map_twice side f rows)

abbrev bits_of : SlotPath → List DocRow → List Bits
bits_of slot rows = map (λ (r : DocRow). bits_in slot r.path) rows

around_bits : (rows : SlotPath → List NamedAtom → List DocRow) (bound : ℕ)
    → ((slot : SlotPath) (atoms : List NamedAtom) (r : DocRow) → In r (rows slot atoms) → Starts slot r.path)
    → ((slot : SlotPath) (atoms : List NamedAtom) → length atoms ≤ bound → bits_of slot (rows slot atoms)
    ≡ shape_upto bound (length atoms))
    → (slot : SlotPath) (before after : List NamedAtom) (k : ℕ) → length before ≡ k / 2 → length after ≡ k - k / 2
    → k ≤ suc bound → bits_of slot (around rows slot before after) ≡ shape_upto (suc bound) k
around_bits rows bound starts ih slot before [] k half rest small = sym (ap (shape_upto (suc bound)) none)
  where
    none : k ≡ 0
    none = omega arith
around_bits rows bound starts ih slot before (middle ∷ later) k half rest small =
    map-append (λ (r : DocRow). bits_in slot r.path) (rows (Below node Left) before)
    (row_in slot middle ∷ rows (Below node Right) later)
    ∙ (λ i. side Left before few i ++ bits_at_node slot middle.id i ∷ side Right later fewer i)
    ∙ (λ i. below Left (shape_upto bound (half i)) ++ [] ∷ below Right (shape_upto bound (others i)))
    ∙ sym (shape_node bound k some)
  where
    node : Pairs
    node = path_in slot middle.id

    few : length before ≤ bound
    few = omega arith

    fewer : length later ≤ bound
    fewer = omega arith

    some : 0 < k
    some = omega arith

    others : length later ≡ after k
    others = omega arith

    side : (bit : Bit) (part : List NamedAtom) → length part ≤ bound
        → bits_of slot (rows (Below (path_in slot middle.id) bit) part) ≡ below bit (shape_upto bound (length part))
    side bit part h =
        let hung : List DocRow = rows (Below (path_in slot middle.id) bit) part in
        map_same (λ (r : DocRow). bits_in slot r.path)
        (λ (r : DocRow). bit ∷ bits_in (Below (path_in slot middle.id) bit) r.path) hung
        (λ r i. bits_deeper slot middle.id bit r.path (starts (Below (path_in slot middle.id) bit) part r i))
        ∙ map_twice bit (λ (r : DocRow). bits_in (Below (path_in slot middle.id) bit) r.path) hung
        ∙ ap (below bit) (ih (Below (path_in slot middle.id) bit) part h)

bits_upto : (n : ℕ) (slot : SlotPath) (atoms : List NamedAtom) → length atoms ≤ n
    → bits_of slot (array_upto n slot atoms) ≡ shape_upto n (length atoms)
bits_upto zero slot atoms h = refl
bits_upto (suc n) slot atoms h =
    around_bits (array_upto n) n (λ t l r i. array_starts n t l r i) (λ t l k. bits_upto n t l k) slot
    (take (length atoms / 2) atoms) (drop (length atoms / 2) atoms) (length atoms)
    (length-take-le (length atoms / 2) atoms (omega arith)) (length-drop (length atoms / 2) atoms) h

pub array_bits : (slot : SlotPath) (atoms : List NamedAtom)
    → map (λ (r : DocRow). bits_in slot r.path) (array slot atoms) ≡ shape (length atoms)
array_bits slot atoms = bits_upto (length atoms) slot atoms (omega arith)
