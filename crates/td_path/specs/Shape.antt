-- The shape of an array: the tree of bits into which a list of atoms explodes (Preguiça et al. 2009), which halves it
-- at each node.
use Rattle.std.specs.Prelude.{ℕ, zero, suc, ◌-◌, ◌/◌, ◌==◌, List, [], ◌∷◌, ◌++◌, Bool}
use Rattle.std.specs.Prelude.{true, false, ◌&&◌, if◌then◌else◌, map, Option}
use Rattle.std.specs.List.{position}
use Rattle.std.specs.declared.cmp.Ordering.{Ordering}
use Rattle.std.specs.declared.cmp.Ordering.TheVariants.{Equal}
use Rattle.std.specs.Ordering.{ordering_then, ordering_reverse}
use Rattle.td_base.specs.declared.bit.Bit.{Bit}
use Rattle.td_base.specs.declared.bit.Bit.TheVariants.{Left, Right}
use Rattle.td_base.specs.Order.{bit_cmp}
use Rattle.td_base.specs.Equality.{same_bit}
use Rattle.td_path.specs.Infix.{node_cmp}

-- the bits from an array's top node down to one of its atoms
abbrev pub Bits : Type 0
Bits = List Bit

-- the bit paths of the atoms of an array of k, in the order of the array. The atom with k / 2 before it stands at the
-- top, those before it are an array on its left, those after it one on its right. The first number is at least k
abbrev pub shape_upto : ℕ → ℕ → List Bits
shape_upto zero k = []
shape_upto (suc n) k =
    if k == 0 then []
    else map (λ (bits : Bits). Left ∷ bits) (shape_upto n (k / 2))
    ++ [] ∷ map (λ (bits : Bits). Right ∷ bits) (shape_upto n (k - k / 2 - 1))

abbrev pub shape : ℕ → List Bits
shape k = shape_upto k k

abbrev pub same_bits : Bits → Bits → Bool
same_bits [] [] = true
same_bits [] (c ∷ cs) = false
same_bits (b ∷ bs) [] = false
same_bits (b ∷ bs) (c ∷ cs) = same_bit b c && same_bits bs cs

-- the atom of an array of k that has these bits
abbrev pub shape_index : ℕ → Bits → Option ℕ
shape_index k bits = position (same_bits bits) (shape k)

-- the infix order of the nodes of one array
abbrev pub bits_cmp : Bits → Bits → Ordering
bits_cmp [] [] = Equal
bits_cmp [] (c ∷ cs) = node_cmp c
bits_cmp (b ∷ bs) [] = ordering_reverse (node_cmp b)
bits_cmp (b ∷ bs) (c ∷ cs) = ordering_then (bit_cmp b c) (bits_cmp bs cs)
