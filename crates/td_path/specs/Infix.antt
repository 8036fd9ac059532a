-- Paths in the binary tree, and the infix walk of it (Preguiça et al. 2009).
use Rattle.std.specs.Prelude.{List, [], ◌∷◌, Bool, ◌&&◌}
use Rattle.std.specs.declared.cmp.Ordering.{Ordering}
use Rattle.std.specs.declared.cmp.Ordering.TheVariants.{Less, Equal, Greater}
use Rattle.std.specs.Ordering.{ordering_then, ordering_reverse}
use Rattle.td_base.specs.declared.bit.Bit.{Bit}
use Rattle.td_base.specs.declared.bit.Bit.TheVariants.{Left, Right}
use Rattle.td_base.specs.Value.{AtomIdValue}
use Rattle.td_base.specs.Order.{id_cmp, bit_cmp}
use Rattle.td_base.specs.Equality.{same_bit, same_id}

-- one step down the tree: the bit, and the identity of the node reached
abbrev pub Pair : Type 0
Pair = Bit × AtomIdValue

-- a path, as a list of pairs
abbrev pub Pairs : Type 0
Pairs = List Pair

-- by bit, then by identity
abbrev pub pair_cmp : Pair → Pair → Ordering
pair_cmp p q = ordering_then (bit_cmp p.0 q.0) (id_cmp p.1 q.1)

abbrev pub same_pair : Pair → Pair → Bool
same_pair p q = same_bit p.0 q.0 && same_id p.1 q.1

-- a node against one that lies below it: after what is on its left, before what is on its right
abbrev pub node_cmp : Bit → Ordering
node_cmp Left = Greater
node_cmp Right = Less

-- the infix order: at the first pair that differs, or by the side on which the longer path goes on
abbrev pub path_cmp : Pairs → Pairs → Ordering
path_cmp [] [] = Equal
path_cmp [] (q ∷ qs) = node_cmp q.0
path_cmp (p ∷ ps) [] = ordering_reverse (node_cmp p.0)
path_cmp (p ∷ ps) (q ∷ qs) = ordering_then (pair_cmp p q) (path_cmp ps qs)
