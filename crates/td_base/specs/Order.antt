-- The order of dots, of identities and of bits.
use Rattle.std.specs.declared.cmp.Ordering.{Ordering}
use Rattle.std.specs.declared.cmp.Ordering.TheVariants.{Less, Equal, Greater}
use Rattle.std.specs.Prelude.{Bool}
use Rattle.std.specs.Ordering.{nat_cmp, ordering_then, is_lt}
use Rattle.td_base.specs.declared.bit.Bit.{Bit}
use Rattle.td_base.specs.declared.bit.Bit.TheVariants.{Left, Right}
use Rattle.td_base.specs.Value.{DotValue, AtomIdValue}

-- by site, then by seq
abbrev pub dot_cmp : DotValue → DotValue → Ordering
dot_cmp d e = ordering_then (nat_cmp d.site e.site) (nat_cmp d.seq e.seq)

-- by dot, then by offset
abbrev pub id_cmp : AtomIdValue → AtomIdValue → Ordering
id_cmp x y = ordering_then (dot_cmp x.dot y.dot) (nat_cmp x.offset y.offset)

-- left before right
abbrev pub bit_cmp : Bit → Bit → Ordering
bit_cmp Left Left = Equal
bit_cmp Left Right = Less
bit_cmp Right Left = Greater
bit_cmp Right Right = Equal

-- whether the first dot is the smaller one
abbrev pub dot_lt : DotValue → DotValue → Bool
dot_lt d e = is_lt (dot_cmp d e)
