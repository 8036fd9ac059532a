-- Equality of bits, of dots and of identities, part by part, as `==` computes it.
use Rattle.std.specs.Prelude.{Bool, true, false, ◌&&◌, ◌==◌}
use Rattle.td_base.specs.declared.bit.Bit.{Bit}
use Rattle.td_base.specs.declared.bit.Bit.TheVariants.{Left, Right}
use Rattle.td_base.specs.Value.{DotValue, AtomIdValue}

abbrev pub same_bit : Bit → Bit → Bool
same_bit Left Left = true
same_bit Left Right = false
same_bit Right Left = false
same_bit Right Right = true

abbrev pub same_dot : DotValue → DotValue → Bool
same_dot d e = d.site == e.site && d.seq == e.seq

abbrev pub same_id : AtomIdValue → AtomIdValue → Bool
same_id x y = same_dot x.dot y.dot && x.offset == y.offset
