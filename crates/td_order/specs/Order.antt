-- The one order of all atoms that operations insert, from what each insertion wrote and from its dependencies alone.
use Rattle.std.specs.Prelude.{List, [], ◌∷◌}
use Rattle.td_base.specs.Value.{AtomIdValue}
use Rattle.td_op.specs.Op.{OpValue}
use Rattle.td_op.specs.declared.insertion.Insertion.{Insertion}
use Rattle.td_op.specs.Insertion.{insertions}
use Rattle.td_order.specs.LineUp.{line_up}
use Rattle.td_order.specs.Place.{place}

-- these insertions, the last in line-up first, placed one after another, beginning with the empty list
abbrev pub placed : List Insertion → List AtomIdValue
placed [] = []
placed (a ∷ before) = place before (placed before) a

abbrev pub order : List OpValue → List AtomIdValue
order ops = placed (insertions (line_up ops))
