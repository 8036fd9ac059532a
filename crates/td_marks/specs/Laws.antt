-- What the laws speak of.
use Rattle.std.specs.Prelude.{◌↔◌, ◌≢◌, List, [], ◌∷◌}
use Rattle.td_base.specs.Lists.{In}
use Rattle.td_marks.specs.Mark.{MarkOpValue}
use Rattle.td_marks.specs.declared.piece.Piece.{Piece}

-- the same operations, in whatever order
abbrev pub SameOps : List MarkOpValue → List MarkOpValue → Type 0
SameOps ops others = (o : MarkOpValue) → In o ops ↔ In o others

-- the piece has other names than the first of these
abbrev pub DiffersFromFirst : Piece → List Piece → Type 0
DiffersFromFirst p [] = Unit {0}
DiffersFromFirst p (q ∷ pieces) = p.names ≢ q.names

-- no two neighbours have equal names
abbrev pub NeighboursDiffer : List Piece → Type 0
NeighboursDiffer [] = Unit {0}
NeighboursDiffer (p ∷ pieces) = DiffersFromFirst p pieces × NeighboursDiffer pieces
