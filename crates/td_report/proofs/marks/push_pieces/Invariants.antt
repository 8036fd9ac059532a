use Rattle.std.proofs.Common.{◌≡◌, ◌++◌, take}
use Rattle.std.specs.List.{flat_map}
use Rattle.td_report.specs.Marks.{piece_line}
use Rattle.td_report.proofs.marks.push_pieces.Given as goal

abbrev pub invariant-loop-piece : goal.invariant-loop-piece
invariant-loop-piece l = l.lines ≡ l.fn.lines ++ flat_map piece_line (take l.piece-index l.pieces)
