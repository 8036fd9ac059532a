-- The marked text: the live atoms of a document in order, each with its names, cut into the longest pieces with equal
-- names.
use Rattle.std.specs.Prelude.{List, [], ◌∷◌, ◌++◌, ◌==◌, map, if◌then◌else◌}
use Rattle.td_doc.specs.Document.{DocRow, row_id, live_rows}
use Rattle.td_marks.specs.Mark.{MarkOpValue, names_of}
use Rattle.td_marks.specs.declared.piece.Piece.{Piece}

-- a piece before others: one with the first of them where that has its names
abbrev pub put_before : Piece → List Piece → List Piece
put_before p [] = p ∷ []
put_before p (q ∷ pieces) =
    if p.names == q.names then record p { text = p.text ++ q.text } ∷ pieces else p ∷ q ∷ pieces

-- neighbours with equal names joined
abbrev pub joined : List Piece → List Piece
joined [] = []
joined (p ∷ pieces) = put_before p (joined pieces)

-- an atom with its names
abbrev pub marked_atom : List MarkOpValue → DocRow → Piece
marked_atom ops r = record { text = r.atom; names = names_of ops (row_id r) }

abbrev pub marked_atoms : List MarkOpValue → List DocRow → List Piece
marked_atoms ops rows = map (marked_atom ops) (live_rows rows)

abbrev pub marked_text : List MarkOpValue → List DocRow → List Piece
marked_text ops rows = joined (marked_atoms ops rows)
