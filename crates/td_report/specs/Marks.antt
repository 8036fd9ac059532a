-- What the commands on marks print.
use Rattle.std.specs.Prelude.{ℕ, Bool, ◌==◌, if◌then◌else◌, List, [], ◌∷◌, ◌++◌, Option, Some, None, codes, length}
use Rattle.std.specs.Int.{bit_at}
use Rattle.std.specs.List.{flat_map, range_with_len}
use Rattle.td_marks.specs.declared.mark_fault.MarkFault.{MarkFault}
use Rattle.td_marks.specs.declared.mark_fault.MarkFault.TheVariants.{Position, Wide, Limit, Memory}
use Rattle.td_marks.specs.declared.mark_op.TheConstants.{NAMES}
use Rattle.td_marks.specs.declared.piece.Piece.{Piece}
use Rattle.td_script.specs.Characters.{line_feed}
use Rattle.td_script.specs.Spelling.{mark_word, spaced}
use Rattle.td_script.specs.Texts.{quoted}
use Rattle.td_report.specs.Parts.{line}

-- why no mark was made, behind a space; nothing where memory ran out
abbrev pub unmarked_part : MarkFault → List ℕ
unmarked_part (Position len) = codes " position" ++ spaced len
unmarked_part (Wide count) = codes " wide" ++ spaced count
unmarked_part (Limit made) = codes " limit" ++ spaced made
unmarked_part Memory = []

-- how many atoms were marked, or why none were
abbrev pub marked_part : ℕ → Option MarkFault → List ℕ
marked_part count None = spaced count
marked_part count (Some fault) = unmarked_part fault

-- a name is added to so many atoms, or removed from them
abbrev pub mark_line : ℕ → Bool → ℕ → Option MarkFault → List ℕ
mark_line site add count refusal = line (mark_word add) site (marked_part count refusal)

-- how many operations of the other site were new
abbrev pub meet_line : ℕ → ℕ → ℕ → List ℕ
meet_line site other count = line (codes "meet") site (spaced other ++ spaced count)

-- a name behind a space, where its bit is set
abbrev pub name_part : ℕ → ℕ → List ℕ
name_part names name = if bit_at names name == 1 then spaced name else []

-- the names in rising order; `-` where there is none
abbrev pub names_part : ℕ → List ℕ
names_part names = if names == 0 then codes " -" else flat_map (name_part names) (range_with_len 0 NAMES)

-- the text of a piece, and its names
abbrev pub piece_line : Piece → List ℕ
piece_line p = quoted p.text ++ (names_part p.names ++ line_feed ∷ [])

-- how many pieces there are, and a line for each
abbrev pub marks_lines : ℕ → List Piece → List ℕ
marks_lines site pieces = line (codes "marks") site (spaced (length pieces)) ++ flat_map piece_line pieces
