-- The editors of desks at work.
use Rattle.std.specs.Prelude.{List, map}
use Rattle.td_line.specs.Editors.{EditorValue}
use Rattle.td_live.specs.Desks.{DeskValue}

abbrev pub editors_at : List DeskValue → List EditorValue
editors_at desks = map (λ (d : DeskValue). d.editor) desks
