-- Editors at desks, each with its lines.
use Rattle.std.specs.Prelude.{◌≡◌, ◌≤◌, ◌<◌, ◌++◌, ℕ, List, [], ◌∷◌, length, map, sum_by}
use Rattle.std.specs.List.{AllZip}
use Rattle.td_line.specs.Editors.{EditorValue}
use Rattle.td_script.specs.declared.live.editor_line.EditorLine.{EditorLine}
use Rattle.td_script.specs.LiveScript.{calls}
use Rattle.td_live.specs.Desks.{DeskValue}
use Rattle.td_live.specs.Turning.{IsUnused, new_desk}

-- the editor has done nothing, and may make as many calls as the lines can ask for
pub record CanSit (e : EditorValue) (own : List EditorLine) : Type 0 where
  pub unused : IsUnused e
  pub calls_are : sum_by calls own ≤ e.calls

-- a desk for each
abbrev pub seated : List EditorValue → List (List EditorLine) → List DeskValue
seated [] lines = []
seated (e ∷ editors) [] = []
seated (e ∷ editors) (own ∷ lines) = new_desk e own ∷ seated editors lines

abbrev pub homes_of : List EditorValue → List ℕ
homes_of editors = map (λ (e : EditorValue). e.home) editors

-- the first editor has a desk, and the others stand as before
pub record SatDown (editors others : List EditorValue) (lines left : List (List EditorLine)) (old new : List DeskValue)
    : Type 0 where
  pub can : AllZip CanSit others left
  pub desks : new ++ seated others left ≡ old ++ seated editors lines
  pub fewer : length others < length editors
