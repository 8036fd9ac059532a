-- The books of editors that did nothing yet.
use Rattle.std.specs.Prelude.{ℕ, List, [], ◌∷◌}
use Rattle.td_script.specs.declared.live.editor_line.EditorLine.{EditorLine}
use Rattle.td_live.specs.Following.{all_of}
use Rattle.td_live.specs.Books.{BookValue}

-- at these sites, with these lines
abbrev pub new_books : List ℕ → List (List EditorLine) → List BookValue
new_books [] lines = []
new_books (home ∷ homes) [] = []
new_books (home ∷ homes) (own ∷ lines) =
    record { home = home; rest = all_of own; did = [] } ∷ new_books homes lines
