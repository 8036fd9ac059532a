-- The lines of an input, and how much of one is kept while it comes.
use Rattle.std.specs.Prelude.{◌≢◌, ◌+◌, ℕ, List, [], ◌∷◌, ◌++◌, All, take}
use Rattle.std.specs.List.{flat_map}
use Rattle.td_script.specs.Characters.{line_feed}
use Rattle.td_script.specs.declared.script.TheConstants.{MAX_LINE}

-- lines, each ended by LF
abbrev pub ended : List (List ℕ) → List ℕ
ended lines = flat_map (λ line. line ++ line_feed ∷ []) lines

-- no LF is in it
abbrev pub IsInLine : List ℕ → Type 0
IsInLine bytes = All (λ byte. byte ≢ line_feed) bytes

-- so much is kept of a part of a line: that it is too long is seen in it
abbrev pub shortened : List ℕ → List ℕ
shortened bytes = take (MAX_LINE + 1) bytes
