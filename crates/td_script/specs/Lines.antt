-- A script as lines: it is cut at each LF, and what follows the last LF is a line too where it is not empty.
use Rattle.std.specs.Prelude.{ℕ, Bool, true, not, ◌&&◌, ◌==◌, List, [], ◌∷◌, if◌then◌else◌}
use Rattle.std.specs.Char.{is_ascii_control}
use Rattle.std.specs.List.{list_any}
use Rattle.std.specs.Str.{is_utf8}
use Rattle.td_script.specs.Characters.{line_feed, number_sign}

-- a byte at the front of the first line
abbrev pub onto_first : ℕ → List (List ℕ) → List (List ℕ)
onto_first byte [] = (byte ∷ []) ∷ []
onto_first byte (line ∷ lines) = (byte ∷ line) ∷ lines

abbrev pub lines_of : List ℕ → List (List ℕ)
lines_of [] = []
lines_of (byte ∷ bytes) = if byte == line_feed then [] ∷ lines_of bytes else onto_first byte (lines_of bytes)

-- UTF-8 without control characters of ASCII
abbrev pub is_text_line : List ℕ → Bool
is_text_line line = not (list_any is_ascii_control line) && is_utf8 line

-- an empty line, and a line that begins with `#`, says nothing
abbrev pub is_skipped : List ℕ → Bool
is_skipped [] = true
is_skipped (byte ∷ _) = byte == number_sign
