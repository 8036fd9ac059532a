-- How a text is written in quotes, and which clusters fit an atom.
use Rattle.std.specs.Prelude.{◌==◌, ◌||◌, ℕ, nat_le, Bool, true, false, if◌then◌else◌}
use Rattle.std.specs.Prelude.{List, [], ◌∷◌, ◌++◌, Option, Some, None, codes, length}
use Rattle.std.specs.List.{flat_map}
use Rattle.td_base.specs.declared.atom.TheConstants.{MAX_ATOM_LEN}
use Rattle.td_script.specs.Characters.{line_feed, quote, backslash}

-- a byte of a text, as it is written: the quote, the backslash and LF have escapes
abbrev pub escaped : ℕ → List ℕ
escaped byte =
    if byte == quote then codes "\\\"" else
    if byte == backslash then codes "\\\\" else
    if byte == line_feed then codes "\\n" else
    byte ∷ []

abbrev pub quoted : List ℕ → List ℕ
quoted text = quote ∷ (flat_map escaped text ++ quote ∷ [])

-- the byte that is written so, maybe behind a backslash, where `n` is written for LF
abbrev pub unescaped : Bool → ℕ → Option ℕ
unescaped false byte = Some byte
unescaped true byte =
    if byte == quote || byte == backslash then Some byte else
    if byte == 0x6e then Some line_feed else
    None

-- a byte in front of a text, of which something is left behind it
abbrev pub onto_text : Option ℕ → Option (List ℕ × List ℕ) → Option (List ℕ × List ℕ)
onto_text (Some byte) (Some read) = Some (byte ∷ read.0, read.1)
onto_text _ _ = None

-- the text that stands up to the closing quote, and what is left behind it; None where it is no text
abbrev pub unquoted : Bool → List ℕ → Option (List ℕ × List ℕ)
unquoted _ [] = None
unquoted false (byte ∷ bytes) =
    if byte == quote then Some ([], bytes) else
    if byte == backslash then unquoted true bytes else
    onto_text (unescaped false byte) (unquoted false bytes)
unquoted true (byte ∷ bytes) = onto_text (unescaped true byte) (unquoted false bytes)

-- the cluster fits an atom
abbrev pub is_short : List ℕ → Bool
is_short cluster = nat_le (length cluster) MAX_ATOM_LEN
