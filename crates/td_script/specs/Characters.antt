-- The characters of ASCII that the language gives a meaning, by their codes.
use Rattle.std.specs.Prelude.{ℕ}

-- ends a line
abbrev pub line_feed : ℕ
line_feed = 0x0a

-- stands before each argument
abbrev pub space : ℕ
space = 0x20

-- stands before and behind a text
abbrev pub quote : ℕ
quote = 0x22

-- begins a line that says nothing
abbrev pub number_sign : ℕ
number_sign = 0x23

-- stands between the site and the number of a dot
abbrev pub point : ℕ
point = 0x2e

-- stands before an escape in a text
abbrev pub backslash : ℕ
backslash = 0x5c
