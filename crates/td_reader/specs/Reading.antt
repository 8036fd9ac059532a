-- Reading from the front of bytes: what was read, and what is left behind it; None where nothing can be read.
use Rattle.std.specs.Prelude.{◌==◌, ℕ, List, [], ◌∷◌, Option, Some, None, option_and_then, if◌then◌else◌}

abbrev pub Reading : Type 0 → Type 0
Reading V = Option (V × List ℕ)

-- where something was read, what is made of it
infixl 10 ◌>>=◌
abbrev pub ◌>>=◌ : {A B : Type 0} → Option A → (A → Option B) → Option B
read >>= next = option_and_then next read

-- what stands behind the word, where the bytes begin with it
abbrev pub after : List ℕ → List ℕ → Option (List ℕ)
after [] bytes = Some bytes
after (letter ∷ word) [] = None
after (letter ∷ word) (byte ∷ bytes) = if byte == letter then after word bytes else None

-- what is read behind a word, else another reading
abbrev pub or_else : {B : Type 0} → Option (List ℕ) → (List ℕ → Option B) → Option B → Option B
or_else (Some rest) read other = read rest
or_else None read other = other

-- what is read behind the word where the bytes begin with it, else another reading
abbrev pub choose : {B : Type 0} → List ℕ → List ℕ → (List ℕ → Option B) → Option B → Option B
choose word bytes read other = or_else (after word bytes) read other
