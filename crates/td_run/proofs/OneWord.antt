-- Lists of one word.
use Rattle.std.proofs.Common.{◌≡◌, ◌<◌, ◌≤◌, ℕ, List, [], ◌∷◌, length, get_or, sym, arith}

pub one_word : (words : List (List ℕ)) (word : List ℕ) → 1 ≤ length words → length words < 2 → word
    ≡ get_or words 0 word → words ≡ word ∷ []
one_word [] word some few h = absurd (omega arith)
one_word (w ∷ []) word some few h = λ i. sym h i ∷ []
one_word (w ∷ v ∷ words) word some few h = absurd (omega arith)
