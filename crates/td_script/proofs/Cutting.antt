-- Where a line, a word and a dot are cut.
use Rattle.std.proofs.Common.{◌≡◌, ◌≢◌, ◌<◌, ◌≤◌, ℕ, zero, suc, cond, eqb, List, [], ◌∷◌, ◌++◌, length, get_or, take}
use Rattle.std.proofs.Common.{drop, Option, Some, None, MatchOption, Bor, refl, sym, ap, ◌∙◌, arith}
use Rattle.std.specs.Prelude.{IfSome, IfNone, unwrap_or}
use Rattle.std.proofs.lemmas.Bool.{eq-eqb, ne_eqb, cond-true, cond-false}
use Rattle.std.proofs.lemmas.List.{get_or_default}
use Rattle.std.proofs.lemmas.List.Elements.{All-head, All-tail}
use Rattle.td_script.specs.Arguments.{cut_word, cut_dot, onto_word, onto_part}
use Rattle.td_script.specs.Lines.{lines_of, onto_first}
use Rattle.td_script.proofs.Splitting.{Lacks}

stop : {X : Type 0} (b at : ℕ) (x y : X) → b ≡ at → cond (eqb b at) x y ≡ x
stop b at x y e = cond-true (eqb b at) x y (eq-eqb b at e)

past : {X : Type 0} (b at : ℕ) (x y : X) → b ≢ at → cond (eqb b at) x y ≡ y
past b at x y ne = cond-false (eqb b at) x y (ne_eqb b at ne)

pub lacks_by_index : (at : ℕ) (bs : List ℕ) → ((i : ℕ) → i < length bs → get_or bs i 0 ≢ at) → Lacks at bs
lacks_by_index at bs h = λ i d inside e. h i inside (get_or_default bs i 0 d inside ∙ e)

pub word_cut_at : (bs : List ℕ) (k : ℕ) → k ≤ length bs → ((i : ℕ) → i < k → get_or bs i 0 ≢ 32)
    → (k < length bs → get_or bs k 0 ≡ 32) → cut_word bs ≡ (take k bs, drop k bs)
word_cut_at [] zero h lacks at = refl
word_cut_at [] (suc k) h lacks at = absurd (omega arith)
word_cut_at (b ∷ bs) zero h lacks at = stop b 32 ([], b ∷ bs) (onto_word b (cut_word bs)) (at (omega arith))
word_cut_at (b ∷ bs) (suc k) h lacks at =
    past b 32 ([], b ∷ bs) (onto_word b (cut_word bs)) (lacks 0 (omega arith))
    ∙ ap (onto_word b) (word_cut_at bs k (omega arith) (λ i below. lacks (suc i) (omega arith))
    (λ inside. at (omega arith)))

-- the first space, or the end, cuts off the word
pub word_cut : (bs : List ℕ) (r : Option ℕ)
    → MatchOption r ((i : ℕ) → i < length bs → get_or bs i 0 ≢ 32)
    (λ k. (k < length bs) × (get_or bs k 0 ≡ 32) × ((i : ℕ) → i < k → get_or bs i 0 ≢ 32))
    → cut_word bs ≡ (take (unwrap_or r (length bs)) bs, drop (unwrap_or r (length bs)) bs)
word_cut bs None h = word_cut_at bs (length bs) (omega arith) h (λ inside. absurd (omega arith))
word_cut bs (Some k) h = word_cut_at bs k (omega (arith, h.0)) h.2 (λ inside. h.1)

-- a list is cut at the first LF
pub line_cut : (front back : List ℕ) → Lacks 10 front → lines_of (front ++ 10 ∷ back) ≡ front ∷ lines_of back
line_cut [] back lacks = refl
line_cut (b ∷ front) back lacks =
    past b 10 ([] ∷ lines_of (front ++ 10 ∷ back)) (onto_first b (lines_of (front ++ 10 ∷ back)))
    (All-head (λ (byte : ℕ). byte ≢ 10) b front lacks)
    ∙ ap (onto_first b) (line_cut front back (All-tail (λ (byte : ℕ). byte ≢ 10) b front lacks))

pub last_line : (b : ℕ) (bs : List ℕ) → Lacks 10 (b ∷ bs) → lines_of (b ∷ bs) ≡ (b ∷ bs) ∷ []
last_line b [] lacks = past b 10 ([] ∷ []) ((b ∷ []) ∷ []) (All-head (λ (byte : ℕ). byte ≢ 10) b [] lacks)
last_line b (c ∷ bs) lacks =
    past b 10 ([] ∷ lines_of (c ∷ bs)) (onto_first b (lines_of (c ∷ bs)))
    (All-head (λ (byte : ℕ). byte ≢ 10) b (c ∷ bs) lacks)
    ∙ ap (onto_first b) (last_line c bs (All-tail (λ (byte : ℕ). byte ≢ 10) b (c ∷ bs) lacks))

-- bytes without LF are one line
pub one_line : (bs : List ℕ) → 0 < length bs → Lacks 10 bs → lines_of bs ≡ bs ∷ []
one_line [] some lacks = absurd (omega arith)
one_line (b ∷ bs) some lacks = last_line b bs lacks

-- the first line, and what stands behind it
pub first_line : (bytes : List ℕ) (o : Option (Bor (List ℕ) × Bor (List ℕ))) (all : Bor (List ℕ) × Bor (List ℕ))
    → all.0.now ≡ bytes → all.1.now ≡ [] → 0 < length bytes
    → IfSome o (λ parts. Lacks 10 parts.0.now × (bytes ≡ parts.0.now ++ 10 ∷ parts.1.now)) → IfNone o (Lacks 10 bytes)
    → lines_of bytes ≡ (unwrap_or o all).0.now ∷ lines_of (unwrap_or o all).1.now
first_line bytes (Some parts) all whole none some found lacks = ap lines_of found.1
    ∙ line_cut parts.0.now parts.1.now found.0
first_line bytes None all whole none some found lacks = one_line bytes some lacks
    ∙ (λ i. sym whole i ∷ lines_of (sym none i))

pub dot_cut : (front back : List ℕ) → Lacks 46 front → cut_dot (front ++ 46 ∷ back) ≡ Some (front, back)
dot_cut [] back lacks = refl
dot_cut (b ∷ front) back lacks =
    past b 46 (Some ([], front ++ 46 ∷ back)) (onto_part b (cut_dot (front ++ 46 ∷ back)))
    (All-head (λ (byte : ℕ). byte ≢ 46) b front lacks)
    ∙ ap (onto_part b) (dot_cut front back (All-tail (λ (byte : ℕ). byte ≢ 46) b front lacks))

pub no_dot_cut : (bs : List ℕ) → Lacks 46 bs → cut_dot bs ≡ None
no_dot_cut [] lacks = refl
no_dot_cut (b ∷ bs) lacks =
    past b 46 (Some ([], bs)) (onto_part b (cut_dot bs)) (All-head (λ (byte : ℕ). byte ≢ 46) b bs lacks)
    ∙ ap (onto_part b) (no_dot_cut bs (All-tail (λ (byte : ℕ). byte ≢ 46) b bs lacks))

-- a dot is cut at its first point
pub dot_parts : (bs front back : List ℕ) → bs ≡ front ++ 46 ∷ back
    → ((i : ℕ) → i < length front → get_or front i 0 ≢ 46) → cut_dot bs ≡ Some (front, back)
dot_parts bs front back e lacks = ap cut_dot e ∙ dot_cut front back (lacks_by_index 46 front lacks)
