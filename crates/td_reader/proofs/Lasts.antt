-- The last of a list, changed; and what is said of the elements of a list, by their numbers.
use Rattle.std.proofs.Common.{◌≡◌, ◌<◌, ◌+◌, ℕ, zero, suc, List, [], ◌∷◌, ◌++◌, length, replicate, refl, sym, ap}
use Rattle.std.proofs.Common.{◌∙◌, append_assoc, append-nil, arith}
use Rattle.std.specs.List.{AllByRecursion}
use Rattle.td_report.specs.Trace.{numbered}

abbrev pub on_last : {X : Type 0} → (X → X) → List X → List X
on_last f [] = []
on_last f (x ∷ []) = f x ∷ []
on_last f (x ∷ y ∷ ys) = x ∷ on_last f (y ∷ ys)

-- there is a last one, and it is so
abbrev pub LastIs : {X : Type 0} → (X → Type 0) → List X → Type 0
LastIs Good [] = ⊥
LastIs Good (x ∷ []) = Good x
LastIs Good (x ∷ y ∷ ys) = LastIs Good (y ∷ ys)

pub last_behind : {X : Type 0} (Good : X → Type 0) (x : X) (xs : List X) → LastIs Good xs → LastIs Good (x ∷ xs)
last_behind Good x [] h = absurd h
last_behind Good x (y ∷ ys) h = h

pub last_pushed : {X : Type 0} (Good : X → Type 0) (xs : List X) (x : X) → Good x → LastIs Good (xs ++ x ∷ [])
last_pushed Good [] x h = h
last_pushed Good (y ∷ ys) x h = last_behind Good y (ys ++ x ∷ []) (last_pushed Good ys x h)

pub last_changed : {X : Type 0} (Good Next : X → Type 0) (f : X → X) → ((x : X) → Good x → Next (f x)) → (xs : List X)
    → LastIs Good xs → LastIs Next (on_last f xs)
last_changed Good Next f step [] h = absurd h
last_changed Good Next f step (x ∷ []) h = step x h
last_changed Good Next f step (x ∷ y ∷ ys) h = last_behind Next x (on_last f (y ∷ ys))
    (last_changed Good Next f step (y ∷ ys) h)

pub last_any : {X : Type 0} (xs : List X) → 0 < length xs → LastIs (λ _. Unit {0}) xs
last_any [] h = absurd (omega arith)
last_any (x ∷ []) h = tt
last_any (x ∷ y ∷ ys) h = last_any (y ∷ ys) (omega arith)

pub some_last : {X : Type 0} (Good : X → Type 0) (xs : List X) → LastIs Good xs → 0 < length xs
some_last Good [] h = absurd h
some_last Good (x ∷ xs) h = omega arith

pub length_on_last : {X : Type 0} (f : X → X) (xs : List X) → length (on_last f xs) ≡ length xs
length_on_last f [] = refl
length_on_last f (x ∷ []) = refl
length_on_last f (x ∷ y ∷ ys) = ap suc (length_on_last f (y ∷ ys))

pub all_on_last : {X : Type 0} (P Good : X → Type 0) (f : X → X) → ((x : X) → Good x → P x → P (f x)) → (xs : List X)
    → LastIs Good xs → AllByRecursion P xs → AllByRecursion P (on_last f xs)
all_on_last P Good f step [] h all = absurd h
all_on_last P Good f step (x ∷ []) h all = (step x h all.0, tt)
all_on_last P Good f step (x ∷ y ∷ ys) h all = (all.0, all_on_last P Good f step (y ∷ ys) h all.1)

pub all_same : {X : Type 0} (P : X → Type 0) (n : ℕ) (x : X) → P x → AllByRecursion P (replicate n x)
all_same P zero x h = tt
all_same P (suc n) x h = (h, all_same P n x h)

-- ---- by their numbers

pub numbered_behind : {X Y : Type 0} (say : ℕ → X → List Y) (n : ℕ) (xs ys : List X)
    → numbered say n (xs ++ ys) ≡ numbered say n xs ++ numbered say (n + length xs) ys
numbered_behind say n [] ys = let same : n ≡ n + 0 = omega arith in ap (λ (m : ℕ). numbered say m ys) same
numbered_behind say n (x ∷ xs) ys =
    let same : n + 1 + length xs ≡ n + suc (length xs) = omega arith in
    ap (λ t. say n x ++ t) (numbered_behind say (n + 1) xs ys)
    ∙ sym (append_assoc (say n x) (numbered say (n + 1) xs) (numbered say (n + 1 + length xs) ys))
    ∙ ap (λ (m : ℕ). (say n x ++ numbered say (n + 1) xs) ++ numbered say m ys) same

pub numbered_on_last : {X Y : Type 0} (say : ℕ → X → List Y) (f : X → X) (y : Y) (Good : X → Type 0)
    → ((n : ℕ) (x : X) → Good x → say n (f x) ≡ say n x ++ y ∷ []) → (n : ℕ) (xs : List X) → LastIs Good xs
    → numbered say n (on_last f xs) ≡ numbered say n xs ++ y ∷ []
numbered_on_last say f y Good step n [] h = absurd h
numbered_on_last say f y Good step n (x ∷ []) h =
    append-nil (say n (f x)) ∙ step n x h ∙ ap (λ t. t ++ y ∷ []) (sym (append-nil (say n x)))
numbered_on_last say f y Good step n (x ∷ z ∷ zs) h =
    ap (λ t. say n x ++ t) (numbered_on_last say f y Good step (n + 1) (z ∷ zs) h)
    ∙ sym (append_assoc (say n x) (numbered say (n + 1) (z ∷ zs)) (y ∷ []))

pub last_weaker : {X : Type 0} (Good Next : X → Type 0) → ((x : X) → Good x → Next x) → (xs : List X) → LastIs Good xs
    → LastIs Next xs
last_weaker Good Next step [] h = absurd h
last_weaker Good Next step (x ∷ []) h = step x h
last_weaker Good Next step (x ∷ y ∷ ys) h = last_weaker Good Next step (y ∷ ys) h
