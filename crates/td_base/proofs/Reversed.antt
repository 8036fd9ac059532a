-- Lists told from their end.
use Rattle.std.proofs.Common.{◌≡◌, List, [], ◌∷◌, ◌++◌, Bool, true, false, cond}
use Rattle.std.proofs.Common.{filter, refl, sym, ap, ◌∙◌, append-nil, map}
use Rattle.std.specs.Prelude.{reverse}
use Rattle.std.specs.List.{list_any}
use Rattle.std.proofs.lemmas.Grind.{reverse_onto}
use Rattle.std.proofs.lemmas.List.Elements.{filter-append}
use Rattle.std.proofs.lemmas.List.Sorted.{list_any-IsPermutation, IsPermutation-reverse}
use Rattle.std.proofs.lemmas.List.{reverse-append, map-append}

pub any_reverse : {X : Type 0} (test : X → Bool) (xs : List X) → list_any test (reverse xs) ≡ list_any test xs
any_reverse test xs = sym (list_any-IsPermutation test xs (reverse xs) (IsPermutation-reverse xs))

filter_last : {X : Type 0} (x : X) (xs : List X) (b : Bool)
    → reverse xs ++ cond b (x ∷ []) [] ≡ reverse (cond b (x ∷ xs) xs)
filter_last x xs true = sym (reverse_onto xs x [])
filter_last x xs false = append-nil (reverse xs)

pub filter_reverse : {X : Type 0} (test : X → Bool) (xs : List X)
    → filter test (reverse xs) ≡ reverse (filter test xs)
filter_reverse test [] = refl
filter_reverse {X} test (x ∷ xs) =
    ap (filter test) (reverse_onto xs x [])
    ∙ filter-append test (reverse xs) (x ∷ [])
    ∙ ap (λ (front : List X). front ++ cond (test x) (x ∷ []) []) (filter_reverse test xs)
    ∙ filter_last x (filter test xs) (test x)

pub map-reverse : {X Y : Type 0} (f : X → Y) (xs : List X) → map f (reverse xs) ≡ reverse (map f xs)
map-reverse f [] = refl
map-reverse {Y = Y} f (x ∷ xs) =
    ap (map f) (reverse-append (x ∷ []) xs) ∙ map-append f (reverse xs) (x ∷ [])
    ∙ ap (λ (ys : List Y). ys ++ f x ∷ []) (map-reverse f xs) ∙ sym (reverse-append (f x ∷ []) (map f xs))
