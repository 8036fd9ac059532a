-- What a clause on a result says where the result is known.
use Rattle.std.proofs.Common.{◌≡◌, Option, Some, Result, Ok, Err, MatchResult, IfOk, subst}
use Rattle.std.specs.Prelude.{IfSome, IfErr, is_err, true}

pub if_ok : {A B : Type 0} (r : Result A B) (P Q R : Type 0) → (P → R) → MatchResult r (λ _. P) (λ _. Q)
    → IfOk r (λ _. R)
if_ok (Ok a) P Q R f v = f v
if_ok (Err b) P Q R f v = tt

pub of_some : {A : Type 0} (o : Option A) (a : A) (P : A → Type 0) → o ≡ Some a → IfSome o P → P a
of_some o a P e h = subst (λ q. IfSome q P) e h

pub of_err : {A B : Type 0} (r : Result A B) (P : Type 0) → is_err r ≡ true → IfErr r (λ _. P) → P
of_err (Ok a) P e h = absurd (cc e)
of_err (Err b) P e h = h
