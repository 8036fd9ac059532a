-- What a clause on a result says where the result is known.
use Rattle.std.proofs.Common.{◌≡◌, Result, Ok, Err, IfOk}
use Rattle.std.specs.Prelude.{OnErr, is_err, false}

pub on_err : {A B : Type 0} (r : Result A B) (P : Type 0) → P → OnErr r P
on_err (Ok a) P p = tt
on_err (Err b) P p = p

pub of_ok : {A B : Type 0} (r : Result A B) (P : Type 0) → is_err r ≡ false → IfOk r (λ _. P) → P
of_ok (Ok a) P e h = h
of_ok (Err b) P e h = absurd (cc e)

pub then_ok : {A B : Type 0} (r : Result A B) (P Q : Type 0) → (P → Q) → IfOk r (λ _. P) → IfOk r (λ _. Q)
then_ok (Ok a) P Q f p = f p
then_ok (Err b) P Q f p = tt
