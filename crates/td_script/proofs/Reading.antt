-- How an argument is read.
use Rattle.std.proofs.Common.{◌≡◌, ◌≢◌, ◌≤◌, ℕ, true, List, [], ◌∷◌, length, Result, Ok}
use Rattle.std.proofs.Common.{Err, eqb, arith, ap, subst, sym, refl}
use Rattle.std.proofs.lemmas.Bool.{eqb-true, cond-false, false_from_ne_true}
use Rattle.td_script.specs.declared.kind.Kind.{Kind}
use Rattle.td_script.specs.declared.kind.Kind.TheVariants.{End}
use Rattle.td_script.specs.Arguments.{argument}

-- what begins with no space is no argument
pub no_argument : (rest : List ℕ) → ((text : List ℕ) → rest ≢ 32 ∷ text) → argument rest ≡ Err End
no_argument [] none = refl
no_argument (b ∷ []) none = refl
no_argument (b ∷ c ∷ text) none =
    cond-false {A = Result (List ℕ) Kind} (eqb b 32) (Ok (c ∷ text)) (Err End)
    (false_from_ne_true (eqb b 32) (λ (e : eqb b 32 ≡ true). none (c ∷ text)
    (ap (λ (x : ℕ). x ∷ c ∷ text) (eqb-true b 32 e))))

-- a space with nothing behind it is no argument
pub empty_argument : (rest text : List ℕ) → rest ≡ 32 ∷ text → length text ≤ 0 → argument rest ≡ Err End
empty_argument rest [] e h = subst (λ (bs : List ℕ). argument bs ≡ Err End) (sym e) refl
empty_argument rest (b ∷ text) e h = absurd (omega arith)
