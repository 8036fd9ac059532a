-- The words that ask for a generated script.
use Rattle.std.proofs.Common.{◌≡◌, ◌<◌, ◌≤◌, ◌^◌, ℕ, List, [], ◌∷◌, Bool, true, false, Option, sym, ◌∙◌, subst, arith}
use Rattle.std.specs.Prelude.{IfNone}
use Rattle.std.specs.Bool.{then_some}
use Rattle.std.specs.Fmt.{decimal}
use Rattle.std.proofs.Math.Dec.{leb}
use Rattle.std.proofs.lemmas.Bool.{leb-false}
use Rattle.std.proofs.lemmas.Fmt.{decimal_injective}
use Rattle.td_run.specs.declared.words.Form.{Form}
use Rattle.td_run.specs.Words.{IsGen}

second : (a b c x y z : List ℕ) → a ∷ b ∷ c ∷ [] ≡ x ∷ y ∷ z ∷ [] → b ≡ y
second a b c x y z e = cc

-- the size that is written is too great, where no script is asked for
pub too_great : (word size number : List ℕ) (k : ℕ) (form : Form) (asked : Option Form)
    → asked ≡ then_some (leb k 50000) form → k < 10 ^ 9 → size ≡ decimal k
    → IfNone asked ((s n : ℕ) → ¬ IsGen (word ∷ size ∷ number ∷ []) s n)
too_great word size number k form asked is small written =
    subst (λ (o : Option Form). IfNone o ((s n : ℕ) → ¬ IsGen (word ∷ size ∷ number ∷ []) s n)) (sym is)
    (at (leb k 50000) (λ e. leb-false k 50000 e))
  where
    at : (b : Bool) → (b ≡ false → 50000 < k)
        → IfNone (then_some b form) ((s n : ℕ) → ¬ IsGen (word ∷ size ∷ number ∷ []) s n)
    at true past = tt
    at false past = λ s n gen.
        let least : s ≤ 50000 = gen.small in
        let long : 50000 < k = past (λ i. false) in
        let same : k ≡ s =
        decimal_injective k s (omega (arith, small)) (omega (arith, least))
        (sym written ∙ second word size number _ _ _ gen.are) in
        absurd (omega (arith, least, long, same))
