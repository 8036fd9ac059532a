-- Two runs that `==` does not tell apart are one.
use Rattle.std.proofs.Common.{◌≡◌, ℕ, List, [], ◌∷◌, ◌&&◌, true, refl, sym, ◌∙◌, true≢false, eqb}
use Rattle.std.proofs.lemmas.Bool.{and_parts, eqb-true}
use Rattle.std.specs.Cmp.Lexicographic.{pointwise}
use Rattle.td_base.specs.Run.{IsRun}
use Rattle.td_base.specs.RunParts.{atoms_of, bytes_of, ends_of}
use Rattle.td_base.proofs.RunLemmas.{atoms_again}

same_bytes : (xs ys : List ℕ) → pointwise eqb xs ys ≡ true → xs ≡ ys
same_bytes [] [] h = refl
same_bytes [] (y ∷ ys) h = absurd (true≢false (sym h))
same_bytes (x ∷ xs) [] h = absurd (true≢false (sym h))
same_bytes (x ∷ xs) (y ∷ ys) h =
    let p = and_parts (eqb x y) (pointwise eqb xs ys) h in
    λ i. eqb-true x y p.0 i ∷ same_bytes xs ys p.1 i

pub same_run : (a b : List (List ℕ)) → IsRun a → IsRun b
    → (pointwise eqb (bytes_of a) (bytes_of b) && eqb (ends_of a) (ends_of b)) ≡ true → a ≡ b
same_run a b is_a is_b h =
    let p = and_parts (pointwise eqb (bytes_of a) (bytes_of b)) (eqb (ends_of a) (ends_of b)) h in
    let bytes : bytes_of a ≡ bytes_of b = same_bytes (bytes_of a) (bytes_of b) p.0 in
    let ends : ends_of a ≡ ends_of b = eqb-true (ends_of a) (ends_of b) p.1 in
    sym (atoms_again a _ is_a.each) ∙ ((λ i. atoms_of (ends i) (bytes i)) ∙ atoms_again b _ is_b.each)
