use Rattle.std.proofs.Common.{◌≡◌, ℕ, List, true, nat_eq, sym, subst, ◌∙◌}
use Rattle.std.proofs.lemmas.Cmp.{nat_list_eq_equiv}
use Rattle.std.specs.Cmp.Lexicographic.{pointwise, same_text}
use Rattle.td_base.proofs.Elements.{both_tests}
use Rattle.td_clock.proofs.VectorLemmas.{same_vector, same_vector_true, same_vector_refl}
use Rattle.td_check.proofs.settled.is_same.Goals as goal

pub returns : goal.returns
returns c =
    let v = c.args.one.now in
    let w = c.args.other.now in
    c.eq.ensures
    ∙ both_tests (same_vector v w) (pointwise nat_eq v w)
    (λ h. subst (λ (x : List ℕ). pointwise nat_eq v x ≡ true) (same_vector_true v w h) (nat_list_eq_equiv.refl v))
    (λ h. subst (λ (x : List ℕ). same_vector v x ≡ true) (same_text v w (sym h)) (same_vector_refl v))
