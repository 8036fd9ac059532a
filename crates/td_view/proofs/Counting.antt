-- The publishes by which a writer ends.
use Rattle.std.proofs.Common.{◌≡◌, ℕ, zero, suc, ◌-◌, ◌<◌, List, [], ◌∷◌, ◌++◌, refl}
use Rattle.std.proofs.Common.{ap, sym, ◌∙◌, subst, arith, append_assoc}
use Rattle.logbook.specs.Pages.{Book}
use Rattle.td_view.specs.declared.publish.Publish.{Publish}
use Rattle.td_view.specs.Publishes.{again, MayFollow}
use Rattle.td_view.specs.Values.{ToldValue, tolds}

-- after one with a number above 1 comes the one with a number less
pub follows_down : (x p : Publish) (m : ℕ) → x ≡ again p m → 0 < m - 1 → MayFollow x (again p (m - 1))
follows_down x p m is more =
    let f : MayFollow (again p m) (again p (m - 1)) = record {
      rises = omega arith;
      goes_on = λ one. absurd (omega (arith, one, more));
      counts = λ lt. (refl, refl, omega (arith, more));
    } in
    subst (λ (y : Publish). MayFollow y (again p (m - 1))) (sym is) f

-- what is told of one of them is told, and the others remain
pub told_more : (items : List ToldValue) (views : Book) (log next : List Publish) (p : Publish) (m : ℕ)
    (whole : List ToldValue) → 0 < m
    → items ++ tolds views log p m ≡ whole → next ≡ log ++ again p m ∷ []
    → (items ++ record { views = views; list = next } ∷ []) ++ tolds views next p (m - 1) ≡ whole
told_more items views log next p zero whole more e is = absurd (omega (arith, more))
told_more items views log next p (suc m) whole more e is =
    let down : suc m - 1 ≡ m = omega arith in
    let told : List Publish → ToldValue = λ list. record { views = views; list = list } in
    append_assoc items (told next ∷ []) (tolds views next p (suc m - 1))
    ∙ (ap (λ (k : ℕ). items ++ told next ∷ tolds views next p k) down
    ∙ (ap (λ (l : List Publish). items ++ told l ∷ tolds views l p m) is ∙ e))
