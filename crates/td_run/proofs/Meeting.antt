-- The marks of a site among those of all, and a site that is given those of another one.
use Rattle.std.proofs.Common.{◌≡◌, ◌≢◌, ◌<◌, ◌≤◌, ◌-◌, ℕ, zero, suc, List, [], ◌∷◌, get_or, length, set, refl, sym, ap}
use Rattle.std.proofs.Common.{◌∙◌, subst, arith}
use Rattle.std.proofs.lemmas.List.{get_or-set_other, set-get_or}
use Rattle.td_marks.specs.Marks.{MarksValue, IsMarks}
use Rattle.td_marks.specs.Taking.{after_takes}
use Rattle.td_marks.proofs.Meeting.{own_had}
use Rattle.td_report.specs.Marks.{meet_line}
use Rattle.td_run.specs.Marking.{Marking, marks_of, meet, no_marks, with_marks}

-- whatever else would be read past the last
any_other : {X : Type 0} (xs : List X) (k : ℕ) (x y : X) → k < length xs → get_or xs k x ≡ get_or xs k y
any_other [] k x y less = absurd (omega (arith, less))
any_other (z ∷ xs) zero x y less = refl
any_other (z ∷ xs) (suc k) x y less = any_other xs k x y (omega (arith, less))

-- what stands at the place of a site
pub marks_there : (all : List MarksValue) (site place : ℕ) (m : MarksValue) → place ≡ site - 1 → 1 ≤ site
    → site ≤ length all → m ≡ get_or all place m → m ≡ marks_of site all
marks_there all site place m at some within is =
    is ∙ any_other all place m (no_marks (length all) site) (omega (arith, at, some, within))
    ∙ ap (λ (k : ℕ). get_or all k (no_marks (length all) site)) at

-- a list put twice in one place
put_twice : {X : Type 0} (xs : List X) (k : ℕ) (x y : X) → set (set xs k x) k y ≡ set xs k y
put_twice [] k x y = refl
put_twice (z ∷ xs) zero x y = refl
put_twice (z ∷ xs) (suc k) x y = ap (λ (l : List _). z ∷ l) (put_twice xs k x y)

-- a site is given its own
pub met_itself : (all : List MarksValue) (site : ℕ) → IsMarks (marks_of site all)
    → meet site site all ≡ record { marks = all; line = meet_line site site 0 }
met_itself all site is =
    (λ i. record {
      marks = with_marks site (own_had m is i) all;
      line = meet_line site site (length (own_had m is i).ops - length m.ops);
    })
    ∙ (λ i. record { marks = same i; line = meet_line site site (none i) })
  where
    m : MarksValue
    m = marks_of site all

    same : with_marks site m all ≡ all
    same = set-get_or all (site - 1) (no_marks (length all) site)

    none : length m.ops - length m.ops ≡ 0
    none = omega arith

-- its marks are put aside, it is given the others, and they are put back
pub put_back : (all : List MarksValue) (site place : ℕ) (aside new : MarksValue) → place ≡ site - 1
    → set (set all place aside) place new ≡ with_marks site new all
put_back all site place aside new at =
    put_twice all place aside new ∙ ap (λ (k : ℕ). set all k new) at

-- those of another site stay
pub other_stays : (all : List MarksValue) (site other place there : ℕ) (aside m : MarksValue) → place ≡ site - 1
    → there ≡ other - 1 → 1 ≤ site → 1 ≤ other → other ≤ length all → site ≢ other
    → m ≡ get_or (set all place aside) there m → m ≡ marks_of other all
other_stays all site other place there aside m at at_other some some_other within differ is =
    marks_there all other there m at_other some_other within
    (is ∙ get_or-set_other all place there aside m
    (λ (e : there ≡ place). differ (omega (arith, e, at, at_other, some, some_other))))
