-- Operations that are taken one after another.
use Rattle.std.proofs.Common.{◌≡◌, ◌≤◌, ◌+◌, ◌++◌, ℕ, List, [], ◌∷◌, true, take, length}
use Rattle.std.proofs.Common.{refl, sym, ap, ◌∙◌, inl, inr, arith}
use Rattle.std.proofs.Common.{◌-◌, length-append, Bool, Some, None, if◌then◌else◌}
use Rattle.std.proofs.lemmas.Bool.{ne_eqb}
use Rattle.std.specs.List.{slice_get}
use Rattle.td_base.specs.Equality.{same_dot}
use Rattle.td_base.specs.Lists.{In, kth}
use Rattle.td_base.proofs.Lists.{all_in, any_from}
use Rattle.td_base.proofs.Places.{take_there}
use Rattle.td_base.proofs.Equals.{same_dot_refl}
use Rattle.td_marks.specs.Mark.{MarkOpValue}
use Rattle.td_marks.specs.Marks.{MarksValue, IsMarks, IsMarkOp}
use Rattle.td_marks.specs.Taking.{after_take, after_takes, is_had, take_answer}
use Rattle.td_marks.specs.declared.mark_taken.MarkTaken.{MarkTaken}
use Rattle.td_marks.specs.declared.mark_taken.MarkTaken.TheVariants.{New, Repeat, Gap, Size}
use Rattle.td_marks.proofs.Parts.{answer_at}

-- those in front first
pub takes_append : (front back : List MarkOpValue) (m : MarksValue)
    → after_takes (front ++ back) m ≡ after_takes back (after_takes front m)
takes_append [] back m = refl
takes_append (o ∷ front) back m = takes_append front back (after_take (take_answer m o) o m)

-- the k-th from 1 is at the place before
pub kth_next : (ops : List MarkOpValue) (place : ℕ) → kth (place + 1) ops ≡ slice_get ops place
kth_next ops place =
    let back : place + 1 - 1 ≡ place = omega arith in
    ap (λ (b : Bool). if b then None else slice_get ops (place + 1 - 1))
    (ne_eqb (place + 1) 0 (λ (e : place + 1 ≡ 0). absurd (omega (arith, e))))
    ∙ ap (slice_get ops) back

-- one more
pub takes_more : (ops : List MarkOpValue) (place : ℕ) (o : MarkOpValue) (old now new : MarksValue)
    → kth (place + 1) ops ≡ Some o → now ≡ after_takes (take place ops) old
    → new ≡ after_take (take_answer now o) o now → new ≡ after_takes (take (place + 1) ops) old
takes_more ops place o old now new there so_far more =
    more ∙ ap (after_takes (o ∷ [])) so_far ∙ sym (takes_append (take place ops) (o ∷ []) old)
    ∙ ap (λ (l : List MarkOpValue). after_takes l old) (sym (take_there ops place o (sym (kth_next ops place) ∙ there)))

-- nothing that was had is lost
one_grows : (answer : MarkTaken) (o : MarkOpValue) (m : MarksValue) → length m.ops ≤ length (after_take answer o m).ops
one_grows New o m =
    let long : length (m.ops ++ o ∷ []) ≡ length m.ops + 1 = length-append m.ops (o ∷ []) in omega (arith, long)
one_grows Repeat o m = omega arith
one_grows (Gap want) o m = omega arith
one_grows Size o m = omega arith

pub takes_grow : (ops : List MarkOpValue) (m : MarksValue) → length m.ops ≤ length (after_takes ops m).ops
takes_grow [] m = omega arith
takes_grow (o ∷ ops) m =
    let first : length m.ops ≤ length (after_take (take_answer m o) o m).ops = one_grows (take_answer m o) o m in
    let others : length (after_take (take_answer m o) o m).ops
    ≤ length (after_takes ops (after_take (take_answer m o) o m)).ops =
    takes_grow ops (after_take (take_answer m o) o m) in
    omega (arith, first, others)

-- what is had is not taken again
pub all_had : (m : MarksValue) → IsMarks m → (ops : List MarkOpValue) → ((o : MarkOpValue) → In o ops → In o m.ops)
    → after_takes ops m ≡ m
all_had m is [] among = refl
all_had m is (o ∷ ops) among =
    ap (λ (answer : MarkTaken). after_takes ops (after_take answer o m)) repeated
    ∙ all_had m is ops (λ x i. among x (inr i))
  where
    here : In o m.ops
    here = among o (inl refl)

    fits : IsMarkOp m.size o
    fits = all_in (IsMarkOp m.size) m.ops is.each o here

    had : is_had o.dot m.ops ≡ true
    had = any_from (λ (x : MarkOpValue). same_dot x.dot o.dot) m.ops o here (same_dot_refl o.dot)

    repeated : take_answer m o ≡ Repeat
    repeated = answer_at m o true _ fits.size fits.site had refl

pub own_had : (m : MarksValue) → IsMarks m → after_takes m.ops m ≡ m
own_had m is = all_had m is m.ops (λ o i. i)
