-- What becomes of an operation of another site.
use Rattle.std.specs.Prelude.{◌==◌, ◌&&◌, ℕ, Bool, List, [], ◌∷◌, length, nat_le, nat_lt, if◌then◌else◌}
use Rattle.std.specs.List.{list_any}
use Rattle.td_base.specs.Value.{DotValue}
use Rattle.td_base.specs.Equality.{same_dot}
use Rattle.td_marks.specs.Mark.{MarkOpValue}
use Rattle.td_marks.specs.Marks.{MarksValue, next_dot, with_op}
use Rattle.td_marks.specs.declared.mark_taken.MarkTaken.{MarkTaken}
use Rattle.td_marks.specs.declared.mark_taken.MarkTaken.TheVariants.{New, Repeat, Gap, Size}

abbrev pub is_had : DotValue → List MarkOpValue → Bool
is_had d ops = list_any (λ (o : MarkOpValue). same_dot o.dot d) ops

-- it is of one of n sites, and made where there are n
abbrev pub is_of_size : ℕ → MarkOpValue → Bool
is_of_size n o = length o.seen == n && nat_le o.dot.site n

-- the answer: `Gap` where the first of its site that is not had is one before it
abbrev pub take_answer : MarksValue → MarkOpValue → MarkTaken
take_answer m o =
    if is_of_size m.size o
    then (if is_had o.dot m.ops then Repeat
    else if nat_lt (next_dot o.dot.site m.ops).seq o.dot.seq then Gap (next_dot o.dot.site m.ops).seq
    else New)
    else Size

-- what is had after it
abbrev pub after_take : MarkTaken → MarkOpValue → MarksValue → MarksValue
after_take New o m = with_op o m
after_take Repeat o m = m
after_take (Gap want) o m = m
after_take Size o m = m

-- and after several, one after another
abbrev pub after_takes : List MarkOpValue → MarksValue → MarksValue
after_takes [] m = m
after_takes (o ∷ ops) m = after_takes ops (after_take (take_answer m o) o m)
