-- The past of an operation, by the numbers of its vector.
use Rattle.std.proofs.Common.{◌≡◌, ◌≢◌, ◌<◌, ◌≤◌, ℕ, List, length, ap, sym, ⊎_elim, arith}
use Rattle.std.proofs.lemmas.Bool.{leb-true, le-leb, cases_order}
use Rattle.std.specs.Prelude.{IsTrue}
use Rattle.td_clock.specs.Vector.{vector_get, vector_covers}
use Rattle.td_clock.proofs.VectorLemmas.{sum_grows, covered_dots}
use Rattle.td_op.specs.Op.{OpValue, IsOp}
use Rattle.td_op.specs.Past.{in_past, op_sum, Concurrent}

-- its own number is above the one that it knows of its site
pub not_in_own_past : (x : OpValue) → IsOp x → ¬ IsTrue (in_past x x)
not_in_own_past x is past = omega (arith, leb-true x.dot.seq (vector_get x.deps x.dot.site) past, is.next)

-- what is known stays known
pub past_along : (x y z : OpValue) → IsTrue (in_past x y) → IsTrue (vector_covers z.deps y.deps) → IsTrue (in_past x z)
past_along x y z past covers = covered_dots z.deps y.deps covers x.dot past

pub ruleset strict = (not_in_own_past, past_along)

-- the later one knows all before it of its site
pub earlier_in_past : (x y : OpValue) → IsOp y → x.dot.site ≡ y.dot.site → x.dot.seq < y.dot.seq → IsTrue (in_past x y)
earlier_in_past x y is site earlier =
    let known : vector_get y.deps x.dot.site ≡ vector_get y.deps y.dot.site = ap (vector_get y.deps) site in
    le-leb x.dot.seq (vector_get y.deps x.dot.site) (omega (arith, known, is.next))

-- two dots of one site are in order
pub apart_if_concurrent : (x y : OpValue) → IsOp x → IsOp y → x.dot ≢ y.dot → Concurrent x y → x.dot.site ≢ y.dot.site
apart_if_concurrent x y is_x is_y other concurrent site =
    let same : x.dot.seq ≡ y.dot.seq → ⊥ = λ seq. other (λ i. record { site = site i; seq = seq i }) in
    let earlier : x.dot.seq < y.dot.seq → ⊥ = λ less. concurrent.not_before (earlier_in_past x y is_y site less) in
    let later : y.dot.seq < x.dot.seq → ⊥ = λ less. concurrent.not_after (earlier_in_past y x is_x (sym site) less) in
    ⊎_elim same (⊎_elim earlier later) (cases_order x.dot.seq y.dot.seq)

pub ruleset one_site = (earlier_in_past, apart_if_concurrent)

-- at the site of the earlier one the numbers differ
pub past_sum : (x y : OpValue) → IsOp x → length x.deps ≡ length y.deps → IsTrue (vector_covers y.deps x.deps)
    → IsTrue (in_past x y) → op_sum x < op_sum y
past_sum x y is one_size covers past =
    let more : x.dot.seq ≤ vector_get y.deps x.dot.site = leb-true x.dot.seq (vector_get y.deps x.dot.site) past in
    sum_grows y.deps x.deps (sym one_size) covers (λ same.
    let here : vector_get y.deps x.dot.site ≡ vector_get x.deps x.dot.site =
    ap (λ (v : List ℕ). vector_get v x.dot.site) same in
    omega (arith, more, here, is.next))
