-- The definitions of vectors, place by place.
use Rattle.std.proofs.Common.{◌≡◌, ◌≢◌, ◌<◌, ◌≤◌, ◌+◌, ◌-◌, ◌^◌, ◌∷◌, [], ℕ, suc, zero, Bool, true, ◌&&◌, ◌||◌}
use Rattle.std.proofs.Common.{◌==◌, nat_le, nat_eq, max, List, length, get_or, refl, sym, ap, ◌∙◌, sub-one}
use Rattle.std.proofs.Common.{add-one, inl, inr, arith, take, drop, set, replicate, ◌++◌}
use Rattle.std.proofs.lemmas.Bool.{leb-true, le-leb, and_parts, and_from, cases_eq, eqb-true, eq-eqb}
use Rattle.std.proofs.lemmas.Bool.Decides.{nat_tests}
use Rattle.std.proofs.lemmas.Cmp.{nat_list_eq_equiv}
use Rattle.std.proofs.lemmas.List.Sums.{sum_by-cons}
use Rattle.std.specs.Prelude.{IsTrue, sum}
use Rattle.std.specs.List.{zip, list_all}
use Rattle.std.specs.Cmp.Lexicographic.{same_text}
use lib.Pointwise.{pointwise}
use Rattle.std.proofs.lemmas.List.{ext_get_or, take_at, drop_at, length-replicate}
use Rattle.std.proofs.lemmas.List.{drop-replicate, replicate-append-replicate}
use Rattle.std.proofs.lemmas.List.Elements.{All-replicate, All-from_get_or}
use Rattle.td_base.specs.declared.site.TheConstants.{MAX_SITE}
use Rattle.td_base.specs.declared.dot.TheConstants.{MAX_SEQ}
use Rattle.td_base.specs.Value.{DotValue}
use Rattle.td_clock.specs.VectorParts.{IsVectorParts, numbers_of}
use Rattle.td_clock.specs.Vector.{IsVector, vector_get, vector_has, vector_covers, vector_join}

-- ---- covers

covers_at : (v w : List ℕ) (k : ℕ) → IsTrue (vector_covers v w) → get_or w k 0 ≤ get_or v k 0
covers_at v [] k covers = omega arith
covers_at [] (n ∷ w) k covers = absurd cc
covers_at (m ∷ v) (n ∷ w) zero covers = leb-true n m (and_parts (nat_le n m) (vector_covers v w) covers).0
covers_at (m ∷ v) (n ∷ w) (suc k) covers = covers_at v w k (and_parts (nat_le n m) (vector_covers v w) covers).1

covers_long : (v w : List ℕ) → IsTrue (vector_covers v w) → length w ≤ length v
covers_long v [] covers = omega arith
covers_long [] (n ∷ w) covers = absurd cc
covers_long (m ∷ v) (n ∷ w) covers = omega (
  arith,
  covers_long v w
      (and_parts (nat_le n m) (vector_covers v w) covers).1,
)

covers_from : (v w : List ℕ) → length w ≤ length v → ((k : ℕ) → get_or w k 0 ≤ get_or v k 0)
    → IsTrue (vector_covers v w)
covers_from v [] long at = refl
covers_from [] (n ∷ w) long at = absurd (omega arith)
covers_from (m ∷ v) (n ∷ w) long at = and_from (nat_le n m) (vector_covers v w) (le-leb n m (at 0))
    (covers_from v w (omega arith) (λ k. at (suc k)))

pub covers_itself : (v : List ℕ) → IsTrue (vector_covers v v)
covers_itself v = covers_from v v (omega arith) (λ k. omega arith)

pub same_from_covers : (v w : List ℕ) → IsTrue (vector_covers v w) → IsTrue (vector_covers w v) → v ≡ w
same_from_covers v w there back =
    let long : length v ≡ length w = omega (arith, covers_long v w there, covers_long w v back) in
    ext_get_or 0 v w long (λ k l. omega (arith, covers_at v w k there, covers_at w v k back))

pub covers_along : (u v w : List ℕ) → IsTrue (vector_covers u v) → IsTrue (vector_covers v w)
    → IsTrue (vector_covers u w)
covers_along u v w first second =
    covers_from u w (omega (arith, covers_long u v first, covers_long v w second))
    (λ k. omega (arith, covers_at u v k first, covers_at v w k second))

pub ruleset covering = (covers_itself, same_from_covers, covers_along)

-- what the walk over both vectors computes
pub all_covered : (v w : List ℕ) → length v ≡ length w → list_all (λ p. nat_le p.1 p.0) (zip v w) ≡ vector_covers v w
all_covered [] [] long = refl
all_covered [] (n ∷ w) long = absurd (omega arith)
all_covered (m ∷ v) [] long = absurd (omega arith)
all_covered (m ∷ v) (n ∷ w) long = ap (λ (rest : Bool). nat_le n m && rest) (all_covered v w (omega arith))

-- ---- dots

pub covered_dots : (v w : List ℕ) → IsTrue (vector_covers v w) → (d : DotValue) → IsTrue (vector_has w d)
    → IsTrue (vector_has v d)
covered_dots v w covers d has =
    le-leb d.seq (vector_get v d.site) (omega (
      arith,
      leb-true d.seq (vector_get w d.site) has,
      covers_at v w
          (d.site - 1) covers,
    ))

pub covers_from_dots : (v w : List ℕ) → length w ≤ length v
    → ((d : DotValue) → IsTrue (vector_has w d) → IsTrue (vector_has v d)) → IsTrue (vector_covers v w)
covers_from_dots v w long dots = covers_from v w long (λ k.
    let last : DotValue = record { site = suc k; seq = get_or w k 0 } in
    let here = dots last (rw sub-one (le-leb (get_or w k 0) (get_or w k 0) (omega arith))) in
    leb-true (get_or w k 0) (get_or v k 0) (rw sub-one at here))

pub ruleset dots = (covered_dots, covers_from_dots)

-- ---- join

join_at : (v w : List ℕ) (k : ℕ) → get_or (vector_join v w) k 0 ≡ max (get_or v k 0) (get_or w k 0)
join_at v [] k = omega arith
join_at [] (n ∷ w) k = omega arith
join_at (m ∷ v) (n ∷ w) zero = refl
join_at (m ∷ v) (n ∷ w) (suc k) = join_at v w k

join_long : (v w : List ℕ) → length (vector_join v w) ≡ max (length v) (length w)
join_long v [] = omega arith
join_long [] (n ∷ w) = omega arith
join_long (m ∷ v) (n ∷ w) = omega (arith, join_long v w)

pub join_covers_first : (v w : List ℕ) → IsTrue (vector_covers (vector_join v w) v)
join_covers_first v w = covers_from (vector_join v w) v (omega (arith, join_long v w))
    (λ k. omega (arith, join_at v w k))

pub join_covers_second : (v w : List ℕ) → IsTrue (vector_covers (vector_join v w) w)
join_covers_second v w = covers_from (vector_join v w) w (omega (arith, join_long v w))
    (λ k. omega (arith, join_at v w k))

pub join_is_least : (u v w : List ℕ) → IsTrue (vector_covers u v) → IsTrue (vector_covers u w)
    → IsTrue (vector_covers u (vector_join v w))
join_is_least u v w first second =
    covers_from u (vector_join v w) (omega (arith, join_long v w, covers_long u v first, covers_long u w second))
    (λ k. omega (arith, join_at v w k, covers_at u v k first, covers_at u w k second))

up_to_max : (n a b : ℕ) → nat_le n (max a b) ≡ (nat_le n a || nat_le n b)
up_to_max n a b = grind (arith, nat_tests)

pub join_dots : (v w : List ℕ) (d : DotValue) → vector_has (vector_join v w) d ≡ (vector_has v d || vector_has w d)
join_dots v w d = ap (nat_le d.seq) (join_at v w (d.site - 1))
    ∙ up_to_max d.seq (vector_get v d.site) (vector_get w d.site)

pub ruleset joining = (join_covers_first, join_covers_second, join_is_least, join_dots)

-- ---- sum

pub covered_sum : (v w : List ℕ) → IsTrue (vector_covers v w) → sum w ≤ sum v
covered_sum v [] covers = omega arith
covered_sum [] (n ∷ w) covers = absurd cc
covered_sum (m ∷ v) (n ∷ w) covers =
    let parts = and_parts (nat_le n m) (vector_covers v w) covers in
    omega (
      arith,
      leb-true n m parts.0,
      covered_sum v w parts.1,
      sum_by-cons (λ (x : ℕ). x) m v,
      sum_by-cons
          (λ (x : ℕ). x) n w,
    )

pub sum_grows : (v w : List ℕ) → length v ≡ length w → IsTrue (vector_covers v w) → v ≢ w → sum w < sum v
sum_grows [] [] long covers other = absurd (other refl)
sum_grows (m ∷ v) [] long covers other = absurd (omega arith)
sum_grows [] (n ∷ w) long covers other = absurd (omega arith)
sum_grows (m ∷ v) (n ∷ w) long covers other =
    let parts = and_parts (nat_le n m) (vector_covers v w) covers in
    let le = leb-true n m parts.0 in
    let rest = covered_sum v w parts.1 in
    let grown : n ≡ m → sum w < sum v = λ same. sum_grows v w (omega arith) parts.1
    (λ rest_same. other (λ i. sym same i ∷ rest_same i)) in
    let sums_v = sum_by-cons (λ (x : ℕ). x) m v in
    let sums_w = sum_by-cons (λ (x : ℕ). x) n w in
    elim (cases_eq n m) [
      | inl same ↦ omega (arith, le, grown same, sums_v, sums_w)
      | inr less ↦ omega
          (arith, le, rest, less, sums_v, sums_w)
    ]

-- ---- how a `Vector` keeps its numbers

pub parts_of : (v numbers : List ℕ) (size : ℕ) → IsVector v → size ≡ length v → numbers ≡ numbers_of v
    → IsVectorParts size numbers × (take size numbers ≡ v)
parts_of v numbers size is long kept =
    let again : take size numbers ≡ v = rw kept (take_at v _ size (sym long)) in
    (record { vector = rw again is; size_again = rw again long; numbers_again = rw again kept }, again)

pub zero_parts : (n : ℕ) (zeros : List ℕ) → 1 ≤ n → n ≤ MAX_SITE → zeros ≡ replicate MAX_SITE 0
    → IsVectorParts n zeros × (take n zeros ≡ replicate n 0)
zero_parts n zeros some short all =
    let long = length-replicate {A = ℕ} n 0 in
    let is : IsVector (replicate n 0) = record {
      some = omega arith;
      short = omega arith;
      small = All-replicate (λ m. m ≤ MAX_SEQ) n 0 (omega arith);
    } in
    let rest : ℕ = MAX_SITE - length (replicate {A = ℕ} n 0) in
    let whole : n + rest ≡ MAX_SITE = omega arith in
    let array : replicate n 0 ++ replicate rest 0 ≡ zeros = replicate-append-replicate n rest 0
    ∙ rw (whole, all) refl in
    parts_of (replicate n 0) zeros n is (sym long) (sym array)

-- ---- the loop of `join`

abbrev pub joined_to : ℕ → List ℕ → List ℕ → List ℕ
joined_to i own others = vector_join (take i own) (take i others) ++ drop i own

joined_next : (i : ℕ) (own others : List ℕ) → i < length own → i < length others
    → set (joined_to i own others) i (max (get_or own i 0) (get_or others i 0)) ≡ joined_to (suc i) own others
joined_next i [] others within inside = absurd (omega arith)
joined_next i (m ∷ own) [] within inside = absurd (omega arith)
joined_next zero (m ∷ own) (n ∷ others) within inside = refl
joined_next (suc i) (m ∷ own) (n ∷ others) within inside =
    ap (λ (rest : List ℕ). max m n ∷ rest) (joined_next i own others (omega arith) (omega arith))

joined_here : (i : ℕ) (own others : List ℕ) → i < length own → i < length others → get_or (joined_to i own others) i 0
    ≡ get_or own i 0
joined_here i [] others within inside = absurd (omega arith)
joined_here i (m ∷ own) [] within inside = absurd (omega arith)
joined_here zero (m ∷ own) (n ∷ others) within inside = refl
joined_here (suc i) (m ∷ own) (n ∷ others) within inside = joined_here i own others (omega arith) (omega arith)

pub join_more : (i : ℕ) (own others now : List ℕ) (greater : ℕ) → i < length own → i < length others → now
    ≡ joined_to i own others
    → greater ≡ max (get_or now i 0) (get_or others i 0) → set now i greater ≡ joined_to (i + 1) own others
join_more i own others now greater within inside so_far is =
    let here : get_or now i 0 ≡ get_or own i 0 = rw so_far (joined_here i own others within inside) in
    rw (is, here, so_far, add-one) (joined_next i own others within inside)

join_is_vector : (v w : List ℕ) → length v ≡ length w → IsVector v → IsVector w → IsVector (vector_join v w)
join_is_vector v w same left right =
    let long = join_long v w in
    record {
      some = omega (arith, left.some);
      short = omega (arith, left.short);
      small = All-from_get_or (λ n. n ≤ MAX_SEQ) (vector_join v w) 0
          (λ k l. omega (arith, join_at v w k, left.small k 0 (omega arith), right.small k 0 (omega arith)));
    }

zeros_behind : (v numbers : List ℕ) (size : ℕ) → size ≡ length v → numbers ≡ numbers_of v → drop size numbers
    ≡ replicate (MAX_SITE - length v) 0
zeros_behind v numbers size long kept = rw kept (drop_at v _ size (sym long))

pub join_parts : (size : ℕ) (own others now : List ℕ) → IsVectorParts size own → IsVectorParts size others → now
    ≡ joined_to size own others
    → IsVectorParts size now × (take size now ≡ vector_join (take size own) (take size others))
join_parts size own others now left right done =
    let v : List ℕ = take size own in
    let w : List ℕ = take size others in
    let long : length v ≡ length w = sym left.size_again ∙ right.size_again in
    let whole : size ≡ length (vector_join v w) = omega (arith, join_long v w, left.size_again) in
    let zeros : drop size own ≡ replicate (MAX_SITE - length v) 0 =
    zeros_behind v own size left.size_again left.numbers_again in
    let rest : MAX_SITE - length v ≡ MAX_SITE - length (vector_join v w) = omega (arith, join_long v w) in
    parts_of (vector_join v w) now size (join_is_vector v w long left.vector right.vector) whole
    (rw (done, zeros, rest) refl)

pub made_parts : (v front numbers : List ℕ) → 1 ≤ length v → length v ≤ MAX_SITE → ((k : ℕ) → get_or v k 0 < 2 ^ 16)
    → front ≡ v → numbers ≡ front ++ drop (length v) (replicate {A = ℕ} MAX_SITE 0)
    → IsVectorParts (length v) numbers × (take (length v) numbers ≡ v)
made_parts v front numbers some short small copied all =
    let is : IsVector v = record {
      some = some;
      short = short;
      small = All-from_get_or (λ n. n ≤ MAX_SEQ) v 0 (λ k l. omega (arith, small k));
    } in
    let zeros : drop (length v) (replicate {A = ℕ} MAX_SITE 0)
    ≡ replicate (MAX_SITE - length v) 0 = drop-replicate (length v) MAX_SITE 0 in
    parts_of v numbers (length v) is refl (rw (all, copied, zeros) refl)

-- ---- equality

-- `==` compares the sizes and the arrays
abbrev pub same_vector : List ℕ → List ℕ → Bool
same_vector v w = length v == length w && pointwise nat_eq (numbers_of v) (numbers_of w)

pub same_vector_true : (v w : List ℕ) → same_vector v w ≡ true → v ≡ w
same_vector_true v w h =
    let parts = and_parts (length v == length w) (pointwise nat_eq (numbers_of v) (numbers_of w)) h in
    let long : length v ≡ length w = eqb-true (length v) (length w) parts.0 in
    let arrays : numbers_of v ≡ numbers_of w = same_text (numbers_of v) (numbers_of w) (sym parts.1) in
    sym (take_at v _ (length v) refl) ∙ ap (take (length v)) arrays ∙ take_at w _ (length v) (sym long)

pub same_vector_refl : (v : List ℕ) → same_vector v v ≡ true
same_vector_refl v = and_from (length v == length v) (pointwise nat_eq (numbers_of v) (numbers_of v))
    (eq-eqb (length v) (length v) refl) (nat_list_eq_equiv.refl (numbers_of v))
