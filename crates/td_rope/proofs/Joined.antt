-- Parts, one after another.
use Rattle.std.proofs.Common.{◌≡◌, ◌<◌, ◌≤◌, ◌+◌, ◌-◌, ◌++◌, ◌∷◌, [], ℕ, zero, suc, List, length, take, drop, set}
use Rattle.std.proofs.Common.{get_or, refl, sym, ap, ◌∙◌, arith, append_assoc, length-append, length-drop, add-one}
use Rattle.std.specs.Prelude.{slice_get, slice_range, insert, remove, Some}
use Rattle.std.specs.List.{concat, flat_map, insert_slice}
use Rattle.std.proofs.lemmas.List.Folds.{concat-append, length-flat_map-take}
use Rattle.std.proofs.lemmas.List.{take-append-drop, take-append-le, drop-append-le, take_more_set, take_more}
use Rattle.std.proofs.lemmas.List.{drop-set-lt, set_split, append-nil, drop_all, length-take-le, nil_from_length}
use Rattle.std.proofs.lemmas.Option.{slice_get-get_or, get_or_from_slice_get}
use Rattle.std.proofs.lemmas.Grind.{flat_map-append}
use Rattle.std.proofs.lemmas.List.{get_or-append-add, get_or_append_left}
use Rattle.std.proofs.Math.Seq.{take-append-add, drop-append-add, drop-cons}
use Rattle.td_rope.specs.AmongParts.{IsAmongParts}

-- ---- edits within a list

-- a piece put in the middle of three
pub insert_within : {X : Type 0} (a m b run : List X) (r i : ℕ) → length a + r ≡ i → r ≤ length m
    → insert_slice (a ++ (m ++ b)) i run ≡ a ++ (insert_slice m r run ++ b)
insert_within a m b run r i is within =
    let front : take i (a ++ (m ++ b)) ≡ a ++ take r m =
    ap (λ k. take k (a ++ (m ++ b))) (sym is) ∙ take-append-add a (m ++ b) r
    ∙ ap (λ t. a ++ t) (take-append-le r m b within) in
    let back : drop i (a ++ (m ++ b)) ≡ drop r m ++ b =
    ap (λ k. drop k (a ++ (m ++ b))) (sym is) ∙ drop-append-add a (m ++ b) r ∙ drop-append-le r m b within in
    rw (front, back) (simp append_assoc refl)

-- one taken out of the middle of three
pub remove_within : {X : Type 0} (a m b : List X) (r i : ℕ) → length a + r ≡ i → r < length m
    → remove (a ++ (m ++ b)) i ≡ a ++ (remove m r ++ b)
remove_within a m b r i is within =
    let next : length a + suc r ≡ suc i = omega (arith, is) in
    let front : take i (a ++ (m ++ b)) ≡ a ++ take r m =
    ap (λ k. take k (a ++ (m ++ b))) (sym is) ∙ take-append-add a (m ++ b) r
    ∙ ap (λ t. a ++ t) (take-append-le r m b (omega (arith, within))) in
    let back : drop (suc i) (a ++ (m ++ b)) ≡ drop (suc r) m ++ b =
    ap (λ k. drop k (a ++ (m ++ b))) (sym next) ∙ drop-append-add a (m ++ b) (suc r)
    ∙ drop-append-le (suc r) m b (omega (arith, within)) in
    rw (front, back) (simp append_assoc refl)

-- one of the middle of three
pub get_within : {X : Type 0} (a m b : List X) (r i : ℕ) (x : X) → length a + r ≡ i → r < length m
    → slice_get m r ≡ Some x → slice_get (a ++ (m ++ b)) i ≡ Some x
get_within a m b r i x is within got =
    let all : List _ = a ++ (m ++ b) in
    let same : get_or all i x ≡ x =
    ap (λ k. get_or all k x) (sym is) ∙ get_or-append-add a (m ++ b) r x ∙ get_or_append_left m b x r within
    ∙ get_or_from_slice_get m r x x got in
    slice_get-get_or all i x (omega (arith, is, within, length-append a (m ++ b), length-append m b)) ∙ ap Some same

pub length_removed : {X : Type 0} (xs : List X) (k : ℕ) → k < length xs → length (remove xs k) ≡ length xs - 1
length_removed xs k lt =
    omega (
      arith,
      lt,
      length-append (take k xs) (drop (suc k) xs),
      length-take-le k xs (omega (arith, lt)),
      length-drop (suc k) xs,
    )

pub length_put : {X : Type 0} (xs run : List X) (k : ℕ) → k ≤ length xs → length (insert_slice xs k run)
    ≡ length xs + length run
length_put xs run k le =
    omega (
      arith,
      le,
      length-append (take k xs ++ run) (drop k xs),
      length-append (take k xs) run,
      length-take-le k xs
          le,
      length-drop k xs,
    )

-- ---- a part of all

pub joined_parted : {S X : Type 0} (f : S → List X) (ps : List S) (i : ℕ) → flat_map f ps ≡ flat_map f (take i ps)
    ++ flat_map f (drop i ps)
joined_parted f ps i = ap (flat_map f) (sym (take-append-drop i ps)) ∙ flat_map-append f (take i ps) (drop i ps)

-- those before a part, it, and those behind it
pub at_part : {S X : Type 0} (f : S → List X) (ps : List S) (i : ℕ) (d : S) → i < length ps
    → flat_map f ps ≡ flat_map f (take i ps) ++ (f (get_or ps i d) ++ flat_map f (drop (suc i) ps))
at_part f ps i d lt = joined_parted f ps i ∙ ap (λ rest. flat_map f (take i ps) ++ flat_map f rest)
    (drop-cons ps i d lt)

-- the same with another part in its place
pub with_part : {S X : Type 0} (f : S → List X) (ps : List S) (i : ℕ) (q : S) → i < length ps
    → flat_map f (set ps i q) ≡ flat_map f (take i ps) ++ (f q ++ flat_map f (drop (suc i) ps))
with_part f ps i q lt = ap (flat_map f) (set_split ps i q lt) ∙ flat_map-append f (take i ps) (q ∷ drop (suc i) ps)

-- with one that has the same
pub same_part : {S X : Type 0} (f : S → List X) (ps : List S) (i : ℕ) (d q : S) → i < length ps → f q
    ≡ f (get_or ps i d)
    → flat_map f (set ps i q) ≡ flat_map f ps
same_part f ps i d q lt same =
    with_part f ps i q lt ∙ ap (λ m. flat_map f (take i ps) ++ (m ++ flat_map f (drop (suc i) ps))) same
    ∙ sym (at_part f ps i d lt)

-- with a piece put in it
pub put_part : {S X : Type 0} (f : S → List X) (ps : List S) (i : ℕ) (d q : S) (run : List X) (r k : ℕ)
    → IsAmongParts f ps k i r
    → d ≡ get_or ps i d → f q ≡ insert_slice (f d) r run → flat_map f (set ps i q) ≡ insert_slice (flat_map f ps) k run
put_part f ps i d q run r k seat this put =
    let a : List _ = flat_map f (take i ps) in
    let b : List _ = flat_map f (drop (suc i) ps) in
    with_part f ps i q seat.part_within ∙ ap (λ m. a ++ (m ++ b)) (put ∙ ap (λ p. insert_slice (f p) r run) this)
    ∙ sym (insert_within a (f (get_or ps i d)) b run r k seat.before (seat.index d))
    ∙ ap (λ all. insert_slice all k run) (sym (at_part f ps i d seat.part_within))

-- with one taken out of it
pub taken_from_part : {S X : Type 0} (f : S → List X) (ps : List S) (i : ℕ) (d q : S) (r k : ℕ)
    → IsAmongParts f ps k i r → k < length (flat_map f ps)
    → d ≡ get_or ps i d → f q ≡ remove (f d) r → flat_map f (set ps i q) ≡ remove (flat_map f ps) k
taken_from_part f ps i d q r k seat lt this cut =
    let a : List _ = flat_map f (take i ps) in
    let b : List _ = flat_map f (drop (suc i) ps) in
    with_part f ps i q seat.part_within ∙ ap (λ m. a ++ (m ++ b)) (cut ∙ ap (λ p. remove (f p) r) this)
    ∙ sym (remove_within a (f (get_or ps i d)) b r k seat.before (seat.within lt d))
    ∙ ap (λ all. remove all k) (sym (at_part f ps i d seat.part_within))

-- one that is in it
pub get_part : {S X : Type 0} (f : S → List X) (ps : List S) (i : ℕ) (d : S) (r k : ℕ) (x : X) → IsAmongParts f ps k i r
    → k < length (flat_map f ps)
    → d ≡ get_or ps i d → slice_get (f d) r ≡ Some x → slice_get (flat_map f ps) k ≡ Some x
get_part f ps i d r k x seat lt this got =
    let a : List _ = flat_map f (take i ps) in
    let b : List _ = flat_map f (drop (suc i) ps) in
    ap (λ all. slice_get all k) (at_part f ps i d seat.part_within)
    ∙ get_within a (f (get_or ps i d)) b r k x seat.before (seat.within lt d)
    (ap (λ p. slice_get (f p) r) (sym this) ∙ got)

-- two in its place that have together what it had
pub two_parts : {S X : Type 0} (f : S → List X) (ps : List S) (i : ℕ) (d q rest : S) → i < length ps → f q ++ f rest
    ≡ f (get_or ps i d)
    → flat_map f (insert (set ps i q) (i + 1) rest) ≡ flat_map f ps
two_parts f ps i d q rest lt both =
    let front : take (i + 1) (set ps i q) ≡ take i ps ++ q ∷ [] = take_more_set ps i q lt in
    let back : drop (i + 1) (set ps i q) ≡ drop (suc i) ps = drop-set-lt (i + 1) ps i q (omega arith)
    ∙ ap (λ k. drop k ps) (add-one i) in
    let a : List _ = flat_map f (take i ps) in
    let b : List _ = flat_map f (drop (suc i) ps) in
    let parts : flat_map f ((take i ps ++ q ∷ []) ++ rest ∷ drop (suc i) ps) ≡ (a ++ (f q ++ [])) ++ (f rest ++ b) =
    flat_map-append f (take i ps ++ q ∷ []) (rest ∷ drop (suc i) ps)
    ∙ ap (λ t. t ++ (f rest ++ b)) (flat_map-append f (take i ps) (q ∷ [])) in
    let shape : (a ++ (f q ++ [])) ++ (f rest ++ b) ≡ a
    ++ ((f q ++ f rest) ++ b) = rw (append-nil (f q)) (simp append_assoc refl) in
    ap (flat_map f) (λ j. front j ++ rest ∷ back j) ∙ parts ∙ shape ∙ ap (λ m. a ++ (m ++ b)) both
    ∙ sym (at_part f ps i d lt)

-- without one that has nothing
pub empty_part : {S X : Type 0} (f : S → List X) (ps : List S) (i : ℕ) (d : S) → i < length ps → d ≡ get_or ps i d
    → length (f d) ≡ 0
    → flat_map f (remove ps i) ≡ flat_map f ps
empty_part f ps i d lt this none =
    let a : List _ = flat_map f (take i ps) in
    let b : List _ = flat_map f (drop (suc i) ps) in
    flat_map-append f (take i ps) (drop (suc i) ps)
    ∙ ap (λ m. a ++ (m ++ b)) (sym (nil_from_length (f d) none) ∙ ap f this)
    ∙ sym (at_part f ps i d lt)

-- one part more
pub joined_more : {S X : Type 0} (f : S → List X) (ps : List S) (i : ℕ) (d : S) → i < length ps → d ≡ get_or ps i d
    → flat_map f (take (i + 1) ps) ≡ flat_map f (take i ps) ++ f d
joined_more f ps i d lt this =
    ap (flat_map f) (take_more ps i d lt) ∙ flat_map-append f (take i ps) (get_or ps i d ∷ [])
    ∙ ap (λ m. flat_map f (take i ps) ++ m) (append-nil (f (get_or ps i d)) ∙ ap f (sym this))

pub length_more : {S X : Type 0} (f : S → List X) (ps : List S) (i : ℕ) (d : S) (start : ℕ) → i < length ps → d
    ≡ get_or ps i d
    → start ≡ length (flat_map f (take i ps)) → start + length (f d) ≡ length (flat_map f (take (i + 1) ps))
length_more f ps i d start lt this is =
    omega (arith, is, ap length (joined_more f ps i d lt this), length-append (flat_map f (take i ps)) (f d))

-- which is no more than all
pub more_within : {S X : Type 0} (f : S → List X) (ps : List S) (i : ℕ) (d : S) (start : ℕ) → i < length ps → d
    ≡ get_or ps i d
    → start ≡ length (flat_map f (take i ps)) → start + length (f d) ≤ length (flat_map f ps)
more_within f ps i d start lt this is =
    let has : length (f d) ≡ length (f (get_or ps i d)) = ap (λ p. length (f p)) this in
    omega (arith, is, has, length-flat_map-take f ps i d lt)

-- ---- stretches

minus_zero : (n : ℕ) → n ≡ n - 0
minus_zero n = omega arith

minus_suc : (n m : ℕ) → n - m ≡ suc n - suc m
minus_suc n m = omega arith

zero_minus : (n : ℕ) → 0 ≡ 0 - n
zero_minus n = omega arith

take_both : {X : Type 0} (n : ℕ) (xs ys : List X) → take n (xs ++ ys) ≡ take n xs ++ take (n - length xs) ys
take_both zero [] ys = ap (λ k. take k ys) (minus_zero 0)
take_both (suc n) [] ys = ap (λ k. take k ys) (minus_zero (suc n))
take_both zero (x ∷ xs) ys = ap (λ k. take k ys) (zero_minus (length (x ∷ xs)))
take_both (suc n) (x ∷ xs) ys = ap (λ t. x ∷ t)
    (take_both n xs ys ∙ ap (λ k. take n xs ++ take k ys) (minus_suc n (length xs)))

drop_both : {X : Type 0} (n : ℕ) (xs ys : List X) → drop n (xs ++ ys) ≡ drop n xs ++ drop (n - length xs) ys
drop_both zero [] ys = ap (λ k. drop k ys) (minus_zero 0)
drop_both (suc n) [] ys = ap (λ k. drop k ys) (minus_zero (suc n))
drop_both zero (x ∷ xs) ys = ap (λ k. (x ∷ xs) ++ drop k ys) (zero_minus (length (x ∷ xs)))
drop_both (suc n) (x ∷ xs) ys = drop_both n xs ys ∙ ap (λ k. drop n xs ++ drop k ys) (minus_suc n (length xs))

-- a stretch of two lists
pub range_both : {X : Type 0} (xs ys : List X) (from to : ℕ)
    → slice_range (xs ++ ys) from to ≡ slice_range xs from to ++ slice_range ys (from - length xs) (to - length xs)
range_both xs ys from to =
    let behind : List _ = drop (from - length xs) ys in
    ap (take (to - from)) (drop_both from xs ys) ∙ take_both (to - from) (drop from xs) behind
    ∙ ap (λ k. take (to - from) (drop from xs) ++ take k behind)
    (left (length (drop from xs)) (length xs) from to (length-drop from xs))
  where
    left : (size n a b : ℕ) → size ≡ n - a → (b - a) - size ≡ (b - n) - (a - n)
    left size n a b is = omega (arith, is)

-- the bytes of a stretch, with those of it that are in one part more
pub bytes_more : {S : Type 0} (f : S → List (List ℕ)) (ps : List S) (i : ℕ) (d : S) (from to start : ℕ)
    (old text new : List ℕ)
    → i < length ps → d ≡ get_or ps i d → start ≡ length (flat_map f (take i ps))
    → text ≡ old ++ concat (slice_range (flat_map f (take i ps)) from to)
    → new ≡ text ++ concat (slice_range (f d) (from - start) (to - start))
    → new ≡ old ++ concat (slice_range (flat_map f (take (i + 1) ps)) from to)
bytes_more f ps i d from to start old text new lt this is so_far more =
    let front : List _ = flat_map f (take i ps) in
    let a : List _ = slice_range front from to in
    let b : List _ = slice_range (f d) (from - start) (to - start) in
    let both : a ++ b ≡ slice_range (flat_map f (take (i + 1) ps)) from to =
    ap (λ k. a ++ slice_range (f d) (from - k) (to - k)) is ∙ sym (range_both front (f d) from to)
    ∙ ap (λ all. slice_range all from to) (sym (joined_more f ps i d lt this)) in
    more ∙ ap (λ t. t ++ concat b) so_far ∙ append_assoc old (concat a) (concat b)
    ∙ ap (λ t. old ++ t) (sym (concat-append a b) ∙ ap concat both)

-- a stretch that ends before it begins, or begins behind all
pub no_range : {X : Type 0} (xs : List X) (from to : ℕ) → to ≤ from → slice_range xs from to ≡ []
no_range xs from to none = let zero : to - from ≡ 0 = omega (arith, none) in ap (λ k. take k (drop from xs)) zero

take_none : {X : Type 0} (n : ℕ) → take {A = X} n [] ≡ []
take_none zero = refl
take_none (suc n) = refl

pub range_behind : {X : Type 0} (xs : List X) (from to : ℕ) → length xs ≤ from → slice_range xs from to ≡ []
range_behind xs from to far = ap (take (to - from)) (drop_all from xs far) ∙ take_none (to - from)
