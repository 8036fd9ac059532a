-- The shape of an array, node by node.
use Rattle.std.proofs.Common.{◌≡◌, ◌<◌, ◌≤◌, ◌+◌, ◌-◌, ◌/◌, ◌^◌, ◌⊎◌, ℕ, zero, suc, List, [], ◌∷◌, ◌++◌, Bool, true}
use Rattle.std.proofs.Common.{false, cond, length, map, nat_eq, Option, Some, None, refl, sym, ap, ◌∙◌, subst, inl}
use Rattle.std.proofs.Common.{inr, ⊎_elim, arith, length-append, append_assoc, append-nil}
use Rattle.std.proofs.lemmas.List.{length-map}
use Rattle.std.specs.Prelude.{slice_get}
use Rattle.std.specs.List.{position, position_from}
use Rattle.std.specs.Option.{option_map, option_or}
use Rattle.std.specs.declared.cmp.Ordering.TheVariants.{Less}
use Rattle.std.proofs.lemmas.Bool.Decides.{nat_tests}
use Rattle.std.proofs.lemmas.Option.{slice_get-map, slice_get_within, none-some, same_Some}
use Rattle.std.proofs.lemmas.Iterator.Adapters.{position_from-zero}
use Rattle.std.proofs.Math.Nat.{two-pow-succ}
use Rattle.td_base.specs.declared.bit.Bit.{Bit}
use Rattle.td_base.specs.declared.bit.Bit.TheVariants.{Left, Right}
use Rattle.td_base.proofs.Elements.{get_front}
use Rattle.td_path.specs.Shape.{Bits, shape_upto, shape, same_bits, shape_index, bits_cmp}

abbrev pub below : Bit → List Bits → List Bits
below bit xs = map (λ (bits : Bits). bit ∷ bits) xs

-- how many atoms stand in the right slot of the top node
abbrev pub after : ℕ → ℕ
after k = k - k / 2 - 1

not_zero : (k : ℕ) → 0 < k → nat_eq k 0 ≡ false
not_zero k h = grind (arith, nat_tests)

pub shape_node : (n k : ℕ) → 0 < k → shape_upto (suc n) k ≡ below Left (shape_upto n (k / 2))
    ++ [] ∷ below Right (shape_upto n (after k))
shape_node n k h = ap (λ b. cond b [] (below Left (shape_upto n (k / 2))
    ++ [] ∷ below Right (shape_upto n (after k)))) (not_zero k h)

shape_of_none : (n : ℕ) → shape_upto n 0 ≡ []
shape_of_none zero = refl
shape_of_none (suc n) = refl

-- the first number does not count, as long as it is at least the second
shape_enough : (n m k : ℕ) → k ≤ n → k ≤ m → shape_upto n k ≡ shape_upto m k
shape_enough n m zero h j = shape_of_none n ∙ sym (shape_of_none m)
shape_enough zero m (suc k) h j = absurd (omega arith)
shape_enough (suc n) zero (suc k) h j = absurd (omega arith)
shape_enough (suc n) (suc m) (suc k) h j =
    let left = shape_enough n m (suc k / 2) (omega arith) (omega arith) in
    let right = shape_enough n m (after (suc k)) (omega arith) (omega arith) in
    shape_node n (suc k) (omega arith) ∙ (λ i. below Left (left i) ++ [] ∷ below Right (right i))
    ∙ sym (shape_node m (suc k) (omega arith))

-- an array is its top node, with an array on each side
shape_top : (k : ℕ) → 0 < k → shape k ≡ below Left (shape (k / 2)) ++ [] ∷ below Right (shape (after k))
shape_top zero h = absurd (omega arith)
shape_top (suc k) h =
    let left = shape_enough k (suc k / 2) (suc k / 2) (omega arith) (omega arith) in
    let right = shape_enough k (after (suc k)) (after (suc k)) (omega arith) (omega arith) in
    shape_node k (suc k) h ∙ (λ i. below Left (left i) ++ [] ∷ below Right (right i))

length_upto : (n k : ℕ) → k ≤ n → length (shape_upto n k) ≡ k
length_upto zero k h = omega arith
length_upto (suc n) zero h = refl
length_upto (suc n) (suc k) h =
    let left = shape_upto n (suc k / 2) in
    let right = shape_upto n (after (suc k)) in
    let so_many : length left ≡ suc k / 2 = length_upto n (suc k / 2) (omega arith) in
    let others : length right ≡ after (suc k) = length_upto n (after (suc k)) (omega arith) in
    let whole : length (shape_upto (suc n) (suc k))
    ≡ length (below Left left ++ [] ∷ below Right right) = ap length (shape_node n (suc k) (omega arith)) in
    omega (
      arith,
      whole,
      so_many,
      others,
      length-append (below Left left) ([] ∷ below Right right),
      length-map left
          (λ (bits : Bits). Left ∷ bits),
      length-map right (λ (bits : Bits). Right ∷ bits),
    )

-- there is one path for each atom
pub shape_length : (k : ℕ) → length (shape k) ≡ k
shape_length k = length_upto k k (omega arith)

-- which bits an atom has

get_in_back : (xs ys : List Bits) (i j : ℕ) → i ≡ length xs + j → slice_get (xs ++ ys) i ≡ slice_get ys j
get_in_back [] ys i j h = ap (slice_get ys) (omega arith)
get_in_back (x ∷ xs) ys zero j h = absurd (omega arith)
get_in_back (x ∷ xs) ys (suc i) j h = get_in_back xs ys i j (omega arith)

left_count : (k : ℕ) → length (below Left (shape (k / 2))) ≡ k / 2
left_count k = length-map (shape (k / 2)) (λ (bits : Bits). Left ∷ bits) ∙ shape_length (k / 2)

pub at_left : (k i : ℕ) → i < k / 2 → slice_get (shape k) i
    ≡ option_map (λ (bits : Bits). Left ∷ bits) (slice_get (shape (k / 2)) i)
at_left k i h =
    ap (λ (xs : List Bits). slice_get xs i) (shape_top k (omega arith))
    ∙ get_front (below Left (shape (k / 2))) ([] ∷ below Right (shape (after k))) i (omega (arith, left_count k))
    ∙ slice_get-map (λ (bits : Bits). Left ∷ bits) (shape (k / 2)) i

pub at_middle : (k i : ℕ) → 0 < k → i ≡ k / 2 → slice_get (shape k) i ≡ Some []
at_middle k i h e =
    ap (λ (xs : List Bits). slice_get xs i) (shape_top k h)
    ∙ get_in_back (below Left (shape (k / 2))) ([] ∷ below Right (shape (after k))) i 0 (omega (arith, left_count k))

pub at_right : (k i j : ℕ) → 0 < k → i ≡ k / 2 + 1 + j → slice_get (shape k) i
    ≡ option_map (λ (bits : Bits). Right ∷ bits) (slice_get (shape (after k)) j)
at_right k i j h e =
    ap (λ (xs : List Bits). slice_get xs i) (shape_top k h)
    ∙ get_in_back (below Left (shape (k / 2))) ([] ∷ below Right (shape (after k))) i (suc j)
    (omega (arith, left_count k))
    ∙ slice_get-map (λ (bits : Bits). Right ∷ bits) (shape (after k)) j

-- where an atom stands, by its bits

data Place (k i : ℕ) (bits : Bits) : Type 0 where
  on_left : (rest : Bits) → i < k / 2 → bits ≡ Left ∷ rest → slice_get (shape (k / 2)) i ≡ Some rest → Place k i bits
  on_top : i ≡ k / 2 → bits ≡ [] → Place k i bits
  on_right : (rest : Bits) (j : ℕ) → i ≡ k / 2 + 1 + j → bits ≡ Right ∷ rest → slice_get (shape (after k)) j
      ≡ Some rest → Place k i bits

longer : (bit : Bit) (o : Option Bits) (bits : Bits) → option_map (λ (rest : Bits). bit ∷ rest) o ≡ Some bits
    → (rest : Bits) × (bits ≡ bit ∷ rest) × (o ≡ Some rest)
longer bit None bits h = absurd (none-some bits h)
  where
    none-some : (bits : Bits) → None ≡ Some bits → ⊥
    none-some bits h = cc
longer bit (Some rest) bits h = (rest, same (bit ∷ rest) bits h, refl)
  where
    same : (x y : Bits) → Some x ≡ Some y → y ≡ x
    same x y h = cc

three_ways : (i m : ℕ) → (i < m) ⊎ ((i ≡ m) ⊎ ((j : ℕ) × (i ≡ m + 1 + j)))
three_ways zero zero = inr (inl refl)
three_ways zero (suc m) = inl (omega arith)
three_ways (suc i) zero = inr (inr (i, omega arith))
three_ways (suc i) (suc m) =
    ⊎_elim (λ (h : i < m). inl (omega arith))
    (λ (h : (i ≡ m) ⊎ ((j : ℕ) × (i ≡ m + 1 + j))). ⊎_elim (λ (e : i ≡ m). inr (inl (ap suc e)))
    (λ (e : (j : ℕ) × (i ≡ m + 1 + j)). inr (inr (e.0, further i m e.0 e.1))) h)
    (three_ways i m)
  where
    further : (i m j : ℕ) → i ≡ m + 1 + j → suc i ≡ suc m + 1 + j
    further i m j e = omega arith

place : (k i : ℕ) (bits : Bits) → slice_get (shape k) i ≡ Some bits → Place k i bits
place k i bits h =
    ⊎_elim
    (λ (l : i < k / 2). let p = longer Left (slice_get (shape (k / 2)) i) bits (sym (at_left k i l) ∙ h) in
    on_left p.0 l p.1 p.2)
    (λ (m : (i ≡ k / 2) ⊎ ((j : ℕ) × (i ≡ k / 2 + 1 + j))).
    ⊎_elim (λ (e : i ≡ k / 2). on_top e (same bits [] (sym h ∙ at_middle k i some e)))
    (λ (e : (j : ℕ) × (i ≡ k / 2 + 1 + j)). let p =
    longer Right (slice_get (shape (after k)) e.0) bits (sym (at_right k i e.0 some e.1) ∙ h) in
    on_right p.0 e.0 e.1 p.1 p.2) m)
    (three_ways i (k / 2))
  where
    same : (x y : Bits) → Some x ≡ Some y → x ≡ y
    same x y h = cc

    some : 0 < k
    some = let within = slice_get_within (shape k) i bits h in omega (arith, shape_length k)

-- the bits of an atom lead to it, and other bits to no atom

abbrev first_at : {X : Type 0} → (X → Bool) → List X → Option ℕ
first_at test [] = None
first_at test (x ∷ xs) = cond (test x) (Some 0) (option_map suc (first_at test xs))

count_on : (i : ℕ) (o : Option ℕ) → option_map (λ j. i + 1 + j) o ≡ option_map (λ j. i + j) (option_map suc o)
count_on i None = refl
count_on i (Some j) = let e : i + 1 + j ≡ i + suc j = omega arith in ap (λ (n : ℕ). Some n) e

position_first_at : {X : Type 0} (test : X → Bool) (i : ℕ) (xs : List X) → position_from test i xs
    ≡ option_map (λ j. i + j) (first_at test xs)
position_first_at test i [] = refl
position_first_at test i (x ∷ xs) = at i (test x) (first_at test xs) (position_first_at test (i + 1) xs)
  where
    at : (i : ℕ) (b : Bool) (o : Option ℕ) {later : Option ℕ} → later ≡ option_map (λ j. i + 1 + j) o
        → cond b (Some i) later ≡ option_map (λ j. i + j) (cond b (Some 0) (option_map suc o))
    at i true o e = let same : i ≡ i + 0 = omega arith in ap (λ (n : ℕ). Some n) same
    at i false o e = e ∙ count_on i o

found_at : {X : Type 0} (test : X → Bool) (xs : List X) → position test xs ≡ first_at test xs
found_at test xs = position_from-zero test xs ∙ position_first_at test 0 xs ∙ none_before (first_at test xs)
  where
    none_before : (o : Option ℕ) → option_map (λ j. 0 + j) o ≡ o
    none_before None = refl
    none_before (Some j) = let same : 0 + j ≡ j = omega arith in ap (λ (n : ℕ). Some n) same

-- in the front, or else in the back
first_at-append : {X : Type 0} (test : X → Bool) (xs ys : List X) → first_at test (xs ++ ys)
    ≡ option_or (first_at test xs) (option_map (λ j. length xs + j) (first_at test ys))
first_at-append test [] ys = none_before (first_at test ys)
  where
    none_before : (o : Option ℕ) → o ≡ option_map (λ j. 0 + j) o
    none_before None = refl
    none_before (Some j) = let same : j ≡ 0 + j = omega arith in ap (λ (n : ℕ). Some n) same
first_at-append test (x ∷ xs) ys = at (test x) (first_at test xs) (first_at test ys) (length xs)
    (first_at-append test xs ys)
  where
    pushed : (o p : Option ℕ) (n : ℕ) → option_map suc (option_or o (option_map (λ j. n + j) p))
        ≡ option_or (option_map suc o) (option_map (λ j. suc n + j) p)
    pushed (Some j) p n = refl
    pushed None None n = refl
    pushed None (Some j) n = let same : suc (n + j) ≡ suc n + j = omega arith in ap (λ (m : ℕ). Some m) same

    at : (b : Bool) (o p : Option ℕ) (n : ℕ) {later : Option ℕ} → later ≡ option_or o (option_map (λ j. n + j) p)
        → cond b (Some 0) (option_map suc later) ≡ option_or (cond b (Some 0) (option_map suc o))
        (option_map (λ j. suc n + j) p)
    at true o p n e = refl
    at false o p n e = ap (option_map suc) e ∙ pushed o p n

-- on the side that the first bit says

left_in_left : (bits : Bits) (xs : List Bits) → first_at (same_bits (Left ∷ bits)) (below Left xs)
    ≡ first_at (same_bits bits) xs
left_in_left bits [] = refl
left_in_left bits (x ∷ xs) = ap (λ o. cond (same_bits bits x) (Some 0) (option_map suc o)) (left_in_left bits xs)

right_in_right : (bits : Bits) (xs : List Bits) → first_at (same_bits (Right ∷ bits)) (below Right xs)
    ≡ first_at (same_bits bits) xs
right_in_right bits [] = refl
right_in_right bits (x ∷ xs) = ap (λ o. cond (same_bits bits x) (Some 0) (option_map suc o)) (right_in_right bits xs)

right_in_left : (bits : Bits) (xs : List Bits) → first_at (same_bits (Right ∷ bits)) (below Left xs) ≡ None
right_in_left bits [] = refl
right_in_left bits (x ∷ xs) = ap (option_map suc) (right_in_left bits xs)

left_in_right : (bits : Bits) (xs : List Bits) → first_at (same_bits (Left ∷ bits)) (below Right xs) ≡ None
left_in_right bits [] = refl
left_in_right bits (x ∷ xs) = ap (option_map suc) (left_in_right bits xs)

none_in_left : (xs : List Bits) → first_at (same_bits []) (below Left xs) ≡ None
none_in_left [] = refl
none_in_left (x ∷ xs) = ap (option_map suc) (none_in_left xs)

first_in_shape : (k : ℕ) (bits : Bits) → 0 < k → shape_index k bits
    ≡ option_or (first_at (same_bits bits) (below Left (shape (k / 2))))
    (option_map (λ j. k / 2 + j) (first_at (same_bits bits) ([] ∷ below Right (shape (after k)))))
first_in_shape k bits h =
    found_at (same_bits bits) (shape k) ∙ ap (first_at (same_bits bits)) (shape_top k h)
    ∙ first_at-append (same_bits bits) (below Left (shape (k / 2))) ([] ∷ below Right (shape (after k)))
    ∙ ap (λ n. option_or (first_at (same_bits bits) (below Left (shape (k / 2))))
    (option_map (λ j. n + j) (first_at (same_bits bits) ([] ∷ below Right (shape (after k)))))) (left_count k)

-- no bits lead to the top
pub index_top : (k : ℕ) → 0 < k → shape_index k [] ≡ Some (k / 2)
index_top k h =
    let same : k / 2 + 0 ≡ k / 2 = omega arith in
    first_in_shape k [] h ∙ ap (λ o. option_or o (Some (k / 2 + 0))) (none_in_left (shape (k / 2)))
    ∙ ap (λ (n : ℕ). Some n) same

pub index_left : (k : ℕ) (bits : Bits) → 0 < k → shape_index k (Left ∷ bits) ≡ shape_index (k / 2) bits
index_left k bits h =
    first_in_shape k (Left ∷ bits) h
    ∙ (λ i. option_or (left_in_left bits (shape (k / 2)) i)
    (option_map (λ j. k / 2 + j) (option_map suc (left_in_right bits (shape (after k)) i))))
    ∙ no_other (first_at (same_bits bits) (shape (k / 2))) ∙ sym (found_at (same_bits bits) (shape (k / 2)))
  where
    no_other : (o : Option ℕ) → option_or o None ≡ o
    no_other None = refl
    no_other (Some j) = refl

pub index_right : (k : ℕ) (bits : Bits) → 0 < k → shape_index k (Right ∷ bits)
    ≡ option_map (λ j. k / 2 + 1 + j) (shape_index (after k) bits)
index_right k bits h =
    first_in_shape k (Right ∷ bits) h
    ∙ (λ i. option_or (right_in_left bits (shape (k / 2)) i)
    (option_map (λ j. k / 2 + j) (option_map suc (right_in_right bits (shape (after k)) i))))
    ∙ one_more (k / 2) (first_at (same_bits bits) (shape (after k)))
    ∙ ap (option_map (λ j. k / 2 + 1 + j)) (sym (found_at (same_bits bits) (shape (after k))))
  where
    one_more : (n : ℕ) (o : Option ℕ) → option_map (λ j. n + j) (option_map suc o) ≡ option_map (λ j. n + 1 + j) o
    one_more n None = refl
    one_more n (Some j) = let same : n + suc j ≡ n + 1 + j = omega arith in ap (λ (m : ℕ). Some m) same

pub index_none : (bits : Bits) → shape_index 0 bits ≡ None
index_none bits = refl

-- each undoes the other

abbrev IsUndone : Bits → Type 0
IsUndone bits = (k i : ℕ) → slice_get (shape k) i ≡ Some bits → shape_index k bits ≡ Some i

undone_top : IsUndone []
undone_top k i h = at (place k i [] h)
  where
    some : 0 < k
    some = let within = slice_get_within (shape k) i [] h in omega (arith, shape_length k)

    not_nil : (bit : Bit) (rest : Bits) → [] ≡ bit ∷ rest → ⊥
    not_nil bit rest e = cc

    at : Place k i [] → shape_index k [] ≡ Some i
    at (on_left rest l e g) = absurd (not_nil Left rest e)
    at (on_top m e) = index_top k some ∙ ap (λ (n : ℕ). Some n) (sym m)
    at (on_right rest j m e g) = absurd (not_nil Right rest e)

undone_further : (bit : Bit) (bits : Bits) → IsUndone bits → IsUndone (bit ∷ bits)
undone_further bit bits ih k i h = at (place k i (bit ∷ bits) h)
  where
    some : 0 < k
    some = let within = slice_get_within (shape k) i (bit ∷ bits) h in omega (arith, shape_length k)

    not_nil : (bit : Bit) (rest : Bits) → bit ∷ rest ≡ [] → ⊥
    not_nil bit rest e = cc

    parts : (b c : Bit) (xs ys : Bits) → b ∷ xs ≡ c ∷ ys → (b ≡ c) × (xs ≡ ys)
    parts b c xs ys e = (cc, cc)

    at : Place k i (bit ∷ bits) → shape_index k (bit ∷ bits) ≡ Some i
    at (on_left rest l e g) =
        let p = parts bit Left bits rest e in
        ap (λ (b : Bit). shape_index k (b ∷ bits)) p.0 ∙ index_left k bits some
        ∙ ih (k / 2) i (g ∙ ap (λ (r : Bits). Some r) (sym p.1))
    at (on_top m e) = absurd (not_nil bit bits e)
    at (on_right rest j m e g) =
        let p = parts bit Right bits rest e in
        ap (λ (b : Bit). shape_index k (b ∷ bits)) p.0 ∙ index_right k bits some
        ∙ ap (option_map (λ n. k / 2 + 1 + n)) (ih (after k) j (g ∙ ap (λ (r : Bits). Some r) (sym p.1)))
        ∙ ap (λ (n : ℕ). Some n) (sym m)

pub index_of_path : (bits : Bits) → IsUndone bits
index_of_path [] = undone_top
index_of_path (bit ∷ bits) = undone_further bit bits (index_of_path bits)

abbrev IsPathOf : Bits → Type 0
IsPathOf bits = (k i : ℕ) → shape_index k bits ≡ Some i → slice_get (shape k) i ≡ Some bits

path_top : IsPathOf []
path_top zero i h = absurd (none-some i h)
path_top (suc k) i h = at_middle (suc k) i (omega arith)
    (same_Some i (suc k / 2) (sym h ∙ index_top (suc k) (omega arith)))

path_left : (bits : Bits) → IsPathOf bits → IsPathOf (Left ∷ bits)
path_left bits ih zero i h = absurd (none-some i h)
path_left bits ih (suc k) i h =
    let below_it = ih (suc k / 2) i (sym (index_left (suc k) bits (omega arith)) ∙ h) in
    let within = slice_get_within (shape (suc k / 2)) i bits below_it in
    at_left (suc k) i (omega (arith, shape_length (suc k / 2))) ∙ ap (option_map (λ (r : Bits). Left ∷ r)) below_it

moved : (n i : ℕ) (o : Option ℕ) → option_map (λ j. n + 1 + j) o ≡ Some i → (j : ℕ) × (o ≡ Some j) × (i ≡ n + 1 + j)
moved n i None h = absurd (none-some i h)
moved n i (Some j) h = (j, refl, same_Some i (n + 1 + j) (sym h))

path_right : (bits : Bits) → IsPathOf bits → IsPathOf (Right ∷ bits)
path_right bits ih zero i h = absurd (none-some i h)
path_right bits ih (suc k) i h =
    let m = moved (suc k / 2) i (shape_index (after (suc k)) bits) (sym (index_right (suc k) bits (omega arith)) ∙ h) in
    at_right (suc k) i m.0 (omega arith) m.2 ∙ ap (option_map (λ (r : Bits). Right ∷ r)) (ih (after (suc k)) m.0 m.1)

pub path_of_index : (bits : Bits) → IsPathOf bits
path_of_index [] = path_top
path_of_index (Left ∷ bits) = path_left bits (path_of_index bits)
path_of_index (Right ∷ bits) = path_right bits (path_of_index bits)

-- the order of the array is the infix order of its nodes

abbrev InOrder : Bits → Type 0
InOrder b = (c : Bits) (k i j : ℕ) → i < j → slice_get (shape k) i ≡ Some b → slice_get (shape k) j ≡ Some c
    → bits_cmp b c ≡ Less

order_at : (b c : Bits) (k i j : ℕ) → i < j → ((rest : Bits) (bit : Bit) → b ≡ bit ∷ rest → InOrder rest)
    → Place k i b → Place k j c → bits_cmp b c ≡ Less
order_at b c k i j l ih (on_left r lt e g) (on_left s _ f h) = (λ n. bits_cmp (e n) (f n))
    ∙ ih r Left e s (k / 2) i j l g h
order_at b c k i j l ih (on_left r lt e g) (on_top m f) = λ n. bits_cmp (e n) (f n)
order_at b c k i j l ih (on_left r lt e g) (on_right s q m f h) = λ n. bits_cmp (e n) (f n)
order_at b c k i j l ih (on_top m e) (on_left s lt f h) = absurd (omega arith)
order_at b c k i j l ih (on_top m e) (on_top n f) = absurd (omega arith)
order_at b c k i j l ih (on_top m e) (on_right s q n f h) = λ n. bits_cmp (e n) (f n)
order_at b c k i j l ih (on_right r p m e g) (on_left s lt f h) = absurd (omega arith)
order_at b c k i j l ih (on_right r p m e g) (on_top n f) = absurd (omega arith)
order_at b c k i j l ih (on_right r p m e g) (on_right s q n f h) = (λ n. bits_cmp (e n) (f n))
    ∙ ih r Right e s (after k) p q (omega arith) g h

pub shape_order : (b : Bits) → InOrder b
shape_order [] c k i j l g h = order_at [] c k i j l (λ rest bit e. absurd (not_nil bit rest e)) (place k i [] g)
    (place k j c h)
  where
    not_nil : (bit : Bit) (rest : Bits) → [] ≡ bit ∷ rest → ⊥
    not_nil bit rest e = cc
shape_order (bit ∷ b) c k i j l g h = further bit b c k i j l (shape_order b) g h
  where
    tails : (b c : Bit) (xs ys : Bits) → b ∷ xs ≡ c ∷ ys → xs ≡ ys
    tails b c xs ys e = cc

    further : (bit : Bit) (b c : Bits) (k i j : ℕ) → i < j → InOrder b → slice_get (shape k) i ≡ Some (bit ∷ b)
        → slice_get (shape k) j ≡ Some c → bits_cmp (bit ∷ b) c ≡ Less
    further bit b c k i j l ih g h = order_at (bit ∷ b) c k i j l
        (λ rest other e. subst InOrder (tails bit other b rest e) ih) (place k i (bit ∷ b) g) (place k j c h)

-- an array is halved at each bit

half : (k m n : ℕ) → m ≤ k / 2 → n ≤ m → n + n ≤ k
half k m n h l = omega arith

abbrev IsHalved : Bits → Type 0
IsHalved bits = (k i : ℕ) → slice_get (shape k) i ≡ Some bits → 2 ^ length bits ≤ k

halved_top : IsHalved []
halved_top k i h = let within = slice_get_within (shape k) i [] h in omega (arith, shape_length k)

halved_further : (bit : Bit) (bits : Bits) → IsHalved bits → IsHalved (bit ∷ bits)
halved_further bit bits ih k i h = at (place k i (bit ∷ bits) h)
  where
    not_nil : (bit : Bit) (rest : Bits) → bit ∷ rest ≡ [] → ⊥
    not_nil bit rest e = cc

    tails : (b c : Bit) (xs ys : Bits) → b ∷ xs ≡ c ∷ ys → ys ≡ xs
    tails b c xs ys e = cc

    part : (m j : ℕ) (rest : Bits) → m ≤ k / 2 → bits ≡ rest → slice_get (shape m) j ≡ Some rest
        → 2 ^ length (bit ∷ bits) ≤ k
    part m j rest l e g =
        let once : 2 ^ length bits ≤ m = ih m j (g ∙ ap (λ (r : Bits). Some r) (sym e)) in
        omega (arith, half k m (2 ^ length bits) l once, two-pow-succ (length bits))

    at : Place k i (bit ∷ bits) → 2 ^ length (bit ∷ bits) ≤ k
    at (on_left rest l e g) = part (k / 2) i rest (omega arith) (sym (tails bit Left bits rest e)) g
    at (on_top m e) = absurd (not_nil bit bits e)
    at (on_right rest j m e g) = part (after k) j rest (omega arith) (sym (tails bit Right bits rest e)) g

pub shape_depth : (bits : Bits) → IsHalved bits
shape_depth [] = halved_top
shape_depth (bit ∷ bits) = halved_further bit bits (shape_depth bits)

-- a loop goes one bit further

abbrev pub after_bits : Bits → Option Bits → Option Bits
after_bits front o = option_map (λ (rest : Bits). front ++ rest) o

abbrev pub after_atoms : ℕ → Option ℕ → Option ℕ
after_atoms n o = option_map (λ j. n + j) o

joined : (front : Bits) (bit : Bit) (o : Option Bits) → after_bits front (option_map (λ (rest : Bits). bit ∷ rest) o)
    ≡ after_bits (front ++ bit ∷ []) o
joined front bit None = refl
joined front bit (Some rest) = ap (λ (r : Bits). Some r) (sym (append_assoc front (bit ∷ []) rest))

-- the bits so far, and those in the part, lead to the atom
pub record LeadsTo (k i : ℕ) (bits : Bits) (count place : ℕ) : Type 0 where
  pub inside : place < count
  pub leads : slice_get (shape k) i ≡ after_bits bits (slice_get (shape count) place)

pub leads_first : (k i : ℕ) → i < k → LeadsTo k i [] k i
leads_first k i h = record { inside = h; leads = all (slice_get (shape k) i) }
  where
    all : (o : Option Bits) → o ≡ after_bits [] o
    all None = refl
    all (Some bits) = refl

pub leads_left : (k i : ℕ) (bits : Bits) (count place : ℕ) → LeadsTo k i bits count place → place < count / 2
    → LeadsTo k i (bits ++ Left ∷ []) (count / 2) place
leads_left k i bits count place l h =
    record {
      inside = h;
      leads = l.leads ∙ ap (after_bits bits) (at_left count place h)
          ∙ joined bits Left (slice_get (shape (count / 2)) place);
    }

pub leads_right : (k i : ℕ) (bits : Bits) (count place : ℕ) → LeadsTo k i bits count place → count / 2 < place
    → LeadsTo k i (bits ++ Right ∷ []) (count - (count / 2 + 1)) (place - (count / 2 + 1))
leads_right k i bits count place l h =
    let inside = l.inside in
    let rest : after count ≡ count - (count / 2 + 1) = omega arith in
    record {
      inside = omega arith;
      leads = l.leads ∙ ap (after_bits bits) (at_right count place (place - (count / 2 + 1)) (omega arith)
          (omega arith)) ∙ joined bits Right (slice_get (shape (after count)) (place - (count / 2 + 1)))
          ∙ ap (λ n. after_bits (bits ++ Right ∷ []) (slice_get (shape n) (place - (count / 2 + 1)))) rest;
    }

pub leads_here : (k i : ℕ) (bits : Bits) (count place : ℕ) → LeadsTo k i bits count place → place ≡ count / 2
    → slice_get (shape k) i ≡ Some bits
leads_here k i bits count place l e =
    let inside = l.inside in
    l.leads ∙ ap (after_bits bits) (at_middle count place (omega arith) e) ∙ ap (λ (b : Bits). Some b) (append-nil bits)

-- the atom is the one in the part to which the rest of the bits lead
pub record FoundAfter (k : ℕ) (bits : Bits) (before count : ℕ) (rest : Bits) : Type 0 where
  pub inside : before + count ≤ k
  pub found : shape_index k bits ≡ after_atoms before (shape_index count rest)

moved_twice : (n m : ℕ) (o : Option ℕ) → after_atoms n (after_atoms m o) ≡ after_atoms (n + m) o
moved_twice n m None = refl
moved_twice n m (Some j) = let same : n + (m + j) ≡ n + m + j = omega arith in ap (λ (i : ℕ). Some i) same

pub found_first : (k : ℕ) (bits : Bits) → FoundAfter k bits 0 k bits
found_first k bits = record { inside = omega arith; found = all (shape_index k bits) }
  where
    all : (o : Option ℕ) → o ≡ after_atoms 0 o
    all None = refl
    all (Some j) = let same : j ≡ 0 + j = omega arith in ap (λ (i : ℕ). Some i) same

pub found_left : (k : ℕ) (bits : Bits) (before count : ℕ) (rest : Bits) → FoundAfter k bits before count (Left ∷ rest)
    → 0 < count → FoundAfter k bits before (count / 2) rest
found_left k bits before count rest f h = let inside = f.inside in
    record { inside = omega arith; found = f.found ∙ ap (after_atoms before) (index_left count rest h) }

pub found_right : (k : ℕ) (bits : Bits) (before count : ℕ) (rest : Bits)
    → FoundAfter k bits before count (Right ∷ rest) → 0 < count
    → FoundAfter k bits (before + (count / 2 + 1)) (count - (count / 2 + 1)) rest
found_right k bits before count rest f h =
    let inside = f.inside in
    let others : after count ≡ count - (count / 2 + 1) = omega arith in
    record {
      inside = omega arith;
      found = f.found ∙ ap (after_atoms before) (index_right count rest h)
          ∙ moved_twice before (count / 2 + 1) (shape_index (after count) rest)
          ∙ ap (λ n. after_atoms (before + (count / 2 + 1)) (shape_index n rest)) others;
    }

pub found_none : (k : ℕ) (bits : Bits) (before count : ℕ) (rest : Bits) → FoundAfter k bits before count rest → count
    ≡ 0 → None ≡ shape_index k bits
found_none k bits before count rest f e = sym (f.found ∙ ap (λ n. after_atoms before (shape_index n rest)) e)

pub found_here : (k : ℕ) (bits : Bits) (before count : ℕ) → FoundAfter k bits before count [] → 0 < count
    → Some (before + count / 2) ≡ shape_index k bits
found_here k bits before count f h = sym (f.found ∙ ap (after_atoms before) (index_top count h))
