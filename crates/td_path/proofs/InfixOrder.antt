-- The infix order is a total order, and what lies between a node and what hangs below it hangs below it too.
use Rattle.std.proofs.Common.{◌≡◌, ℕ, List, [], ◌∷◌, ◌++◌, true, refl, sym, ap, ◌∙◌, subst, true≢false}
use Rattle.std.specs.declared.cmp.Ordering.{Ordering}
use Rattle.std.specs.declared.cmp.Ordering.TheVariants.{Less, Equal, Greater}
use Rattle.std.specs.Ordering.{ordering_then, ordering_reverse, nat_cmp, on, then_cmp}
use Rattle.std.specs.Cmp.{IsTotalOrder}
use Rattle.std.specs.Cmp.Lexicographic.{slice_cmp}
use Rattle.std.proofs.lemmas.Bool.{and_parts, and_from}
use Rattle.std.proofs.lemmas.Cmp.{nat_cmp_total, on_total, then_total, lists_total, tied_itself}
use Rattle.td_base.specs.declared.bit.Bit.{Bit}
use Rattle.td_base.specs.declared.bit.Bit.TheVariants.{Left, Right}
use Rattle.td_base.specs.Value.{AtomIdValue}
use Rattle.td_base.specs.Order.{id_cmp}
use Rattle.td_base.specs.Equality.{same_bit, same_id}
use Rattle.td_base.proofs.Orders.{id_total, bit_total, then_equal, equal_ids, equal_bits}
use Rattle.td_base.proofs.Equals.{same_bit_true, same_bit_refl, same_id_true, same_id_refl}
use Rattle.td_path.specs.Infix.{Pair, Pairs, same_pair, pair_cmp, node_cmp, path_cmp}
use Rattle.td_path.specs.SlotPaths.{goes_on}

-- a path as a list that compares by its first difference: its end stands between left and right

abbrev Mark : Type 0
Mark = ℕ × AtomIdValue

abbrev nobody : AtomIdValue
nobody = record { dot = record { site = 0; seq = 0 }; offset = 0 }

abbrev mark_cmp : Mark → Mark → Ordering
mark_cmp = then_cmp (on (λ (m : Mark). m.0) nat_cmp) (on (λ (m : Mark). m.1) id_cmp)

abbrev side_number : Bit → ℕ
side_number Left = 0
side_number Right = 2

abbrev marks : Pairs → List Mark
marks [] = (1, nobody) ∷ []
marks (p ∷ path) = (side_number p.0, p.1) ∷ marks path

mark_total : IsTotalOrder mark_cmp
mark_total = then_total (on_total (λ (m : Mark). m.0) nat_cmp_total) (on_total (λ (m : Mark). m.1) id_total)

pair_marks : (b c : Bit) (x y : AtomIdValue) (o : Ordering) → ordering_then (pair_cmp (b, x) (c, y)) o
    ≡ ordering_then (mark_cmp (side_number b, x) (side_number c, y)) o
pair_marks Left Left x y o = refl
pair_marks Left Right x y o = refl
pair_marks Right Left x y o = refl
pair_marks Right Right x y o = refl

before_marks : (b : Bit) (x : AtomIdValue) (o : Ordering) → node_cmp b
    ≡ ordering_then (mark_cmp (1, nobody) (side_number b, x)) o
before_marks Left x o = refl
before_marks Right x o = refl

after_marks : (b : Bit) (x : AtomIdValue) (o : Ordering) → ordering_reverse (node_cmp b)
    ≡ ordering_then (mark_cmp (side_number b, x) (1, nobody)) o
after_marks Left x o = refl
after_marks Right x o = refl

path_marks : (p q : Pairs) → path_cmp p q ≡ slice_cmp mark_cmp (marks p) (marks q)
path_marks [] [] = refl
path_marks [] (b ∷ q) = before_marks b.0 b.1 _
path_marks (a ∷ p) [] = after_marks a.0 a.1 _
path_marks (a ∷ p) (b ∷ q) = ap (ordering_then (pair_cmp a b)) (path_marks p q) ∙ pair_marks a.0 b.0 a.1 b.1 _

pub path_total : IsTotalOrder path_cmp
path_total = subst (λ (f : Pairs → Pairs → Ordering). IsTotalOrder f) (λ i p q. sym (path_marks p q) i)
    (on_total marks (lists_total mark_total))

-- what the order does not tell apart is one

pair_total : IsTotalOrder pair_cmp
pair_total = then_total (on_total (λ (p : Pair). p.0) bit_total) (on_total (λ (p : Pair). p.1) id_total)

pub equal_pairs : (p q : Pair) → pair_cmp p q ≡ Equal → p ≡ q
equal_pairs p q h =
    let e = then_equal _ _ h in
    let bit = equal_bits p.0 q.0 e.0 in
    let id = equal_ids p.1 q.1 e.1 in
    λ i. (bit i, id i)

pub same_pairs : (p : Pair) → pair_cmp p p ≡ Equal
same_pairs = tied_itself pair_total

pub equal_paths : (p q : Pairs) → path_cmp p q ≡ Equal → p ≡ q
equal_paths [] [] h = refl
equal_paths [] ((Left, x) ∷ q) h = cc
equal_paths [] ((Right, x) ∷ q) h = cc
equal_paths ((Left, x) ∷ p) [] h = cc
equal_paths ((Right, x) ∷ p) [] h = cc
equal_paths (a ∷ p) (b ∷ q) h =
    let e = then_equal _ _ h in
    let pair = equal_pairs a b e.0 in
    let rest = equal_paths p q e.1 in
    λ i. pair i ∷ rest i

-- pairs that are equal part by part are one

pub same_pair_true : (p q : Pair) → same_pair p q ≡ true → p ≡ q
same_pair_true p q h =
    let both = and_parts (same_bit p.0 q.0) (same_id p.1 q.1) h in
    let bit = same_bit_true p.0 q.0 both.0 in
    let id = same_id_true p.1 q.1 both.1 in
    λ i. (bit i, id i)

pub same_pair_refl : (p : Pair) → same_pair p p ≡ true
same_pair_refl p = and_from (same_bit p.0 p.0) (same_id p.1 p.1) (same_bit_refl p.0) (same_id_refl p.1)

pub same_pair_from : (p q : Pair) → pair_cmp p q ≡ Equal → same_pair p q ≡ true
same_pair_from p q e = ap (λ (r : Pair). same_pair p r) (sym (equal_pairs p q e)) ∙ same_pair_refl p

-- a node, and what hangs below it on one side

pub goes_on_from : (front : Pairs) (bit : Bit) (x : AtomIdValue) (rest : Pairs)
    → goes_on front bit (front ++ (bit, x) ∷ rest) ≡ true
goes_on_from [] bit x rest = same_bit_refl bit
goes_on_from (q ∷ front) bit x rest =
    and_from (same_pair q q) (goes_on front bit (front ++ (bit, x) ∷ rest)) (same_pair_refl q)
    (goes_on_from front bit x rest)

-- the path begins with the front and one pair with the bit
pub record GoesOn (front : Pairs) (bit : Bit) (path : Pairs) : Type 0 where
  pub id : AtomIdValue
  pub rest : Pairs
  pub is : path ≡ front ++ (bit, id) ∷ rest

pub goes_on_parts : (front : Pairs) (bit : Bit) (path : Pairs) → goes_on front bit path ≡ true → GoesOn front bit path
goes_on_parts front bit [] h = absurd (none front h)
  where
    none : (front : Pairs) → goes_on front bit [] ≡ true → ⊥
    none [] k = true≢false (sym k)
    none (q ∷ front) k = true≢false (sym k)
goes_on_parts [] bit (p ∷ path) h =
    let e = same_bit_true p.0 bit h in
    record { id = p.1; rest = path; is = λ i. (e i, p.1) ∷ path }
goes_on_parts (q ∷ front) bit (p ∷ path) h =
    let b = and_parts _ _ h in
    let e = same_pair_true q p b.0 in
    let more = goes_on_parts front bit path b.1 in
    record { id = more.id; rest = more.rest; is = λ i. sym e i ∷ more.is i }

pub right_after : (front : Pairs) (x : AtomIdValue) (rest : Pairs) → path_cmp front (front ++ (Right, x) ∷ rest) ≡ Less
right_after [] x rest = refl
right_after (q ∷ front) x rest = ap (λ (o : Ordering). ordering_then o (path_cmp front (front ++ (Right, x) ∷ rest)))
    (same_pairs q) ∙ right_after front x rest

pub left_before : (front : Pairs) (x : AtomIdValue) (rest : Pairs) → path_cmp (front ++ (Left, x) ∷ rest) front ≡ Less
left_before [] x rest = refl
left_before (q ∷ front) x rest = ap (λ (o : Ordering). ordering_then o (path_cmp (front ++ (Left, x) ∷ rest) front))
    (same_pairs q) ∙ left_before front x rest

-- where two paths agree in one direction and in the other, their first pairs are one
less_both_ways : (o m n : Ordering) → ordering_then o m ≡ Less → ordering_then (ordering_reverse o) n ≡ Less
    → (o ≡ Equal) × (m ≡ Less) × (n ≡ Less)
less_both_ways Less m n h k = cc
less_both_ways Equal m n h k = (refl, h, k)
less_both_ways Greater m n h k = cc

pub first_pairs : (a s : Pair) (m n : Ordering) → ordering_then (pair_cmp a s) m ≡ Less
    → ordering_then (pair_cmp s a) n ≡ Less → (pair_cmp a s ≡ Equal) × (m ≡ Less) × (n ≡ Less)
first_pairs a s m n h k = less_both_ways (pair_cmp a s) m n h
    (ap (λ (o : Ordering). ordering_then o n) (sym (pair_total.antisymm s a)) ∙ k)

goes_on_further : (a s : Pair) (front : Pairs) (bit : Bit) (q : Pairs) → pair_cmp a s ≡ Equal → goes_on front bit q
    ≡ true → goes_on (a ∷ front) bit (s ∷ q) ≡ true
goes_on_further a s front bit q e h =
    and_from (same_pair a s) (goes_on front bit q) (same_pair_from a s e) h

-- what stands between a node and what hangs on its right hangs on its right
pub between_right : (front q : Pairs) (x : AtomIdValue) (rest : Pairs) → path_cmp front q ≡ Less
    → path_cmp q (front ++ (Right, x) ∷ rest) ≡ Less → goes_on front Right q ≡ true
between_right [] [] x rest h k = cc
between_right [] ((Left, y) ∷ q) x rest h k = cc
between_right [] ((Right, y) ∷ q) x rest h k = refl
between_right ((Left, y) ∷ front) [] x rest h k = cc
between_right ((Right, y) ∷ front) [] x rest h k = cc
between_right (a ∷ front) (s ∷ q) x rest h k =
    let both = first_pairs a s (path_cmp front q) (path_cmp q (front ++ (Right, x) ∷ rest)) h k in
    goes_on_further a s front Right q both.0 (between_right front q x rest both.1 both.2)

-- and what stands between what hangs on its left and the node hangs on its left
pub between_left : (front q : Pairs) (x : AtomIdValue) (rest : Pairs) → path_cmp (front ++ (Left, x) ∷ rest) q ≡ Less
    → path_cmp q front ≡ Less → goes_on front Left q ≡ true
between_left [] [] x rest h k = cc
between_left [] ((Left, y) ∷ q) x rest h k = refl
between_left [] ((Right, y) ∷ q) x rest h k = cc
between_left ((Left, y) ∷ front) [] x rest h k = cc
between_left ((Right, y) ∷ front) [] x rest h k = cc
between_left (a ∷ front) (s ∷ q) x rest h k =
    let both = first_pairs a s (path_cmp (front ++ (Left, x) ∷ rest) q) (path_cmp q front) h k in
    goes_on_further a s front Left q both.0 (between_left front q x rest both.1 both.2)
