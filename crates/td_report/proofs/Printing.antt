-- Values printed one behind the other.
use Rattle.std.proofs.Common.{◌≡◌, ◌+◌, ◌∙◌, ℕ, zero, suc, List, [], ◌∷◌, ◌++◌, Option, Some, None}
use Rattle.std.proofs.Common.{add-one, ap, append_assoc, append-nil, arith, refl, sym, take}
use Rattle.std.specs.Prelude.{slice_get}
use Rattle.std.specs.Option.{option_and_then}
use Rattle.std.specs.List.{flat_map, range_with_len}
use Rattle.td_base.specs.Value.{AtomIdValue}
use Rattle.td_doc.specs.Document.{DocRow, find_row}
use Rattle.td_doc.specs.Deletion.{delete_at}
use Rattle.td_report.specs.Parts.{if_any}
use Rattle.td_report.specs.Tree.{deletes_of}

next_by : {X : Type 0} (print : X → List ℕ) (xs : List X) (k : ℕ)
    → flat_map print (take k xs) ++ if_any print (slice_get xs k) ≡ flat_map print (take (suc k) xs)
next_by print [] zero = refl
next_by print [] (suc k) = refl
next_by print (x ∷ xs) zero = sym (append-nil (print x))
next_by print (x ∷ xs) (suc k) =
    append_assoc (print x) (flat_map print (take k xs)) (if_any print (slice_get xs k))
    ∙ ap (λ (rest : List ℕ). print x ++ rest) (next_by print xs k)

-- the next value, where there is one
pub next_printed : {X : Type 0} (print : X → List ℕ) (start : List ℕ) (xs : List X) (k : ℕ)
    → (start ++ flat_map print (take k xs)) ++ if_any print (slice_get xs k) ≡ start ++ flat_map print (take (k + 1) xs)
next_printed print start xs k =
    append_assoc start (flat_map print (take k xs)) (if_any print (slice_get xs k))
    ∙ ap (λ (rest : List ℕ). start ++ rest) (next_by print xs k
    ∙ ap (λ (n : ℕ). flat_map print (take n xs)) (sym (add-one k)))

numbers_by : (print : ℕ → List ℕ) (a n : ℕ)
    → flat_map print (range_with_len a n) ++ print (a + n) ≡ flat_map print (range_with_len a (suc n))
numbers_by print a zero = let same : a + 0 ≡ a = omega arith in ap print same ∙ sym (append-nil (print a))
numbers_by print a (suc n) =
    let same : a + suc n ≡ (a + 1) + n = omega arith in
    append_assoc (print a) (flat_map print (range_with_len (a + 1) n)) (print (a + suc n))
    ∙ ap (λ (rest : List ℕ). print a ++ rest) (ap (λ (k : ℕ). flat_map print (range_with_len (a + 1) n) ++ print k) same
    ∙ numbers_by print (a + 1) n)

-- the next number, behind those below it
pub number_printed : (print : ℕ → List ℕ) (start : List ℕ) (k : ℕ)
    → (start ++ flat_map print (range_with_len 0 k)) ++ print k
    ≡ start ++ flat_map print (range_with_len 0 (k + 1))
number_printed print start k =
    let same : k ≡ 0 + k = omega arith in
    append_assoc start (flat_map print (range_with_len 0 k)) (print k)
    ∙ ap (λ (rest : List ℕ). start ++ rest) (ap (λ (n : ℕ). flat_map print (range_with_len 0 k) ++ print n) same
    ∙ numbers_by print 0 k
    ∙ ap (λ (n : ℕ). flat_map print (range_with_len 0 n)) (sym (add-one k)))

delete_found : (o : Option DocRow) (k : ℕ) → option_and_then (λ (r : DocRow). slice_get r.deletes k) o
    ≡ slice_get (deletes_of o) k
delete_found None k = refl
delete_found (Some r) k = refl

-- a delete dot of a row is one of its deletes
pub delete_is : (rows : List DocRow) (x : AtomIdValue) (k : ℕ) → delete_at rows x k
    ≡ slice_get (deletes_of (find_row x rows)) k
delete_is rows x k = delete_found (find_row x rows) k

-- so the value is printed behind those before it
pub printed_behind : {X : Type 0} (print : X → List ℕ) (start before now : List ℕ) (xs : List X) (k : ℕ)
    (next : Option X)
    → now ≡ before ++ if_any print next → next ≡ slice_get xs k → before ≡ start ++ flat_map print (take k xs)
    → now ≡ start ++ flat_map print (take (k + 1) xs)
printed_behind print start before now xs k next printed at is =
    printed ∙ (λ i. is i ++ if_any print (at i)) ∙ next_printed print start xs k
