-- What is read, and what is tested then.
use Rattle.std.proofs.Common.{◌≡◌, ℕ, Bool, true, false, leb, Option, Some, None, Result, Ok, Err, refl, sym, ap, ◌∙◌}
use Rattle.std.specs.Int.{is_in_range, IsInRange}
use Rattle.std.specs.Option.{SomeIff, ok_or}
use Rattle.std.proofs.lemmas.Bool.{leb-true, le-leb, and_parts, and_from, false_from_ne_true, cond-true, cond-false}
use Rattle.td_base.specs.Value.{DotValue}
use Rattle.td_base.specs.declared.dot.TheConstants.{MAX_SEQ}
use Rattle.td_script.specs.declared.kind.Kind.{Kind}
use Rattle.td_script.specs.declared.kind.Kind.TheVariants.{Dot}
use Rattle.td_script.specs.Arguments.{tested, dot_of_numbers}

pub ok_same : {V : Type 0} (x y : V) → ◌≡◌ {A = Result V Kind} (Ok x) (Ok y) → x ≡ y
ok_same x y e = cc

pub err_is_no_ok : {V : Type 0} (kind : Kind) (x : V) → ◌≡◌ {A = Result V Kind} (Err kind) (Ok x) → ⊥
err_is_no_ok kind x e = cc

-- what passes the test stays
pub tested_in : {V : Type 0} (test : V → Bool) (kind : Kind) (r : Result V Kind) (v : V) → r ≡ Ok v → test v ≡ true
    → tested test kind r ≡ Ok v
tested_in {V = V} test kind r v e h = ap (tested test kind) e
    ∙ cond-true {A = Result V Kind} (test v) (Ok v) (Err kind) h

-- what does not is the fault
pub tested_out : {V : Type 0} (test : V → Bool) (kind : Kind) (r : Result V Kind) (v : V) → r ≡ Ok v → test v ≡ false
    → tested test kind r ≡ Err kind
tested_out {V = V} test kind r v e h = ap (tested test kind) e
    ∙ cond-false {A = Result V Kind} (test v) (Ok v) (Err kind) h

-- the test of a range
pub in_range : (least most n : ℕ) → IsInRange least most n → is_in_range least most n ≡ true
in_range least most n h = and_from (leb least n) (leb n most) (le-leb least n h.0) (le-leb n most h.1)

pub range_in : (least most n : ℕ) → is_in_range least most n ≡ true → IsInRange least most n
range_in least most n e = let parts = and_parts (leb least n) (leb n most) e in
    (leb-true least n parts.0, leb-true n most parts.1)

pub out_of_range : (least most n : ℕ) → ¬ IsInRange least most n → is_in_range least most n ≡ false
out_of_range least most n h =
    false_from_ne_true (is_in_range least most n) (λ (e : is_in_range least most n ≡ true). h (range_in least most n e))

-- a dot has a site
pub dot_of_no_site : (r s : Result ℕ Kind) (kind : Kind) → r ≡ Err kind → dot_of_numbers r s ≡ Err Dot
dot_of_no_site r s kind e = ap (λ (x : Result ℕ Kind). dot_of_numbers x s) e

-- and a number
pub dot_of_no_number : (r s : Result ℕ Kind) (kind : Kind) → s ≡ Err kind → dot_of_numbers r s ≡ Err Dot
dot_of_no_number (Ok site) s kind e = ap (dot_of_numbers (Ok site)) e
dot_of_no_number (Err other) s kind e = refl

pub dot_of_both : (r s : Result ℕ Kind) (site seq : ℕ) → r ≡ Ok site → s ≡ Ok seq → IsInRange 1 MAX_SEQ seq
    → dot_of_numbers r s ≡ Ok (record { site = site; seq = seq })
dot_of_both r s site seq e f h =
    ap (λ (x : Result ℕ Kind). dot_of_numbers x s) e ∙ ap (dot_of_numbers (Ok site)) f
    ∙ cond-true {A = Result DotValue Kind} (is_in_range 1 MAX_SEQ seq) (Ok (record { site = site; seq = seq }))
    (Err Dot)
    (in_range 1 MAX_SEQ seq h)

dot_of_other : (r s : Result ℕ Kind) (site seq : ℕ) → r ≡ Ok site → s ≡ Ok seq → ¬ IsInRange 1 MAX_SEQ seq
    → dot_of_numbers r s ≡ Err Dot
dot_of_other r s site seq e f h =
    ap (λ (x : Result ℕ Kind). dot_of_numbers x s) e ∙ ap (dot_of_numbers (Ok site)) f
    ∙ cond-false {A = Result DotValue Kind} (is_in_range 1 MAX_SEQ seq) (Ok (record { site = site; seq = seq }))
    (Err Dot)
    (out_of_range 1 MAX_SEQ seq h)

-- the dot that is made of a site and a number, or the fault
pub dot_made : (r s : Result ℕ Kind) (site seq : ℕ) (o : Option DotValue) → r ≡ Ok site → s ≡ Ok seq
    → SomeIff o (IsInRange 1 MAX_SEQ seq) (record { site = site; seq = seq }) → ok_or o Dot ≡ dot_of_numbers r s
dot_made r s site seq (Some d) e f made = ap (λ (x : DotValue). Ok x) made.1 ∙ sym (dot_of_both r s site seq e f made.0)
dot_made r s site seq None e f made = sym (dot_of_other r s site seq e f made)
