-- Lists of publishes that may come, with one more.
use Rattle.std.proofs.Common.{◌≡◌, ℕ, suc, ◌-◌, List, [], ◌∷◌, ◌++◌, length, drop}
use Rattle.std.proofs.Common.{refl, sym, subst, arith, length-append}
use Rattle.td_view.specs.declared.publish.Publish.{Publish}
use Rattle.td_view.specs.Publishes.{MayFollow, AreLegal, IsLegalAfter, EndsWith}

one_head : (x p : Publish) → x ∷ [] ≡ p ∷ [] → x ≡ p
one_head x p e = cc

pub ends_tail : (x y : Publish) (ys : List Publish) (p : Publish) → EndsWith (x ∷ y ∷ ys) p → EndsWith (y ∷ ys) p
ends_tail x y ys p e =
    let n : length (x ∷ y ∷ ys) - 1 ≡ suc (length (y ∷ ys) - 1) = omega arith in
    subst (λ (k : ℕ). drop k (x ∷ y ∷ ys) ≡ p ∷ []) n e

pub ends_one : (x p : Publish) → EndsWith (x ∷ []) p → x ≡ p
ends_one x p e =
    let n : length (x ∷ []) - 1 ≡ 0 = omega arith in
    one_head x p (subst (λ (k : ℕ). drop k (x ∷ []) ≡ p ∷ []) n e)

pub ends_snoc : (xs : List Publish) (p : Publish) → EndsWith (xs ++ p ∷ []) p
ends_snoc xs p =
    let n : length (xs ++ p ∷ []) - 1 ≡ length xs = omega (arith, length-append xs (p ∷ [])) in
    subst (λ (k : ℕ). drop k (xs ++ p ∷ []) ≡ p ∷ []) (sym n) (dropped xs p)
  where
    dropped : (xs : List Publish) (p : Publish) → drop (length xs) (xs ++ p ∷ []) ≡ p ∷ []
    dropped [] p = refl
    dropped (x ∷ xs) p = dropped xs p

after_snoc : (x : Publish) (xs : List Publish) (p q : Publish) → IsLegalAfter x xs → EndsWith (x ∷ xs) p → MayFollow p q
    → IsLegalAfter x (xs ++ q ∷ [])
after_snoc x [] p q l e f = (subst (λ (y : Publish). MayFollow y q) (sym (ends_one x p e)) f, tt)
after_snoc x (y ∷ ys) p q l e f = (l.0, after_snoc y ys p q l.1 (ends_tail x y ys p e) f)

pub legal_snoc : (xs : List Publish) (p q : Publish) → AreLegal xs → EndsWith xs p → MayFollow p q
    → AreLegal (xs ++ q ∷ [])
legal_snoc [] p q l e f = tt
legal_snoc (x ∷ xs) p q l e f = after_snoc x xs p q l e f
