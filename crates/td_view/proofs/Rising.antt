-- Over lists that may come, upto does not fall.
use Rattle.std.proofs.Common.{◌≡◌, ℕ, suc, ◌-◌, ◌≤◌, List, [], ◌∷◌, ◌++◌, length, drop, ap}
use Rattle.std.proofs.Common.{sym, subst, arith, le_refl, le_trans, zero-le}
use mathlib.Core.List.{IsPrefix}
use Rattle.td_view.specs.declared.publish.Publish.{Publish}
use Rattle.td_view.specs.Publishes.{MayFollow, AreLegal, IsLegalAfter, EndsWith, last_upto}

after_front : (p : Publish) (xs more : List Publish) → IsLegalAfter p (xs ++ more) → IsLegalAfter p xs
after_front p [] more l = tt
after_front p (x ∷ xs) more l = (l.0, after_front x xs more l.1)

front : (xs more : List Publish) → AreLegal (xs ++ more) → AreLegal xs
front [] more l = tt
front (x ∷ xs) more l = after_front x xs more l

pub legal_prefix : (xs ys : List Publish) → IsPrefix xs ys → AreLegal ys → AreLegal xs
legal_prefix xs ys p l = front xs p.0 (subst AreLegal (sym p.1) l)

upto_first : (p : Publish) (rest : List Publish) → IsLegalAfter p rest → p.upto ≤ last_upto (p ∷ rest)
upto_first p [] l = le_refl p.upto
upto_first p (q ∷ rest) l = let f : MayFollow p q = l.0 in le_trans f.rises (upto_first q rest l.1)

rises_by : (xs more : List Publish) → AreLegal (xs ++ more) → last_upto xs ≤ last_upto (xs ++ more)
rises_by [] more l = zero-le
rises_by (x ∷ []) more l = upto_first x more l
rises_by (x ∷ y ∷ xs) more l = rises_by (y ∷ xs) more l.1

pub rises : (xs ys : List Publish) → IsPrefix xs ys → AreLegal ys → last_upto xs ≤ last_upto ys
rises xs ys p l = subst (λ (zs : List Publish). last_upto xs ≤ last_upto zs) p.1
    (rises_by xs p.0 (subst AreLegal (sym p.1) l))

one_head : (x p : Publish) → x ∷ [] ≡ p ∷ [] → x ≡ p
one_head x p e = cc

pub ends_upto : (log : List Publish) (p : Publish) → EndsWith log p → last_upto log ≡ p.upto
ends_upto [] p e = let e' : ◌≡◌ {A = List Publish} [] (p ∷ []) = e in absurd cc
ends_upto (x ∷ []) p e =
    let n : length (x ∷ []) - 1 ≡ 0 = omega arith in
    ap (λ (q : Publish). q.upto) (one_head x p (subst (λ (k : ℕ). drop k (x ∷ []) ≡ p ∷ []) n e))
ends_upto (x ∷ y ∷ ys) p e =
    let n : length (x ∷ y ∷ ys) - 1 ≡ suc (length (y ∷ ys) - 1) = omega arith in
    ends_upto (y ∷ ys) p (subst (λ (k : ℕ). drop k (x ∷ y ∷ ys) ≡ p ∷ []) n e)
