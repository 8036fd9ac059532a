-- Rows of workers, and lists.
use Rattle.std.proofs.Common.{◌≡◌, ◌≢◌, ◌⊎◌, ◌<◌, ◌≤◌, ◌+◌, ℕ, zero, suc, List, [], ◌∷◌, true, not, nat_eq, map}
use Rattle.std.proofs.Common.{slice_get, Some, refl, sym, ap, subst, inl, inr, ⊎_elim, arith}
use Rattle.std.specs.List.{AllZip, range_with_len}
use Rattle.std.proofs.lemmas.Bool.Decides.{nat_tests}
use mathlib.Core.List.{IsPrefix}
use Rattle.td_base.specs.Lists.{In, Successive}
use Rattle.std.proofs.lemmas.Option.{same_Some}
use Rattle.td_base.proofs.Lists.{In-front, filter_In, map_In, all_in}
use Rattle.td_base.proofs.Elements.{In-slice_get}
use Rattle.td_machine.specs.History.{history_at}
use Rattle.td_law_meeting.specs.Peers.{PeerValue}
use Rattle.td_law_meeting.specs.Accounts.{Account, others, family_of}

pub history_is : (accounts : List Account) (k : ℕ) (a : Account) → slice_get accounts k ≡ Some a
    → history_at (family_of accounts) k ≡ a.entries
history_is [] k a e = absurd cc
history_is (b ∷ accounts) zero a e = ap (λ (c : Account). c.entries) (same_Some b a e)
history_is (b ∷ accounts) (suc k) a e = history_is accounts k a e

-- of two of them the earlier stands in the relation to the later
pub apart : {X : Type 0} (R : X → X → Type 0) (xs : List X) (i j : ℕ) (x y : X) → Successive R xs → i < j
    → slice_get xs i ≡ Some x → slice_get xs j ≡ Some y → R x y
apart R [] i j x y h l a b = absurd (cc a)
apart R (z ∷ xs) i zero x y h l a b = absurd (omega (arith, l))
apart R (z ∷ xs) zero (suc j) x y h l a b =
    subst (λ w. R w y) (same_Some z x a) (all_in (R z) xs h.0 y (In-slice_get xs j y b))
apart R (z ∷ xs) (suc i) (suc j) x y h l a b = apart R xs i j x y h.1 (omega (arith, l)) a b

pub prefix_in : {X : Type 0} (x : X) (xs ys : List X) → IsPrefix xs ys → In x xs → In x ys
prefix_in x xs ys p i = subst (λ zs. In x zs) p.1 (In-front x xs p.0 i)

pub zip_right : {X Y : Type 0} (R : X → Y → Type 0) (xs : List X) (ys : List Y) (x : X) → AllZip R xs ys → In x xs
    → (y : Y) × In y ys × R x y
zip_right R [] ys x h i = absurd i
zip_right R (z ∷ xs) [] x h i = absurd h
zip_right R (z ∷ xs) (w ∷ ys) x h (inl e) = (w, inl refl, subst (λ v. R v w) (sym e) h.0)
zip_right R (z ∷ xs) (w ∷ ys) x h (inr i) = let r = zip_right R xs ys x h.1 i in (r.0, inr r.1, r.2)

-- each other site has a peer

numbers_in : (k n s : ℕ) → k ≤ s → s < k + n → In s (range_with_len k n)
numbers_in k zero s low high = absurd (omega (arith, low, high))
numbers_in k (suc n) s low high =
    ⊎_elim (λ (e : s ≡ k). inl e)
    (λ (l : suc k ≤ s). inr (numbers_in (k + 1) n s (omega (arith, l)) (omega (arith, high))))
    (least k s low)
  where
    least : (a b : ℕ) → a ≤ b → (b ≡ a) ⊎ (suc a ≤ b)
    least zero zero l = inl refl
    least zero (suc b) l = inr (omega arith)
    least (suc a) zero l = absurd (omega (arith, l))
    least (suc a) (suc b) l =
        ⊎_elim (λ (e : b ≡ a). inl (ap suc e)) (λ (m : suc a ≤ b). inr (omega (arith, m)))
        (least a b (omega (arith, l)))

others_in : (size site s : ℕ) → 0 < s → s ≤ size → s ≢ site → In s (others size site)
others_in size site s some within other =
    filter_In (λ (k : ℕ). not (nat_eq k site)) s (range_with_len 1 size)
    (numbers_in 1 size s (omega (arith, some)) (omega (arith, within)))
    (differs s site other)
  where
    differs : (a b : ℕ) → a ≢ b → not (nat_eq a b) ≡ true
    differs a b h = grind (arith, nat_tests)

pub peer_of : (size site s : ℕ) (peers : List PeerValue) → map (λ (p : PeerValue). p.site) peers ≡ others size site
    → 0 < s → s ≤ size → s ≢ site → (p : PeerValue) × In p peers × (p.site ≡ s)
peer_of size site s peers e some within other =
    let i = map_In (λ (p : PeerValue). p.site) s peers
    (subst (λ ns. In s ns) (sym e) (others_in size site s some within other)) in
    (i.0, i.1, sym i.2)
