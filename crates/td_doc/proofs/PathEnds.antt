-- The end of a path.
use Rattle.std.proofs.Common.{◌≡◌, ◌≢◌, ℕ, zero, suc, ◌+◌, ◌-◌, ◌<◌, ◌≤◌, [], ◌∷◌}
use Rattle.std.proofs.Common.{◌++◌, length, get_or, refl, ◌∙◌, arith}
use Rattle.td_base.specs.Value.{AtomIdValue}
use Rattle.td_path.specs.Infix.{Pair, Pairs}
use Rattle.td_path.specs.declared.slot.Slot.{Slot}
use Rattle.td_path.specs.declared.slot.Slot.TheVariants.{At}
use Rattle.td_doc.specs.Document.{last_id}
use Rattle.td_doc.specs.Slots.{last_slot}

pub last_id-at : (x : AtomIdValue) (path : Pairs) (i : ℕ) (d : Pair) → i + 1 ≡ length path → (get_or path i d).1
    ≡ last_id x path
last_id-at x [] i d h = absurd (omega arith)
last_id-at x (p ∷ []) zero d h = refl
last_id-at x (p ∷ []) (suc i) d h = absurd (omega arith)
last_id-at x (p ∷ q ∷ path) zero d h = absurd (omega arith)
last_id-at x (p ∷ q ∷ path) (suc i) d h = last_id-at p.1 (q ∷ path) i d (omega arith)

pub last_id-append : (x : AtomIdValue) (path : Pairs) (p : Pair) → last_id x (path ++ p ∷ []) ≡ p.1
last_id-append x [] p = refl
last_id-append x (q ∷ path) p = last_id-append q.1 path p

pub last_slot-append : (slot : Slot) (path : Pairs) (p q : Pair) → last_slot slot (path ++ p ∷ q ∷ []) ≡ At p.1 q.0
last_slot-append slot [] p q = refl
last_slot-append slot (r ∷ []) p q = refl
last_slot-append slot (r ∷ s ∷ path) p q = last_slot-append (At r.1 s.0) (s ∷ path) p q

pub last_slot-short : (slot : Slot) (path : Pairs) → length path < 2 → slot ≡ last_slot slot path
last_slot-short slot [] h = refl
last_slot-short slot (p ∷ []) h = refl
last_slot-short slot (p ∷ q ∷ path) h = absurd (omega arith)

pub last_slot-at : (slot : Slot) (path : Pairs) (i j : ℕ) (d e : Pair) → i + 2 ≡ length path → j ≡ i + 1
    → At (get_or path i d).1 (get_or path j e).0 ≡ last_slot slot path
last_slot-at slot [] i j d e h k = absurd (omega arith)
last_slot-at slot (p ∷ []) i j d e h k = absurd (omega arith)
last_slot-at slot (p ∷ q ∷ []) zero zero d e h k = absurd (omega arith)
last_slot-at slot (p ∷ q ∷ []) zero (suc zero) d e h k = refl
last_slot-at slot (p ∷ q ∷ []) zero (suc (suc j)) d e h k = absurd (omega arith)
last_slot-at slot (p ∷ q ∷ []) (suc i) j d e h k = absurd (omega arith)
last_slot-at slot (p ∷ q ∷ r ∷ path) zero j d e h k = absurd (omega arith)
last_slot-at slot (p ∷ q ∷ r ∷ path) (suc i) zero d e h k = absurd (omega arith)
last_slot-at slot (p ∷ q ∷ r ∷ path) (suc i) (suc j) d e h k =
    last_slot-at (At p.1 q.0) (q ∷ r ∷ path) i j d e (omega arith) (omega arith)

not_empty : (path : Pairs) → path ≢ [] → 0 < length path
not_empty [] h = absurd (h refl)
not_empty (p ∷ path) h = omega arith

pub last_id-last : (x : AtomIdValue) (path : Pairs) (d : Pair) → path ≢ [] → (get_or path (length path - 1) d).1
    ≡ last_id x path
last_id-last x path d h = let some = not_empty path h in last_id-at x path (length path - 1) d (omega arith)

pub last_slot-last : (slot : Slot) (path : Pairs) (p q : Pair) → 2 ≤ length path → p ≡ get_or path (length path - 2) p
    → q ≡ get_or path (length path - 1) q → At p.1 q.0 ≡ last_slot slot path
last_slot-last slot path p q h e f =
    let ends = last_slot-at slot path (length path - 2) (length path - 1) p q (omega arith) (omega arith) in
    let parts : At p.1 q.0 ≡ At (get_or path (length path - 2) p).1 (get_or path (length path - 1) q).0 =
    λ i. At (e i).1 (f i).0 in
    parts ∙ ends
