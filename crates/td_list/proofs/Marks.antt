-- Whether an item of a list is marked, where the list is changed at a place.
use Rattle.std.proofs.Common.{not, true≢false, ◌≡◌, ◌<◌, ℕ, zero, suc, length, get_or, set, arith, List, [], ◌∷◌}
use Rattle.std.proofs.Common.{◌++◌, Bool, true, false, ◌||◌, take, drop, refl, sym, ap, ◌∙◌, take-append-drop}
use Rattle.std.proofs.Math.Bool.{beq}
use Rattle.td_list.specs.Items.{Item, has_mark}

or_assoc : (a b c : Bool) → (a || b) || c ≡ a || (b || c)
or_assoc true b c = refl
or_assoc false b c = refl

pub mark-append : (xs ys : List Item) → has_mark (xs ++ ys) ≡ has_mark xs || has_mark ys
mark-append [] ys = refl
mark-append (x ∷ xs) ys = ap (λ (b : Bool). x.marked || b) (mark-append xs ys)
    ∙ sym (or_assoc x.marked (has_mark xs) (has_mark ys))

pub mark-put : (place : ℕ) (items piece : List Item) → has_mark items || has_mark piece
    ≡ has_mark (take place items ++ piece ++ drop place items)
mark-put place items piece =
    ap (λ (b : Bool). b || has_mark piece) (sym (ap has_mark (take-append-drop place items))
    ∙ mark-append (take place items) (drop place items))
    ∙ swapped (has_mark (take place items)) (has_mark (drop place items)) (has_mark piece)
    ∙ sym (mark-append (take place items ++ piece) (drop place items)
    ∙ ap (λ (b : Bool). b || has_mark (drop place items)) (mark-append (take place items) piece))
  where
    swapped : (a b c : Bool) → (a || b) || c ≡ (a || c) || b
    swapped true b c = refl
    swapped false true true = refl
    swapped false true false = refl
    swapped false false true = refl
    swapped false false false = refl

-- an item comes in the place of one that is marked like it
pub mark-renew : (items : List Item) (place : ℕ) (item d : Item) → place < length items → item.marked
    ≡ (get_or items place d).marked
    → has_mark items ≡ has_mark (set items place item)
mark-renew [] place item d within same = absurd (omega (arith, within))
mark-renew (x ∷ items) zero item d within same = ap (λ (b : Bool). b || has_mark items) (sym same)
mark-renew (x ∷ items) (suc place) item d within same =
    ap (λ (b : Bool). x.marked || b) (mark-renew items place item d (omega (arith, within)) same)

-- marks that are not told apart are the same
pub same_marks : (a b : Bool) → not (beq a b) ≡ false → a ≡ b
same_marks true true e = refl
same_marks true false e = absurd (true≢false e)
same_marks false true e = absurd (true≢false e)
same_marks false false e = refl
