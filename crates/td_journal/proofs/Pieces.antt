-- Records in front of a closed gate, with one more and with fewer.
use Rattle.std.proofs.Common.{◌≡◌, ◌≢◌, ℕ, zero, suc, ◌+◌, ◌-◌, ◌<◌, List, [], ◌∷◌, ◌++◌}
use Rattle.std.proofs.Common.{length, take, drop, set, refl, sym, ◌∙◌, ap, arith}
use Rattle.std.proofs.Common.{length-append, length-take, append_assoc, add-one}
use Rattle.std.specs.Prelude.{slice_index, slice_get, Option, Some}
use Rattle.std.proofs.Math.Seq.{take-suc}
use Rattle.std.proofs.lemmas.List.{take_at}
use Rattle.td_disk.specs.Gated.{IsPiece, piece_of}
use Rattle.td_journal.specs.Piece.{IsPieceParts, BeginsOpen}

-- the list in front of its last element, and that
front_and_last : (items : List ℕ) (n : ℕ) → length items ≡ n + 1 → items ≡ take n items ++ slice_index items n ∷ []
front_and_last [] n e = absurd (omega (arith, e))
front_and_last (x ∷ []) zero e = refl
front_and_last (x ∷ y ∷ items) zero e = absurd (omega (arith, e))
front_and_last (x ∷ items) (suc n) e = ap (λ (l : List ℕ). x ∷ l) (front_and_last items n (omega (arith, e)))

pub parts_of : (items : List ℕ) → IsPieceParts items → items ≡ take (length items - 1) items ++ 0 ∷ []
parts_of items p =
    front_and_last items (length items - 1) (omega (arith, p.some))
    ∙ ap (λ (b : ℕ). take (length items - 1) items ++ b ∷ []) p.shut

-- a list with its last element written as this
pub record Shut (front items : List ℕ) : Type 0 where
  pub parts : IsPieceParts items
  pub front_is : take (length items - 1) items ≡ front

pub shut_by : (front items : List ℕ) → items ≡ front ++ 0 ∷ [] → Shut front items
shut_by front items is =
    let long : length items ≡ length front + 1 = ap length is ∙ length-append front (0 ∷ []) in
    let at : length items - 1 ≡ length front = omega (arith, long) in
    record {
      parts = record {
        some = omega (arith, long);
        shut = ap (λ (n : ℕ). slice_index items n) at ∙ ap (λ (l : List ℕ). slice_index l (length front)) is
            ∙ at_end front;
      };
      front_is = ap (λ (n : ℕ). take n items) at ∙ ap (take (length front)) is
          ∙ take_at front (0 ∷ []) (length front) refl;
    }
  where
    at_end : (l : List ℕ) → slice_index (l ++ 0 ∷ []) (length l) ≡ 0
    at_end [] = refl
    at_end (x ∷ l) = at_end l

-- the gate behind the front is opened
set_behind : (front : List ℕ) (gate : ℕ) (rest : List ℕ) (b : ℕ) → set (front ++ gate ∷ rest) (length front) b ≡ front
    ++ b ∷ rest
set_behind [] gate rest b = refl
set_behind (x ∷ front) gate rest b = ap (λ (l : List ℕ). x ∷ l) (set_behind front gate rest b)

open_first : (bytes : List ℕ) → BeginsOpen bytes → bytes ≡ 1 ∷ drop 1 bytes
open_first [] o = absurd (omega (arith, o.some))
open_first (x ∷ bytes) o = ap (λ (b : ℕ). b ∷ bytes) o.is_open

-- a record is added to the piece: what it has behind its gate, and a closed gate, and then its gate is opened
pub added : (items bytes more last opened : List ℕ) (gate : ℕ) → IsPieceParts items → BeginsOpen bytes → gate
    ≡ length items - 1
    → more ≡ items ++ drop 1 bytes → last ≡ more ++ 0 ∷ [] → opened ≡ set last gate 1
    → Shut (take (length items - 1) items ++ bytes) opened
added items bytes more last opened gate p o at e f g =
    let front : List ℕ = take (length items - 1) items in
    let rest : List ℕ = drop 1 bytes in
    let whole : last ≡ front ++ 0 ∷ (rest ++ 0 ∷ []) =
    f ∙ ap (λ (l : List ℕ). l ++ 0 ∷ []) (e ∙ ap (λ (l : List ℕ). l ++ rest) (parts_of items p)
    ∙ append_assoc front (0 ∷ []) rest)
    ∙ append_assoc front (0 ∷ rest) (0 ∷ []) in
    let front_long : gate ≡ length front = omega (
      arith,
      at,
      ap length (parts_of items p),
      length-append front
          (0 ∷ []),
      p.some,
    ) in
    let now : opened ≡ (front ++ bytes) ++ 0 ∷ [] =
    g ∙ ap (λ (n : ℕ). set last n 1) front_long ∙ ap (λ (l : List ℕ). set l (length front) 1) whole
    ∙ set_behind front 0 (rest ++ 0 ∷ []) 1
    ∙ ap (λ (l : List ℕ). front ++ (l ++ 0 ∷ [])) (sym (open_first bytes o))
    ∙ sym (append_assoc front bytes (0 ∷ [])) in
    shut_by (front ++ bytes) opened now

-- ---- as a piece of a file

pub piece_is : (piece bytes : List ℕ) → bytes ≡ piece ++ 0 ∷ [] → piece_of bytes ≡ piece
piece_is piece bytes is = (shut_by piece bytes is).front_is

pub is_piece : (first : ℕ) (rest bytes : List ℕ) → first ≡ 1 → bytes ≡ (first ∷ rest) ++ 0 ∷ [] → IsPiece bytes
is_piece first rest bytes one is = record { body = rest; is = is ∙ ap (λ (b : ℕ). b ∷ rest ++ 0 ∷ []) one }

-- ---- as far as two lists are the same

pub same_further : (xs ys : List ℕ) (i b : ℕ) → i < length ys → slice_get xs i ≡ Some b → b ≡ slice_index ys i
    → take i xs ≡ take i ys → take (i + 1) xs ≡ take (i + 1) ys
same_further xs ys i b within got is same =
    ap (λ (n : ℕ). take n xs) (add-one i) ∙ with_next xs i b got ∙ ap (λ (l : List ℕ). l ++ b ∷ []) same
    ∙ ap (λ (x : ℕ). take i ys ++ x ∷ []) is ∙ sym (take-suc ys i 0 within)
    ∙ ap (λ (n : ℕ). take n ys) (sym (add-one i))
  where
    with_next : (l : List ℕ) (n x : ℕ) → slice_get l n ≡ Some x → take (suc n) l ≡ take n l ++ x ∷ []
    with_next [] n x e = absurd (no_item n x e) where
      no_item : (n x : ℕ) → slice_get [] n ≡ Some x → ⊥
      no_item zero x e = cc
      no_item (suc n) x e = cc
    with_next (y ∷ l) zero x e = ap (λ (z : ℕ). z ∷ []) (same_some y x e) where
      same_some : (y x : ℕ) → ◌≡◌ {A = Option ℕ} (Some y) (Some x) → y ≡ x
      same_some y x e = cc
    with_next (y ∷ l) (suc n) x e = ap (λ (k : List ℕ). y ∷ k) (with_next l n x e)

-- and no further, where the next one differs
pub differ_further : (xs ys : List ℕ) (i : ℕ) → i < length ys → slice_get xs i ≢ Some (slice_index ys i)
    → take (i + 1) xs ≢ take (i + 1) ys
differ_further xs ys i within other same =
    other (from_take xs i (slice_index ys i) (take i ys) (long ys i within)
    (ap (λ (n : ℕ). take n xs) (sym (add-one i)) ∙ same ∙ ap (λ (n : ℕ). take n ys) (add-one i)
    ∙ take-suc ys i 0 within))
  where
    long : (l : List ℕ) (n : ℕ) → n < length l → length (take n l) ≡ n
    long l n h = omega (arith, h, length-take n l)

    from_take : (l : List ℕ) (n x : ℕ) → (front : List ℕ) → length front ≡ n → take (suc n) l ≡ front ++ x ∷ []
        → slice_get l n ≡ Some x
    from_take [] n x [] e f = absurd cc
    from_take [] n x (a ∷ front) e f = absurd cc
    from_take (y ∷ l) zero x [] e f = same_head y x (take 0 l) [] f where
      same_head : (y x : ℕ) (k m : List ℕ) → y ∷ k ≡ x ∷ m → ◌≡◌ {A = Option ℕ} (Some y) (Some x)
      same_head y x k m f = let same : y ≡ x = cc in ap (λ (z : ℕ). Some z) same
    from_take (y ∷ l) zero x (a ∷ front) e f = absurd (omega (arith, e))
    from_take (y ∷ l) (suc n) x [] e f = absurd (omega (arith, e))
    from_take (y ∷ l) (suc n) x (a ∷ front) e f = from_take l n x front (omega (arith, e))
        (same_tail y a (take (suc n) l) (front ++ x ∷ []) f) where
          same_tail : (y a : ℕ) (k m : List ℕ) → y ∷ k ≡ a ∷ m → k ≡ m
          same_tail y a k m f = cc
