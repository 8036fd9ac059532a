-- Where offsets lie.
use Rattle.std.proofs.Common.{◌≡◌, ◌<◌, ◌≤◌, ◌+◌, ◌++◌, ◌∷◌, [], ℕ, suc, List, length, take, drop, get_or}
use Rattle.std.proofs.Common.{refl, sym, ap, ◌∙◌, arith, length-append, add-one}
use Rattle.std.proofs.Common.{⊎_elim}
use Rattle.std.specs.List.{concat, flat_map}
use Rattle.std.proofs.lemmas.Bool.{cases_lt}
use Rattle.std.proofs.lemmas.List.{take-append-drop, take-append-le, take_more, take_all, append-nil}
use Rattle.std.proofs.Math.Seq.{take-append-add}
use Rattle.td_rope.specs.AmongParts.{IsAmongParts}
use Rattle.td_rope.specs.declared.unit.Unit.{Unit}
use Rattle.td_rope.specs.Units.{IsIndexOf, offset_of, width}
use Rattle.td_rope.proofs.Joined.{at_part}
use Rattle.td_rope.proofs.Sizes.{width_both}

-- the text before an atom is no wider than all
pub offset_within : (unit : Unit) (atoms : List (List ℕ)) (k : ℕ) → offset_of unit atoms k ≤ width unit (concat atoms)
offset_within unit atoms k =
    let parted : width unit (concat atoms) ≡ width unit (concat (take k atoms ++ drop k atoms)) =
    ap (λ (xs : List (List ℕ)). width unit (concat xs)) (sym (take-append-drop k atoms)) in
    omega (arith, parted, width_both unit (take k atoms) (drop k atoms))

-- what is behind all atoms has the whole text before it
pub offset_behind : (unit : Unit) (atoms : List (List ℕ)) (k : ℕ) → length atoms ≤ k → offset_of unit atoms k
    ≡ width unit (concat atoms)
offset_behind unit atoms k behind = ap (λ (xs : List (List ℕ)). width unit (concat xs)) (take_all k atoms behind)

-- one atom more
pub offset_more : (unit : Unit) (atoms : List (List ℕ)) (i : ℕ) → i < length atoms → offset_of unit atoms (i + 1)
    ≡ offset_of unit atoms i + width unit (get_or atoms i [])
offset_more unit atoms i lt =
    ap (λ (xs : List (List ℕ)). width unit (concat xs)) (take_more atoms i [] lt)
    ∙ width_both unit (take i atoms) (get_or atoms i [] ∷ [])
    ∙ ap (λ (bytes : List ℕ). offset_of unit atoms i + width unit bytes) (append-nil (get_or atoms i []))

-- the offset of an atom in the middle of three
pub offset_inside : (unit : Unit) (all a m b : List (List ℕ)) (r k : ℕ) → all ≡ a ++ (m ++ b) → length a + r ≡ k
    → r ≤ length m
    → offset_of unit all k ≡ width unit (concat a) + offset_of unit m r
offset_inside unit all a m b r k parted is within =
    let front : take k all ≡ a ++ take r m =
    (λ i. take (sym is i) (parted i)) ∙ take-append-add a (m ++ b) r
    ∙ ap (λ (t : List (List ℕ)). a ++ t) (take-append-le r m b within) in
    ap (λ (xs : List (List ℕ)). width unit (concat xs)) front ∙ width_both unit a (take r m)

-- an offset that lies in one of the middle of three
pub index_inside : (unit : Unit) (all a m b : List (List ℕ)) (rest offset r : ℕ) → all ≡ a ++ (m ++ b)
    → IsIndexOf unit m rest r → rest < width unit (concat m) → width unit (concat a) + rest ≡ offset
    → IsIndexOf unit all offset (length a + r)
index_inside unit all a m b rest offset r parted is lt sum =
    let count : length all ≡ length a + (length m + length b) =
    ap length parted ∙ length-append a (m ++ b) ∙ ap (λ (k : ℕ). length a + k) (length-append m b) in
    let here : offset_of unit all (length a + r) ≡ width unit (concat a) + offset_of unit m r =
    offset_inside unit all a m b r (length a + r) parted refl is.within in
    let before_end : r < length m =
    ⊎_elim (λ (before : r < length m). before)
    (λ (behind : length m ≤ r). absurd (omega (arith, lt, is.begins, offset_behind unit m r behind)))
    (cases_lt r (length m)) in
    let next : offset_of unit all (suc (length a + r)) ≡ width unit (concat a) + offset_of unit m (suc r) =
    offset_inside unit all a m b (suc r) (suc (length a + r)) parted (omega arith) (omega (arith, before_end)) in
    record {
      within = omega (arith, is.within, count);
      begins = omega (arith, here, is.begins, sum);
      ends = λ _. omega (arith, next, is.ends before_end, sum);
    }

-- one that lies in the atom at an index
pub index_here : (unit : Unit) (atoms : List (List ℕ)) (i rest offset : ℕ) → i < length atoms
    → offset_of unit atoms i + rest ≡ offset → rest < width unit (get_or atoms i []) → IsIndexOf unit atoms offset i
index_here unit atoms i rest offset lt sum short =
    let next : offset_of unit atoms (suc i) ≡ offset_of unit atoms i + width unit (get_or atoms i []) =
    ap (offset_of unit atoms) (sym (add-one i)) ∙ offset_more unit atoms i lt in
    record {
      within = omega (arith, lt);
      begins = omega (arith, sum);
      ends = λ _. omega (arith, sum, short, next);
    }

-- one that lies behind all
pub index_behind : (unit : Unit) (atoms : List (List ℕ)) (offset i : ℕ) → i ≡ length atoms
    → width unit (concat atoms) ≤ offset → IsIndexOf unit atoms offset i
index_behind unit atoms offset i is far = record {
  within = omega (arith, is);
  begins = omega (arith, far, offset_within unit atoms i);
  ends = λ lt. absurd (omega (arith, lt, is));
}

-- the offset of an atom of parts
pub offset_seated : {S : Type 0} (f : S → List (List ℕ)) (ps : List S) (all : List (List ℕ)) (part r k : ℕ) (d : S)
    (unit : Unit) → IsAmongParts f ps k part r → flat_map f ps ≡ all → d ≡ get_or ps part d
    → width unit (concat (flat_map f (take part ps))) + offset_of unit (f d) r ≡ offset_of unit all k
offset_seated f ps all part r k d unit seat all_is this =
    let a : List (List ℕ) = flat_map f (take part ps) in
    let b : List (List ℕ) = flat_map f (drop (suc part) ps) in
    let parted : flat_map f ps ≡ a ++ (f d ++ b) =
    at_part f ps part d seat.part_within ∙ ap (λ p. a ++ (f p ++ b)) (sym this) in
    let within : r ≤ length (f d) = omega (arith, seat.index d, ap (λ p. length (f p)) this) in
    sym (offset_inside unit (flat_map f ps) a (f d) b r k parted seat.before within)
    ∙ ap (λ (atoms : List (List ℕ)). offset_of unit atoms k) all_is
