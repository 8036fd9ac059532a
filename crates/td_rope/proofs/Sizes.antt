-- Sizes of atoms that stand one after another.
use Rattle.std.proofs.Common.{◌≡◌, ◌<◌, ◌≤◌, ◌+◌, ◌-◌, ◌*◌, ◌^◌, ◌++◌, ◌∷◌, [], ℕ, suc, List, Bool, true, false}
use Rattle.std.proofs.Common.{length, take, drop, get_or, refl, sym, ap, subst, ◌∙◌, arith, length-append, set}
use Rattle.std.specs.Prelude.{nat_lt, if◌then◌else◌}
use Rattle.std.specs.List.{All, concat, flat_map, insert_slice, sum_by}
use Rattle.std.proofs.lemmas.List.{append-nil, get_or-set_same, length-take, take-append-drop}
use Rattle.std.proofs.lemmas.List.Folds.{concat-append}
use Rattle.std.proofs.lemmas.List.Sums.{sum_by-append, sum_by-cons, sum_by-le, sum-map}
use Rattle.std.proofs.lemmas.List.Elements.{All-append, All-take, All-drop}
use Rattle.std.proofs.Math.Seq.{take-append_seam, drop-append_seam}
use Rattle.td_base.specs.Atom.{IsAtom}
use Rattle.td_base.specs.declared.atom.TheConstants.{MAX_ATOM_LEN}
use Rattle.td_base.proofs.RunPieces.{length_concat}
use Rattle.td_rope.specs.declared.size.Size.{Size}
use Rattle.td_rope.specs.declared.unit.Unit.{Unit}
use Rattle.td_rope.specs.declared.unit.Unit.TheVariants.{Byte, Utf16, CodePoint}
use Rattle.td_rope.specs.Sizes.{IsSize, IsSmall, IsPartOf, plus, minus, width_in}
use Rattle.td_rope.specs.Units.{units, width}
use Rattle.td_rope.proofs.Joined.{at_part, joined_more, joined_parted, length_put, more_within, with_part}

-- ---- how wide

pub width_both : (unit : Unit) (a b : List (List ℕ)) → width unit (concat (a ++ b)) ≡ width unit (concat a)
    + width unit (concat b)
width_both unit a b = ap (width unit) (concat-append a b) ∙ sum_by-append (units unit) (concat a) (concat b)

few_if : (b : Bool) (x y : ℕ) → x ≤ 2 → y ≤ 2 → (if b then x else y) ≤ 2
few_if true x y p q = p
few_if false x y p q = q

-- a byte adds two units at most
pub units_few : (unit : Unit) (byte : ℕ) → units unit byte ≤ 2
units_few Byte byte = omega arith
units_few Utf16 byte =
    few_if (nat_lt byte 128) 1 _ (omega arith)
    (few_if (nat_lt byte 192) 0 _ (omega arith) (few_if (nat_lt byte 240) 1 2 (omega arith) (omega arith)))
units_few CodePoint byte =
    few_if (nat_lt byte 128) 1 _ (omega arith) (few_if (nat_lt byte 192) 0 1 (omega arith) (omega arith))

pub width_few : (unit : Unit) (bytes : List ℕ) → width unit bytes ≤ length bytes * 2
width_few unit bytes = sum_by-le (units unit) 2 bytes (λ i d lt. units_few unit (get_or bytes i d))

-- atoms have so many bytes at most
bytes_few : (atoms : List (List ℕ)) → All IsAtom atoms → length (concat atoms) ≤ length atoms * MAX_ATOM_LEN
bytes_few atoms each =
    let sums : length (concat atoms) ≡ sum_by length atoms = length_concat atoms ∙ sum-map length atoms in
    omega (arith, sums, sum_by-le length MAX_ATOM_LEN atoms (λ i d lt. (each i d lt).short))

pub width_small : (unit : Unit) (atoms : List (List ℕ)) → All IsAtom atoms → length atoms < 2 ^ 32
    → width unit (concat atoms) < 2 ^ 63
width_small unit atoms each few =
    let bytes : length (concat atoms) ≤ length atoms * 64 = bytes_few atoms each in
    omega (arith, few, bytes, width_few unit (concat atoms))

-- where the front of a list has few atoms
pub front_small : (unit : Unit) (atoms : List (List ℕ)) (i : ℕ) → All IsAtom atoms → i < 2 ^ 32
    → width unit (concat (take i atoms)) < 2 ^ 63
front_small unit atoms i each few =
    width_small unit (take i atoms) (All-take IsAtom i atoms each) (omega (arith, few, length-take i atoms))

-- ---- sizes

pub small : (atoms : List (List ℕ)) (size : Size) → IsSize atoms size → length atoms < 2 ^ 32 → IsSmall size
small atoms size is few = record {
  atoms = omega (arith, few, is.count);
  bytes = omega (arith, is.widths Byte, width_small Byte atoms is.each few);
  utf16 = omega (arith, is.widths Utf16, width_small Utf16 atoms is.each few);
  points = omega (arith, is.widths CodePoint, width_small CodePoint atoms is.each few);
}

width_in_plus : (unit : Unit) (s t : Size) → width_in unit (plus s t) ≡ width_in unit s + width_in unit t
width_in_plus Byte s t = refl
width_in_plus Utf16 s t = refl
width_in_plus CodePoint s t = refl

width_in_minus : (unit : Unit) (s t : Size) → width_in unit (minus s t) ≡ width_in unit s - width_in unit t
width_in_minus Byte s t = refl
width_in_minus Utf16 s t = refl
width_in_minus CodePoint s t = refl

pub joined : (a b : List (List ℕ)) (s t : Size) → IsSize a s → IsSize b t → IsSize (a ++ b) (plus s t)
joined a b s t first second = record {
  count = omega (arith, first.count, second.count, length-append a b);
  widths = λ unit. width_in_plus unit s t ∙ (λ i. first.widths unit i + second.widths unit i)
      ∙ sym (width_both unit a b);
  each = All-append IsAtom a b first.each second.each;
}

all_front : (a b : List (List ℕ)) → All IsAtom (a ++ b) → All IsAtom a
all_front a b each = subst (All IsAtom) (take-append_seam a b) (All-take IsAtom (length a) (a ++ b) each)

all_back : (a b : List (List ℕ)) → All IsAtom (a ++ b) → All IsAtom b
all_back a b each = subst (All IsAtom) (drop-append_seam a b) (All-drop IsAtom (length a) (a ++ b) each)

-- what is left of a front
pub front_size : (a b : List (List ℕ)) (s t : Size) → IsSize (a ++ b) s → IsSize b t → IsSize a (minus s t)
front_size a b s t both back = record {
  count = omega (arith, both.count, back.count, length-append a b);
  widths = λ unit. left unit (width_in unit s) (width_in unit t) (width unit (concat a)) (width unit (concat b))
      (width_in unit (minus s t)) (width_in_minus unit s t) (both.widths unit ∙ width_both unit a b) (back.widths unit);
  each = all_front a b both.each;
}
  where
    left : (unit : Unit) (ws wt wa wb w : ℕ) → w ≡ ws - wt → ws ≡ wa + wb → wt ≡ wb → w ≡ wa
    left unit ws wt wa wb w e f g = omega (arith, e, f, g)

-- a stretch is no more than all
pub part_size : (all a m b : List (List ℕ)) (s t : Size) → all ≡ a ++ (m ++ b) → IsSize all s → IsSize m t
    → IsPartOf s t
part_size all a m b s t parted whole part = record {
  atoms = omega (arith, whole.count, part.count, ap length parted, length-append a (m ++ b), length-append m b);
  bytes = within Byte;
  utf16 = within Utf16;
  points = within CodePoint;
}
  where
    within : (unit : Unit) → width_in unit t ≤ width_in unit s
    within unit =
        let all_is : width unit (concat all) ≡ width unit (concat (a ++ (m ++ b))) =
        ap (λ (atoms : List (List ℕ)). width unit (concat atoms)) parted in
        omega (
          arith,
          whole.widths unit,
          part.widths unit,
          all_is,
          width_both unit a (m ++ b),
          width_both unit m b,
        )

-- another stretch in its place
pub replaced : (all a m n b : List (List ℕ)) (s t u : Size) → all ≡ a ++ (m ++ b) → IsSize all s → IsSize m t
    → IsSize n u
    → IsSize (a ++ (n ++ b)) (plus (minus s t) u)
replaced all a m n b s t u parted whole old new = record {
  count = omega (
    arith,
    whole.count,
    old.count,
    new.count,
    ap length parted,
    length-append a (m ++ b),
    length-append m b,
    length-append a (n ++ b),
    length-append n b,
  );
  widths = λ unit.
      let all_is : width unit (concat all) ≡ width unit (concat (a ++ (m ++ b))) =
      ap (λ (atoms : List (List ℕ)). width unit (concat atoms)) parted in
      let sum : width_in unit (plus (minus s t) u) ≡ width_in unit s - width_in unit t + width_in unit u =
      width_in_plus unit (minus s t) u ∙ ap (λ (k : ℕ). k + width_in unit u) (width_in_minus unit s t) in
      omega (
        arith,
        sum,
        whole.widths unit,
        old.widths unit,
        new.widths unit,
        all_is,
        width_both unit a (m ++ b),
        width_both unit m b,
        width_both unit a (n ++ b),
        width_both unit n b,
      );
  each =
      let parts : All IsAtom (a ++ (m ++ b)) = subst (All IsAtom) parted whole.each in
      All-append IsAtom a (n ++ b) (all_front a (m ++ b) parts)
      (All-append IsAtom n b new.each (all_back m b (all_back a (m ++ b) parts)));
}

-- without it
pub size_without : (all a m b : List (List ℕ)) (s t : Size) → all ≡ a ++ (m ++ b) → IsSize all s → IsSize m t
    → IsSize (a ++ b) (minus s t)
size_without all a m b s t parted whole old = record {
  count = omega (
    arith,
    whole.count,
    old.count,
    ap length parted,
    length-append a (m ++ b),
    length-append m b,
    length-append a b,
  );
  widths = λ unit.
      let all_is : width unit (concat all) ≡ width unit (concat (a ++ (m ++ b))) =
      ap (λ (atoms : List (List ℕ)). width unit (concat atoms)) parted in
      omega (
        arith,
        width_in_minus unit s t,
        whole.widths unit,
        old.widths unit,
        all_is,
        width_both unit a (m ++ b),
        width_both unit m b,
        width_both unit a b,
      );
  each =
      let parts : All IsAtom (a ++ (m ++ b)) = subst (All IsAtom) parted whole.each in
      All-append IsAtom a b (all_front a (m ++ b) parts) (all_back m b (all_back a (m ++ b) parts));
}

-- with a run put at a place
pub size_with : (atoms run : List (List ℕ)) (i : ℕ) (s t : Size) → i ≤ length atoms → IsSize atoms s → IsSize run t
    → IsSize (insert_slice atoms i run) (plus s t)
size_with atoms run i s t within whole more = record {
  count = omega (arith, whole.count, more.count, length_put atoms run i within);
  widths = λ unit.
      let parted : width unit (concat atoms) ≡ width unit (concat (take i atoms ++ drop i atoms)) =
      ap (λ (xs : List (List ℕ)). width unit (concat xs)) (sym (take-append-drop i atoms)) in
      omega (
        arith,
        width_in_plus unit s t,
        whole.widths unit,
        more.widths unit,
        parted,
        width_both unit (take i atoms) (drop i atoms),
        width_both unit (take i atoms ++ run) (drop i atoms),
        width_both unit (take i atoms) run,
      );
  each =
      All-append IsAtom (take i atoms ++ run) (drop i atoms)
      (All-append IsAtom (take i atoms) run (All-take IsAtom i atoms whole.each) more.each)
      (All-drop IsAtom i atoms whole.each);
}

-- ---- of bytes

pub width_bytes : (bytes : List ℕ) → width Byte bytes ≡ length bytes
width_bytes [] = refl
width_bytes (b ∷ bytes) = let rest : width Byte bytes ≡ length bytes = width_bytes bytes in
    omega (arith, sum_by-cons (units Byte) b bytes, rest)

pub measured : (atoms : List (List ℕ)) (bytes : List ℕ) (count utf16 points : ℕ) → All IsAtom atoms
    → count ≡ length atoms → bytes ≡ concat atoms → utf16 ≡ width Utf16 bytes → points ≡ width CodePoint bytes
    → IsSize atoms (record { atoms = count; bytes = length bytes; utf16 = utf16; points = points })
measured atoms bytes count utf16 points each count_is bytes_are utf16_is points_is = record {
  count = count_is;
  widths = widths;
  each = each;
}
  where
    widths : (unit : Unit)
        → width_in unit (record { atoms = count; bytes = length bytes; utf16 = utf16; points = points })
        ≡ width unit (concat atoms)
    widths Byte = sym (width_bytes bytes) ∙ ap (width Byte) bytes_are
    widths Utf16 = utf16_is ∙ ap (width Utf16) bytes_are
    widths CodePoint = points_is ∙ ap (width CodePoint) bytes_are

-- ---- of parts

-- one part more
pub total_more : {S : Type 0} (f : S → List (List ℕ)) (ps : List S) (i : ℕ) (d : S) (s t : Size) → i < length ps
    → d ≡ get_or ps i d → IsSize (flat_map f (take i ps)) s → IsSize (f d) t
    → IsSize (flat_map f (take (i + 1) ps)) (plus s t)
total_more f ps i d s t lt this front more =
    subst (λ (atoms : List (List ℕ)). IsSize atoms (plus s t)) (sym (joined_more f ps i d lt this))
    (joined (flat_map f (take i ps)) (f d) s t front more)

pub total_small : {S : Type 0} (f : S → List (List ℕ)) (ps : List S) (i : ℕ) (d : S) (s t : Size) → i < length ps
    → d ≡ get_or ps i d → IsSize (flat_map f (take i ps)) s → IsSize (f d) t → length (flat_map f ps) < 2 ^ 32
    → IsSmall (plus s t)
total_small f ps i d s t lt this front more few =
    small (flat_map f (take (i + 1) ps)) (plus s t) (total_more f ps i d s t lt this front more)
    (omega (
      arith,
      few,
      more_within f ps i d (length (flat_map f (take i ps))) lt this refl,
      ap length (joined_more f ps i d lt this),
      length-append (flat_map f (take i ps)) (f d),
    ))

-- what is left of a row, and what is cut off it
pub cut_within : {S : Type 0} (f : S → List (List ℕ)) (ps : List S) (cut : ℕ) (s t : Size) → IsSize (flat_map f ps) s
    → IsSize (flat_map f (drop cut ps)) t → IsPartOf s t
cut_within f ps cut s t whole back =
    let a : List (List ℕ) = flat_map f (take cut ps) in
    let b : List (List ℕ) = flat_map f (drop cut ps) in
    part_size (flat_map f ps) a b [] s t (joined_parted f ps cut ∙ ap (λ (t : List (List ℕ)). a ++ t)
    (sym (append-nil b))) whole back

pub cut_left : {S : Type 0} (f : S → List (List ℕ)) (ps : List S) (cut : ℕ) (s t : Size) → IsSize (flat_map f ps) s
    → IsSize (flat_map f (drop cut ps)) t → IsSize (flat_map f (take cut ps)) (minus s t)
cut_left f ps cut s t whole back =
    front_size (flat_map f (take cut ps)) (flat_map f (drop cut ps)) s t
    (subst (λ (atoms : List (List ℕ)). IsSize atoms s) (joined_parted f ps cut) whole) back

-- a row of which one part was changed
pub changed_within : {S : Type 0} (f : S → List (List ℕ)) (ps : List S) (i : ℕ) (d : S) (s t : Size) → i < length ps
    → d ≡ get_or ps i d → IsSize (flat_map f ps) s → IsSize (f d) t → IsPartOf s t
changed_within {S = S} f ps i d s t lt this whole old =
    part_size (flat_map f ps) (flat_map f (take i ps)) (f (get_or ps i d)) (flat_map f (drop (suc i) ps)) s t
    (at_part f ps i d lt) whole (subst (λ (p : S). IsSize (f p) t) this old)

pub changed_size : {S : Type 0} (f : S → List (List ℕ)) (ps : List S) (i : ℕ) (d q now : S) (s t u : Size)
    → i < length ps → d ≡ get_or ps i d → now ≡ get_or (set ps i q) i now → IsSize (flat_map f ps) s → IsSize (f d) t
    → IsSize (f now) u → IsSize (flat_map f (set ps i q)) (plus (minus s t) u)
changed_size {S = S} f ps i d q now s t u lt this here whole old new =
    let there : now ≡ q = here ∙ get_or-set_same ps i q now lt in
    subst (λ (atoms : List (List ℕ)). IsSize atoms (plus (minus s t) u)) (sym (with_part f ps i q lt))
    (replaced (flat_map f ps) (flat_map f (take i ps)) (f (get_or ps i d)) (f q) (flat_map f (drop (suc i) ps)) s t u
    (at_part f ps i d lt) whole (subst (λ (p : S). IsSize (f p) t) this old)
    (subst (λ (p : S). IsSize (f p) u) there new))
