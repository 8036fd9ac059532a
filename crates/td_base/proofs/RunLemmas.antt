-- How a `Run` keeps its atoms.
use Rattle.std.proofs.Common.{◌≡◌, ◌<◌, ◌≤◌, ◌+◌, ◌-◌, ◌*◌, ◌/◌, ◌%◌, ◌^◌, ◌++◌, ◌∷◌, [], ℕ, suc, zero}
use Rattle.std.proofs.Common.{List, length, take, drop, get_or, replicate, refl, sym, ap, ◌∙◌, arith}
use Rattle.std.proofs.Common.{length-append, add-zero, sub-one, one-mul, pow_mono}
use Rattle.std.proofs.Math.Nat.{pow-suc, mul_comm, mul-lt-mul_of_pos_left}
use Rattle.std.specs.List.{All, concat}
use Rattle.std.specs.Int.RustNames.{count_ones, bit_or}
use Rattle.std.specs.Int.Count.{count_trailing_zeros, ones_step}
use Rattle.std.proofs.lemmas.Nat.{pow-add, pow_pos, ones_cat, or_shifted, or_comm, div-mul-add, one_shl}
use Rattle.std.proofs.lemmas.List.{append_assoc, append-nil, take_more, drop_more}
use Rattle.std.proofs.lemmas.List.{take-append-drop, take_at, drop_at, drop-replicate}
use Rattle.std.proofs.lemmas.List.Folds.{concat-append}
use Rattle.std.proofs.lemmas.List.Elements.{All-head, All-tail, All-cons, All-nil}
use Rattle.td_base.specs.declared.atom.TheConstants.{MAX_ATOM_LEN}
use Rattle.td_base.specs.declared.run.TheConstants.{MAX_RUN_LEN}
use Rattle.td_base.specs.Atom.{IsAtom}
use Rattle.td_base.specs.Padded.{padded_with_zeros}
use Rattle.td_base.specs.Run.{IsRun}
use Rattle.td_base.specs.RunParts.{IsRunParts, atoms_of, before_first, ends_of, bytes_of}

-- ---- the word of ends

half_of_power : (n : ℕ) → 0 < n → 2 * 2 ^ (n - 1) ≡ 2 ^ n
half_of_power zero some = absurd (omega (arith, some))
half_of_power (suc n) some = rw (sub-one, pow-suc) (mul_comm 2 (2 ^ n))

twice : (n odd : ℕ) → 2 ^ (suc (suc n) - 1) * odd ≡ 2 * (2 ^ (suc n - 1) * odd)
twice n odd = rw (sub-one, sub-one, pow-suc) (omega arith)

ends_of_short : (atoms : List (List ℕ)) (b : ℕ) → ends_of ((b ∷ []) ∷ atoms) ≡ 2 * ends_of atoms + 1
ends_of_short atoms b = omega arith

ends_of_longer : (atoms : List (List ℕ)) (b c : ℕ) (bs : List ℕ) → ends_of ((b ∷ c ∷ bs) ∷ atoms)
    ≡ 2 * ends_of ((c ∷ bs) ∷ atoms)
ends_of_longer atoms b c bs = twice (length bs) (2 * ends_of atoms + 1)

-- ---- the atoms are read back

pub no_ends : (bytes : List ℕ) → atoms_of 0 bytes ≡ []
no_ends [] = refl
no_ends (b ∷ bytes) = ap (before_first b) (no_ends bytes)

end_here : (ends others b : ℕ) (bytes : List ℕ) → ends ≡ 2 * others + 1 → atoms_of ends (b ∷ bytes)
    ≡ (b ∷ []) ∷ atoms_of others bytes
end_here ends others b bytes odd =
    let rest : ends % 2 ≡ 1 = omega arith in
    let half : ends / 2 ≡ others = omega arith in
    rw (rest, half) refl

end_later : (ends others b : ℕ) (bytes : List ℕ) → ends ≡ 2 * others → atoms_of ends (b ∷ bytes)
    ≡ before_first b (atoms_of others bytes)
end_later ends others b bytes even =
    let rest : ends % 2 ≡ 0 = omega arith in
    let half : ends / 2 ≡ others = omega arith in
    rw (rest, half) refl

atom_again : (atom : List ℕ) (atoms : List (List ℕ)) (zeros : List ℕ) → 0 < length atom
    → atoms_of (ends_of atoms) (concat atoms ++ zeros) ≡ atoms
    → atoms_of (ends_of (atom ∷ atoms)) (concat (atom ∷ atoms) ++ zeros) ≡ atom ∷ atoms
atom_again [] atoms zeros some again = absurd (omega (arith, some))
atom_again (b ∷ []) atoms zeros some again =
    end_here (ends_of ((b ∷ []) ∷ atoms)) (ends_of atoms) b (concat atoms ++ zeros) (ends_of_short atoms b)
    ∙ ap (λ (rest : List (List ℕ)). (b ∷ []) ∷ rest) again
atom_again (b ∷ c ∷ bs) atoms zeros some again =
    end_later (ends_of ((b ∷ c ∷ bs) ∷ atoms)) (ends_of ((c ∷ bs) ∷ atoms)) b (concat ((c ∷ bs) ∷ atoms) ++ zeros)
    (ends_of_longer atoms b c bs)
    ∙ ap (before_first b) (atom_again (c ∷ bs) atoms zeros (omega arith) again)

pub atoms_again : (atoms : List (List ℕ)) (zeros : List ℕ) → All IsAtom atoms
    → atoms_of (ends_of atoms) (concat atoms ++ zeros) ≡ atoms
atoms_again [] zeros each = no_ends zeros
atoms_again (atom ∷ atoms) zeros each = atom_again atom atoms zeros (All-head IsAtom atom atoms each).some
    (atoms_again atoms zeros (All-tail IsAtom atom atoms each))

-- what keeps these atoms
pub parts_of : (atoms : List (List ℕ)) (bytes : List ℕ) (ends : ℕ) → IsRun atoms → bytes ≡ bytes_of atoms → ends
    ≡ ends_of atoms
    → IsRunParts bytes ends × (atoms_of ends bytes ≡ atoms)
parts_of atoms bytes ends run same_bytes same_ends =
    let again : atoms_of ends bytes ≡ atoms = rw (same_bytes, same_ends) (atoms_again atoms _ run.each) in
    (record { run = rw again run; bytes_again = rw again same_bytes; ends_again = rw again same_ends }, again)

-- ---- the word of ends as a number

-- the power of the bytes of some atoms, of which the first is taken apart
pub whole_power : (atom : List ℕ) (atoms : List (List ℕ)) → 0 < length atom → 2 ^ length (concat (atom ∷ atoms))
    ≡ 2 ^ (length atom - 1) * (2 * 2 ^ length (concat atoms))
whole_power atom atoms some =
    let behind : ℕ = 2 ^ length (concat atoms) in
    ap (λ (n : ℕ). 2 ^ n) (length-append atom (concat atoms)) ∙ pow-add 2 (length atom) (length (concat atoms))
    ∙ ap (λ (n : ℕ). n * behind) (sym (half_of_power (length atom) some)) ∙ omega arith

pub ends_below : (atoms : List (List ℕ)) → All IsAtom atoms → ends_of atoms < 2 ^ length (concat atoms)
ends_below [] each = omega arith
ends_below (atom ∷ atoms) each =
    let below : ends_of atoms < 2 ^ length (concat atoms) = ends_below atoms (All-tail IsAtom atom atoms each) in
    rw (whole_power atom atoms (All-head IsAtom atom atoms each).some)
    (mul-lt-mul_of_pos_left (omega arith) (pow_pos (length atom - 1)))

pub count_ends : (atoms : List (List ℕ)) → count_ones (ends_of atoms) ≡ length atoms
unfolding count_ones
count_ends [] = refl
count_ends (atom ∷ atoms) =
    let odd : ℕ = 2 * ends_of atoms + 1 in
    let rest : odd % 2 ≡ 1 = omega arith in
    let half : odd / 2 ≡ ends_of atoms = omega arith in
    ap count_ones (mul_comm (2 ^ (length atom - 1)) odd ∙ sym (add-zero (odd * 2 ^ (length atom - 1))))
    ∙ ones_cat (length atom - 1) odd 0 (pow_pos (length atom - 1)) ∙ add-zero (count_ones odd) ∙ ones_step odd
    ∙ (λ i. rest i + count_ones (half i)) ∙ ap (λ (n : ℕ). 1 + n) (count_ends atoms) ∙ omega arith

under_odd : (w odd : ℕ) → odd % 2 ≡ 1 → count_trailing_zeros (suc w) odd ≡ 0
unfolding count_trailing_zeros
under_odd w odd rest = rw rest refl

under_even : (w even half : ℕ) → even ≡ 2 * half → count_trailing_zeros (suc w) even ≡ suc (count_trailing_zeros w half)
unfolding count_trailing_zeros
under_even w even half twice =
    let rest : even % 2 ≡ 0 = omega arith in
    let halved : even / 2 ≡ half = omega arith in
    rw (rest, halved) refl

trailing_zeros_are : (w k n : ℕ) → k < w → count_trailing_zeros w (2 ^ k * (2 * n + 1)) ≡ k
trailing_zeros_are zero k n within = absurd (omega arith)
trailing_zeros_are (suc w) zero n within = under_odd w (2 ^ zero * (2 * n + 1)) (omega arith)
trailing_zeros_are (suc w) (suc k) n within =
    under_even w (2 ^ suc k * (2 * n + 1)) (2 ^ k * (2 * n + 1)) (rw pow-suc (omega arith))
    ∙ ap suc (trailing_zeros_are w k n (omega arith))

-- the first atom ends with the lowest bit that is set
pub first_end : (w : ℕ) (atom : List ℕ) (atoms : List (List ℕ)) → 0 < length atom → length atom ≤ w
    → count_trailing_zeros w (ends_of (atom ∷ atoms)) + 1 ≡ length atom
first_end w atom atoms some within =
    let last = trailing_zeros_are w (length atom - 1) (ends_of atoms) (omega arith) in
    omega arith

pub shift_end : (atom : List ℕ) (atoms : List (List ℕ)) → 0 < length atom → ends_of (atom ∷ atoms) / 2 ^ length atom
    ≡ ends_of atoms
shift_end atom atoms some =
    let whole = half_of_power (length atom) some in
    let split : ends_of (atom ∷ atoms) ≡ ends_of atoms * 2 ^ length atom + 2 ^ (length atom - 1) =
    rw (← whole) (omega arith) in
    rw split (div-mul-add (ends_of atoms) (2 ^ length atom) (2 ^ (length atom - 1))
    (omega (arith, pow_pos (length atom - 1))))

ends_push : (atoms : List (List ℕ)) (atom : List ℕ) (last : ℕ) → All IsAtom atoms → 0 < length atom → last + 1
    ≡ length (concat atoms) + length atom
    → ends_of (atoms ++ atom ∷ []) ≡ ends_of atoms + 2 ^ last
ends_push [] atom last each some at =
    let same : length atom - 1 ≡ last = omega arith in
    rw same (omega arith)
ends_push (a ∷ atoms) atom last each some at =
    let later : ℕ = length (concat atoms) + length atom - 1 in
    let longer : length a + later ≡ last = omega (arith, length-append a (concat atoms)) in
    let power : 2 ^ last ≡ 2 ^ (length a - 1) * (2 * 2 ^ later) =
    ap (λ (n : ℕ). 2 ^ n) (sym longer) ∙ pow-add 2 (length a) later
    ∙ ap (λ (n : ℕ). n * 2 ^ later) (sym (half_of_power (length a) (All-head IsAtom a atoms each).some))
    ∙ omega arith in
    rw (ends_push atoms atom later (All-tail IsAtom a atoms each) some (omega arith), power) (omega arith)

-- one more atom sets the bit of its last byte
pub mark_end : (w : ℕ) (atoms : List (List ℕ)) (atom : List ℕ) (end : ℕ) → All IsAtom atoms → 0 < length atom
    → end ≡ length (concat atoms) + length atom → end ≤ w → bit_or (ends_of atoms) (1 * 2 ^ (end - 1) % 2 ^ w)
    ≡ ends_of (atoms ++ atom ∷ [])
mark_end w atoms atom end each some at within =
    let below : ends_of atoms < 2 ^ (end - 1) = omega
    (arith, ends_below atoms each, pow_mono {i = length (concat atoms)} {j = end - 1} (omega arith)) in
    let shifted = or_shifted 1 (end - 1) (ends_of atoms) below in
    rw (one_shl (end - 1) w (omega arith), or_comm, ends_push atoms atom (end - 1) each some (omega arith))
    (rw one-mul at shifted ∙ omega arith)

-- ---- the atoms so far

-- the atoms so far and the next one
pub with_next : (atoms : List (List ℕ)) (i : ℕ) (atom : List ℕ) → i < length atoms → atom ≡ get_or atoms i atom
    → take (i + 1) atoms ≡ take i atoms ++ atom ∷ []
with_next atoms i atom within read = take_more atoms i atom within
    ∙ ap (λ (a : List ℕ). take i atoms ++ a ∷ []) (sym read)

pub concat_push : (atoms : List (List ℕ)) (atom : List ℕ) → concat (atoms ++ atom ∷ []) ≡ concat atoms ++ atom
concat_push atoms atom = concat-append atoms (atom ∷ []) ∙ ap (λ (a : List ℕ). concat atoms ++ a) (append-nil atom)

-- they have no more bytes than all of them
pub front_short : (atoms : List (List ℕ)) (i : ℕ) → length (concat (take i atoms)) ≤ length (concat atoms)
front_short atoms i =
    let split = ap concat (take-append-drop i atoms) in
    omega (
      arith,
      ap length split,
      ap length (concat-append (take i atoms) (drop i atoms)),
      length-append
          (concat (take i atoms)) (concat (drop i atoms)),
    )

-- the next atom, written behind those so far
pub write_next : (atoms : List (List ℕ)) (atom bytes : List ℕ) (start end : ℕ) → bytes ≡ bytes_of atoms → start
    ≡ length (concat atoms)
    → end ≡ start + length atom → end ≤ MAX_RUN_LEN → take start bytes
    ++ (atom ++ drop (end - start) (drop start bytes)) ≡ bytes_of (atoms ++ atom ∷ [])
write_next atoms atom bytes start end kept at long within =
    let done : List ℕ = concat atoms in
    let front : take start bytes ≡ done = rw kept (take_at done _ start (sym at)) in
    let left : ℕ = MAX_RUN_LEN - length done - (end - start) in
    let behind : drop (end - start) (drop start bytes) ≡ replicate left 0 =
    rw (kept, drop_at done (replicate (MAX_RUN_LEN - length done) 0) start (sym at))
    (drop-replicate (end - start) (MAX_RUN_LEN - length done) 0) in
    let whole : concat (atoms ++ atom ∷ []) ≡ done ++ atom = concat_push atoms atom in
    let size : left ≡ MAX_RUN_LEN - length (done ++ atom) = omega (arith, length-append done atom) in
    rw (front, behind, whole, size) (sym (append_assoc done atom _))

-- one atom, in an array with zeros behind it
pub one_parts : (w : ℕ) (atom bytes : List ℕ) → IsAtom atom → length atom ≤ w
    → bytes ≡ padded_with_zeros MAX_ATOM_LEN atom
    → IsRunParts bytes (1 * 2 ^ (length atom - 1) % 2 ^ w)
    × (atoms_of (1 * 2 ^ (length atom - 1) % 2 ^ w) bytes ≡ atom ∷ [])
one_parts w atom bytes is within padded =
    let run : IsRun (atom ∷ []) = record {
      some = omega arith;
      short = rw append-nil (is.short);
      each = All-cons IsAtom atom [] is (All-nil IsAtom);
    } in
    let array : bytes ≡ bytes_of (atom ∷ []) = rw append-nil padded in
    parts_of (atom ∷ []) _ _ run array (one_shl (length atom - 1) w (omega (arith, is.some)) ∙ omega arith)

-- ---- the atom at a place

-- how the atom at a place is found behind those before it
pub record IsNextAtom (w : ℕ) (atoms : List (List ℕ)) (i : ℕ) (atom : List ℕ) : Type 0 where
  pub is : IsAtom atom
  pub end : count_trailing_zeros w (ends_of (drop i atoms)) + 1 ≡ length atom
  pub behind : ends_of (drop i atoms) / 2 ^ length atom ≡ ends_of (drop (i + 1) atoms)
  pub start : length (concat (take (i + 1) atoms)) ≡ length (concat (take i atoms)) + length atom
  pub short : length (concat (take (i + 1) atoms)) ≤ MAX_RUN_LEN

pub next_atom : (w : ℕ) (atoms : List (List ℕ)) (i : ℕ) → MAX_ATOM_LEN ≤ w → IsRun atoms → i < length atoms
    → IsNextAtom w atoms i (get_or atoms i [])
next_atom w atoms i wide run within =
    let atom : List ℕ = get_or atoms i [] in
    let is : IsAtom atom = run.each i [] within in
    let rest : drop i atoms ≡ atom ∷ drop (i + 1) atoms = drop_more atoms i [] within in
    let next : take (i + 1) atoms ≡ take i atoms ++ atom ∷ [] = take_more atoms i [] within in
    record {
      is = is;
      end = rw rest (first_end w atom (drop (i + 1) atoms) is.some (omega (arith, is.short)));
      behind = rw rest (shift_end atom (drop (i + 1) atoms) is.some);
      start = rw (next, concat_push (take i atoms) atom) (length-append (concat (take i atoms)) atom);
      short = omega (arith, front_short atoms (i + 1), run.short);
    }

pub atom_bytes : (atoms : List (List ℕ)) (i start end : ℕ) (bytes : List ℕ) → i < length atoms → bytes
    ≡ bytes_of atoms → start ≡ length (concat (take i atoms))
    → end ≡ start + length (get_or atoms i []) → take (end - start) (drop start bytes) ≡ get_or atoms i []
atom_bytes atoms i start end bytes within kept at long =
    let atom : List ℕ = get_or atoms i [] in
    let rest : drop i atoms ≡ atom ∷ drop (i + 1) atoms = drop_more atoms i [] within in
    let front : List ℕ = concat (take i atoms) in
    let split : concat atoms ≡ front ++ (atom ++ concat (drop (i + 1) atoms)) =
    ap concat (sym (take-append-drop i atoms)) ∙ concat-append (take i atoms) (drop i atoms)
    ∙ ap (λ (a : List (List ℕ)). front ++ concat a) rest in
    let size : end - start ≡ length atom = omega arith in
    let zeros : List ℕ = replicate (MAX_RUN_LEN - length (concat atoms)) 0 in
    let whole : bytes ≡ front ++ (atom ++ (concat (drop (i + 1) atoms) ++ zeros)) =
    kept ∙ ap (λ (b : List ℕ). b ++ zeros) split ∙ append_assoc front (atom ++ concat (drop (i + 1) atoms)) zeros
    ∙ ap (λ (b : List ℕ). front ++ b) (append_assoc atom (concat (drop (i + 1) atoms)) zeros) in
    rw (whole, size, drop_at front (atom ++ (concat (drop (i + 1) atoms) ++ zeros)) start (sym at))
    (take_at atom _ (length atom) refl)
