-- Loops that read one field after another: what was read so far, put in front of what reading gives for the rest, is
-- what
-- reading gives for all.
use Rattle.std.proofs.Common.{◌≡◌, ℕ, zero, suc, ◌+◌, ◌-◌, ◌*◌, ◌/◌, ◌%◌, ◌<◌, ◌≤◌, leb, List, [], ◌∷◌, ◌++◌, length}
use Rattle.std.proofs.Common.{take, drop, get_or, map, sum, All, Option, Some, None, Result, Ok, Err, refl, sym, ap}
use Rattle.std.proofs.Common.{subst, ◌∙◌, append_assoc, add-one, arith}
use Rattle.std.specs.Prelude.{IsSome, slice_set}
use Rattle.std.specs.Int.{is_in_range}
use Rattle.std.specs.Option.{SomeIff}
use Rattle.std.specs.Result.{result_ok}
use Rattle.td_base.specs.Run.{IsRun, pieces}
use Rattle.td_base.proofs.RunPieces.{piece_lengths, piece_bytes, pieces_again, length_concat}
use Rattle.std.proofs.lemmas.List.Elements.{recursion_from_All, All-nil, All-cons}
use Rattle.std.proofs.lemmas.List.{append-nil, length-append, length-take-le, length-drop, take_all, drop_all, take_at}
use Rattle.std.proofs.lemmas.List.{take-append-drop}
use Rattle.std.proofs.lemmas.Str.{IsUtf8-from_ascii, IsAscii-take, IsAscii-drop}
use Rattle.std.proofs.lemmas.Str.Ascii.{IsAscii-nil, IsAscii-cons}
use Rattle.std.specs.Str.{IsUtf8, IsAscii}
use Rattle.std.specs.List.{AllByRecursion}
use Rattle.td_wire.specs.Spelling.{number_bytes}
use Rattle.std.proofs.lemmas.Bool.{leb-true, and_parts}
use Rattle.std.proofs.Math.Seq.{take-suc-set, drop-cons}
use Rattle.td_base.specs.Value.{DotValue}
use Rattle.td_wire.specs.Reading.{Read, ◌>>=◌, byte_at, number_at, character_len, second_least, second_most, lead_at}
use Rattle.td_wire.specs.Reading.{continuations_at, character_at, text_at, atom_at, lengths_at, atoms_at, dep_least}
use Rattle.td_wire.specs.Reading.{dep_most, deps_at, run_at}
use Rattle.td_wire.specs.declared.format.Format.TheVariants.{Two}
use Rattle.td_wire.proofs.Bytes.{InRange, passing_sound, number_is, number_reads}
use Rattle.td_wire.proofs.Exact.{ok, ok_is}
use Rattle.td_wire.proofs.Texts.{character_reads}
use Rattle.td_wire.proofs.Runs.{AtomOf, atom_reads, Lengths, to_lengths, lengths_reads, AtomsFrom, atoms_reads}
use Rattle.td_wire.proofs.Runs.{to_atoms, from_atoms, run_from}

-- the values that are read, changed
abbrev pub mapped : {A B : Type 0} → (A → B) → Read A → Read B
mapped f r = r >>= λ x. Ok (f x.0, x.1)

-- a field, and what is read behind it joined to its value
abbrev pub joined : {X A : Type 0} → (X → A → A) → Read X → (X × List ℕ → Read A) → Read A
joined join first next = first >>= λ y. next y >>= λ a. Ok (join y.0 a.0, a.1)

mapped_twice : {A B C : Type 0} (f : B → C) (g : A → B) (h : A → C) (r : Read A) → ((a : A) → f (g a) ≡ h a)
    → mapped f (mapped g r) ≡ mapped h r
mapped_twice f g h (Ok x) same = ap (λ c. ok (c, x.1)) (same x.0)
mapped_twice f g h (Err left) same = refl

pub goes_on : {X A B : Type 0} (join : X → A → A) (first : Read X) (next : X × List ℕ → Read A) (f g : A → B) (x : X)
    (after : List ℕ) (total : Read B)
    → first ≡ Ok (x, after) → ((a : A) → f (join x a) ≡ g a) → mapped f (joined join first next) ≡ total
    → mapped g (next (x, after)) ≡ total
goes_on {X} {A} {B} join first next f g x after total read same so_far =
    sym (mapped_twice f (join x) g (next (x, after)) same)
    ∙ sym (ap (λ (r : Read X). mapped f (joined join r next)) read) ∙ so_far

pub ends : {X A B : Type 0} (join : X → A → A) (first : Read X) (next : X × List ℕ → Read A) (f : A → B) (left : ℕ)
    (total : Read B)
    → first ≡ Err left → mapped f (joined join first next) ≡ total → total ≡ Err left
ends {X} join first next f left total read so_far = sym so_far ∙ ap (λ (r : Read X). mapped f (joined join r next)) read

pub is_done : {A B : Type 0} (f : A → B) (a : A) (b : B) (rest : List ℕ) (total : Read B) → f a ≡ b
    → mapped f (ok (a, rest)) ≡ total → total ≡ Ok (b, rest)
is_done f a b rest total e so_far = sym so_far ∙ ap (λ c. ok (c, rest)) e

-- nothing was read so far
pub begins : {A : Type 0} (f : A → A) (r : Read A) → ((a : A) → f a ≡ a) → mapped f r ≡ r
begins f (Ok x) same = ap (λ c. ok (c, x.1)) (same x.0)
begins f (Err left) same = refl

-- ---- values that are in range

pub some_if : {A : Type 0} (o : Option A) (P : Type 0) (v : A) → SomeIff o P v → P → IsSome o
some_if (Some x) P v h p = refl
some_if None P v h p = absurd (h p)

pub number_in : (low high : ℕ) (xs : List ℕ) (n : ℕ) (rest : List ℕ) → low ≤ high → high ≤ 65535
    → number_at low high xs ≡ Ok (n, rest) → InRange low high n
number_in low high xs n rest some short read = ((number_reads low high some short).sound xs n rest read).2.can

-- a number in its four bytes
number_taken : (low high n a b c d : ℕ) (rest : List ℕ) → n ≡ a * 16777216 + b * 65536 + c * 256 + d → d < 256 → low ≤ n
    → n ≤ high → high ≤ 65535
    → number_at low high (a ∷ b ∷ c ∷ d ∷ rest) ≡ Ok (n, rest)
number_taken low high n a b c d rest is byte least most short =
    let first : 0 ≡ a = omega (arith, is, most, short) in
    let second : 0 ≡ b = omega (arith, is, most, short) in
    let third : n / 256 ≡ c = omega (arith, is, byte, most, short) in
    let fourth : n % 256 ≡ d = omega (arith, is, byte, most, short) in
    let bytes : number_bytes n ≡ a ∷ b ∷ c ∷ d ∷ [] = number_is n (omega (arith, most, short))
    ∙ (λ i. first i ∷ second i ∷ third i ∷ fourth i ∷ []) in
    ap (λ (front : List ℕ). number_at low high (front ++ rest)) (sym bytes)
    ∙ (number_reads low high (omega (arith, least, most)) short).again n (number_bytes n) rest
    (record { can = record { least = least; most = most }; is = refl })

-- a number in the first four bytes
pub number_in_front : (low high n : ℕ) (xs : List ℕ) → 4 ≤ length xs
    → n ≡ get_or xs 0 0 * 16777216 + get_or xs 1 0 * 65536 + get_or xs 2 0 * 256 + get_or xs 3 0 → get_or xs 3 0 < 256
    → low ≤ n → n ≤ high → high ≤ 65535 → number_at low high xs ≡ Ok (n, take (length xs - 4) (drop 4 xs))
number_in_front low high n [] four is byte least most short = absurd (omega (arith, four))
number_in_front low high n (a ∷ []) four is byte least most short = absurd (omega (arith, four))
number_in_front low high n (a ∷ b ∷ []) four is byte least most short = absurd (omega (arith, four))
number_in_front low high n (a ∷ b ∷ c ∷ []) four is byte least most short = absurd (omega (arith, four))
number_in_front low high n (a ∷ b ∷ c ∷ d ∷ rest) four is byte least most short =
    number_taken low high n a b c d rest is byte least most short
    ∙ ap (λ ys. ok (n, ys)) (sym (take_all (length (a ∷ b ∷ c ∷ d ∷ rest) - 4) rest (omega arith)))

pub character_in : (room : ℕ) (xs : List ℕ) (n : ℕ) (rest : List ℕ) → 1 ≤ room → character_at room xs ≡ Ok (n, rest)
    → (1 ≤ n) × (n ≤ room)
character_in room xs n rest some read = let c = ((character_reads room some).sound xs n rest read).2 in
    (c.some, c.short)

-- ---- texts

-- any bound on the number of characters gives the same
text_bound_at : (bound other room : ℕ) → ((left : ℕ) → left ≤ room → (xs : List ℕ)
    → text_at bound left xs ≡ text_at other left xs)
    → (xs : List ℕ) (c : Read ℕ) → character_at (suc room) xs ≡ c
    → joined (λ len more. len + more) c (λ len. text_at bound (suc room - len.0) len.1) ≡ joined
    (λ len more. len + more) c (λ len. text_at other (suc room - len.0) len.1)
text_bound_at bound other room same xs (Err left) e = refl
text_bound_at bound other room same xs (Ok x) e =
    let long = character_in (suc room) xs x.0 x.1 (omega arith) e in
    ap (λ (r : Read ℕ). mapped (λ more. x.0 + more) r) (same (suc room - x.0) (omega (arith, long.0)) x.1)

pub text_bound : (bound other room : ℕ) → room ≤ bound → room ≤ other → (xs : List ℕ)
    → text_at bound room xs ≡ text_at other room xs
unfolding text_at
text_bound zero zero zero h k xs = refl
text_bound zero (suc other) zero h k xs = refl
text_bound (suc bound) zero zero h k xs = refl
text_bound (suc bound) (suc other) zero h k xs = refl
text_bound zero other (suc room) h k xs = absurd (omega (arith, h))
text_bound (suc bound) zero (suc room) h k xs = absurd (omega (arith, k))
text_bound (suc bound) (suc other) (suc room) h k xs =
    text_bound_at bound other room (λ left l ys. text_bound bound other left (omega (arith, l, h))
    (omega (arith, l, k)) ys) xs (character_at (suc room) xs) refl

pub text_step : (room left len : ℕ) (xs after : List ℕ) (total : Read ℕ) → 0 < left → left ≤ room
    → character_at left xs ≡ Ok (len, after)
    → mapped (λ k. room - left + k) (text_at left left xs) ≡ total
    → mapped (λ k. room - (left - len) + k) (text_at (left - len) (left - len) after) ≡ total
unfolding text_at
text_step room zero len xs after total some short read so_far = absurd (omega (arith, some))
text_step room (suc left) len xs after total some short read so_far =
    let long = character_in (suc left) xs len after (omega arith) read in
    ap (mapped (λ k. room - (suc left - len) + k))
    (text_bound (suc left - len) left (suc left - len) (omega arith) (omega (arith, long.0)) after)
    ∙ goes_on (λ len more. len + more) (character_at (suc left) xs) (λ len. text_at left (suc left - len.0) len.1)
    (λ k. room - suc left + k) (λ k. room - (suc left - len) + k)
    len after total read (λ k. omega (arith, long.1, short)) so_far

pub text_ends : (room left place : ℕ) (xs : List ℕ) (total : Read ℕ) → 0 < left → character_at left xs ≡ Err place
    → mapped (λ k. room - left + k) (text_at left left xs) ≡ total → total ≡ Err place
unfolding text_at
text_ends room zero place xs total some read so_far = absurd (omega (arith, some))
text_ends room (suc left) place xs total some read so_far =
    ends (λ len more. len + more) (character_at (suc left) xs) (λ len. text_at left (suc left - len.0) len.1)
    (λ k. room - suc left + k) place total read so_far

pub text_done : (room left : ℕ) (xs : List ℕ) (total : Read ℕ) → left ≤ 0
    → mapped (λ k. room - left + k) (text_at left left xs) ≡ total → total ≡ Ok (room, xs)
unfolding text_at
text_done room zero xs total none so_far = is_done (λ k. room - 0 + k) 0 room xs total (omega arith) so_far
text_done room (suc left) xs total none so_far = absurd (omega (arith, none))

-- ---- continuation bytes

pub continues_step : (count i least most b : ℕ) (xs after : List ℕ) (total : Read ℕ) → i < count
    → byte_at least most xs ≡ Ok (b, after)
    → mapped (λ k. i + k) (continuations_at (count - i) least most xs) ≡ total
    → mapped (λ k. i + 1 + k) (continuations_at (count - (i + 1)) 128 191 after) ≡ total
unfolding continuations_at
continues_step count i least most b xs after total lt read so_far =
    let n : count - i ≡ suc (count - (i + 1)) = omega (arith, lt) in
    goes_on (λ _ k. suc k) (byte_at least most xs) (λ b. continuations_at (count - (i + 1)) 128 191 b.1) (λ k. i + k)
    (λ k. i + 1 + k) b after total read (λ k. omega arith)
    (subst (λ (m : ℕ). mapped (λ k. i + k) (continuations_at m least most xs) ≡ total) n so_far)

pub continues_end : (count i least most left : ℕ) (xs : List ℕ) (total : Read ℕ) → i < count
    → byte_at least most xs ≡ Err left
    → mapped (λ k. i + k) (continuations_at (count - i) least most xs) ≡ total → total ≡ Err left
unfolding continuations_at
continues_end count i least most left xs total lt read so_far =
    let n : count - i ≡ suc (count - (i + 1)) = omega (arith, lt) in
    ends (λ _ k. suc k) (byte_at least most xs) (λ b. continuations_at (count - (i + 1)) 128 191 b.1)
    (λ k. i + k) left total read
    (subst (λ (m : ℕ). mapped (λ k. i + k) (continuations_at m least most xs) ≡ total) n so_far)

pub continues_done : (count i least most : ℕ) (xs : List ℕ) (total : Read ℕ) → count ≤ i → i ≤ count
    → mapped (λ k. i + k) (continuations_at (count - i) least most xs) ≡ total
    → total ≡ Ok (count, xs)
unfolding continuations_at
continues_done count i least most xs total le ge so_far =
    let n : count - i ≡ 0 = omega (arith, le) in
    is_done (λ k. i + k) 0 count xs total (omega (arith, le, ge))
    (subst (λ (m : ℕ). mapped (λ k. i + k) (continuations_at m least most xs) ≡ total) n so_far)

-- ---- lengths

byte_is : (low high : ℕ) (xs : List ℕ) (b : ℕ) (after : List ℕ) → byte_at low high xs ≡ Ok (b, after) → xs ≡ b ∷ after
byte_is low high xs b after read =
    let p = passing_sound (is_in_range low high) xs b after read in
    p.1 ∙ ap (λ (ys : List ℕ). ys ++ after) p.2.is

pub byte_range : (low high : ℕ) (xs : List ℕ) (b : ℕ) (after : List ℕ) → byte_at low high xs ≡ Ok (b, after)
    → InRange low high b
byte_range low high xs b after read =
    let p = passing_sound (is_in_range low high) xs b after read in
    let parts = and_parts (leb low b) (leb b high) p.2.passes in
    record { least = leb-true low b parts.0; most = leb-true b high parts.1 }

-- the item at a place, in front of those behind it
pub next_item : {A : Type 0} (items : List A) (i : ℕ) (a : A) (after : List A) → drop i items ≡ a ∷ after
    → (take (suc i) items ≡ take i items ++ a ∷ []) × (drop (suc i) items ≡ after) × (i < length items)
next_item items zero a after e = (rw e refl, rw e refl, rw e (omega arith))
next_item [] (suc i) a after e = absurd cc
next_item (b ∷ items) (suc i) a after e = let rest = next_item items i a after e in
    (ap (λ ys. b ∷ ys) rest.0, rest.1, omega (arith, rest.2))

pub character_done : (room b len least most : ℕ) (xs ys zs : List ℕ) → len ≡ character_len b → 0 < len
    → least ≡ second_least b → most ≡ second_most b
    → lead_at room xs ≡ Ok (b, ys) → continuations_at (len - 1) least most ys ≡ Ok (len - 1, zs)
    → character_at room xs ≡ Ok (len, zs)
unfolding character_at
character_done room b len least most xs ys zs len_is some least_is most_is first read =
    let behind : continuations_at (character_len b - 1) (second_least b) (second_most b) ys ≡ Ok (len - 1, zs) =
    rw (← len_is, ← least_is, ← most_is) read in
    ap (λ (r : Read ℕ). r >>= λ x. mapped suc
    (continuations_at (character_len x.0 - 1) (second_least x.0) (second_most x.0) x.1)) first
    ∙ ap (mapped suc) behind ∙ ap (λ n. ok (n, zs)) (omega (arith, some))

pub lengths_step : (items : List ℕ) (count i room l : ℕ) (after : List ℕ) (total : Read (List ℕ)) → i < count
    → byte_at 1 (room - (count - i - 1)) (drop i items) ≡ Ok (l, after)
    → mapped (λ ls. take i items ++ ls) (lengths_at (count - i) room (drop i items)) ≡ total
    → mapped (λ ls. take (i + 1) items ++ ls) (lengths_at (count - (i + 1)) (room - l) after) ≡ total
unfolding lengths_at
lengths_step items count i room l after total lt read so_far =
    let behind : ℕ = count - i - 1 in
    let n : count - i ≡ suc behind = omega (arith, lt) in
    let m : behind ≡ count - (i + 1) = omega (arith, lt) in
    let here = next_item items i l after (byte_is 1 (room - behind) (drop i items) l after read) in
    let front : take (i + 1) items ≡ take i items ++ l ∷ [] = ap (λ (k : ℕ). take k items) (add-one i) ∙ here.0 in
    let step = goes_on (λ l ls. l ∷ ls) (byte_at 1 (room - behind) (drop i items))
    (λ l. lengths_at behind (room - l.0) l.1) (λ ls. take i items ++ ls)
    (λ ls. take (i + 1) items ++ ls) l after total read
    (λ ls. sym (append_assoc (take i items) (l ∷ []) ls) ∙ ap (λ (ys : List ℕ). ys ++ ls) (sym front))
    (subst (λ (k : ℕ). mapped (λ ls. take i items ++ ls) (lengths_at k room (drop i items)) ≡ total) n so_far) in
    subst (λ (k : ℕ). mapped (λ ls. take (i + 1) items ++ ls) (lengths_at k (room - l) after) ≡ total) m step

pub lengths_end : (items : List ℕ) (count i room left : ℕ) (total : Read (List ℕ)) → i < count
    → byte_at 1 (room - (count - i - 1)) (drop i items) ≡ Err left
    → mapped (λ ls. take i items ++ ls) (lengths_at (count - i) room (drop i items)) ≡ total → total ≡ Err left
unfolding lengths_at
lengths_end items count i room left total lt read so_far =
    let behind : ℕ = count - i - 1 in
    let n : count - i ≡ suc behind = omega (arith, lt) in
    ends (λ l ls. l ∷ ls) (byte_at 1 (room - behind) (drop i items)) (λ l. lengths_at behind (room - l.0) l.1)
    (λ ls. take i items ++ ls) left total read
    (subst (λ (k : ℕ). mapped (λ ls. take i items ++ ls) (lengths_at k room (drop i items)) ≡ total) n so_far)

pub lengths_done : (items : List ℕ) (count i room : ℕ) (total : Read (List ℕ)) → count ≤ i → i ≤ count
    → mapped (λ ls. take i items ++ ls) (lengths_at (count - i) room (drop i items)) ≡ total
    → total ≡ Ok (take count items, drop i items)
unfolding lengths_at
lengths_done items count i room total le ge so_far =
    let n : count - i ≡ 0 = omega (arith, le) in
    let same : i ≡ count = omega (arith, le, ge) in
    is_done (λ ls. take i items ++ ls) [] (take count items) (drop i items) total
    (append-nil (take i items) ∙ ap (λ (k : ℕ). take k items) same)
    (subst (λ (k : ℕ). mapped (λ ls. take i items ++ ls) (lengths_at k room (drop i items)) ≡ total) n so_far)

-- what reading lengths says of them
pub lengths_in : (count : ℕ) (xs ls rest : List ℕ) → count ≤ 64 → lengths_at count 64 xs ≡ Ok (ls, rest)
    → Lengths count 64 ls
lengths_in count xs ls rest h read = to_lengths count 64 ls (((lengths_reads count 64 h).sound xs ls rest read).2.can)

-- the bytes behind a byte that was read, and its range
pub behind_byte : (items : List ℕ) (i low high b : ℕ) (after : List ℕ) → byte_at low high (drop i items) ≡ Ok (b, after)
    → (drop (i + 1) items ≡ after) × (i < length items) × InRange low high b
behind_byte items i low high b after read =
    let here = next_item items i b after (byte_is low high (drop i items) b after read) in
    (ap (λ (k : ℕ). drop k items) (add-one i) ∙ here.1, here.2, byte_range low high (drop i items) b after read)

-- ---- dependencies

pub deps_step : (own : DotValue) (vector : List ℕ) (n i known : ℕ) (xs after : List ℕ) (total : Read (List ℕ)) → i < n
    → length vector ≡ n
    → number_at (dep_least own (i + 1)) (dep_most own (i + 1)) xs ≡ Ok (known, after)
    → mapped (λ ds. take i vector ++ ds) (deps_at own (i + 1) (n - i) xs) ≡ total
    → mapped (λ ds. take (i + 1) (slice_set vector i known) ++ ds) (deps_at own (i + 1 + 1) (n - (i + 1)) after) ≡ total
unfolding deps_at
deps_step own vector n i known xs after total lt long read so_far =
    let behind : ℕ = n - (i + 1) in
    let m : n - i ≡ suc behind = omega (arith, lt) in
    let site : suc (i + 1) ≡ i + 1 + 1 = omega arith in
    let front : take (i + 1) (slice_set vector i known) ≡ take i vector ++ known ∷ [] =
    ap (λ (k : ℕ). take k (slice_set vector i known)) (add-one i)
    ∙ take-suc-set vector i known (omega (arith, lt, long)) in
    let step = goes_on (λ d ds. d ∷ ds) (number_at (dep_least own (i + 1)) (dep_most own (i + 1)) xs)
    (λ d. deps_at own (suc (i + 1)) behind d.1) (λ ds. take i vector ++ ds)
    (λ ds. take (i + 1) (slice_set vector i known) ++ ds) known after total read
    (λ ds. sym (append_assoc (take i vector) (known ∷ []) ds) ∙ ap (λ (ys : List ℕ). ys ++ ds) (sym front))
    (subst (λ (k : ℕ). mapped (λ ds. take i vector ++ ds) (deps_at own (i + 1) k xs) ≡ total) m so_far) in
    subst (λ (k : ℕ). mapped (λ ds. take (i + 1) (slice_set vector i known) ++ ds) (deps_at own k behind after) ≡ total)
    site step

pub deps_end : (own : DotValue) (vector : List ℕ) (n i left : ℕ) (xs : List ℕ) (total : Read (List ℕ)) → i < n
    → number_at (dep_least own (i + 1)) (dep_most own (i + 1)) xs ≡ Err left
    → mapped (λ ds. take i vector ++ ds) (deps_at own (i + 1) (n - i) xs) ≡ total → total ≡ Err left
unfolding deps_at
deps_end own vector n i left xs total lt read so_far =
    let behind : ℕ = n - (i + 1) in
    let m : n - i ≡ suc behind = omega (arith, lt) in
    ends (λ d ds. d ∷ ds) (number_at (dep_least own (i + 1)) (dep_most own (i + 1)) xs)
    (λ d. deps_at own (suc (i + 1)) behind d.1) (λ ds. take i vector ++ ds) left total read
    (subst (λ (k : ℕ). mapped (λ ds. take i vector ++ ds) (deps_at own (i + 1) k xs) ≡ total) m so_far)

pub deps_done : (own : DotValue) (vector : List ℕ) (n i : ℕ) (xs : List ℕ) (total : Read (List ℕ)) → n ≤ i
    → length vector ≡ n
    → mapped (λ ds. take i vector ++ ds) (deps_at own (i + 1) (n - i) xs) ≡ total → total ≡ Ok (vector, xs)
unfolding deps_at
deps_done own vector n i xs total le long so_far =
    let m : n - i ≡ 0 = omega (arith, le) in
    is_done (λ ds. take i vector ++ ds) [] vector xs total
    (append-nil (take i vector) ∙ take_all i vector (omega (arith, le, long)))
    (subst (λ (k : ℕ). mapped (λ ds. take i vector ++ ds) (deps_at own (i + 1) k xs) ≡ total) m so_far)

-- ---- one atom

-- the front is a text where one was read
pub record Taken (len : ℕ) (xs rest : List ℕ) : Type 0 where
  pub atom : AtomOf len (take len xs)
  pub read : atom_at len xs ≡ Ok (take len xs, rest)

pub text_taken : (len n : ℕ) (xs rest : List ℕ) → text_at len len xs ≡ Ok (n, rest) → Taken len xs rest
unfolding atom_at
text_taken len n xs rest read =
    let whole : atom_at len xs ≡ Ok (take len xs, rest) = ap (λ (r : Read ℕ). r >>= λ t. ok (take len xs, t.1)) read in
    let field = ((atom_reads len).sound xs (take len xs) rest whole).2 in
    record { atom = field.can; read = whole }

pub atom_end : (len left : ℕ) (xs : List ℕ) → text_at len len xs ≡ Err left → atom_at len xs ≡ Err left
unfolding atom_at
atom_end len left xs read = ap (λ (r : Read ℕ). r >>= λ t. ok (take len xs, t.1)) read

-- ---- atoms

-- what is left behind the atoms, or the fault, and not the atoms themselves
abbrev pub passed : Read (List (List ℕ)) → Read (List (List ℕ))
passed r = mapped (λ _. []) r

pub atoms_step : (lens : List ℕ) (i n : ℕ) (xs after : List ℕ) (total : Read (List (List ℕ))) → i < length lens
    → text_at (get_or lens i 0) (get_or lens i 0) xs ≡ Ok (n, after)
    → passed (atoms_at (drop i lens) xs) ≡ total → passed (atoms_at (drop (i + 1) lens) after) ≡ total
unfolding atoms_at
atoms_step lens i n xs after total lt read so_far =
    let len : ℕ = get_or lens i 0 in
    let step = goes_on (λ a more. a ∷ more) (atom_at len xs) (λ x. atoms_at (drop (suc i) lens) x.1) (λ _. []) (λ _. [])
    (take len xs) after total (text_taken len n xs after read).read (λ _. refl)
    (subst (λ (ls : List ℕ). passed (atoms_at ls xs) ≡ total) (drop-cons lens i 0 lt) so_far) in
    subst (λ (k : ℕ). passed (atoms_at (drop k lens) after) ≡ total) (sym (add-one i)) step

fault_again : (r : Read (List (List ℕ))) (left : ℕ) → passed r ≡ Err left → r ≡ Err left
fault_again (Ok x) left e = absurd cc
fault_again (Err k) left e = let same : k ≡ left = cc in rw same refl

pub atoms_end : (lens : List ℕ) (i left : ℕ) (xs : List ℕ) (all : Read (List (List ℕ))) → i < length lens
    → text_at (get_or lens i 0) (get_or lens i 0) xs ≡ Err left
    → passed (atoms_at (drop i lens) xs) ≡ passed all → all ≡ Err left
unfolding atoms_at
atoms_end lens i left xs all lt read so_far =
    let len : ℕ = get_or lens i 0 in
    fault_again all left (ends (λ a more. a ∷ more) (atom_at len xs) (λ x. atoms_at (drop (suc i) lens) x.1)
    (λ _. []) left (passed all) (atom_end len left xs read)
    (subst (λ (ls : List ℕ). passed (atoms_at ls xs) ≡ passed all) (drop-cons lens i 0 lt) so_far))

atoms_again : (r : Read (List (List ℕ))) (rest : List ℕ) → passed r ≡ Ok ([], rest)
    → (atoms : List (List ℕ)) × (r ≡ Ok (atoms, rest))
atoms_again (Ok x) rest e = let same : x.1 ≡ rest =
    ap (λ (y : List (List ℕ) × List ℕ). y.1) (ok_is ([], x.1) ([], rest) e) in (x.0, ap (λ ys. ok (x.0, ys)) same)
atoms_again (Err k) rest e = absurd cc

atoms_done : (lens : List ℕ) (i : ℕ) (xs : List ℕ) (all : Read (List (List ℕ))) → length lens ≤ i
    → passed (atoms_at (drop i lens) xs) ≡ passed all
    → (atoms : List (List ℕ)) × (all ≡ Ok (atoms, xs))
unfolding atoms_at
atoms_done lens i xs all end so_far =
    atoms_again all xs (is_done {A = List (List ℕ)} (λ _. []) [] [] xs (passed all) refl
    (subst (λ (ls : List ℕ). passed (atoms_at ls xs) ≡ passed all) (drop_all i lens end) so_far))

-- the bytes in front of the rest are those of the run that is read
pub record IsCut (lens xs front rest : List ℕ) : Type 0 where
  pub within : length rest ≤ length xs
  pub whole : sum lens ≡ length front
  pub run : IsRun (pieces lens front)
  pub read : atoms_at lens xs ≡ Ok (pieces lens front, rest)

pub atoms_cut : (lens : List ℕ) (i : ℕ) (xs rest : List ℕ) → length lens ≤ i → 0 < length lens → All (λ l. 1 ≤ l) lens
    → sum lens ≤ 64
    → passed (atoms_at (drop i lens) rest) ≡ passed (atoms_at lens xs)
    → IsCut lens xs (take (length xs - length rest) xs) rest
atoms_cut lens i xs rest end some each together so_far =
    let read = atoms_done lens i rest (atoms_at lens xs) end so_far in
    let atoms : List (List ℕ) = read.0 in
    let s = (atoms_reads lens).sound xs atoms rest read.1 in
    let long = ap length s.1 ∙ length-append s.0 rest in
    let front : take (length xs - length rest) xs ≡ s.0 = ap (take (length xs - length rest)) s.1
    ∙ take_at s.0 rest (length xs - length rest) (omega (arith, long)) in
    let lengths : map length atoms ≡ lens = (to_atoms lens atoms s.2.can).0 in
    let cut : pieces lens s.0 ≡ atoms = (λ j. pieces (sym lengths j) (s.2.is j)) ∙ pieces_again atoms in
    let size : sum lens ≡ length s.0 = ap sum (sym lengths) ∙ sym (length_concat atoms) ∙ ap length (sym s.2.is) in
    let run : IsRun atoms = run_from lens atoms s.2.can some (recursion_from_All (λ l. 1 ≤ l) lens each) together in
    let made : IsCut lens xs s.0 rest = record
    { within = omega (arith, long); whole = size; run = rw cut run; read = read.1 ∙ ap (λ a. ok (a, rest)) (sym cut) }
    in
    rw front made

-- pieces of ASCII are texts
ascii_texts : (lens bytes : List ℕ) → IsAscii bytes → AllByRecursion IsUtf8 (pieces lens bytes)
ascii_texts [] bytes ascii = tt
ascii_texts (len ∷ lens) bytes ascii = (
  IsUtf8-from_ascii (take len bytes) (IsAscii-take bytes len ascii),
  ascii_texts lens (drop len bytes) (IsAscii-drop bytes len ascii),
)

pub ascii_cut : (lens xs : List ℕ) (len : ℕ) → len ≡ sum lens → len ≤ length xs → IsAscii (take len xs)
    → 0 < length lens → All (λ l. 1 ≤ l) lens → sum lens ≤ 64
    → IsCut lens xs (take len xs) (drop len xs)
ascii_cut lens xs len len_is within ascii some each together =
    let front : List ℕ = take len xs in
    let atoms : List (List ℕ) = pieces lens front in
    let whole : sum lens ≡ length front = sym len_is ∙ sym (length-take-le len xs within) in
    let lengths : map length atoms ≡ lens = piece_lengths lens front whole in
    let read : AtomsFrom lens atoms = subst (λ (ls : List ℕ). AtomsFrom ls atoms) lengths
    (from_atoms atoms (ascii_texts lens front ascii)) in
    record {
      within = omega (arith, length-drop len xs);
      whole = whole;
      run = run_from lens atoms read some (recursion_from_All (λ l. 1 ≤ l) lens each) together;
      read = ap (atoms_at lens) (sym (take-append-drop len xs))
          ∙ (atoms_reads lens).again atoms front (drop len xs)
          (record { can = read; is = sym (piece_bytes lens front whole) });
    }

-- a letter is cut as it is
pub letter_cut : (b : ℕ) (xs : List ℕ) → b < 128 → IsCut (1 ∷ []) (b ∷ xs) (b ∷ []) xs
letter_cut b xs small =
    let ascii : IsAscii (b ∷ []) = IsAscii-cons b [] small IsAscii-nil in
    let each : All (λ l. 1 ≤ l) (1 ∷ []) = All-cons (λ l. 1 ≤ l) 1 [] (omega arith) (All-nil (λ l. 1 ≤ l)) in
    ascii_cut (1 ∷ []) (b ∷ xs) 1 refl (omega arith) ascii (omega arith) each (omega arith)

pub letter_read : (b : ℕ) (xs : List ℕ) → b < 128
    → run_at Two (1 ∷ 1 ∷ b ∷ xs) ≡ Ok (pieces (1 ∷ []) (b ∷ []), xs)
unfolding run_at lengths_at
letter_read b xs small = (letter_cut b xs small).read

-- what begins with a run of one letter
pub letter_begins : (xs : List ℕ) → 3 ≤ length xs → get_or xs 0 0 ≡ 1 → get_or xs 1 0 ≡ 1
    → xs ≡ 1 ∷ 1 ∷ get_or xs 2 0 ∷ take (length xs - 3) (drop 3 xs)
letter_begins [] l e f = absurd (omega arith)
letter_begins (x ∷ []) l e f = absurd (omega arith)
letter_begins (x ∷ y ∷ []) l e f = absurd (omega arith)
letter_begins (x ∷ y ∷ z ∷ rest) l e f =
    let whole : take (length (x ∷ y ∷ z ∷ rest) - 3) rest ≡ rest = take_all (length (x ∷ y ∷ z ∷ rest) - 3) rest
    (omega arith) in
    λ i. e i ∷ f i ∷ z ∷ sym whole i

-- the value of an answer that is Ok
pub ok_value : {A E : Type 0} (r : Result A E) (o : Option A) (u v : A) → o ≡ result_ok r → r ≡ Ok v → o ≡ Some u
    → v ≡ u
ok_value {A} {E} r o u v value made unwrapped =
    let all : Some v ≡ Some u = ap (result_ok {E = E}) (sym made) ∙ sym value ∙ unwrapped in cc
