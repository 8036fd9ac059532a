-- What a chunk keeps, with its size.
use Rattle.std.proofs.Common.{◌≡◌, ◌<◌, ◌≤◌, ◌+◌, ◌-◌, ◌^◌, ◌++◌, ◌∷◌, [], ℕ, suc, List, length, map, take, drop}
use Rattle.std.proofs.Common.{get_or, sum, sym, ap, subst, ◌∙◌, arith}
use Rattle.std.specs.Prelude.{slice_range, remove}
use Rattle.std.specs.List.{All, concat, insert_slice}
use Rattle.std.proofs.lemmas.List.{take-append-drop}
use Rattle.std.proofs.lemmas.List.Elements.{All-cons, All-drop, All-nil, All-take}
use Rattle.std.proofs.lemmas.List.Sums.{sum_by_more}
use Rattle.std.proofs.Math.Seq.{drop-cons}
use Rattle.td_base.specs.Atom.{IsAtom}
use Rattle.td_base.specs.Run.{pieces}
use Rattle.td_rope.specs.ChunkParts.{IsChunk, IsChunkParts}
use Rattle.td_rope.specs.Sizes.{IsPartOf, IsSize, IsSmall, minus, plus}
use Rattle.td_rope.specs.declared.size.Size.{Size}
use Rattle.td_rope.proofs.Joined.{length_put}
use Rattle.td_rope.proofs.Pieces.{count_pieces, one_atom, parts_without, put_parts, start_is, stretch_bytes}
use Rattle.td_rope.proofs.Pieces.{stretch_parts}
use Rattle.td_rope.proofs.Sizes.{part_size, size_with, size_without, small}

-- ---- a run is put

pub put_small : (atoms run : List (List ℕ)) (i : ℕ) (s t : Size) → i ≤ length atoms → IsSize atoms s → IsSize run t
    → length atoms + length run < 2 ^ 32 → IsSmall (plus s t)
put_small atoms run i s t within whole more few =
    small (insert_slice atoms i run) (plus s t) (size_with atoms run i s t within whole more)
    (omega (arith, few, length_put atoms run i within))

pub put_chunk : (lens bytes lens' bytes' : List ℕ) (run : List (List ℕ)) (i a : ℕ) (s t : Size) → IsChunk lens bytes s
    → length (pieces lens bytes) + length run < 2 ^ 32 → i ≤ length (pieces lens bytes)
    → a ≡ length (concat (take i (pieces lens bytes)))
    → lens' ≡ insert_slice lens i (map length run) → bytes' ≡ insert_slice bytes a (concat run) → IsSize run t
    → IsChunk lens' bytes' (plus s t)
put_chunk lens bytes lens' bytes' run i a s t chunk few le a_is lens_are bytes_are more =
    let done = put_parts lens bytes lens' bytes' run i a chunk.parts more.each few le a_is lens_are bytes_are in
    record {
      parts = done.0;
      size_is = subst (λ (atoms : List (List ℕ)). IsSize atoms (plus s t)) (sym done.1)
          (size_with (pieces lens bytes) run i s t le chunk.size_is more);
    }

-- ---- an atom is taken out

-- the atom at a place
pub one_is : (atoms : List (List ℕ)) (i : ℕ) → All IsAtom atoms → i < length atoms
    → All IsAtom (get_or atoms i [] ∷ [])
one_is atoms i each lt = All-cons IsAtom (get_or atoms i []) [] (each i [] lt) (All-nil IsAtom)

parted_at : (atoms : List (List ℕ)) (i : ℕ) → i < length atoms
    → atoms ≡ take i atoms ++ ((get_or atoms i [] ∷ []) ++ drop (suc i) atoms)
parted_at atoms i lt = sym (take-append-drop i atoms)
    ∙ ap (λ (rest : List (List ℕ)). take i atoms ++ rest) (drop-cons atoms i [] lt)

pub one_within : (atoms : List (List ℕ)) (i : ℕ) (s t : Size) → i < length atoms → IsSize atoms s
    → IsSize (get_or atoms i [] ∷ []) t → IsPartOf s t
one_within atoms i s t lt whole one =
    part_size atoms (take i atoms) (get_or atoms i [] ∷ []) (drop (suc i) atoms) s t (parted_at atoms i lt) whole one

-- its bytes
pub one_bytes : (lens bytes : List ℕ) (i a b : ℕ) → sum lens ≡ length bytes → i < length (pieces lens bytes)
    → a ≡ length (concat (take i (pieces lens bytes))) → b ≡ length (concat (take (i + 1) (pieces lens bytes)))
    → slice_range bytes a b ≡ get_or (pieces lens bytes) i []
one_bytes lens bytes i a b whole lt a_is b_is =
    stretch_bytes lens bytes i (i + 1) a b whole (omega arith) a_is b_is ∙ one_atom (pieces lens bytes) i lt

pub chunk_without : (lens bytes lens' bytes' : List ℕ) (i a b : ℕ) (s t : Size) → IsChunk lens bytes s
    → i < length (pieces lens bytes)
    → a ≡ length (concat (take i (pieces lens bytes))) → b ≡ length (concat (take (i + 1) (pieces lens bytes)))
    → lens' ≡ remove lens i → bytes' ≡ take a bytes ++ drop b bytes → IsSize (get_or (pieces lens bytes) i [] ∷ []) t
    → IsChunk lens' bytes' (minus s t)
chunk_without lens bytes lens' bytes' i a b s t chunk lt a_is b_is lens_are bytes_are one =
    let atoms : List (List ℕ) = pieces lens bytes in
    let done = parts_without lens bytes lens' bytes' i a b chunk.parts lt a_is b_is lens_are bytes_are in
    record {
      parts = done.0;
      size_is = subst (λ (atoms : List (List ℕ)). IsSize atoms (minus s t)) (sym done.1)
          (size_without atoms (take i atoms) (get_or atoms i [] ∷ []) (drop (suc i) atoms) s t (parted_at atoms i lt)
          chunk.size_is one);
    }

-- ---- a stretch

pub all_between : (atoms : List (List ℕ)) (from to : ℕ) → All IsAtom atoms → All IsAtom (slice_range atoms from to)
all_between atoms from to each = All-take IsAtom (to - from) (drop from atoms) (All-drop IsAtom from atoms each)

pub stretch_chunk : (lens bytes lens' bytes' : List ℕ) (from to : ℕ) (t : Size) → IsChunkParts lens bytes
    → lens' ≡ slice_range lens from to → bytes' ≡ concat (slice_range (pieces lens bytes) from to)
    → IsSize (slice_range (pieces lens bytes) from to) t → IsChunk lens' bytes' t
stretch_chunk lens bytes lens' bytes' from to t parts lens_are bytes_are size =
    let done = stretch_parts lens bytes lens' bytes' from to parts lens_are bytes_are in
    record {
      parts = done.0;
      size_is = subst (λ (atoms : List (List ℕ)). IsSize atoms t) (sym done.1) size;
    }

-- ---- one after another

-- the next one is cut off behind those before it
pub next_end : (lens : List ℕ) (i a len : ℕ) → i < length lens → a ≡ sum (take i lens) → len ≡ get_or lens i 0
    → a + len ≡ sum (take (i + 1) lens)
next_end lens i a len lt a_is len_is = omega (arith, a_is, len_is, sum_by_more (λ (n : ℕ). n) lens i 0 lt)

pub next_bytes : (lens bytes : List ℕ) (i a b : ℕ) → sum lens ≡ length bytes → i < length lens → a ≡ sum (take i lens)
    → b ≡ sum (take (i + 1) lens) → slice_range bytes a b ≡ get_or (pieces lens bytes) i []
next_bytes lens bytes i a b whole lt a_is b_is =
    one_bytes lens bytes i a b whole (omega (arith, lt, count_pieces lens bytes))
    (a_is ∙ start_is lens bytes i whole) (b_is ∙ start_is lens bytes (i + 1) whole)
