-- Runs in an array of bytes are read as they were stored, whatever stands behind them.
use Rattle.std.proofs.Common.{◌≡◌, ◌≤◌, ◌+◌, ◌-◌, ◌*◌, ◌++◌, ◌∷◌, [], ℕ, List, length, map, take, drop, get_or}
use Rattle.std.proofs.Common.{refl, sym, ap, ◌∙◌, subst, arith, length-append, length-drop}
use Rattle.std.specs.Prelude.{sum}
use Rattle.std.specs.List.{All, concat}
use Rattle.std.proofs.lemmas.List.{append_assoc, append-nil, take_at, take_all, drop_at}
use Rattle.std.proofs.lemmas.List.{drop-append-le, length-map, map-append}
use Rattle.std.proofs.lemmas.List.Elements.{All-tail, All-push}
use Rattle.td_base.specs.Run.{IsRun, pieces}
use Rattle.td_base.specs.declared.run.TheConstants.{MAX_RUN_LEN}
use Rattle.td_base.proofs.RunPieces.{count_within, length_concat, pieces_in_front, pieces_again}
use Rattle.td_store.specs.declared.runs.TheConstants.{MAX_STORED_LEN}
use Rattle.td_store.specs.RunsParts.{stored_bytes, stored_run, BeginsWithRun, runs_at, AreRunsParts}

-- ---- one run

-- the parts of what begins with a run: the lengths of its atoms, and their bytes
record HasParts (run : List (List ℕ)) (rest bytes : List ℕ) : Type 0 where
  pub lengths : take (get_or bytes 0 0) (drop 1 bytes) ≡ map length run
  pub atoms : drop (get_or bytes 0 0) (drop 1 bytes) ≡ concat run ++ rest

parts_of : (run : List (List ℕ)) (rest bytes : List ℕ) → bytes ≡ stored_bytes run ++ rest → HasParts run rest bytes
parts_of run rest bytes is =
    let behind : (map length run ++ concat run) ++ rest ≡ map length run
    ++ (concat run ++ rest) = append_assoc (map length run) (concat run) rest in
    record {
      lengths = rw (is, behind) (take_at (map length run) (concat run ++ rest) (length run) (length-map run length));
      atoms = rw (is, behind) (drop_at (map length run) (concat run ++ rest) (length run) (length-map run length));
    }

-- what is read of them
pub record IsRead (run : List (List ℕ)) (lengths atoms : List ℕ) : Type 0 where
  pub few : length lengths ≤ MAX_RUN_LEN
  pub within : sum lengths ≤ length atoms
  pub whole : sum lengths ≡ length (take (sum lengths) atoms)
  pub again : pieces lengths (take (sum lengths) atoms) ≡ run

read_parts : (run : List (List ℕ)) (rest lengths atoms : List ℕ) → IsRun run → lengths ≡ map length run → atoms
    ≡ concat run ++ rest → IsRead run lengths atoms
read_parts run rest lengths atoms is_run is_lengths is_atoms =
    let size : sum lengths ≡ length (concat run) = ap sum is_lengths ∙ sym (length_concat run) in
    let piece : take (sum lengths) atoms ≡ concat run =
    rw (size, is_atoms) (take_at (concat run) rest (length (concat run)) refl) in
    let long = ap length is_atoms ∙ length-append (concat run) rest in
    let count : length lengths ≡ length run = ap length is_lengths ∙ length-map run length in
    record {
      few = omega (arith, count, count_within run is_run.each, is_run.short);
      within = omega (arith, size, long);
      whole = size ∙ sym (ap length piece);
      again = rw (piece, is_lengths) (pieces_again run);
    }

pub is_read : (bytes lengths atoms : List ℕ) → BeginsWithRun bytes → lengths
    ≡ take (get_or bytes 0 0) (take (length bytes - 1) (drop 1 bytes))
    → atoms ≡ drop (get_or bytes 0 0) (take (length bytes - 1) (drop 1 bytes)) → IsRead (stored_run bytes) lengths atoms
is_read bytes lengths atoms begins front back =
    let behind : take (length bytes - 1) (drop 1 bytes)
    ≡ drop 1 bytes = take_all (length bytes - 1) (drop 1 bytes) (omega (arith, length-drop 1 bytes)) in
    let parts = parts_of (stored_run bytes) begins.rest bytes begins.is in
    read_parts (stored_run bytes) begins.rest lengths atoms begins.run (rw behind at front ∙ parts.lengths)
    (rw behind at back ∙ parts.atoms)

-- a run as it was stored, with more behind it
stored_again : (run : List (List ℕ)) (rest : List ℕ) → stored_run (stored_bytes run ++ rest) ≡ run
stored_again run rest =
    let parts = parts_of run rest (stored_bytes run ++ rest) refl in
    let lengths : take (length run) ((map length run ++ concat run) ++ rest) ≡ map length run = parts.lengths in
    let atoms : drop (length run) ((map length run ++ concat run) ++ rest) ≡ concat run ++ rest = parts.atoms in
    rw (lengths, atoms) (pieces_in_front run rest)

-- a run is stored in so many bytes at most
pub stored_short : (run : List (List ℕ)) → IsRun run → length (stored_bytes run) ≤ MAX_STORED_LEN
stored_short run is =
    omega (
      arith,
      length-append (map length run) (concat run),
      length-map run length,
      count_within run is.each,
      is.short,
    )

-- ---- more bytes

begins_stored : (run : List (List ℕ)) (rest bytes : List ℕ) → IsRun run → bytes ≡ stored_bytes run ++ rest
    → BeginsWithRun bytes × (stored_run bytes ≡ run)
begins_stored run rest bytes is_run is =
    let same : stored_run bytes ≡ run = ap stored_run is ∙ stored_again run rest in
    (record { run = subst IsRun (sym same) is_run; rest = rest; is = rw same is }, same)

begins_more : (start : ℕ) (bytes more : List ℕ) → BeginsWithRun (drop start bytes)
    → BeginsWithRun (drop start (bytes ++ more)) × (stored_run (drop start (bytes ++ more))
    ≡ stored_run (drop start bytes))
begins_more start bytes more begins =
    let run : List (List ℕ) = stored_run (drop start bytes) in
    let within : start ≤ length bytes = omega (arith, ap length begins.is, length-drop start bytes) in
    let is : drop start (bytes ++ more) ≡ stored_bytes run ++ (begins.rest ++ more) =
    drop-append-le start bytes more within ∙ ap (λ (bs : List ℕ). bs ++ more) begins.is
    ∙ append_assoc (stored_bytes run) begins.rest more in
    begins_stored run (begins.rest ++ more) (drop start (bytes ++ more)) begins.run is

all_more : (bytes more starts : List ℕ) → All (λ start. BeginsWithRun (drop start bytes)) starts
    → All (λ start. BeginsWithRun (drop start (bytes ++ more))) starts
all_more bytes more starts runs = λ k d l. (begins_more (get_or starts k d) bytes more (runs k d l)).0

runs_more : (bytes more starts : List ℕ) → All (λ start. BeginsWithRun (drop start bytes)) starts
    → runs_at (bytes ++ more) starts ≡ runs_at bytes starts
runs_more bytes more [] runs = refl
runs_more bytes more (start ∷ starts) runs =
    let first = (begins_more start bytes more (runs 0 0 (omega arith))).1 in
    let rest = runs_more bytes more starts (All-tail (λ start. BeginsWithRun (drop start bytes)) start starts runs) in
    λ i. first i ∷ rest i

-- ---- one run more

-- what is kept and seen after a push
pub record IsPushed (bytes starts : List ℕ) (before : List (List (List ℕ))) (run : List (List ℕ))
    (room bytes_capacity starts_capacity : ℕ) : Type 0 where
  pub parts : AreRunsParts bytes starts room bytes_capacity starts_capacity
  pub runs : runs_at bytes starts ≡ before ++ run ∷ []

pub pushed : (bytes starts now_bytes now_starts : List ℕ) (run : List (List ℕ))
    (room bytes_capacity starts_capacity now_bytes_capacity now_starts_capacity : ℕ)
    → AreRunsParts bytes starts room bytes_capacity starts_capacity → IsRun run → 1 ≤ room
    → bytes_capacity ≤ now_bytes_capacity → starts_capacity ≤ now_starts_capacity
    → now_bytes ≡ bytes ++ stored_bytes run → now_starts ≡ starts ++ length bytes ∷ []
    → IsPushed now_bytes now_starts (runs_at bytes starts) run (room - 1) now_bytes_capacity now_starts_capacity
pushed bytes starts now_bytes now_starts run room bytes_capacity starts_capacity now_bytes_capacity
    now_starts_capacity parts is some wide long is_bytes is_starts =
    let new_bytes : List ℕ = bytes ++ stored_bytes run in
    let at_end : drop (length bytes) new_bytes ≡ stored_bytes run
    ++ [] = rw append-nil (drop_at bytes (stored_bytes run) (length bytes) refl) in
    let last = begins_stored run [] (drop (length bytes) new_bytes) is at_end in
    let size = length-append bytes (stored_bytes run) in
    let count = length-append starts (length bytes ∷ []) in
    let short = stored_short run is in
    let left : (room - 1) * MAX_STORED_LEN + MAX_STORED_LEN ≡ room * MAX_STORED_LEN = omega (arith, some) in
    rw (is_bytes, is_starts) (record {
      parts = record {
        runs = All-push (λ start. BeginsWithRun (drop start new_bytes)) starts (length bytes)
            (all_more bytes (stored_bytes run) starts parts.runs) last.0;
        few = omega (arith, size, count, parts.few);
        bytes_room = omega (arith, size, short, left, parts.bytes_room, wide);
        starts_room = omega (arith, count, some, parts.starts_room, long);
        places = omega (arith, size, short, left, parts.places);
      };
      runs = map-append (λ (start : ℕ). stored_run (drop start new_bytes)) starts (length bytes ∷ [])
          ∙ (λ i. runs_more bytes (stored_bytes run) starts parts.runs i ++ last.1 i ∷ []);
    })
