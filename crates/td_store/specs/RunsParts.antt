-- How `Runs` keeps its runs: one after another in an array of bytes, each as the number of its atoms, their lengths
-- and their bytes, and the place where each begins.
use Rattle.std.specs.Prelude.{◌≡◌, ◌≤◌, ◌<◌, ◌+◌, ◌*◌, ◌^◌, ◌++◌, ℕ, List, [], ◌∷◌, length, map, take, drop, All}
use Rattle.std.specs.List.{concat}
use Rattle.td_base.specs.Run.{IsRun, pieces}
use Rattle.td_store.specs.declared.runs.TheConstants.{MAX_STORED_LEN}

-- a run as it is stored
abbrev pub stored_bytes : List (List ℕ) → List ℕ
stored_bytes run = length run ∷ map length run ++ concat run

-- the run that the bytes begin with
abbrev pub stored_run : List ℕ → List (List ℕ)
stored_run [] = []
stored_run (count ∷ bytes) = pieces (take count bytes) (drop count bytes)

-- the bytes begin with a run as it is stored
pub record BeginsWithRun (bytes : List ℕ) : Type 0 where
  pub run : IsRun (stored_run bytes)
  pub rest : List ℕ
  pub is : bytes ≡ stored_bytes (stored_run bytes) ++ rest

-- the runs at these places
abbrev pub runs_at : List ℕ → List ℕ → List (List (List ℕ))
runs_at bytes starts = map (λ (start : ℕ). stored_run (drop start bytes)) starts

-- there is a run at each place, and room for so many more of the greatest length
pub record AreRunsParts (bytes starts : List ℕ) (room bytes_capacity starts_capacity : ℕ) : Type 0 where
  pub runs : All (λ start. BeginsWithRun (drop start bytes)) starts
  pub few : length starts ≤ length bytes
  pub bytes_room : length bytes + room * MAX_STORED_LEN ≤ bytes_capacity
  pub starts_room : length starts + room ≤ starts_capacity
  pub places : length bytes + room * MAX_STORED_LEN < 2 ^ 32
