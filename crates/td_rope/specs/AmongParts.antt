-- Where an atom is among parts that stand one after another.
use Rattle.std.specs.Prelude.{◌≡◌, ◌+◌, ◌<◌, ◌≤◌, ℕ, List, length, take, get_or}
use Rattle.std.specs.List.{flat_map}

-- the k-th is the r-th of a part, or stands behind the last of it
pub record IsAmongParts {S X : Type 0} (f : S → List X) (parts : List S) (k part r : ℕ) : Type 0 where
  pub part_within : part < length parts
  pub before : length (flat_map f (take part parts)) + r ≡ k
  pub index : (d : S) → r ≤ length (f (get_or parts part d))
  pub within : k < length (flat_map f parts) → (d : S) → r < length (f (get_or parts part d))
