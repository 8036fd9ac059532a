-- The room that entries have in what keeps them.
use Rattle.std.specs.Prelude.{◌<◌, ◌≤◌, ◌+◌, ◌^◌, ℕ}

pub record AreEntriesParts (entries_room aside_room room : ℕ) : Type 0 where
  pub entries : room ≤ entries_room
  pub aside : room ≤ aside_room

pub record AreAsideParts (wholes_len wholes_capacity texts_room offered_len offered_capacity room : ℕ) : Type 0 where
  pub wholes_room : wholes_len + room ≤ wholes_capacity
  pub wholes_few : wholes_len + room < 2 ^ 32
  pub texts : room ≤ texts_room
  pub offered_room : offered_len + room ≤ offered_capacity
  pub offered_few : offered_len + room < 2 ^ 32
