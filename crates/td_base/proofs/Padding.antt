-- Bytes at the front of an array, with zeros behind them.
use Rattle.std.proofs.Common.{◌≡◌, ◌≤◌, ◌-◌, ℕ, List, length, take, replicate, refl, sym, ap, arith, length-append}
use Rattle.std.proofs.lemmas.List.{length-replicate, take_at}
use Rattle.td_base.specs.Padded.{IsPadded, padded_with_zeros}

pub front_again : (room : ℕ) (bytes : List ℕ) → take (length bytes) (padded_with_zeros room bytes) ≡ bytes
front_again room bytes = take_at bytes _ _ refl

pub padded : (room : ℕ) (bytes : List ℕ) → length bytes ≤ room
    → IsPadded room (length bytes) (padded_with_zeros room bytes)
padded room bytes short =
    record {
      short = short;
      whole = omega (
        arith,
        length-append bytes (replicate (room - length bytes) 0),
        length-replicate {A = ℕ} (room - length bytes) 0,
      );
      zeros = ap (padded_with_zeros room) (sym (front_again room bytes));
    }
