-- How an `OwnOps` keeps what a site made.
use Rattle.std.specs.Prelude.{◌≡◌, ◌≤◌, ◌+◌, ◌-◌, ◌==◌, ℕ, zero, suc, List, length, Bool, false, Option, Some, None}
use Rattle.std.specs.Prelude.{if◌then◌else◌, slice_get}
use Rattle.td_base.specs.declared.dot.TheConstants.{MAX_SEQ}
use Rattle.td_clock.specs.Vector.{vector_get}
use Rattle.td_law_replay.specs.Counting.{raised}
use Rattle.td_law_replay.specs.Counting.{in_vector}
use Rattle.td_seat.specs.declared.own_ops.OwnOps.{OwnOps}

-- the numbers v are what a site, of n, has made and used, and `told` what each of its operations depends on. It is
-- kept whole as long as no number passes MAX_SEQ
pub record AreOwnParts (site n : ℕ) (v : List ℕ) (told : ℕ → Option (List ℕ))
    (own : ℕ) (have : List ℕ) (is_past : Bool) (deps : List (List ℕ)) : Type 0 where
  pub of_site : own ≡ site
  pub some : 1 ≤ site
  pub within : site ≤ n
  pub size : length have ≡ n
  pub had : in_vector v ≡ (if is_past then None else Some have)
  pub few : length deps ≤ vector_get v site
  pub all : is_past ≡ false → length deps ≡ vector_get v site
  pub each : (q : ℕ) → 1 ≤ q → q ≤ MAX_SEQ → slice_get deps (q - 1) ≡ told q

abbrev pub AreOwnOps : ℕ → ℕ → List ℕ → (ℕ → Option (List ℕ)) → OwnOps → Type 0
AreOwnOps site n v told ops = AreOwnParts site n v told ops.site ops.have ops.is_past ops.deps.rows

-- one more is made, which depends on all that is had
abbrev pub with_one : ℕ → List ℕ → (ℕ → Option (List ℕ)) → ℕ → Option (List ℕ)
with_one site v told q = if q == vector_get v site + 1 then in_vector v else told q

-- so many more are made
abbrev pub with_more : ℕ → ℕ → List ℕ → (ℕ → Option (List ℕ)) → ℕ → Option (List ℕ)
with_more site zero v told q = told q
with_more site (suc k) v told q = with_one site (raised site k v) (with_more site k v told) q
