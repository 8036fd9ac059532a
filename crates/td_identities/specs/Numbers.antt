-- Numbers one after another, and the identities that have them.
use Rattle.std.specs.Prelude.{◌+◌, ◌-◌, ℕ, Bool, ◌&&◌, nat_le, nat_lt, if◌then◌else◌, Option, Some, None}
use Rattle.td_base.specs.Value.{AtomIdValue}
use Rattle.td_base.specs.Equality.{same_dot}

-- so many numbers, from the first on
pub record NumbersValue : Type 0 where
  pub first : ℕ
  pub count : ℕ

abbrev pub no_numbers : NumbersValue
no_numbers = record { first = 0; count = 0 }

-- the number at a place
abbrev pub nth : NumbersValue → ℕ → Option ℕ
nth n place = if nat_lt place n.count then Some (n.first + place) else None

-- whether x is one of so many identities of one insert, from the identity on
abbrev pub is_in_run : AtomIdValue → ℕ → AtomIdValue → Bool
is_in_run id count x = same_dot id.dot x.dot && (nat_le id.offset x.offset && nat_lt (x.offset - id.offset) count)

-- the number of x, where the identities from one on get these numbers, and x had that number or none before
abbrev pub with_run : AtomIdValue → NumbersValue → AtomIdValue → Option ℕ → Option ℕ
with_run id n x number = if is_in_run id n.count x then Some (n.first + (x.offset - id.offset)) else number
