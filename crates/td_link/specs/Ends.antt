-- What contracts see of the two ends of a link.
use Rattle.std.specs.Prelude.{◌≡◌, ℕ, List, Option, Some}
use Rattle.atomic_table.specs.Seated.{TableId}

-- the end that sends
pub record TxValue (T M : Type 0) : Type 0 where
  -- which link it is an end of
  pub link : TableId
  -- how many items the queue can hold
  pub cap : ℕ
  -- the mark of the link: of every end that is made it is Some
  pub mark : Option M
  -- the items sent, the first first
  pub sent : List T

-- the end that takes
pub record RxValue (T M : Type 0) : Type 0 where
  pub link : TableId
  pub cap : ℕ
  pub mark : Option M
  -- the items taken, the first first
  pub taken : List T

-- the item fits the mark
abbrev pub FitsMark : {T M : Type 0} → (M → T → Type 0) → Option M → T → Type 0
FitsMark {M = M} fits mark item = (m : M) → mark ≡ Some m → fits m item
