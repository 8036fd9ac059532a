-- How a `Log` keeps its operations: each once, and the log by their numbers.
use Rattle.std.specs.Prelude.{◌≡◌, ◌≤◌, ◌+◌, ℕ, List, [], ◌∷◌, length, Some, reverse, IfSome}
use Rattle.std.specs.List.{slice_get, filter_map}
use Rattle.td_base.specs.Value.{DotValue}
use Rattle.td_op.specs.Op.{OpValue}
use Rattle.td_machine.specs.Counts.{ops_of}
use Rattle.td_machine.specs.Log.{decision}
use Rattle.td_store.specs.Lists.{OpsValue}
use Rattle.td_history.specs.declared.index.Logged.{Logged}
use Rattle.td_history.specs.Past.{decided_by, IsUndecided}
use Rattle.td_history.specs.Standing.{StandFor}
use Rattle.td_history.specs.IndexValue.{IndexValue}
use Rattle.td_history.specs.Ramps.{RampsValue}
use Rattle.td_history.specs.Index.{IsIndex}

-- the operations of these numbers, the oldest number first
abbrev pub log_of : List OpValue → List ℕ → List OpValue
log_of ops numbers = reverse (filter_map (slice_get ops) numbers)

-- the operation is one of n sites, the next of its site, and decides what may be decided
pub record IsNextOf (n : ℕ) (log : List OpValue) (x : OpValue) : Type 0 where
  pub some : 1 ≤ x.dot.site
  pub within : x.dot.site ≤ n
  pub next : x.dot.seq ≡ length (ops_of x.dot.site log) + 1
  pub decides : IfSome (decided_by x.body) (IsUndecided log)

-- each operation of the log was the next one when it came
abbrev pub IsOrderly : ℕ → List OpValue → Type 0
IsOrderly n [] = Unit {0}
IsOrderly n (x ∷ log) = IsNextOf n log x × IsOrderly n log

-- the numbers and the index are those of the log
pub record IsLog (n : ℕ) (ops : List OpValue) (numbers : List ℕ) (lists : List (List Logged))
    (log : List OpValue) : Type 0 where
  pub standing : StandFor (slice_get ops) numbers (reverse log)
  pub orderly : IsOrderly n log
  pub index : IsIndex n ops (λ (d : DotValue). decision d log) lists log

-- the index has the operation of the log with this dot
pub record IsFoundAs (ops log : List OpValue) (d : DotValue) (l : Logged) (x : OpValue) : Type 0 where
  pub number : slice_get ops l.number ≡ Some x
  pub decided : l.decided ≡ decision d log

-- the parts are those of a log with room for so many more operations
pub record IsLogParts (n : ℕ) (ops : OpsValue) (numbers : RampsValue ℕ) (index : IndexValue) (room : ℕ) : Type 0 where
  pub log : IsLog n ops.ops numbers.items index.lists (log_of ops.ops numbers.items)
  pub size : ops.size ≡ n
  pub site : index.room_site ≤ n
  pub ops_room : room ≤ ops.room
  pub numbers_room : room ≤ numbers.room
  pub index_room : room ≤ index.room
