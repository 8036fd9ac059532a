-- The operations of a log by their site: what an index has of a dot, and what its calls make of it.
use Rattle.std.specs.Prelude.{◌≡◌, ◌≤◌, ◌-◌, ℕ, zero, suc, Bool, true, false, List, [], ◌∷◌, ◌++◌, length}
use Rattle.std.specs.Prelude.{Option, Some, None, reverse, slice_index_or, slice_set}
use Rattle.std.specs.List.{slice_get, AllZip}
use Rattle.td_base.specs.Value.{DotValue}
use Rattle.td_op.specs.declared.body.Body.{Body}
use Rattle.td_op.specs.declared.body.Body.TheVariants.{Insert, Delete, Propose, Commit, Abort}
use Rattle.td_op.specs.Op.{OpValue}
use Rattle.td_machine.specs.Counts.{ops_of}
use Rattle.td_history.specs.declared.index.Logged.{Logged}

-- sites and numbers are from 1
pub record IsFromOne (d : DotValue) : Type 0 where
  pub site : 1 ≤ d.site
  pub seq : 1 ≤ d.seq

-- the list of a site
abbrev pub list_of : ℕ → List (List Logged) → List Logged
list_of site lists = slice_index_or lists (site - 1) []

abbrev pub logged_at : DotValue → List (List Logged) → Option Logged
logged_at dot lists = slice_get (list_of dot.site lists) (dot.seq - 1)

abbrev pub last_of : List Logged → Option Logged
last_of list = slice_get list (length list - 1)

-- with one more at the end of the list of a site
abbrev pub with_logged : ℕ → ℕ → List (List Logged) → List (List Logged)
with_logged site number lists =
    slice_set lists (site - 1) (list_of site lists ++ record { number = number; decided = None } ∷ [])

-- with a decision of the one at a place
abbrev pub decided_in : ℕ → Bool → List Logged → List Logged
decided_in i said [] = []
decided_in zero said (l ∷ list) = record l { decided = Some said } ∷ list
decided_in (suc i) said (l ∷ list) = l ∷ decided_in i said list

abbrev pub with_decided : DotValue → Bool → List (List Logged) → List (List Logged)
with_decided dot said lists = slice_set lists (dot.site - 1) (decided_in (dot.seq - 1) said (list_of dot.site lists))

-- with what a body decides
abbrev pub with_decision : Body → List (List Logged) → List (List Logged)
with_decision (Commit proposal) lists = with_decided proposal true lists
with_decision (Abort proposal) lists = with_decided proposal false lists
with_decision (Insert slot run) lists = lists
with_decision (Delete target) lists = lists
with_decision (Propose slot) lists = lists

-- it stands for the operation, and has what was decided of it
pub record IsLoggedAs (ops : List OpValue) (decision_of : DotValue → Option Bool) (l : Logged)
    (x : OpValue) : Type 0 where
  pub number : slice_get ops l.number ≡ Some x
  pub decided : l.decided ≡ decision_of x.dot

-- the list of each of n sites has its operations of the log, the oldest first
pub record IsIndex (n : ℕ) (ops : List OpValue) (decision_of : DotValue → Option Bool)
    (lists : List (List Logged)) (log : List OpValue) : Type 0 where
  pub size : length lists ≡ n
  pub each : (site : ℕ) → 1 ≤ site → site ≤ n
      → AllZip (IsLoggedAs ops decision_of) (list_of site lists) (reverse (ops_of site log))
