-- Logs of a family, and what an operation met in the log in which it was made.
use Rattle.std.specs.Prelude.{◌≡◌, ◌<◌, ◌≤◌, ◌++◌, ℕ, zero, suc, List, [], ◌∷◌, length, Option, None, if◌then◌else◌}
use Rattle.td_base.specs.Value.{DotValue}
use Rattle.td_path.specs.declared.slot.Slot.{Slot}
use Rattle.td_op.specs.declared.body.Body.{Body}
use Rattle.td_op.specs.declared.body.Body.TheVariants.{Insert, Delete, Propose, Commit, Abort}
use Rattle.td_op.specs.Op.{OpValue}
use Rattle.td_base.specs.Equality.{same_dot}
use Rattle.td_machine.specs.Log.{proposed_slot}
use Rattle.td_machine.specs.History.{Family, log_of, IsOpOf}

-- ---- logs

-- a log of a site, after so many of its operations
pub record IsLogOf (family : Family) (log : List OpValue) : Type 0 where
  pub site : ℕ
  pub some : 0 < site
  pub within : site ≤ length family
  pub newer : List OpValue
  pub is : log_of family site ≡ newer ++ log

-- no site has the number 0
abbrev pub log_at : Family → ℕ → List OpValue
log_at family zero = []
log_at family (suc site) = log_of family (suc site)

-- the operation with this dot and all that is older
abbrev pub since : DotValue → List OpValue → List OpValue
since d [] = []
since d (x ∷ log) = if same_dot x.dot d then x ∷ log else since d log

-- what is older than the operation with this dot
abbrev pub before : DotValue → List OpValue → List OpValue
before d [] = []
before d (x ∷ log) = if same_dot x.dot d then log else before d log

-- the dot of the operation; of a commit, that of its proposal
abbrev pub origin : DotValue → Body → DotValue
origin d (Insert slot run) = d
origin d (Delete target) = d
origin d (Propose slot) = d
origin d (Commit p) = p
origin d (Abort p) = d

-- the log in which an operation was made; of a commit, that in which its proposal was made
abbrev pub base_from : Family → DotValue → List OpValue
base_from family d = before d (log_at family d.site)

abbrev pub base : Family → OpValue → List OpValue
base family o = base_from family (origin o.dot o.body)

-- ---- slots

-- the slot that a commit flattens, as its proposal's site knows it
abbrev pub slot_by : Family → Body → Option Slot
slot_by family (Insert slot run) = None
slot_by family (Delete target) = None
slot_by family (Propose slot) = None
slot_by family (Commit p) = proposed_slot p (log_at family p.site)
slot_by family (Abort p) = None

abbrev pub slot_of : Family → OpValue → Option Slot
slot_of family c = slot_by family c.body

-- the commit of a proposal, with its slot
pub record IsCommit (family : Family) (c q : OpValue) (slot : Slot) : Type 0 where
  pub inside : IsOpOf family c
  pub proposed : IsOpOf family q
  pub asks : q.body ≡ Propose slot
  pub is : c.body ≡ Commit q.dot
