-- Histories, and the families of histories that messages between sites can have made.
use Rattle.std.specs.Prelude.{◌≡◌, ◌≢◌, ◌<◌, ◌≤◌, ◌-◌, ◌++◌, ℕ, zero, suc, List, [], ◌∷◌, length}
use Rattle.td_base.specs.declared.site.TheConstants.{MAX_SITE}
use Rattle.td_base.specs.Lists.{In}
use Rattle.td_clock.specs.Vector.{vector_get}
use Rattle.td_op.specs.declared.entry.Entry.{Entry}
use Rattle.td_op.specs.declared.input.Input.TheVariants.{Take}
use Rattle.td_op.specs.declared.message.Message.{Message}
use Rattle.td_op.specs.declared.message.Message.TheVariants.{Op, Vote}
use Rattle.td_op.specs.Message.{sender}
use Rattle.td_op.specs.Op.{OpValue}
use Rattle.td_op.specs.Input.{IsInput}
use Rattle.td_machine.specs.Machine.{Machine, start, made}
use Rattle.td_machine.specs.Step.{step}

-- a history is a list of entries, the oldest first
abbrev pub History : Type 0
History = List Entry

-- the machine after the entries
abbrev pub after : Machine → History → Machine
after m [] = m
after m (e ∷ entries) = after (step m e.input).machine entries

-- the inputs are values of their types (so no message has a dot of site 0), and the replies are those of the machine
abbrev pub IsLegalFrom : Machine → History → Type 0
IsLegalFrom m [] = Unit {0}
IsLegalFrom m (e ∷ entries) =
    IsInput e.input × ((step m e.input).reply ≡ e.reply) × IsLegalFrom (step m e.input).machine entries

abbrev pub IsLegal : ℕ → ℕ → History → Type 0
IsLegal site size entries = IsLegalFrom (start site size) entries

-- the machine is that of a site after a legal history of its own, whatever other sites did
pub record IsReached (m : Machine) : Type 0 where
  pub site : ℕ
  pub size : ℕ
  pub some : 0 < site
  pub within : site ≤ size
  pub few : size ≤ MAX_SITE
  pub entries : History
  pub legal : IsLegal site size entries
  pub is : m ≡ after (start site size) entries

-- a history for each site, that of site s at place s - 1. Sites are numbered from 1, and 0 names none: as 0 - 1 is 0
-- it would have the history of site 1, so what is said of each site of a family is asked of those from 1 on
abbrev pub Family : Type 0
Family = List History

abbrev pub history_at : Family → ℕ → History
history_at [] k = []
history_at (h ∷ family) zero = h
history_at (h ∷ family) (suc k) = history_at family k

abbrev pub history : Family → ℕ → History
history family site = history_at family (site - 1)

-- the machine of a site after the first of its entries
abbrev pub machine_after : Family → ℕ → History → Machine
machine_after family site entries = after (start site (length family)) entries

abbrev pub machine : Family → ℕ → Machine
machine family site = machine_after family site (history family site)

-- the operations that a site has made or taken, the newest first
abbrev pub log_of : Family → ℕ → List OpValue
log_of family site = (machine family site).log

-- a moment of the family: one of its sites, after a front of its history
pub record Moment (family : Family) : Type 0 where
  pub site : ℕ
  pub some : 0 < site
  pub within : site ≤ length family
  pub front : History
  pub back : History
  pub splits : history family site ≡ front ++ back

-- the machine of its site then
abbrev pub machine_at : (family : Family) → Moment family → Machine
machine_at family t = machine_after family t.site t.front

-- one legal history for each of 1 to 64 sites
pub record IsFamily (family : Family) : Type 0 where
  pub some : 0 < length family
  pub few : length family ≤ MAX_SITE
  pub legal : (site : ℕ) → 0 < site → site ≤ length family
      → IsLegal site (length family) (history family site)

-- what is sent to one site alone is sent to this one
abbrev pub IsAddressed : ℕ → Message → Type 0
IsAddressed site (Op x) = Unit {0}
IsAddressed site (Vote v) = v.proposal.site ≡ site

-- how many operations of the site the message names: those that its sender knew, or those up to the proposal
abbrev pub known_of : ℕ → Message → ℕ
known_of site (Op x) = vector_get x.deps site
known_of site (Vote v) = v.proposal.seq

-- the message may come to this site when its machine is as given
pub record MayCome (family : Family) (site : ℕ) (m : Machine) (message : Message) : Type 0 where
  -- another site sent it
  pub another : sender message ≢ site
  pub sent : In message (machine family (sender message)).sent
  pub addressed : IsAddressed site message
  -- the site has made each own operation that it names
  pub own_made : known_of site message ≤ made m

-- a family in which each message that a site takes may come to it. Nothing is said of the order in time between sites
pub record IsConsistent (family : Family) : Type 0 where
  pub legal : IsFamily family
  pub takes : (site : ℕ) (front : History) (e : Entry) (back : History) (message : Message)
      → 0 < site → site ≤ length family → history family site ≡ front ++ e ∷ back → e.input ≡ Take message
      → MayCome family site (machine_after family site front) message

-- the family after one more entry at a site
abbrev pub with_entry_at : ℕ → Entry → Family → Family
with_entry_at k e [] = []
with_entry_at zero e (h ∷ family) = (h ++ e ∷ []) ∷ family
with_entry_at (suc k) e (h ∷ family) = h ∷ with_entry_at k e family

abbrev pub with_entry : Family → ℕ → Entry → Family
with_entry family site e = with_entry_at (site - 1) e family

-- an operation of the family: a site made or took it
pub record IsOpOf (family : Family) (x : OpValue) : Type 0 where
  pub site : ℕ
  pub some : 0 < site
  pub within : site ≤ length family
  pub inside : In x (log_of family site)
