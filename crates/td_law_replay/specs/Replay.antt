-- The replay: sites side by side, of which one after another does its next entry, in whatever order.
use Rattle.std.specs.Prelude.{◌≡◌, ◌<◌, ◌≤◌, List, [], ◌∷◌, ℕ, length, if◌then◌else◌, ◌==◌}
use Rattle.td_machine.specs.Taking.{Stepped}
use Rattle.td_trace.specs.declared.entry.TraceEntry.{TraceEntry}
use Rattle.td_law_replay.specs.Replies.{NotUnfit}
use Rattle.td_law_replay.specs.Judging.{SiteState, States, begin, Steps, judge}

abbrev pub put : States → ℕ → SiteState → States
put states site state other = if other == site then state else states other

-- the next entry of a site is done: its reply is that of the machine, and nothing unfit came
pub record Goes (all : List (List TraceEntry)) (states new : States) : Type 0 where
  pub site : ℕ
  pub some : 0 < site
  pub within : site ≤ length all
  pub entry : TraceEntry
  pub rest : List TraceEntry
  pub next : (states site).left ≡ entry ∷ rest
  pub to : Stepped
  pub judged : judge all states site (states site).machine entry.told entry.reply ≡ Steps to
  pub reply : to.reply ≡ entry.reply
  pub fit : NotUnfit entry.reply
  pub is : new ≡ put states site (record { machine = to.machine; left = rest })

-- the states that a replay passes
pub data Reaches (all : List (List TraceEntry)) : States → Type 0 where
  Begun : Reaches all (begin all)
  Then : {old new : States} → Reaches all old → Goes all old new → Reaches all new

-- from these states the replay went on to those
pub data GoesOnTo (all : List (List TraceEntry)) : States → States → Type 0 where
  Stays : {states : States} → GoesOnTo all states states
  Further : {old new last : States} → Goes all old new → GoesOnTo all new last → GoesOnTo all old last

-- no entry is left
abbrev pub AllDone : List (List TraceEntry) → States → Type 0
AllDone all states = (site : ℕ) → 0 < site → site ≤ length all → (states site).left ≡ []
