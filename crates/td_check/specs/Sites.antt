-- The replay of a trace as it is kept, and what the next entry of a site comes to in it.
use Rattle.std.specs.Prelude.{◌≡◌, ◌≢◌, ◌⊎◌, ◌<◌, ◌-◌, ◌+◌, ℕ, List, Option, Some, None, get_or, slice_set}
use Rattle.td_machine.specs.Machine.{Machine}
use Rattle.td_machine.specs.Taking.{Stepped}
use Rattle.td_op.specs.declared.reply.Reply.{Reply}
use Rattle.td_trace.specs.declared.entry.TraceEntry.{TraceEntry}
use Rattle.td_reader.specs.Values.{TraceValue}
use Rattle.td_law_replay.specs.Judging.{States, Judgement, Lost, Waits, Steps}
use Rattle.td_law_replay.specs.Replay.{Reaches}
use Rattle.td_law_replay.specs.Replies.{NotUnfit}
use Rattle.td_law_replay.specs.Rounds.{GoesAt, Rests, IsLostAt, IsWrongAt}
use Rattle.td_check.specs.States.{machine_in, done_in, states_in, left_in}
use Rattle.td_check.specs.declared.judged.Judged.{Judged}
use Rattle.td_check.specs.declared.judged.Judged.TheVariants as judged

pub record ReplayValue : Type 0 where
  pub trace : TraceValue
  -- the machine of each site, and how many of its entries it has done, those of site s at place s - 1
  pub machines : List Machine
  pub done : List ℕ

abbrev pub histories_of : ReplayValue → List (List TraceEntry)
histories_of r = r.trace.histories

abbrev pub machine_of : ReplayValue → ℕ → Machine
machine_of r site = machine_in (histories_of r) r.machines site

abbrev pub done_of : ReplayValue → ℕ → ℕ
done_of r site = done_in r.done site

-- how far the sites are
abbrev pub states_of : ReplayValue → States
states_of r = states_in (histories_of r) r.machines r.done

-- they are where a replay comes
abbrev pub IsReplaying : ReplayValue → Type 0
IsReplaying r = Reaches (histories_of r) (states_of r)

-- ---- an entry

-- what the judgement of an entry with this reply comes to, with the machine of its site before and after
abbrev pub IsJudged : Judgement → Reply → Judged → Machine → Machine → Type 0
IsJudged j reply judged.Lost m n = j ≡ Lost
IsJudged j reply judged.Waits m n = (j ≡ Waits) × (n ≡ m)
IsJudged j reply judged.Wrong m n = (to : Stepped) × (j ≡ Steps to) × ((to.reply ≢ reply) ⊎ (NotUnfit reply → ⊥))
IsJudged j reply judged.Done m n = (to : Stepped) × (j ≡ Steps to) × (to.reply ≡ reply) × NotUnfit reply × (n
    ≡ to.machine)

-- what it comes to among the machines of all sites, that of site s at place s - 1 (d stands where there is none)
abbrev pub IsJudgedIn : Machine → ℕ → Judgement → Reply → Judged → List Machine → List Machine → Type 0
IsJudgedIn d site j reply judged old new =
    IsJudged j reply judged (get_or old (site - 1) d) (get_or new (site - 1) d)
    × (new ≡ slice_set old (site - 1) (get_or new (site - 1) d))

-- what the judgement of an entry of a site comes to, in the whole replay
abbrev pub IsJudgedAt : ℕ → Judgement → Reply → Judged → ReplayValue → ReplayValue → Type 0
IsJudgedAt site j reply d old new =
    IsJudged j reply d (machine_of old site) (machine_of new site)
    × (new ≡ record old { machines = slice_set old.machines (site - 1) (machine_of new site) })

-- the next entry of a site was done
pub record HasDone (site : ℕ) (old new : ReplayValue) : Type 0 where
  pub trace : new.trace ≡ old.trace
  pub goes : GoesAt (histories_of old) site (states_of old) (states_of new)
  pub fewer : left_in (histories_of old) new.done + 1 ≡ left_in (histories_of old) old.done
  pub here : done_of new site ≡ done_of old site + 1
  pub others : (other : ℕ) → 0 < other → other ≢ site → done_of new other ≡ done_of old other

-- no entry more was done
pub record HasStopped (old new : ReplayValue) : Type 0 where
  pub trace : new.trace ≡ old.trace
  pub done : new.done ≡ old.done

-- what the next entry of a site comes to; None where there is none
abbrev pub NextComesTo : ℕ → ReplayValue → Option Judged → ReplayValue → Type 0
NextComesTo site old None new = Rests (histories_of old) site (states_of old) × (new ≡ old)
NextComesTo site old (Some judged.Lost) new =
    ((entry : TraceEntry) × IsLostAt (histories_of old) site (states_of old) entry) × HasStopped old new
NextComesTo site old (Some judged.Waits) new = Rests (histories_of old) site (states_of old) × (new ≡ old)
NextComesTo site old (Some judged.Wrong) new =
    ((entry : TraceEntry) × IsWrongAt (histories_of old) site (states_of old) entry) × HasStopped old new
NextComesTo site old (Some judged.Done) new = HasDone site old new
