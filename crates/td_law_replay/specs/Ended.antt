-- What the end of a replay shows: the consistent family whose entries these are.
use Rattle.std.specs.Prelude.{◌≡◌, ◌<◌, ◌≤◌, ◌++◌, List, ℕ, length, map}
use Rattle.td_base.specs.Lists.{In}
use Rattle.td_op.specs.declared.message.Message.TheVariants.{Vote as AVote}
use Rattle.td_op.specs.declared.vote.Vote.{Vote}
use Rattle.td_machine.specs.Machine.{Machine}
use Rattle.td_machine.specs.History.{History, Family, IsConsistent, history, machine, machine_after}
use Rattle.td_trace.specs.declared.entry.TraceEntry.{TraceEntry}
use Rattle.td_trace.specs.declared.told_input.ToldInput.TheVariants.{TookVote}
use Rattle.td_trace.specs.Entries.{traced_history, traced_family}
use Rattle.td_law_replay.specs.Traced.{site_entries, AreInRange}
use Rattle.td_law_replay.specs.Judging.{outline_of, SiteState, States}
use Rattle.td_law_replay.specs.Replay.{Reaches, AllDone}

-- each vote that an entry takes was sent by its voter, one of the sites
abbrev pub VotesWereSent : List (List TraceEntry) → States → Type 0
VotesWereSent all states =
    (site : ℕ) → 0 < site → site ≤ length all → (e : TraceEntry) → In e (site_entries all site) → (v : Vote)
    → e.told ≡ TookVote v → (v.voter ≤ length all) × In (AVote v) (states v.voter).machine.sent

-- the entries can be replayed to the end
pub record IsReplayed (all : List (List TraceEntry)) : Type 0 where
  pub are : AreInRange all
  pub states : States
  pub reaches : Reaches all states
  pub over : AllDone all states
  pub votes : VotesWereSent all states

-- the entries are those of a consistent family
pub record IsConsistentTrace (all : List (List TraceEntry)) : Type 0 where
  pub family : Family
  pub consistent : IsConsistent family
  pub is : traced_family family ≡ all

-- the machine with outlines of what waits
abbrev pub outlined : Machine → Machine
outlined m = record m { waiting = map outline_of m.waiting }

-- the entries are those of this consistent family, and the machines are those that it ends with
pub record IsReplayOf (family : Family) (all : List (List TraceEntry)) (states : States) : Type 0 where
  pub consistent : IsConsistent family
  pub is : traced_family family ≡ all
  pub machines : (site : ℕ) → 0 < site → site ≤ length all
      → (states site).machine ≡ outlined (machine family site)

-- the site is behind a front of its history, with what is told of the rest left
pub record IsBehind (family : Family) (site : ℕ) (state : SiteState) : Type 0 where
  pub front : History
  pub back : History
  pub splits : history family site ≡ front ++ back
  pub left : state.left ≡ traced_history back
  pub machine_is : state.machine ≡ outlined (machine_after family site front)
