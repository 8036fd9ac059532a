-- The state of a machine: what a replica of one site is, as plain lists.
use Rattle.std.specs.Prelude.{ℕ, List, [], ◌+◌, replicate}
use Rattle.td_base.specs.Value.{DotValue}
use Rattle.td_clock.specs.Vector.{vector_get}
use Rattle.td_op.specs.declared.message.Message.{Message}
use Rattle.td_op.specs.declared.body.Body.{Body}
use Rattle.td_op.specs.Op.{OpValue}
use Rattle.td_doc.specs.Document.{DocRow}
use Rattle.td_machine.specs.Hold.{Hold}
use Rattle.td_machine.specs.Decision.{Ballot, count_open}

pub record Machine : Type 0 where
  pub site : ℕ
  -- the number of sites
  pub size : ℕ
  pub doc : List DocRow
  -- how many operations of each site were made or taken
  pub have : List ℕ
  -- those operations, the newest first
  pub log : List OpValue
  -- operations that came before others that they depend on, in the order of their dots
  pub waiting : List OpValue
  pub holds : List Hold
  -- the own proposals
  pub ballots : List Ballot
  -- in the order of sending
  pub sent : List Message

-- the machine of a site at the beginning
abbrev pub start : ℕ → ℕ → Machine
start site size =
    record {
      site = site;
      size = size;
      doc = [];
      have = replicate size 0;
      log = [];
      waiting = [];
      holds = [];
      ballots = [];
      sent = [];
    }

-- the number of operations made at this site
abbrev pub made : Machine → ℕ
made m = vector_get m.have m.site

-- the number of own proposals without a decision
abbrev pub undecided : Machine → ℕ
undecided m = count_open m.ballots

-- the dot of the next operation made here
abbrev pub next_dot : Machine → DotValue
next_dot m = record { site = m.site; seq = made m + 1 }

-- that operation
abbrev pub next_op : Machine → Body → OpValue
next_op m body = record { dot = next_dot m; deps = m.have; body = body }
