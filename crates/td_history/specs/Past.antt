-- What contracts see of a history: what a replica keeps of its past, and what each call makes of it.
use Rattle.std.specs.Prelude.{◌≡◌, ℕ, ◌+◌, ◌-◌, Bool, List, [], ◌∷◌, ◌++◌, length, Option, Some, None, IfSome, IsSome}
use Rattle.std.specs.List.{slice_get}
use Rattle.std.specs.Option.{IsNone}
use Rattle.td_base.specs.Value.{DotValue}
use Rattle.td_op.specs.declared.body.Body.{Body}
use Rattle.td_op.specs.declared.body.Body.TheVariants.{Insert, Delete, Propose, Commit, Abort}
use Rattle.td_op.specs.declared.entry.Entry.{Entry}
use Rattle.td_op.specs.declared.input.Input.{Input}
use Rattle.td_op.specs.declared.input.Input.TheVariants.{Local, Take, Next}
use Rattle.td_op.specs.declared.message.Message.{Message}
use Rattle.td_op.specs.declared.message.Message.TheVariants.{Op, Vote as AVote}
use Rattle.td_op.specs.declared.reply.Reply.{Reply}
use Rattle.td_op.specs.Op.{OpValue}
use Rattle.td_machine.specs.Counts.{ops_of}
use Rattle.td_machine.specs.Log.{proposed_slot, decision}
use Rattle.td_history.specs.Texts.{run_at, run_asked}

pub record Past : Type 0 where
  -- its own site, and the number of sites
  pub site : ℕ
  pub size : ℕ
  -- the operations kept, by their numbers from 0
  pub ops : List OpValue
  -- those made or taken, the newest first
  pub log : List OpValue
  -- in the order of sending
  pub sent : List Message
  -- the oldest first
  pub entries : List Entry
  -- how many more things can be noted without memory, and the site of which operations can be
  pub room : ℕ
  pub room_site : ℕ

-- one is the other but for the room
pub record IsAsBefore (old new : Past) : Type 0 where
  pub site : new.site ≡ old.site
  pub size : new.size ≡ old.size
  pub ops : new.ops ≡ old.ops
  pub log : new.log ≡ old.log
  pub sent : new.sent ≡ old.sent
  pub entries : new.entries ≡ old.entries

-- the history of a site at the beginning
abbrev pub empty_past : ℕ → ℕ → Past
empty_past site size =
    record {
      site = site;
      size = size;
      ops = [];
      log = [];
      sent = [];
      entries = [];
      room = 0;
      room_site = site;
    }

-- an operation is kept under the next number
abbrev pub kept : OpValue → Past → Past
kept x p = record p { ops = p.ops ++ x ∷ []; room = p.room - 1 }

-- one that was kept comes into the log
abbrev pub resumed : OpValue → Past → Past
resumed x p = record p { log = x ∷ p.log; room = p.room - 1 }

-- both at once
abbrev pub with_taken : OpValue → Past → Past
with_taken x p = record p { ops = p.ops ++ x ∷ []; log = x ∷ p.log; room = p.room - 1 }

-- and it is sent
abbrev pub with_made : OpValue → Past → Past
with_made x p =
    record p { ops = p.ops ++ x ∷ []; log = x ∷ p.log; sent = p.sent ++ Op x ∷ []; room = p.room - 1 }

abbrev pub voted : DotValue → Bool → Past → Past
voted proposal answer p =
    record p {
      sent = p.sent ++ AVote (record { proposal = proposal; voter = p.site; yes = answer }) ∷ [];
      room = p.room - 1;
    }

abbrev pub entered : Input → Reply → Past → Past
entered input reply p =
    record p { entries = p.entries ++ record { input = input; reply = reply } ∷ []; room = p.room - 1 }

-- the proposal that a body decides
abbrev pub decided_by : Body → Option DotValue
decided_by (Commit proposal) = Some proposal
decided_by (Abort proposal) = Some proposal
decided_by (Insert slot run) = None
decided_by (Delete target) = None
decided_by (Propose slot) = None

-- the log has the proposal, and no decision of it
pub record IsUndecided (log : List OpValue) (p : DotValue) : Type 0 where
  pub proposed : IsSome (proposed_slot p log)
  pub undecided : IsNone (decision p log)

-- for so many sites, the operation may be the next one of this site in the log
pub record IsNextIn (size site : ℕ) (log : List OpValue) (x : OpValue) : Type 0 where
  pub deps : length x.deps ≡ size
  pub own : x.dot.site ≡ site
  pub next : x.dot.seq ≡ length (ops_of x.dot.site log) + 1
  pub decides : IfSome (decided_by x.body) (IsUndecided log)

-- an operation that is taken with an entry is the one of that number, and one that is made has the text of its request
abbrev pub IsDoneAs : List OpValue → Input → ℕ → Type 0
IsDoneAs ops (Take (Op x)) k = slice_get ops k ≡ Some x
IsDoneAs ops (Take (AVote v)) k = Unit {0}
IsDoneAs ops (Local request) k = IfSome (run_asked request) (λ text. run_at ops k ≡ Some text)
IsDoneAs ops Next k = Unit {0}
