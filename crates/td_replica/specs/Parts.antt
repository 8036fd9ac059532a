-- The parts of a replica, as contracts see them: its machine, and what is kept beside it.
use Rattle.std.specs.Prelude.{◌≡◌, ◌<◌, ◌≤◌, ◌++◌, ◌∷◌, ◌-◌, ℕ, List, [], length, true}
use Rattle.std.specs.Prelude.{slice_get, Option, Some, None, IfSome, IsSome}
use Rattle.td_base.specs.Value.{DotValue}
use Rattle.td_base.specs.Lists.{In}
use Rattle.td_path.specs.declared.slot.Slot.{Slot}
use Rattle.td_op.specs.declared.body.Body.{Body}
use Rattle.td_op.specs.declared.body.Body.TheVariants.{Insert, Delete, Propose, Commit, Abort}
use Rattle.td_op.specs.declared.entry.Entry.{Entry}
use Rattle.td_op.specs.declared.message.Message.TheVariants.{Op as AnOp}
use Rattle.td_op.specs.Op.{OpValue}
use Rattle.td_clock.specs.Vector.{vector_bump}
use Rattle.td_doc.specs.Answers.{is_rooted}
use Rattle.td_doc.specs.Document.{DocRow}
use Rattle.td_doc.specs.Slots.{slot_path}
use Rattle.td_machine.specs.Counts.{counts, IsInTurn}
use Rattle.td_machine.specs.Hold.{Hold}
use Rattle.td_machine.specs.Log.{Committed, commit_at, commits, committed, proposed_slot}
use Rattle.td_machine.specs.Machine.{Machine}
use Rattle.td_machine.specs.Making.{effect, holds_after, send}
use Rattle.td_machine.specs.Decision.{Ballot}
use Rattle.td_causal.specs.Waiting.{Numbers, ops_waiting, put_in_order, AreStored}
use Rattle.td_machine.specs.Taking.{keep_waiting}
use Rattle.td_vote.specs.ByPlace.{AreInPlace, AreHeldApart, AreSame, IsFree}
use Rattle.td_vote.specs.Commits.{in_order, put_commit}
use Rattle.td_vote.specs.Holds.{HoldsValue}
use Rattle.td_coord.specs.Tally.{TallyValue}
use Rattle.td_history.specs.Past.{Past, with_made, with_taken, resumed}
use Rattle.td_replica.specs.declared.state.Origin.{Origin}
use Rattle.td_replica.specs.declared.state.Origin.TheVariants.{Here, There, Waiting as Waited}

-- what can be noted without memory: so many things, of operations of one site; holds, commits and own proposals
pub record Room : Type 0 where
  pub things : ℕ
  pub site : ℕ
  pub holds : ℕ
  pub commits : ℕ
  pub ballots : ℕ

pub record StateValue : Type 0 where
  pub machine : Machine
  -- the history, the oldest entry first
  pub entries : List Entry
  -- the operations by their numbers
  pub ops : List OpValue
  -- what waits, by the numbers of its operations
  pub waiting : Numbers
  pub room : Room

abbrev pub machine_of : ℕ → List DocRow → List ℕ → Numbers → HoldsValue → TallyValue → Past → Machine
machine_of site rows have waiting holds tally past =
    record {
      site = site;
      size = length have;
      doc = rows;
      have = have;
      log = past.log;
      waiting = ops_waiting past.ops waiting;
      holds = holds.holds;
      ballots = tally.ballots;
      sent = past.sent;
    }

abbrev pub room_of : HoldsValue → TallyValue → Past → Room
room_of holds tally past =
    record {
      things = past.room;
      site = past.room_site;
      holds = holds.hold_places;
      commits = holds.commit_places;
      ballots = tally.places;
    }

abbrev pub state_of : ℕ → List DocRow → List ℕ → Numbers → HoldsValue → TallyValue → Past → StateValue
state_of site rows have waiting holds tally past =
    record {
      machine = machine_of site rows have waiting holds tally past;
      entries = past.entries;
      ops = past.ops;
      waiting = waiting;
      room = room_of holds tally past;
    }

-- the commits of the log name proposals of the log
abbrev pub CommitsNamed : List OpValue → Type 0
CommitsNamed log =
    (x : OpValue) → (In x log) → IfSome (committed x.body) (λ p. IsSome (proposed_slot p log))

-- the holds by place are those of the replica, in the order of their places
pub record AreKept (rows : List DocRow) (holds : HoldsValue) : Type 0 where
  pub same : AreSame holds.by_place holds.holds
  pub order : AreInPlace rows holds.by_place

-- the atoms of held slots stay where they are
abbrev pub KeepsSlots : List DocRow → List DocRow → List Hold → Type 0
KeepsSlots rows after holds = (h : Hold) → In h holds → slot_path after h.slot ≡ slot_path rows h.slot

-- a slot that may be held: it is the root or at a row, and overlaps no other
pub record MayHold (rows : List DocRow) (slot : Slot) (holds : List Hold) : Type 0 where
  pub apart : AreHeldApart rows holds
  pub rooted : is_rooted rows slot ≡ true
  pub free : IsFree rows slot holds

pub record IsState (site : ℕ) (rows : List DocRow) (have : List ℕ) (waiting : Numbers) (holds : HoldsValue)
    (tally : TallyValue) (past : Past) : Type 0 where
  pub some : 0 < site
  pub within : site ≤ length have
  pub past_site : past.site ≡ site
  pub past_size : past.size ≡ length have
  pub own : tally.own ≡ site
  pub tally_size : tally.size ≡ length have
  -- the vector counts the log, whose operations came in their turn
  pub counted : have ≡ counts (length have) past.log
  pub in_turn : IsInTurn (length have) past.log
  -- the commits are those of the log
  pub commits : holds.commits ≡ in_order (commits past.log)
  pub kept : AreKept rows holds
  pub named : CommitsNamed past.log
  -- what waits is stored by its number
  pub stored : AreStored (length have) past.ops waiting

-- the commits with one more, where its slot is told
abbrev pub commits_with : DotValue → Option Slot → List Committed → List Committed
commits_with dot None commits = commits
commits_with dot (Some slot) commits = put_commit (commit_at dot slot) commits

-- one is the other but for the room
pub record IsAsBefore (old new : StateValue) : Type 0 where
  pub machine : new.machine ≡ old.machine
  pub entries : new.entries ≡ old.entries
  pub ops : new.ops ≡ old.ops
  pub waiting : new.waiting ≡ old.waiting

-- room for all that one step may note, of operations of the site
pub record HasRoomFor (site : ℕ) (room : Room) : Type 0 where
  pub things : 8 ≤ room.things
  pub of_site : room.site ≡ site
  pub hold : 1 ≤ room.holds
  pub commit : 1 ≤ room.commits
  pub ballot : 1 ≤ room.ballots

-- the machine with the document changed as the operation changes it
abbrev pub with_effect : OpValue → Machine → Machine
with_effect x m = record m { doc = effect m.log x.dot x.body m.doc }

-- and all else that an operation does, but to the document and the ballots
abbrev pub with_note : Origin → OpValue → Machine → Machine
with_note Here x m =
    send (AnOp x)
    (record m { have = vector_bump m.have x.dot.site; log = x ∷ m.log; holds = holds_after x.body m.holds })
with_note There x m =
    record m { have = vector_bump m.have x.dot.site; log = x ∷ m.log; holds = holds_after x.body m.holds }
with_note (Waited number) x m =
    record m { have = vector_bump m.have x.dot.site; log = x ∷ m.log; holds = holds_after x.body m.holds }

-- the operations stored afterwards
abbrev pub ops_with : Origin → OpValue → List OpValue → List OpValue
ops_with Here x ops = ops ++ x ∷ []
ops_with There x ops = ops ++ x ∷ []
ops_with (Waited number) x ops = ops

-- the operation comes from there, at a site that has stored these
abbrev pub ComesFrom : Origin → OpValue → ℕ → List OpValue → Type 0
ComesFrom Here x site ops = x.dot.site ≡ site
ComesFrom There x site ops = Unit {0}
ComesFrom (Waited number) x site ops = slice_get ops number ≡ Some x

-- the past with the operation in its log
abbrev pub logged : Origin → OpValue → Past → Past
logged Here x p = with_made x p
logged There x p = with_taken x p
logged (Waited number) x p = resumed x p

-- the commits after the operation
abbrev pub commits_after_body : DotValue → Body → List OpValue → List Committed → List Committed
commits_after_body dot (Commit p) log commits = commits_with dot (proposed_slot p log) commits
commits_after_body dot (Insert slot run) log commits = commits
commits_after_body dot (Delete x) log commits = commits
commits_after_body dot (Propose slot) log commits = commits
commits_after_body dot (Abort p) log commits = commits

abbrev pub commits_after : OpValue → List OpValue → List Committed → List Committed
commits_after x log commits = commits_after_body x.dot x.body log commits

-- another site sent it, now or before
abbrev pub IsFromOutside : Origin → Type 0
IsFromOutside Here = ⊥
IsFromOutside There = Unit {0}
IsFromOutside (Waited number) = Unit {0}

-- the number by which an operation is stored that comes from there
abbrev pub number_from : Origin → List OpValue → ℕ
number_from Here ops = length ops
number_from There ops = length ops
number_from (Waited number) ops = number

-- the state with another machine, and all else as it was
abbrev pub with_machine : Machine → StateValue → StateValue
with_machine m s = record s { machine = m }

-- the machine with other ballots
abbrev pub with_ballots : List Ballot → Machine → Machine
with_ballots ballots m = record m { ballots = ballots }

-- the state where the operation waits too, stored by the number
abbrev pub waiting_too : OpValue → ℕ → StateValue → StateValue
waiting_too x number s =
    record s {
      machine = keep_waiting x s.machine;
      ops = s.ops ++ x ∷ [];
      waiting = put_in_order (x.dot, number) s.waiting;
      room = record s.room { things = s.room.things - 1 };
    }
