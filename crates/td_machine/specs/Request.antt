-- What a machine answers to a request of its own editor, and what it does then.
use Rattle.std.specs.Prelude.{ℕ, List, [], ◌∷◌, ◌+◌, Bool, false, nat_lt, length, Option, Some, None, if◌then◌else◌}
use Rattle.std.specs.List.{find}
use Rattle.td_base.specs.Value.{DotValue, AtomIdValue}
use Rattle.td_base.specs.declared.dot.TheConstants.{MAX_SEQ}
use Rattle.td_path.specs.declared.slot.Slot.{Slot}
use Rattle.td_path.specs.declared.slot.Slot.TheVariants.{Root, At}
use Rattle.td_op.specs.declared.body.Body.{Body}
use Rattle.td_op.specs.declared.body.Body.TheVariants.{Insert as InsertIn, Delete as DeleteOf}
use Rattle.td_op.specs.declared.body.Body.TheVariants.{Propose as ProposeOf, Commit, Abort}
use Rattle.td_op.specs.declared.request.Request.{Request}
use Rattle.td_op.specs.declared.request.Request.TheVariants.{Insert, InsertAfter, Paste, PasteAfter, Delete}
use Rattle.td_op.specs.declared.request.Request.TheVariants.{DeleteAtom, Propose, ProposeAt, Cancel}
use Rattle.td_op.specs.declared.reply.Reply.{Reply}
use Rattle.td_op.specs.declared.reply.Reply.TheVariants.{Made, Cancelled, Held, Position, Gone, Limit, NotOpen}
use Rattle.td_doc.specs.Document.{live_rows, live_id_at}
use Rattle.td_doc.specs.Allocation.{alloc, anchor}
use Rattle.td_machine.specs.Hold.{held_slot, held_row, held_over}
use Rattle.td_doc.specs.Answers.{is_rooted, is_live_id}
use Rattle.td_machine.specs.Decision.{Ballot, is_on, is_open}
use Rattle.td_machine.specs.Machine.{Machine, made, undecided, next_dot}
use Rattle.td_machine.specs.Making.{make, propose, decide}
use Rattle.td_machine.specs.Taking.{Stepped, stepped}

-- an operation to be made where nothing stands against it
pub record Attempt : Type 0 where
  pub body : Body
  -- the number of operations that it may take
  pub room : ℕ
  -- the least hold that stands against it
  pub held : Option DotValue

-- what a request comes down to in this document
pub data Aim : Type 0 where
  -- a refusal
  Refuse : Reply → Aim
  -- an operation to be made
  Do : Attempt → Aim
  -- an own undecided proposal to be given up
  GiveUp : DotValue → Aim

-- an edit makes one operation; a proposal makes one more, its decision
abbrev pub insert_aim : List (List ℕ) → Option AtomIdValue → Machine → Aim
insert_aim run after m =
    Do (record {
      body = InsertIn (alloc m.doc after) run;
      room = 1;
      held = held_slot m.doc (alloc m.doc after) m.holds;
    })

abbrev pub delete_aim : AtomIdValue → Machine → Aim
delete_aim x m = Do (record { body = DeleteOf x; room = 1; held = held_row m.doc x m.holds })

abbrev pub propose_aim : Slot → Machine → Aim
propose_aim slot m = Do (record { body = ProposeOf slot; room = 2; held = held_over m.doc slot m.holds })

abbrev pub len : Machine → ℕ
len m = length (live_rows m.doc)

abbrev pub insert_aim_at : List (List ℕ) → ℕ → Machine → Aim
insert_aim_at run index m =
    if nat_lt (len m) index then Refuse (Position (len m)) else insert_aim run (anchor m.doc index) m

abbrev pub insert_aim_after : List (List ℕ) → Option AtomIdValue → Machine → Aim
insert_aim_after run None m = insert_aim run None m
insert_aim_after run (Some x) m = if is_live_id m.doc x then insert_aim run (Some x) m else Refuse (Gone x)

abbrev pub live_aim : (AtomIdValue → Machine → Aim) → Option AtomIdValue → Machine → Aim
live_aim aim None m = Refuse (Position (len m))
live_aim aim (Some x) m = aim x m

abbrev pub propose_aim_of : Slot → Machine → Aim
propose_aim_of Root m = propose_aim Root m
propose_aim_of (At x bit) m = if is_rooted m.doc (At x bit) then propose_aim (At x bit) m else Refuse (Gone x)

abbrev pub cancel_aim : DotValue → Option Ballot → Aim
cancel_aim p None = Refuse (NotOpen p)
cancel_aim p (Some b) = if is_open b then GiveUp p else Refuse (NotOpen p)

-- the first stage: the index or the atom is found, or the request is refused
abbrev pub aim : Request → Machine → Aim
aim (Insert index atom) m = insert_aim_at (atom ∷ []) index m
aim (InsertAfter after atom) m = insert_aim_after (atom ∷ []) after m
aim (Paste index run) m = insert_aim_at run index m
aim (PasteAfter after run) m = insert_aim_after run after m
aim (Delete index) m = live_aim delete_aim (live_id_at m.doc index) m
aim (DeleteAtom x) m = if is_live_id m.doc x then delete_aim x m else Refuse (Gone x)
aim (Propose slot) m = propose_aim_of slot m
aim (ProposeAt index bit) m = live_aim (λ (x : AtomIdValue). propose_aim (At x bit)) (live_id_at m.doc index) m
aim (Cancel p) m = cancel_aim p (find (is_on p) m.ballots)

-- a proposal opens a ballot, all else is made
abbrev pub perform : Body → Machine → Machine
perform (ProposeOf slot) m = propose slot m
perform (InsertIn slot run) m = make (InsertIn slot run) m
perform (DeleteOf target) m = make (DeleteOf target) m
perform (Commit p) m = make (Commit p) m
perform (Abort p) m = make (Abort p) m

-- so many operations more would be too many
abbrev pub is_past_limit : ℕ → Machine → Bool
is_past_limit room m = nat_lt MAX_SEQ (made m + undecided m + room)

-- the second stage: Held, where a hold stands against it; then Limit; then it is made
abbrev pub attempt_step : Option DotValue → Attempt → Machine → Stepped
attempt_step (Some by) a m = stepped (Held by) m
attempt_step None a m =
    if is_past_limit a.room m then stepped (Limit (made m) (undecided m)) m
    else stepped (Made (next_dot m)) (perform a.body m)

abbrev pub aim_step : Aim → Machine → Stepped
aim_step (Refuse reply) m = stepped reply m
aim_step (Do a) m = attempt_step a.held a m
aim_step (GiveUp p) m = stepped Cancelled (decide p (Some false) m)

abbrev pub request_step : Request → Machine → Stepped
request_step request m = aim_step (aim request m) m
