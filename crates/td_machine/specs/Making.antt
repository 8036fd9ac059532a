-- What an operation does when it is made or taken, and how operations are made.
use Rattle.std.specs.Prelude.{List, [], ◌∷◌, ◌++◌, Bool, true, false, Option, Some, None}
use Rattle.td_base.specs.Value.{DotValue}
use Rattle.td_clock.specs.Vector.{vector_bump}
use Rattle.td_path.specs.declared.slot.Slot.{Slot}
use Rattle.td_op.specs.declared.message.Message.{Message}
use Rattle.td_op.specs.declared.message.Message.TheVariants.{Op}
use Rattle.td_op.specs.declared.body.Body.{Body}
use Rattle.td_op.specs.declared.body.Body.TheVariants.{Insert, Delete, Propose, Commit, Abort}
use Rattle.td_op.specs.Op.{OpValue}
use Rattle.td_doc.specs.Document.{DocRow}
use Rattle.td_doc.specs.Insertion.{insert_run}
use Rattle.td_doc.specs.Deletion.{delete}
use Rattle.td_doc.specs.Flatten.{flatten}
use Rattle.td_machine.specs.Log.{proposed_slot}
use Rattle.td_machine.specs.Hold.{Hold, release}
use Rattle.td_machine.specs.Decision.{Ballot, new_ballot, outcome, revise, close}
use Rattle.td_machine.specs.Machine.{Machine, next_dot, next_op}

abbrev pub flatten_found : Option Slot → List DocRow → List DocRow
flatten_found None rows = rows
flatten_found (Some slot) rows = flatten slot rows

-- the document after the operation with this dot and body. A commit flattens the slot of its proposal, which the log
-- tells
abbrev pub effect : List OpValue → DotValue → Body → List DocRow → List DocRow
effect log dot (Insert slot run) rows = insert_run slot dot run rows
effect log dot (Delete target) rows = delete target dot rows
effect log dot (Propose slot) rows = rows
effect log dot (Commit p) rows = flatten_found (proposed_slot p log) rows
effect log dot (Abort p) rows = rows

-- a decision ends the hold
abbrev pub holds_after : Body → List Hold → List Hold
holds_after (Insert slot run) holds = holds
holds_after (Delete target) holds = holds
holds_after (Propose slot) holds = holds
holds_after (Commit p) holds = release p holds
holds_after (Abort p) holds = release p holds

-- and closes the ballot, which is here where the proposal is an own one
abbrev pub ballots_after : Body → List Ballot → List Ballot
ballots_after (Insert slot run) ballots = ballots
ballots_after (Delete target) ballots = ballots
ballots_after (Propose slot) ballots = ballots
ballots_after (Commit p) ballots = revise p (close true) ballots
ballots_after (Abort p) ballots = revise p (close false) ballots

-- the machine after an operation that is made or taken
abbrev pub done : OpValue → Machine → Machine
done x m =
    record m {
      doc = effect m.log x.dot x.body m.doc;
      have = vector_bump m.have x.dot.site;
      log = x ∷ m.log;
      holds = holds_after x.body m.holds;
      ballots = ballots_after x.body m.ballots;
    }

abbrev pub send : Message → Machine → Machine
send message m = record m { sent = m.sent ++ message ∷ [] }

-- an operation made here is done and sent
abbrev pub make : Body → Machine → Machine
make body m = send (Op (next_op m body)) (done (next_op m body) m)

-- the decision that is due, if one is, is made
abbrev pub decide : DotValue → Option Bool → Machine → Machine
decide p None m = m
decide p (Some true) m = make (Commit p) m
decide p (Some false) m = make (Abort p) m

abbrev pub hold : DotValue → Slot → Machine → Machine
hold p slot m = record m { holds = (record { proposal = p; slot = slot }) ∷ m.holds }

abbrev pub open_ballot : DotValue → Machine → Machine
open_ballot p m = record m { ballots = new_ballot p ∷ m.ballots }

-- a proposal made here is held, and its own Yes counted, which decides it where there is one site
abbrev pub propose : Slot → Machine → Machine
propose slot m =
    decide (next_dot m) (outcome m.size true (new_ballot (next_dot m)))
    (open_ballot (next_dot m) (hold (next_dot m) slot (make (Propose slot) m)))
