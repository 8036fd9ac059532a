-- A stage for worked examples: machines side by side, their messages in the order of sending, and what each machine
-- was given.
use Rattle.std.specs.Prelude.{ℕ, zero, suc, ◌-◌, List, [], ◌∷◌, ◌++◌, Bool, true, false, length, map}
use Rattle.std.specs.Prelude.{filter, drop, Option, Some, None, if◌then◌else◌, ◌==◌}
use Rattle.std.specs.List.{filter_map}
use Rattle.td_base.specs.Value.{DotValue, AtomIdValue}
use Rattle.td_op.specs.declared.entry.Entry.{Entry}
use Rattle.td_op.specs.declared.input.Input.{Input}
use Rattle.td_op.specs.declared.input.Input.TheVariants.{Local, Take, Next}
use Rattle.td_op.specs.declared.message.Message.{Message}
use Rattle.td_op.specs.declared.message.Message.TheVariants.{Op, Vote as AVote}
use Rattle.td_op.specs.declared.vote.Vote.{Vote}
use Rattle.td_op.specs.declared.reply.Reply.{Reply}
use Rattle.td_op.specs.declared.request.Request.{Request}
use Rattle.td_path.specs.declared.slot.Slot.{Slot}
use Rattle.td_doc.specs.Document.{DocRow, row_id, text_of}
use Rattle.td_doc.specs.Slots.{own_slot}
use Rattle.td_machine.specs.Log.{decision}
use Rattle.td_machine.specs.Machine.{Machine, start}
use Rattle.td_machine.specs.Taking.{Stepped}
use Rattle.td_machine.specs.Step.{step}
use Rattle.td_machine.specs.History.{History, Family}

-- what happens at a site: a request, the k-th message (from 1) given to it, or a waiting operation taken
pub data Move : Type 0 where
  Ask : ℕ → Request → Move
  Give : ℕ → ℕ → Move
  GoOn : ℕ → Move

-- an entry at a site
pub record Event : Type 0 where
  pub site : ℕ
  pub entry : Entry

pub record Stage : Type 0 where
  pub machines : List Machine
  pub sent : List Message
  -- what happened so far
  pub events : List Event

abbrev pub starts_from : ℕ → ℕ → ℕ → List Machine
starts_from size zero site = []
starts_from size (suc k) site = start site size ∷ starts_from size k (suc site)

-- n machines at the beginning
abbrev pub stage : ℕ → Stage
stage n = record { machines = starts_from n n 1; sent = []; events = [] }

abbrev pub at_place : {X : Type 0} → ℕ → List X → Option X
at_place k [] = None
at_place zero (x ∷ xs) = Some x
at_place (suc k) (x ∷ xs) = at_place k xs

abbrev pub put_at : Machine → List Machine → List Machine
put_at m [] = []
put_at m (n ∷ machines) = if m.site == n.site then m ∷ machines else n ∷ put_at m machines

abbrev pub event : Machine → Input → Stepped → Event
event old input new = record { site = old.site; entry = record { input = input; reply = new.reply } }

abbrev pub stepped_to : Machine → Input → Stepped → Stage → Stage
stepped_to old input new s =
    record {
      machines = put_at new.machine s.machines;
      sent = s.sent ++ drop (length old.sent) new.machine.sent;
      events = s.events ++ event old input new ∷ [];
    }

abbrev pub input_at : Option Machine → Option Input → Stage → Stage
input_at None input s = s
input_at (Some m) None s = s
input_at (Some m) (Some input) s = stepped_to m input (step m input) s

abbrev pub take_input : Option Message → Option Input
take_input None = None
take_input (Some message) = Some (Take message)

abbrev pub moved : Move → Stage → Stage
moved (Ask site request) s = input_at (at_place (site - 1) s.machines) (Some (Local request)) s
moved (Give site k) s = input_at (at_place (site - 1) s.machines) (take_input (at_place (k - 1) s.sent)) s
moved (GoOn site) s = input_at (at_place (site - 1) s.machines) (Some Next) s

abbrev pub moved_all : List Move → Stage → Stage
moved_all [] s = s
moved_all (move ∷ moves) s = moved_all moves (moved move s)

abbrev pub events : ℕ → List Move → List Event
events n moves = (moved_all moves (stage n)).events

-- what n sites answer to the moves
abbrev pub replies : ℕ → List Move → List Reply
replies n moves = map (λ (e : Event). e.entry.reply) (events n moves)

abbrev pub history_from : ℕ → List Event → History
history_from site happened = map (λ (e : Event). e.entry) (filter (λ (e : Event). e.site == site) happened)

abbrev pub histories_from : ℕ → ℕ → List Event → Family
histories_from site zero happened = []
histories_from site (suc k) happened = history_from site happened ∷ histories_from (suc site) k happened

-- the histories of n sites after the moves
abbrev pub family_after : ℕ → List Move → Family
family_after n moves = histories_from 1 n (events n moves)

abbrev pub text_found : Option Machine → List ℕ
text_found None = []
text_found (Some m) = text_of m.doc

-- the text of a site after the moves
abbrev pub text_after : ℕ → List Move → ℕ → List ℕ
text_after n moves site = text_found (at_place (site - 1) (moved_all moves (stage n)).machines)

-- a row as it is told: its identity, the slot in which it stands, its atom and its delete dots
pub record ToldRow : Type 0 where
  pub id : AtomIdValue
  pub slot : Slot
  pub atom : List ℕ
  pub deletes : List DotValue

abbrev pub told : DocRow → ToldRow
told r = record { id = row_id r; slot = own_slot r; atom = r.atom; deletes = r.deletes }

abbrev pub rows_found : Option Machine → List ToldRow
rows_found None = []
rows_found (Some m) = map told m.doc

-- the rows of a site after the moves
abbrev pub rows_after : ℕ → List Move → ℕ → List ToldRow
rows_after n moves site = rows_found (at_place (site - 1) (moved_all moves (stage n)).machines)

abbrev pub vote_of : Message → Option Vote
vote_of (Op x) = None
vote_of (AVote v) = Some v

-- the votes sent, in their order
abbrev pub votes_after : ℕ → List Move → List Vote
votes_after n moves = filter_map vote_of (moved_all moves (stage n)).sent

abbrev pub decision_found : DotValue → Option Machine → Option Bool
decision_found p None = None
decision_found p (Some m) = decision p m.log

-- what a site knows of the decision of a proposal after the moves
abbrev pub decision_after : ℕ → List Move → ℕ → DotValue → Option Bool
decision_after n moves site p = decision_found p (at_place (site - 1) (moved_all moves (stage n)).machines)

abbrev pub dot : ℕ → ℕ → DotValue
dot site seq = record { site = site; seq = seq }

abbrev pub atom_id : ℕ → ℕ → ℕ → AtomIdValue
atom_id site seq offset = record { dot = dot site seq; offset = offset }

abbrev pub live_row : AtomIdValue → Slot → List ℕ → ToldRow
live_row id slot atom = record { id = id; slot = slot; atom = atom; deletes = [] }

abbrev pub tombstone : AtomIdValue → Slot → List ℕ → List DotValue → ToldRow
tombstone id slot atom deletes = record { id = id; slot = slot; atom = atom; deletes = deletes }

abbrev pub vote_yes : ℕ → DotValue → Vote
vote_yes site p = record { proposal = p; voter = site; yes = true }

abbrev pub vote_no : ℕ → DotValue → Vote
vote_no site p = record { proposal = p; voter = site; yes = false }
