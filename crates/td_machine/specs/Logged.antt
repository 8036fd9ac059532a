-- How an operation comes into the log of a machine.
use Rattle.std.specs.Prelude.{◌≡◌, ◌⊎◌, ◌++◌, List, ◌∷◌, length, drop, Some}
use Rattle.td_base.specs.Lists.{In}
use Rattle.td_op.specs.declared.entry.Entry.{Entry}
use Rattle.td_op.specs.declared.input.Input.TheVariants.{Take, Next}
use Rattle.td_op.specs.declared.message.Message.{Message}
use Rattle.td_op.specs.declared.message.Message.TheVariants.{Op}
use Rattle.td_op.specs.declared.reply.Reply.TheVariants.{New, Taken}
use Rattle.td_op.specs.Op.{OpValue}
use Rattle.td_machine.specs.Machine.{Machine}
use Rattle.td_machine.specs.Ready.{next_ready}
use Rattle.td_machine.specs.Step.{step}
use Rattle.td_machine.specs.History.{History, after}

-- what an entry at this machine sends
abbrev pub sent_by : Machine → Entry → List Message
sent_by m e = drop (length m.sent) (step m e.input).machine.sent

-- the entry makes the operation, and so sends it
abbrev pub MakesOp : Machine → Entry → OpValue → Type 0
MakesOp m e x = In (Op x) (sent_by m e)

-- it takes the operation that comes
abbrev pub TakesOp : Entry → OpValue → Type 0
TakesOp e x = (e.input ≡ Take (Op x)) × (e.reply ≡ New)

-- it takes the operation that waited, the least that is ready
abbrev pub ResumesOp : Machine → Entry → OpValue → Type 0
ResumesOp m e x = (e.input ≡ Next) × (e.reply ≡ Taken x.dot) × (next_ready m.have m.waiting ≡ Some x)

-- an entry made or took the operation, where the machine was m before all entries
pub record IsLogged (m : Machine) (entries : History) (x : OpValue) : Type 0 where
  pub front : History
  pub entry : Entry
  pub back : History
  pub splits : entries ≡ front ++ entry ∷ back
  pub by : MakesOp (after m front) entry x ⊎ (TakesOp entry x ⊎ ResumesOp (after m front) entry x)
