-- Nothing that comes is unfit.
use Rattle.std.specs.Prelude.{◌≢◌}
use Rattle.td_base.specs.Value.{DotValue}
use Rattle.td_op.specs.declared.reply.Reply.TheVariants.{Unfit, Dropped}
use Rattle.td_op.specs.declared.reply.Why.{Why}
use Rattle.td_machine.specs.History.{Family}
use Rattle.td_law_logs.specs.Entries.{EntryOf}

-- no entry answers that a message is unfit, or that an operation that waited is dropped
abbrev pub NothingUnfit : Family → Type 0
NothingUnfit family =
    (t : EntryOf family) (d : DotValue) (why : Why) → (t.entry.reply ≢ Unfit why) × (t.entry.reply ≢ Dropped d why)
