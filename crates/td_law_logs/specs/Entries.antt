-- One entry of a history of a family.
use Rattle.std.specs.Prelude.{◌≡◌, ◌<◌, ◌≤◌, ◌++◌, ℕ, ◌∷◌, length}
use Rattle.td_op.specs.declared.entry.Entry.{Entry}
use Rattle.td_machine.specs.Machine.{Machine}
use Rattle.td_machine.specs.Step.{step}
use Rattle.td_machine.specs.History.{Family, History, history, machine_after}

-- an entry of a site, with those before it and those after it
pub record EntryOf (family : Family) : Type 0 where
  pub site : ℕ
  pub some : 0 < site
  pub within : site ≤ length family
  pub front : History
  pub entry : Entry
  pub back : History
  pub splits : history family site ≡ front ++ entry ∷ back

-- the machine of the site before the entry, and after it
abbrev pub machine_before : (family : Family) → EntryOf family → Machine
machine_before family t = machine_after family t.site t.front

abbrev pub machine_then : (family : Family) → EntryOf family → Machine
machine_then family t = (step (machine_before family t) t.entry.input).machine
