-- A replica that comes back after a crash, and its family.
use Rattle.std.specs.Prelude.{◌≡◌, ◌<◌, ◌≤◌, ◌-◌, ◌++◌, ℕ, zero, suc, [], ◌∷◌, length, take}
use Rattle.td_base.specs.Lists.{In}
use Rattle.td_op.specs.declared.entry.Entry.{Entry}
use Rattle.td_op.specs.declared.input.Input.TheVariants.{Take}
use Rattle.td_op.specs.declared.message.Message.{Message}
use Rattle.td_op.specs.Message.{sender}
use Rattle.td_machine.specs.History.{History, Family, history, machine}
use Rattle.td_replica.specs.Replica.{ReplicaValue}
use Rattle.td_journal.specs.Journal.{inputs_of}

-- a replica of the same site, with the inputs of the first entries: so many, or more
pub record IsReopened (count : ℕ) (old new : ReplicaValue) : Type 0 where
  pub site : new.machine.site ≡ old.machine.site
  pub size : new.machine.size ≡ old.machine.size
  pub kept : ℕ
  pub enough : count ≤ kept
  pub inputs : inputs_of new.entries ≡ inputs_of (take kept old.entries)

-- what others took of this site's messages stands among the first so many that it sent
abbrev pub AreReleased : Family → ℕ → ℕ → Type 0
AreReleased family site released =
    (other : ℕ) (front : History) (e : Entry) (back : History) (message : Message) → 0 < other
    → other ≤ length family → history family other ≡ front ++ e ∷ back → e.input ≡ Take message
    → sender message ≡ site → In message (take released (machine family site).sent)

-- the family in which the site has this history
abbrev pub with_history_at : ℕ → History → Family → Family
with_history_at k new [] = []
with_history_at zero new (h ∷ family) = new ∷ family
with_history_at (suc k) new (h ∷ family) = h ∷ with_history_at k new family

abbrev pub with_history : Family → ℕ → History → Family
with_history family site new = with_history_at (site - 1) new family
