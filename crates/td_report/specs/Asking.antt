-- The requests that a command asks for.
use Rattle.std.specs.Prelude.{◌+◌, ℕ, List, [], ◌∷◌, Bool, true, false, length, replicate}
use Rattle.td_op.specs.declared.reply.Reply.{Reply}
use Rattle.td_op.specs.declared.reply.Reply.TheVariants.{Made}
use Rattle.td_op.specs.declared.request.Request.{Request}
use Rattle.td_op.specs.declared.request.Request.TheVariants.{Insert, Paste, Delete, Propose, ProposeAt}
use Rattle.td_path.specs.declared.slot.Slot.TheVariants.{Root as RootSlot}
use Rattle.td_script.specs.declared.command.Place.{Place}
use Rattle.td_script.specs.declared.command.Place.TheVariants.{Root, Beside}

-- a request, and how many atoms it edits
pub record Edit : Type 0 where
  pub request : Request
  pub atoms : ℕ

-- each atom right behind the one before
abbrev pub inserts : ℕ → List (List ℕ) → List Edit
inserts index [] = []
inserts index (atom ∷ atoms) = record { request = Insert index atom; atoms = 1 } ∷ inserts (index + 1) atoms

-- each run right behind the one before
abbrev pub pastes : ℕ → List (List (List ℕ)) → List Edit
pastes index [] = []
pastes index (run ∷ runs) = record { request = Paste index run; atoms = length run } ∷ pastes (index + length run) runs

-- so many atoms, each where the one before stood
abbrev pub deletes : ℕ → ℕ → List Edit
deletes index count = replicate count (record { request = Delete index; atoms = 1 })

-- whether an edit was done
abbrev pub is_made : Reply → Bool
is_made (Made dot) = true
is_made _ = false

abbrev pub proposal : Place → Request
proposal Root = Propose RootSlot
proposal (Beside index bit) = ProposeAt index bit
