-- What a writer owes after want of memory.
use Rattle.std.specs.Prelude.{◌≡◌, ◌≤◌, ℕ, ◌+◌, List, [], ◌∷◌, ◌++◌, length, take, Some, None}
use Rattle.std.proofs.Props.{props}
use Rattle.td_op.specs.declared.change.Change.{Change}
use Rattle.td_view.specs.declared.publish.Publish.{Publish}
use Rattle.td_view.specs.declared.deed.Deed.{Deed}
use Rattle.td_view.specs.Deeds.{Publishes, deeds}
use Rattle.td_view.specs.Values.{WriterValue, next_publish}

-- o is the history of this log with the publish p, and what is pending is the first `given` deeds of it
abbrev pub Owes : List Publish → Publishes → Publish → List Deed → ℕ → List Change → Type 0
Owes log o p pending given changes =
    (o.log ≡ log ++ p ∷ [])
    × (pending ≡ take given (deeds changes p.upto p.last (length log + 1) o))
    × (given ≤ length changes + 1)

-- what the writer owes, if anything, is the publish of these changes. A word of its own, so that what keeps a writer
-- can keep it whole
unfoldable pub StillOwes : WriterValue → ℕ → List Change → Type 0
StillOwes w upto changes =
    (o : Publishes) → w.owed ≡ Some o → Owes w.publishes o (next_publish w upto changes) w.pending w.given changes

-- a writer that owes nothing may publish anything
pub owing_none : (w : WriterValue) (upto : ℕ) (changes : List Change) → w.owed ≡ None → StillOwes w upto changes
unfolding StillOwes
owing_none w upto changes none o is = absurd (cc (none, is))

pub still_owes_prop : (w : WriterValue) (upto : ℕ) (changes : List Change) → IsProp (StillOwes w upto changes)
unfolding StillOwes
still_owes_prop w upto changes = hlevel props
