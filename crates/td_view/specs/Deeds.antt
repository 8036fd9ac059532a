-- What is done to a text that is not shown yet, as the two copies of it have it in common.
use Rattle.std.specs.Prelude.{ℕ, List, [], ◌∷◌, ◌++◌, map}
use Rattle.logbook.specs.declared.tokens.Seen.{Seen}
use Rattle.td_op.specs.declared.change.Change.{Change}
use Rattle.td_op.specs.Change.{changed}
use Rattle.td_view.specs.declared.publish.Publish.{Publish}
use Rattle.td_view.specs.declared.history.History.{History}
use Rattle.td_view.specs.declared.shown.Shown.{Shown}
use Rattle.td_view.specs.declared.deed.Deed.{Deed}
use Rattle.td_view.specs.declared.deed.Deed.TheVariants.{Alter, Stamp}
use Rattle.td_view.specs.declared.publishing.Publishing.{Publishing}
use Rattle.td_view.specs.Publishes.{publish, changed_all}

-- a token of a beginning of the history
abbrev pub Publishes : Type 0
Publishes = Seen Publish ℕ History

-- upto, last, the number of the publish, the atoms, the history up to it
abbrev pub State : Type 0
State = ℕ × ℕ × ℕ × List (List ℕ) × Publishes

abbrev pub state_of : Shown → State
state_of x = (x.upto, x.last, x.count, x.atoms, x.past)

abbrev pub publish_of : Shown → Publish
publish_of x = publish x.upto x.atoms x.last

abbrev pub done_by : State → Deed → State
done_by s (Alter change) = (s.0, s.1, s.2, changed change s.3, s.4)
done_by s (Stamp upto last count past) = (upto, last, count, s.3, past)

-- what is done for one publish: its changes, and then the stamp that says which publish it is
abbrev pub deeds : List Change → ℕ → ℕ → ℕ → Publishes → List Deed
deeds changes upto last count past = map Alter changes ++ Stamp upto last count past ∷ []

-- what is published where these atoms are shown, and what is done for that
abbrev pub published : Publishing → List (List ℕ) → Publish
published p atoms = publish p.upto (changed_all p.changes.now atoms) p.last

abbrev pub deeds_of : Publishing → Publishes → List Deed
deeds_of p past = deeds p.changes.now p.upto p.last p.count past
