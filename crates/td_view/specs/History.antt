-- The history of publishes as a book of `logbook`: what its rule says, and what a step tells that adds to it.
use Rattle.std.specs.Prelude.{ℕ, ◌≡◌, ◌==◌, true, List, [], ◌∷◌, ◌++◌, length, MatchBool}
use Rattle.logbook.specs.Pages.{Cell, Step, View, Book, Named}
use Rattle.td_view.specs.declared.publish.Publish.{Publish}
use Rattle.td_view.specs.Publishes.{AreLegal}

-- the first word is the length of the history, which is legal. A book has two words; the second stays 0
pub record HoldsHistory (cells : List Cell) (log : List Publish) : Type 0 where
  pub words : cells ≡ (length log, true) ∷ (0, true) ∷ []
  pub legal : AreLegal log

abbrev pub head_of : Book → Named
head_of book = record { tracked = true; key = 0; book = book }

-- the publish was added to all that had been seen; or the history was longer, and was seen
abbrev pub IsAdded : Step Publish → View Publish ℕ → ℕ → View Publish ℕ → Type 0
IsAdded s v found w = MatchBool (found == s.old) (w.0 ≡ v.0 ++ s.ask ∷ []) (length w.0 ≡ found)
