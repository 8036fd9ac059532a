-- How a `Writer` and a `Reader` keep their parts.
use Rattle.std.specs.Prelude.{◌≡◌, ◌<◌, ◌^◌, ℕ, List, [], length, Option, Some, None}
use Rattle.logbook.specs.Pages.{Named}
use Rattle.td_view.specs.declared.shown.Shown.{Shown}
use Rattle.td_view.specs.declared.deed.Deed.{Deed}
use Rattle.td_view.specs.Publishes.{StartsWith}
use Rattle.td_view.specs.History.{head_of}
use Rattle.td_view.specs.Deeds.{Publishes}
use Rattle.td_view.specs.Tied.{StandsAtEnd}

-- x is the text shown, and these deeds are done for the next one; the writer adds to the history by this word, has this
-- beginning of it, which is all of it, and owes the publish at the end of that
pub record IsWriterParts (x : Shown) (deeds : List Deed) (word : Named) (past : Publishes) (number : ℕ)
    (debt : Option Publishes) : Type 0 where
  pub head : word ≡ head_of past.book
  pub counted : number ≡ length past.log
  pub few : number < 2 ^ 63
  pub shown : x.past ≡ past
  pub rested : x.last ≡ 0
  pub stands : StandsAtEnd x
  pub nothing : debt ≡ None → deeds ≡ []
  pub same : (o : Publishes) → debt ≡ Some o → o.book ≡ past.book

-- a reader saw a beginning of what it knows
pub record IsReaderParts (before past : Publishes) (number : ℕ) : Type 0 where
  pub counted : number ≡ length past.log
  pub same : before.book ≡ past.book
  pub within : StartsWith past.log before.log
