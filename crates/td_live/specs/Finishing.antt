-- The lines that are left of all books are done, one book after the other.
use Rattle.std.specs.Prelude.{◌≡◌, ◌++◌, ◌+◌, ℕ, List, [], ◌∷◌, map, length}
use Rattle.std.specs.List.{AllZip, AllByRecursion}
use mathlib.Core.List.{IsPrefix}
use Rattle.td_machine.specs.History.{Family}
use Rattle.td_script.specs.declared.live.editor_line.EditorLine.{EditorLine}
use Rattle.td_trace.specs.declared.log.EditorLog.{EditorLog}
use Rattle.td_live.specs.Following.{Rest, HasNothingLeft, calls_left}
use Rattle.td_live.specs.Books.{BookValue, AreBooks, GoesFurther, AreHistoriesGrown, log_of}

-- how much is left to do: never less than there are steps
abbrev pub steps_left : Rest → ℕ
steps_left r = calls_left r + length r.lines

-- the same book, later
pub record LaterBook (b c : BookValue) : Type 0 where
  pub home : c.home ≡ b.home
  pub did : IsPrefix b.did c.did

-- of all the books the first are done, and these are left; what is done has these logs
pub record IsFinishing (old : Family) (all : List BookValue) (new : Family) (logs : List EditorLog)
    (left : List BookValue) : Type 0 where
  pub done : List BookValue
  pub logs_are : logs ≡ map log_of done
  pub over : AllByRecursion (λ (b : BookValue). HasNothingLeft b.rest) done
  pub later : AllZip LaterBook all (done ++ left)
  pub grown : AreHistoriesGrown old new
  pub books : (lines : List (List EditorLine)) → AreBooks old lines all → AreBooks new lines (done ++ left)

-- the first book is done
pub record FinishedNext (old : Family) (books : List BookValue) (logs : List EditorLog) (new : Family)
    (left : List BookValue) (more : List EditorLog) : Type 0 where
  pub book : BookValue
  pub last : BookValue
  pub first : books ≡ book ∷ left
  pub further : GoesFurther old book new last
  pub over : HasNothingLeft last.rest
  pub one : more ≡ logs ++ log_of last ∷ []
