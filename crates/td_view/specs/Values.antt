-- What contracts see of a writer, of a reader and of what a publish tells. All that one call of `views` makes has one
-- history of publishes, whose book says which views these are.
use Rattle.std.specs.Prelude.{ℕ, zero, suc, ◌+◌, ◌-◌, ◌^◌, min, List, [], ◌∷◌, ◌++◌, Option, None}
use Rattle.logbook.specs.Pages.{Book}
use Rattle.td_view.specs.declared.publish.Publish.{Publish}
use Rattle.td_op.specs.declared.change.Change.{Change}
use Rattle.td_view.specs.declared.deed.Deed.{Deed}
use Rattle.td_view.specs.Publishes.{publish, again, changed_all}
use Rattle.td_view.specs.Deeds.{Publishes}

pub record WriterValue : Type 0 where
  -- which views it writes
  pub views : Book
  -- all that was published
  pub publishes : List Publish
  -- the last of them, which is the text shown
  pub shown : Publish
  -- the history with the publish that is owed, if one is
  pub owed : Option Publishes
  -- what is already done for it
  pub pending : List Deed
  -- how much of it that is
  pub given : ℕ

pub record ReaderValue : Type 0 where
  -- which views it reads
  pub views : Book
  -- what was published up to its last look
  pub seen : List Publish
  -- the longest of what it saw and learnt
  pub known : List Publish
  -- how often a reading was refused, as far as a number goes
  pub refused : ℕ
  -- each text that `left_right` gave it, in order, by what was published up to that text
  pub given : List (List Publish)

-- a reader that has not looked since this was published
abbrev pub new_reader : Book → List Publish → ReaderValue
new_reader views list = record { views = views; seen = list; known = list; refused = 0; given = [] }

pub record ToldValue : Type 0 where
  -- of which views
  pub views : Book
  -- all that was published up to and with the publish that tells it
  pub list : List Publish

-- what is told of all that a writer published
abbrev pub told_of : WriterValue → ToldValue
told_of w = record { views = w.views; list = w.publishes }

-- the next publish of a writer: the text shown with these changes
abbrev pub next_publish : WriterValue → ℕ → List Change → Publish
next_publish w upto changes = publish upto (changed_all changes w.shown.atoms) 0

-- the writer that has published it
abbrev pub after_publish : WriterValue → ℕ → List Change → WriterValue
after_publish w upto changes = record w {
  publishes = w.publishes ++ next_publish w upto changes ∷ [];
  shown = next_publish w upto changes;
  owed = None;
  pending = [];
  given = 0;
}

-- what is told of the publishes by which a writer ends
abbrev pub tolds : Book → List Publish → Publish → ℕ → List ToldValue
tolds views log p zero = []
tolds views log p (suc m) =
    record { views = views; list = log ++ again p (suc m) ∷ [] } ∷ tolds views (log ++ again p (suc m) ∷ []) p m

-- a count after one more. At its greatest it stays
abbrev pub one_more : ℕ → ℕ
one_more count = min (count + 1) (2 ^ 64 - 1)
