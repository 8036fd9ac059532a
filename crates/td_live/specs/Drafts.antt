-- From the desks of a room to books, when the room is closed.
use Rattle.std.specs.Prelude.{◌≡◌, ◌<◌, ◌++◌, List, [], ◌∷◌, length, Some, slice_get}
use Rattle.td_line.specs.declared.answer.Answer.{Answer}
use Rattle.td_line.specs.Editors.{EditorValue}
use Rattle.td_live.specs.Desks.{DeskValue, IsDesk}
use Rattle.td_live.specs.Books.{BookValue, calls_done, brought_up}

-- the book of a desk
abbrev pub book_of : DeskValue → BookValue
book_of d = record { home = d.editor.home; rest = d.rest; did = d.did }

-- where there is an answer that the book has not yet, it is that of a call
abbrev pub CanBringUp : List Answer → BookValue → Type 0
CanBringUp answers b = (a : Answer) → slice_get answers (calls_done b.did) ≡ Some a → 0 < length b.rest.asks

-- each book with its answers
abbrev pub all_brought_up : List (List Answer) → List BookValue → List BookValue
all_brought_up [] books = []
all_brought_up (answers ∷ all) [] = []
all_brought_up (answers ∷ all) (b ∷ books) = brought_up answers b ∷ all_brought_up all books

-- the first of the desks is an editor and a book
pub record TakenApart (desks left : List DeskValue) (editors more : List EditorValue) (books others : List BookValue)
    : Type 0 where
  pub desk : DeskValue
  pub is : IsDesk desk
  pub first : desks ≡ desk ∷ left
  pub editor : more ≡ editors ++ desk.editor ∷ []
  pub book : others ≡ books ++ book_of desk ∷ []
