-- What contracts see of an editor, and what its calls say.
use Rattle.std.specs.Prelude.{◌≡◌, ◌<◌, ◌≤◌, ◌+◌, ◌-◌, ◌^◌, ◌++◌, ℕ, false, min, List, []}
use Rattle.std.specs.Prelude.{◌∷◌, map, length, Some, None, Result, Ok, Err}
use Rattle.std.specs.List.{range_with_len}
use mathlib.Core.List.{IsPrefix}
use Rattle.logbook.specs.Pages.{Book}
use Rattle.td_op.specs.declared.request.Request.{Request}
use Rattle.td_link.specs.Ends.{TxValue, RxValue}
use Rattle.td_link.specs.Moments.{WasFull}
use Rattle.td_view.specs.declared.publish.Publish.{Publish}
use Rattle.td_view.specs.Publishes.{last_upto}
use Rattle.td_view.specs.Values.{ReaderValue, one_more}
use Rattle.td_line.specs.declared.ask.Ask.{Ask}
use Rattle.td_line.specs.declared.answer.Answer.{Answer}
use Rattle.td_line.specs.declared.report.Report.{Report}
use Rattle.td_line.specs.declared.not_sent.NotSent.{NotSent}
use Rattle.td_line.specs.declared.not_sent.NotSent.TheVariants.{Busy, Spent, Full}
use Rattle.td_line.specs.Lines.{LineValue, line_places}

pub record EditorValue : Type 0 where
  -- the site that it belongs to
  pub home : ℕ
  -- its requests, and what it took of their answers
  pub asks : TxValue Ask (Unit {0})
  pub answers : RxValue Report Book
  pub reader : ReaderValue
  -- the entry of the last answer polled, 0 before
  pub entry : ℕ
  -- so many calls are made, and so many may be made
  pub made : ℕ
  pub calls : ℕ

-- the answers polled, in order
abbrev pub polled : EditorValue → List Answer
polled e = map (λ (r : Report). r.answer) e.answers.taken

-- the answers are of the views that it looks at; it knows of a publish with all entries up to that of the last answer;
-- and the calls are numbered from 1
pub record IsEditor (e : EditorValue) : Type 0 where
  pub views : e.answers.mark ≡ Some e.reader.views
  pub fresh : e.entry ≤ last_upto e.reader.known
  pub numbered : map (λ (q : Ask). q.call) e.asks.sent ≡ range_with_len 1 e.made
  pub within : e.made ≤ e.calls
  pub cap : e.asks.cap ≡ line_places

-- the last call has no answer polled
abbrev pub AwaitsAnswer : EditorValue → Type 0
AwaitsAnswer e = length e.answers.taken < length e.asks.sent

-- why nothing was sent
abbrev pub IsWhy : EditorValue → NotSent → Type 0
IsWhy e (Busy pending) = AwaitsAnswer e × (pending ≡ e.made)
IsWhy e (Spent calls) = (AwaitsAnswer e → ⊥) × (e.made ≡ e.calls) × (calls ≡ e.calls)
IsWhy e Full = (AwaitsAnswer e → ⊥) × (e.made < e.calls) × WasFull line_places e.asks.sent

-- the editor when one more request is sent
abbrev pub with_ask : Request → EditorValue → EditorValue
with_ask request e =
    record e {
      asks = record e.asks { sent = e.asks.sent ++ record { call = e.made + 1; request = request } ∷ [] };
      made = e.made + 1;
    }

-- the editor after a look that showed a text and by which this was published
abbrev pub when_shown : List Publish → EditorValue → EditorValue
when_shown seen e =
    record e { reader = record e.reader { seen = seen; known = seen; given = e.reader.given ++ seen ∷ [] } }

-- the editor after a look that showed nothing, by which its reader had been given these texts
abbrev pub when_refused : List (List Publish) → EditorValue → EditorValue
when_refused given e = record e { reader = record e.reader { refused = one_more e.reader.refused; given = given } }

-- what a call of `submit` says
abbrev pub IsSubmitted : EditorValue → Request → Result ℕ NotSent → EditorValue → Type 0
IsSubmitted e request (Ok call) f =
    (AwaitsAnswer e → ⊥) × (e.made < e.calls) × (call ≡ e.made + 1) × (f ≡ with_ask request e)
IsSubmitted e request (Err why) f = IsWhy e why × (f ≡ e)

-- the same editor, later
pub record LaterEditor (e f : EditorValue) : Type 0 where
  pub home : f.home ≡ e.home
  pub asks : f.asks.link ≡ e.asks.link
  pub answers : f.answers.link ≡ e.answers.link
  pub views : f.reader.views ≡ e.reader.views
  pub calls : f.calls ≡ e.calls
  pub submitted : IsPrefix e.asks.sent f.asks.sent
  pub taken : IsPrefix e.answers.taken f.answers.taken
  pub seen : IsPrefix e.reader.seen f.reader.seen
  pub known : IsPrefix e.reader.known f.reader.known

-- the editor is at the other end of this line
pub record Belongs (l : LineValue) (e : EditorValue) : Type 0 where
  pub asks : e.asks.link ≡ l.asks.link
  pub answers : l.answers.link ≡ e.answers.link

-- the count is that of the answers polled, as far as a number goes
abbrev pub IsPolledCount : ℕ → ℕ → Type 0
IsPolledCount count answers = count ≡ min answers (2 ^ 64 - 1)

-- the ends of a line on which nothing was sent yet
pub record IsNewLine (editor : ℕ) (views : Book) (l : LineValue) : Type 0 where
  pub editor_is : l.editor ≡ editor
  pub mark : l.answers.mark ≡ Some views
  pub places : (l.asks.cap ≡ line_places) × (l.answers.cap ≡ line_places)
  pub asks : l.asks.taken ≡ []
  pub answers : l.answers.sent ≡ []
  pub ask : l.ask ≡ None
  pub given : l.given ≡ []
  pub owed : l.owed ≡ false

pub record IsNewEditor (home : ℕ) (reader : ReaderValue) (calls : ℕ) (e : EditorValue) : Type 0 where
  pub home_is : e.home ≡ home
  pub reader_is : e.reader ≡ reader
  pub calls_is : e.calls ≡ calls
  pub places : (e.asks.cap ≡ line_places) × (e.answers.cap ≡ line_places)
  pub made : e.made ≡ 0
  pub entry : e.entry ≡ 0
  pub asks : e.asks.sent ≡ []
  pub answers : e.answers.taken ≡ []
