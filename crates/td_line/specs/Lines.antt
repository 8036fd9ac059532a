-- What contracts see of the end of a line that a worker has, and what its work for one editor leaves.
use Rattle.std.specs.Prelude.{◌≡◌, ◌≢◌, ◌⊎◌, ◌<◌, ◌+◌, ◌-◌, ◌++◌, ℕ, Bool, true, false}
use Rattle.std.specs.Prelude.{List, map, take, length, Option, None}
use Rattle.std.specs.Option.{option_to_list}
use mathlib.Core.List.{IsPrefix}
use Rattle.logbook.specs.Pages.{Book}
use Rattle.td_link.specs.Ends.{TxValue, RxValue}
use Rattle.td_link.specs.Moments.{WasEmpty, WasFull}
use Rattle.td_machine.specs.History.{History}
use Rattle.td_site.specs.Sites.{SiteValue}
use Rattle.td_site.specs.Later.{LaterSite}
use Rattle.td_line.specs.declared.ask.Ask.{Ask}
use Rattle.td_line.specs.declared.answer.Answer.{Answer}
use Rattle.td_line.specs.declared.report.Report.{Report}
use Rattle.td_line.specs.Calls.{AreRecorded, answers_at, local_at, OnlyLocals}

-- how many items a queue of a line can hold
abbrev pub line_places : ℕ
line_places = 2

pub record LineValue : Type 0 where
  -- the number of the editor in its room
  pub editor : ℕ
  -- the requests that come, and the answers that go, by the views that the editor looks at
  pub asks : RxValue Ask (Unit {0})
  pub answers : TxValue Report Book
  -- the request that was taken last, while it is not done
  pub ask : Option Ask
  -- an answer for each request done
  pub given : List Answer
  -- the last of them is still to be sent
  pub owed : Bool

-- what was sent of the answers: all, or all but the last
abbrev pub sent_part : Bool → List Answer → List Answer
sent_part false given = given
sent_part true given = take (length given - 1) given

-- what was sent are the answers given, and while one is owed no request is taken
pub record IsLine (l : LineValue) : Type 0 where
  pub sends : map (λ (r : Report). r.answer) l.answers.sent ≡ sent_part l.owed l.given
  pub one : l.owed ≡ true → l.ask ≡ None
  pub some : l.owed ≡ true → 0 < length l.given
  pub cap : l.answers.cap ≡ line_places

-- the requests taken are those done, each an entry with its answer, and then the one that is not done
pub record HasServed (entries : History) (l : LineValue) : Type 0 where
  pub done : List Ask
  pub taken : l.asks.taken ≡ done ++ option_to_list l.ask
  pub recorded : AreRecorded entries 0 done l.given

-- the same line, later
pub record LaterLine (l m : LineValue) : Type 0 where
  pub editor : m.editor ≡ l.editor
  pub asks : m.asks.link ≡ l.asks.link
  pub answers : m.answers.link ≡ l.answers.link
  pub mark : m.answers.mark ≡ l.answers.mark
  pub cap : m.answers.cap ≡ l.answers.cap
  pub taken : IsPrefix l.asks.taken m.asks.taken
  pub sent : IsPrefix l.answers.sent m.answers.sent
  pub given : IsPrefix l.given m.given

-- the site and the line after some work for this line alone: its requests became entries, each with its answer
pub record Served (s : SiteValue) (l : LineValue) (t : SiteValue) (m : LineValue) : Type 0 where
  pub site : LaterSite s t
  pub line : LaterLine l m
  pub only : OnlyLocals s.replica.entries t.replica.entries
  pub served : HasServed s.replica.entries l → HasServed t.replica.entries m
  pub counts : (k : ℕ) → answers_at k m.given + local_at s.replica.entries k
      ≡ answers_at k l.given + local_at t.replica.entries k

-- the last step is still to be shown, or the request that was taken is still to be done
abbrev pub IsUnfinished : SiteValue → LineValue → Type 0
IsUnfinished s l = (s.late ≡ true) ⊎ (l.ask ≢ None)

-- what a turn that ends well leaves of a line: the request taken is done; an answer is owed only where the answer
-- queue was full at a moment; and no request was taken only where the request queue was empty at a moment, or an
-- answer is owed
pub record Turned (l m : LineValue) : Type 0 where
  pub done : m.ask ≡ None
  pub full : m.owed ≡ true → WasFull line_places m.answers.sent
  pub took : m.asks.taken ≡ l.asks.taken → m.owed ≡ false → WasEmpty m.asks.taken
