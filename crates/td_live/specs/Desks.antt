-- What contracts see of a desk: an editor with its lines, and what it did so far.
use Rattle.std.specs.Prelude.{◌≡◌, ◌≤◌, ◌+◌, ⊤, ℕ, List, [], ◌∷◌, ◌++◌, length}
use Rattle.std.specs.List.{concat}
use mathlib.Core.List.{IsPrefix}
use Rattle.td_base.specs.Lists.{In}
use Rattle.td_view.specs.declared.publish.Publish.{Publish}
use Rattle.td_view.specs.Publishes.{last_upto}
use Rattle.td_line.specs.declared.ask.Ask.{Ask as Sent}
use Rattle.td_line.specs.declared.answer.Answer.{Answer}
use Rattle.td_line.specs.Editors.{EditorValue, LaterEditor, AwaitsAnswer, polled}
use Rattle.td_script.specs.declared.live.editor_line.EditorLine.{EditorLine}
use Rattle.td_trace.specs.declared.log.Did.{Did}
use Rattle.td_trace.specs.declared.log.Did.TheVariants.{Call, Look}
use Rattle.td_trace.specs.Editors.{Sofar, nothing_yet, further}
use Rattle.td_live.specs.declared.ask.Ask.{Ask}
use Rattle.td_live.specs.Asking.{request_of}
use Rattle.td_live.specs.Following.{Rest, Act, Called, Looked, Leads, all_of, calls_left}

pub record DeskValue : Type 0 where
  pub editor : EditorValue
  -- what is still to do. A call is done when its answer is polled
  pub rest : Rest
  -- what was done
  pub did : List Did

-- the calls done are these requests with these answers, in order
abbrev pub acts_by : List Sent → List Answer → List Did → List Act
acts_by asks answers [] = []
acts_by (q ∷ asks) (a ∷ answers) (Call call entry ∷ did) = Called q.request a.reply ∷ acts_by asks answers did
acts_by asks answers (Look calls upto text ∷ did) = Looked ∷ acts_by asks answers did
acts_by asks answers (Call call entry ∷ did) = []

abbrev pub acts_of : DeskValue → List Act
acts_of d = acts_by d.editor.asks.sent (polled d.editor) d.did

-- behind so many calls, the calls done are those of these answers, and each look stands behind those before it
abbrev pub AreAnswered : ℕ → List Answer → List Did → Type 0
AreAnswered count answers [] = answers ≡ []
AreAnswered count [] (Call call entry ∷ did) = ⊥
AreAnswered count (a ∷ answers) (Call call entry ∷ did) =
    (call ≡ count + 1) × (a.entry ≡ entry) × AreAnswered (count + 1) answers did
AreAnswered count answers (Look calls upto text ∷ did) = (calls ≡ count) × AreAnswered count answers did

-- each look was at one of these publishes, with at least the entry of the call before it and that of the look before it
abbrev pub AreLooksAt : List Publish → (entry upto : ℕ) → List Did → Type 0
AreLooksAt seen entry upto [] = ⊤
AreLooksAt seen entry upto (Call call k ∷ did) = AreLooksAt seen k upto did
AreLooksAt seen entry upto (Look calls u text ∷ did) =
    (entry ≤ u) × (upto ≤ u) × ((p : Publish) × In p seen × (p.upto ≡ u) × (concat p.atoms ≡ text))
    × AreLooksAt seen entry u did

-- how far this has come, behind what was done before
abbrev pub sofar_of : Sofar → List Did → Sofar
sofar_of s [] = s
sofar_of s (did ∷ rest) = sofar_of (further s did) rest

-- the last request sent is the next call of the lines
pub record AwaitsNext (d : DeskValue) : Type 0 where
  pub before : List Sent
  pub ask : Sent
  pub sent : d.editor.asks.sent ≡ before ++ ask ∷ []
  pub one : length (polled d.editor) ≡ length before
  pub next : Ask
  pub others : List Ask
  pub asks : d.rest.asks ≡ next ∷ others
  pub request : ask.request ≡ request_of next d.rest.made

-- the answers polled are the calls done, and a request that has no answer yet is the next call; the looks were at what
-- its reader has seen; its last answer and its last look are those of the editor; each call made is a request sent;
-- and it may make all calls that are still to come
pub record IsDesk (d : DeskValue) : Type 0 where
  pub answered : AreAnswered 0 (polled d.editor) d.did
  pub seen : AreLooksAt d.editor.reader.seen 0 0 d.did
  pub pending : AwaitsAnswer d.editor → AwaitsNext d
  pub entry : (sofar_of nothing_yet d.did).entry ≡ d.editor.entry
  pub upto : (sofar_of nothing_yet d.did).upto ≤ last_upto d.editor.reader.seen
  pub asked : length (polled d.editor) ≤ length d.editor.asks.sent
  pub made : d.editor.made ≡ length d.editor.asks.sent
  pub room : length (polled d.editor) + calls_left d.rest ≤ d.editor.calls

-- of these lines what is not still to do was done: it leads from one to the other
abbrev pub HasDoneLines : List EditorLine → DeskValue → Type 0
HasDoneLines lines d = Leads (all_of lines) (acts_of d) d.rest

-- the same desk, later: what it had done of any lines, and has done of them since
pub record LaterDesk (d e : DeskValue) : Type 0 where
  pub editor : LaterEditor d.editor e.editor
  pub done : (lines : List EditorLine) → HasDoneLines lines d → HasDoneLines lines e
  pub did : IsPrefix d.did e.did
