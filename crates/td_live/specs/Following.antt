-- What an editor does that follows its lines.
use Rattle.std.specs.Prelude.{◌≡◌, ◌+◌, ℕ, List, [], ◌∷◌, length, sum_by, Option, Some, None}
use Rattle.td_base.specs.Value.{DotValue}
use Rattle.td_op.specs.declared.input.Input.TheVariants.{Local}
use Rattle.td_op.specs.declared.reply.Reply.{Reply}
use Rattle.td_op.specs.declared.reply.Reply.TheVariants.{Made}
use Rattle.td_op.specs.declared.request.Request.{Request}
use Rattle.td_machine.specs.History.{History}
use Rattle.td_line.specs.Calls.{entry_at}
use Rattle.td_script.specs.declared.live.editor_line.EditorLine.{EditorLine}
use Rattle.td_script.specs.declared.live.editor_line.EditorLine.TheVariants.{Look}
use Rattle.td_script.specs.LiveScript.{calls}
use Rattle.td_trace.specs.declared.log.Did.{Did}
use Rattle.td_trace.specs.declared.log.Did.TheVariants as Done
use Rattle.td_live.specs.declared.ask.Ask.{Ask}
use Rattle.td_live.specs.Asking.{request_of, asks_of}

-- what an editor has still to do: the calls that are left of the line at which it is, by the operation made last, where
-- one was; and then the other lines
pub record Rest : Type 0 where
  pub asks : List Ask
  pub made : Option DotValue
  pub lines : List EditorLine

-- one thing that an editor does: a call, which got this reply, or a look
pub data Act : Type 0 where
  Called : (request : Request) → (reply : Reply) → Act
  Looked : Act

-- a reply that is not Made ends the line
abbrev pub replied : Reply → Rest → List Ask → Rest
replied (Made dot) r asks = record r { asks = asks; made = Some dot }
replied reply r asks = record r { asks = [] }

-- doing this, one thing after the other, leads from what is to do at first to what is then still to do
pub data Leads : Rest → List Act → Rest → Type 0 where
  Stays : {r : Rest} → Leads r [] r
  -- the next call of the line
  Calls : {r s : Rest} {ask : Ask} {asks : List Ask} {reply : Reply} {acts : List Act} → r.asks ≡ ask ∷ asks
      → Leads (replied reply r asks) acts s → Leads r (Called (request_of ask r.made) reply ∷ acts) s
  -- no call is left of the line: the next line is a look, or begins with its first call, where it has any
  Looks : {r s : Rest} {lines : List EditorLine} {acts : List Act} → r.asks ≡ [] → r.lines ≡ Look ∷ lines
      → Leads (record r { lines = lines }) acts s → Leads r (Looked ∷ acts) s
  Begins : {r s : Rest} {line : EditorLine} {lines : List EditorLine} {acts : List Act} → r.asks ≡ []
      → r.lines ≡ line ∷ lines → (line ≡ Look → ⊥)
      → Leads (record r { asks = asks_of line; lines = lines }) acts s → Leads r acts s

-- all these lines are to do
abbrev pub all_of : List EditorLine → Rest
all_of lines = record { asks = []; made = None; lines = lines }

-- nothing is left to do
pub record HasNothingLeft (r : Rest) : Type 0 where
  pub asks : r.asks ≡ []
  pub lines : r.lines ≡ []

-- the greatest number of calls that are still to come
abbrev pub calls_left : Rest → ℕ
calls_left r = length r.asks + sum_by calls r.lines

-- what an editor did at a site with this history: each call is its entry
abbrev pub AreActs : History → List Did → List Act → Type 0
AreActs entries [] acts = acts ≡ []
AreActs entries (did ∷ rest) [] = ⊥
AreActs entries (Done.Call call entry ∷ rest) (Called request reply ∷ acts) =
    (entry_at entries entry ≡ Some (record { input = Local request; reply = reply })) × AreActs entries rest acts
AreActs entries (Done.Call call entry ∷ rest) (Looked ∷ acts) = ⊥
AreActs entries (Done.Look calls upto text ∷ rest) (Called request reply ∷ acts) = ⊥
AreActs entries (Done.Look calls upto text ∷ rest) (Looked ∷ acts) = AreActs entries rest acts

-- the calls and looks are those that the lines ask for, in order, each once, given the replies; and no other
pub record FollowsLines (entries : History) (lines : List EditorLine) (did : List Did) : Type 0 where
  pub acts : List Act
  pub are : AreActs entries did acts
  pub rest : Rest
  pub leads : Leads (all_of lines) acts rest
  pub over : HasNothingLeft rest
