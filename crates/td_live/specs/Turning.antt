-- What a turn of a desk says.
use Rattle.std.specs.Prelude.{◌≡◌, ◌≢◌, ◌⊎◌, ◌+◌, Bool, IsTrue, ◌↔◌, ℕ, List, [], ◌∷◌, ◌++◌, length}
use Rattle.std.specs.List.{AllByRecursion, concat}
use Rattle.td_op.specs.declared.request.Request.{Request}
use Rattle.td_link.specs.Moments.{WasEmpty, WasFull}
use Rattle.td_view.specs.declared.publish.Publish.{Publish}
use Rattle.td_view.specs.Publishes.{EndsWith}
use Rattle.td_line.specs.declared.answer.Answer.{Answer}
use Rattle.td_line.specs.Lines.{line_places}
use Rattle.td_line.specs.Editors.{EditorValue, AwaitsAnswer, IsNewEditor, polled, with_ask, when_shown, when_refused}
use Rattle.td_script.specs.declared.live.editor_line.EditorLine.{EditorLine}
use Rattle.td_script.specs.declared.live.editor_line.EditorLine.TheVariants as Line
use Rattle.td_trace.specs.declared.log.Did.TheVariants.{Call, Look}
use Rattle.td_live.specs.declared.ask.Ask.{Ask}
use Rattle.td_live.specs.declared.next.Next.TheVariants as Next
use Rattle.td_live.specs.declared.went.Went.{Went}
use Rattle.td_live.specs.declared.went.Went.TheVariants.{Answered, Looked, Submitted, Over, Again}
use Rattle.td_live.specs.Asking.{asks_of}
use Rattle.td_live.specs.Agenda.{IsNextToDo}
use Rattle.td_live.specs.Following.{Rest, Leads, replied, all_of}
use Rattle.td_live.specs.Following.{Looked as LookedAct}
use Rattle.td_live.specs.Desks.{DeskValue, IsDesk}

-- a line that asks neither for a call nor for a look
abbrev pub AsksNothing : EditorLine → Type 0
AsksNothing line = (line ≢ Line.Look) × (asks_of line ≡ [])

-- the lines are done: none that is left asks for anything
pub record AreDone (r : Rest) : Type 0 where
  pub asks : r.asks ≡ []
  pub lines : AllByRecursion AsksNothing r.lines

-- no call is pending, and the lines are done
pub record IsAtEnd (d : DeskValue) : Type 0 where
  pub idle : AwaitsAnswer d.editor → ⊥
  pub done : AreDone d.rest

-- what was done is as before, and what is still to do, but for lines that have begun
pub record Stays (d e : DeskValue) : Type 0 where
  pub rest : Leads d.rest [] e.rest
  pub did : e.did ≡ d.did

-- so are its home, its calls and its answers
pub record Keeps (d e : DeskValue) : Type 0 where
  pub stays : Stays d e
  pub editor : e.editor ≡ record d.editor { reader = e.editor.reader }

-- the answer to the call that was pending was polled, and the call stands in what was done
pub record HasAnswered (d e : DeskValue) : Type 0 where
  pub pending : AwaitsAnswer d.editor
  pub answer : Answer
  pub answers : polled e.editor ≡ polled d.editor ++ answer ∷ []
  pub editor : e.editor ≡ record d.editor {
    answers = record d.editor.answers { taken = e.editor.answers.taken };
    reader = record d.editor.reader { known = e.editor.reader.known };
    entry = answer.entry;
  }
  pub ask : Ask
  pub asks : List Ask
  pub next : d.rest.asks ≡ ask ∷ asks
  pub rest : e.rest ≡ replied answer.reply d.rest asks
  pub did : e.did ≡ d.did ++ Call (length (polled d.editor) + 1) answer.entry ∷ []

-- the next look was done, at the publish that its reader has now seen last
pub record HasDoneLook (d e : DeskValue) : Type 0 where
  pub idle : AwaitsAnswer d.editor → ⊥
  pub editor : e.editor ≡ when_shown e.editor.reader.seen d.editor
  pub rest : Leads d.rest (LookedAct ∷ []) e.rest
  pub publish : Publish
  pub last : EndsWith e.editor.reader.seen publish
  pub did : e.did ≡ d.did ++ Look (length (polled d.editor)) publish.upto (concat publish.atoms) ∷ []

-- the next call of the lines was sent
pub record HasSubmitted (d e : DeskValue) : Type 0 where
  pub idle : AwaitsAnswer d.editor → ⊥
  pub request : Request
  pub next : IsNextToDo (Next.Ask request) e.rest
  pub editor : e.editor ≡ with_ask request d.editor
  pub stays : Stays d e

-- there was no answer, no place for a request, or no text
abbrev pub IsHindered : DeskValue → DeskValue → Type 0
IsHindered d e =
    (AwaitsAnswer d.editor × WasEmpty d.editor.answers.taken × (e.editor ≡ d.editor))
    ⊎ ((AwaitsAnswer d.editor → ⊥) × WasFull line_places d.editor.asks.sent × (e.editor ≡ d.editor))
    ⊎ ((AwaitsAnswer d.editor → ⊥) × (e.editor ≡ when_refused e.editor.reader.given d.editor))

-- what a turn says that went so
abbrev pub IsTurn : DeskValue → Went → DeskValue → Type 0
IsTurn d Answered e = HasAnswered d e
IsTurn d Looked e = HasDoneLook d e
IsTurn d Submitted e = HasSubmitted d e
IsTurn d Over e = IsAtEnd d × Stays d e × (e.editor ≡ d.editor)
IsTurn d Again e = Stays d e × IsHindered d e

-- an editor that has made no call and polled no answer
abbrev pub IsUnused : EditorValue → Type 0
IsUnused e = IsNewEditor e.home e.reader e.calls e

-- the desk of an editor with these lines that has done nothing
abbrev pub new_desk : EditorValue → List EditorLine → DeskValue
new_desk editor lines = record { editor = editor; rest = all_of lines; did = [] }

-- what a desk keeps beside its value: the number of its last call, and whether that has no answer yet
pub record IsDeskParts (call : ℕ) (waits : Bool) (d : DeskValue) : Type 0 where
  pub desk : IsDesk d
  pub call_is : call ≡ d.editor.made
  pub waits_is : IsTrue waits ↔ AwaitsAnswer d.editor
