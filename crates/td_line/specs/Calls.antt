-- The calls of an editor in the history of its site.
use Rattle.std.specs.Prelude.{◌≡◌, ◌<◌, ◌==◌, ◌++◌, ℕ, zero, suc, List, [], ◌∷◌, length}
use Rattle.std.specs.Prelude.{Option, Some, None, slice_get, if◌then◌else◌}
use Rattle.std.specs.List.{AllByRecursion}
use Rattle.td_op.specs.declared.entry.Entry.{Entry}
use Rattle.td_op.specs.declared.input.Input.{Input}
use Rattle.td_op.specs.declared.input.Input.TheVariants.{Local, Take, Next}
use Rattle.td_machine.specs.History.{History}
use Rattle.td_line.specs.declared.ask.Ask.{Ask}
use Rattle.td_line.specs.declared.answer.Answer.{Answer}

-- the entry with this number, from 1
abbrev pub entry_at : History → ℕ → Option Entry
entry_at entries zero = None
entry_at entries (suc k) = slice_get entries k

-- each of the requests is an entry of the history, one past the other and past this one, and its answer says which,
-- with the reply
abbrev pub AreRecorded : History → ℕ → List Ask → List Answer → Type 0
AreRecorded entries last [] [] = Unit {0}
AreRecorded entries last [] (a ∷ answers) = ⊥
AreRecorded entries last (q ∷ asks) [] = ⊥
AreRecorded entries last (q ∷ asks) (a ∷ answers) =
    (a.call ≡ q.call) × (last < a.entry)
    × (entry_at entries a.entry ≡ Some (record { input = Local q.request; reply = a.reply }))
    × AreRecorded entries a.entry asks answers

-- how many of the answers are of the entry with this number
abbrev pub answers_at : ℕ → List Answer → ℕ
answers_at k [] = 0
answers_at k (a ∷ answers) = if a.entry == k then suc (answers_at k answers) else answers_at k answers

abbrev pub local_in : Input → ℕ
local_in (Local request) = 1
local_in (Take message) = 0
local_in Next = 0

abbrev pub local_of : Option Entry → ℕ
local_of None = 0
local_of (Some e) = local_in e.input

-- 1 where the entry with this number is a request, else 0
abbrev pub local_at : History → ℕ → ℕ
local_at entries k = local_of (entry_at entries k)

-- the entries added are all requests
pub record OnlyLocals (old new : History) : Type 0 where
  pub more : History
  pub added : new ≡ old ++ more
  pub local : AllByRecursion (λ (e : Entry). local_in e.input ≡ 1) more

-- the request became the next entry of the history, and its answer came behind those before
pub record IsAskDone (old : History) (before : List Answer) (ask : Ask) (new : History) (after : List Answer)
    : Type 0 where
  pub answer : Answer
  pub call : answer.call ≡ ask.call
  pub entry : answer.entry ≡ length new
  pub entries : new ≡ old ++ record { input = Local ask.request; reply = answer.reply } ∷ []
  pub given : after ≡ before ++ answer ∷ []
