-- Histories that go on: what is recorded stays recorded, and requests alone change nothing of what was taken.
use Rattle.std.proofs.Common.{◌≡◌, ◌+◌, ◌++◌, ℕ, zero, suc, List, [], ◌∷◌, Some, slice_get, refl}
use Rattle.std.proofs.Common.{sym, ap, ◌∙◌, subst, append-nil, append_assoc}
use Rattle.std.specs.List.{AllByRecursion}
use mathlib.Core.List.{IsPrefix}
use Rattle.td_op.specs.declared.entry.Entry.{Entry}
use Rattle.td_op.specs.declared.input.Input.{Input}
use Rattle.td_op.specs.declared.input.Input.TheVariants.{Local, Take, Next}
use Rattle.td_op.specs.declared.message.Message.{Message}
use Rattle.td_machine.specs.Machine.{Machine, start}
use Rattle.td_machine.specs.Step.{step}
use Rattle.td_machine.specs.History.{History}
use Rattle.td_law_meeting.specs.Takes.{taken_in, takes_from, TakesWelcome}
use Rattle.td_line.specs.declared.ask.Ask.{Ask}
use Rattle.td_line.specs.declared.answer.Answer.{Answer}
use Rattle.td_line.specs.Calls.{entry_at, local_in, local_of, local_at, AreRecorded, OnlyLocals}
use Rattle.td_line.specs.Lines.{LineValue, HasServed}
use Rattle.td_site.specs.Sites.{SiteValue}
use Rattle.td_site.specs.Later.{LaterSite, TookNext, OnlyNexts}
use Rattle.td_room.specs.Later.{Went, NoMoreLocals}
use Rattle.td_room.proofs.Walks.{all_map}

-- ---- an entry that is no request

pub local_more : (entries : History) (e : Entry) → local_in e.input ≡ 0 → (k : ℕ)
    → local_at (entries ++ e ∷ []) k ≡ local_at entries k
local_more entries e none zero = refl
local_more entries e none (suc k) = at entries k
  where
    at : (es : History) (j : ℕ) → local_of (slice_get (es ++ e ∷ []) j) ≡ local_of (slice_get es j)
    at [] zero = none
    at [] (suc j) = refl
    at (x ∷ es) zero = refl
    at (x ∷ es) (suc j) = at es j

-- ---- entries that take no message

abbrev TakesNone : Entry → Type 0
TakesNone e = (message : Message) → e.input ≡ Take message → ⊥

taken_none : (number : ℕ) (input : Input) → ((message : Message) → input ≡ Take message → ⊥) → taken_in number input
    ≡ []
taken_none number (Local request) none = refl
taken_none number (Take message) none = absurd (none message refl)
taken_none number Next none = refl

takes_more : (number : ℕ) (old more : History) → AllByRecursion TakesNone more
    → takes_from number (old ++ more) ≡ takes_from number old
takes_more number [] [] h = refl
takes_more number [] (e ∷ more) h =
    ap (λ (ms : List Message). ms ++ takes_from number more) (taken_none number e.input h.0)
    ∙ takes_more number [] more h.1
takes_more number (e ∷ old) more h =
    ap (λ (ms : List Message). taken_in number e.input ++ ms) (takes_more number old more h)

welcome_more : (site size : ℕ) (m : Machine) (old more : History) → AllByRecursion TakesNone more
    → TakesWelcome site size m old → TakesWelcome site size m (old ++ more)
welcome_more site size m [] [] h w = w
welcome_more site size m [] (e ∷ more) h w =
    ((λ message f. absurd (h.0 message f)), welcome_more site size (step m e.input).machine [] more h.1 tt)
welcome_more site size m (e ∷ old) more h w = (w.0, welcome_more site size (step m e.input).machine old more h w.1)

-- a site whose history goes on by such entries
went : (s t : SiteValue) (more : History) → LaterSite s t → s.replica.entries ++ more ≡ t.replica.entries
    → AllByRecursion TakesNone more → Went s t
went s t more later goes_on none =
    record {
      later = later;
      takes = λ number. ap (takes_from number) (sym goes_on) ∙ takes_more number s.replica.entries more none;
      welcome = λ w.
          subst (λ (x : ℕ × ℕ × History). TakesWelcome x.0 x.1 (start x.0 x.1) x.2)
          (λ j. (sym later.site j, sym later.size j, goes_on j))
          (welcome_more s.replica.machine.site s.replica.machine.size
          (start s.replica.machine.site s.replica.machine.size) s.replica.entries more none w);
    }

-- ---- by requests alone

no_take : (input : Input) (message : Message) → local_in input ≡ 1 → input ≡ Take message → ⊥
no_take (Local request) message e f = absurd (cc f)
no_take (Take m) message e f = absurd (cc e)
no_take Next message e f = absurd (cc f)

pub locals_went : (s t : SiteValue) → LaterSite s t → OnlyLocals s.replica.entries t.replica.entries → Went s t
locals_went s t later only =
    went s t only.more later (sym only.added)
    (all_map (λ (e : Entry). local_in e.input ≡ 1) TakesNone only.more
    (λ e one message f. no_take e.input message one f) only.local)

-- ---- by what waited alone

none_next : (message : Message) → Next ≡ Take message → ⊥
none_next message e = cc e

pub nexts_went : (s t : SiteValue) → LaterSite s t → OnlyNexts s.replica.entries t.replica.entries → Went s t
nexts_went s t later only =
    went s t only.more later only.goes_on
    (all_map TookNext TakesNone only.more (λ e next message f. none_next message (sym next.0 ∙ f)) only.nexts)

locals_still : (old more : History) → AllByRecursion TookNext more → (k : ℕ) → local_at (old ++ more) k ≡ local_at old k
locals_still old [] h k = ap (λ (es : History). local_at es k) (append-nil old)
locals_still old (e ∷ more) h k =
    ap (λ (es : History). local_at es k) (sym (append_assoc old (e ∷ []) more))
    ∙ locals_still (old ++ e ∷ []) more h.1 k ∙ local_more old e (ap local_in h.0.0) k

pub nexts_locals : (s t : SiteValue) → OnlyNexts s.replica.entries t.replica.entries → NoMoreLocals s t
nexts_locals s t only k =
    ap (λ (es : History). local_at es k) (sym only.goes_on) ∙ locals_still s.replica.entries only.more only.nexts k

-- ---- what is recorded

entry_stays : (entries more : History) (k : ℕ) (e : Entry) → entry_at entries k ≡ Some e
    → entry_at (entries ++ more) k ≡ Some e
entry_stays entries more zero e f = f
entry_stays entries more (suc k) e f = at entries k f
  where
    at : (es : History) (j : ℕ) → slice_get es j ≡ Some e → slice_get (es ++ more) j ≡ Some e
    at [] j g = absurd (cc g)
    at (x ∷ es) zero g = g
    at (x ∷ es) (suc j) g = at es j g

pub recorded_more : (entries more : History) (last : ℕ) (asks : List Ask) (answers : List Answer)
    → AreRecorded entries last asks answers → AreRecorded (entries ++ more) last asks answers
recorded_more entries more last [] [] h = h
recorded_more entries more last [] (a ∷ answers) h = absurd h
recorded_more entries more last (q ∷ asks) [] h = absurd h
recorded_more entries more last (q ∷ asks) (a ∷ answers) h = (
  h.0,
  h.1,
  entry_stays entries more a.entry (record { input = Local q.request; reply = a.reply }) h.2,
  recorded_more entries more a.entry asks answers h.3,
)

pub recorded_on : (entries next : History) (last : ℕ) (asks : List Ask) (answers : List Answer) → IsPrefix entries next
    → AreRecorded entries last asks answers → AreRecorded next last asks answers
recorded_on entries next last asks answers p h =
    subst (λ (w : History). AreRecorded w last asks answers) p.1 (recorded_more entries p.0 last asks answers h)

pub served_on : (entries next : History) (l : LineValue) → IsPrefix entries next → HasServed entries l
    → HasServed next l
served_on entries next l p h =
    record { done = h.done; taken = h.taken; recorded = recorded_on entries next 0 h.done l.given p h.recorded }
