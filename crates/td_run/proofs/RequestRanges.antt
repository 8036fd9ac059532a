-- The index of a request of a live family is one that a line of the script tells, so it is in range.
use Rattle.std.proofs.Common.{◌≡◌, ◌<◌, ◌≤◌, ◌+◌, ◌^◌, ℕ, zero, suc, List, [], ◌∷◌, Bool, true, false, nat_eq, length}
use Rattle.std.proofs.Common.{map, replicate, Option, Some, All, if◌then◌else◌, refl, sym, ap, ◌∙◌, ◌⊎◌, subst, inl}
use Rattle.std.proofs.Common.{inr, ⊎_elim, arith}
use Rattle.std.specs.Prelude.{⊤, slice_get}
use Rattle.std.proofs.lemmas.Bool.{eqb-true}
use Rattle.std.proofs.lemmas.List.Elements.{All-head, All-tail}
use Rattle.std.proofs.lemmas.Option.{same_Some}
use Rattle.std.specs.List.{AllZip, range_with_len}
use Rattle.td_base.specs.Lists.{In}
use Rattle.td_base.specs.Value.{DotValue}
use Rattle.td_base.proofs.Lists.{In-append, map_In}
use Rattle.td_line.specs.Calls.{entry_at}
use Rattle.td_machine.specs.History.{History, Family, history}
use Rattle.td_op.specs.declared.entry.Entry.{Entry}
use Rattle.td_op.specs.declared.input.Input.{Input}
use Rattle.td_op.specs.declared.input.Input.TheVariants.{Local}
use Rattle.td_op.specs.declared.reply.Reply.{Reply}
use Rattle.td_op.specs.declared.reply.Reply.TheVariants.{Made, Cancelled, Held, Position, Gone, Limit, NotOpen}
use Rattle.td_op.specs.declared.reply.Reply.TheVariants.{New, Later, Repeat, Unfit, Taken, Dropped, Idle}
use Rattle.td_op.specs.declared.request.Request.{Request}
use Rattle.td_script.specs.declared.command.Place.{Place}
use Rattle.td_script.specs.declared.command.Place.TheVariants.{Root, Beside}
use Rattle.td_script.specs.declared.live.editor_line.EditorLine.{EditorLine}
use Rattle.td_script.specs.declared.live.editor_line.EditorLine.TheVariants as Line
use Rattle.td_text.specs.Runs.{runs_of}
use Rattle.td_script.specs.LiveScript.{AreLiveCommands, IsLiveCommand, SpellsLive, calls_of_command, homes_in}
use Rattle.td_script.specs.LiveScript.{line_at, lines_at, lines_of_all}
use Rattle.td_script.specs.declared.live.script.Live.{Live}
use Rattle.td_live.specs.Asking.{request_of, typed, paste_on, pasted, asks_of}
use Rattle.td_live.specs.Following.{Rest, Act, Called, Looked, replied, Leads, Stays, Calls, Looks, Begins, AreActs}
use Rattle.td_live.specs.Following.{FollowsLines, all_of}
use Rattle.td_trace.specs.declared.entry.TraceEntry.{TraceEntry}
use Rattle.td_trace.specs.declared.log.Did.{Did}
use Rattle.td_trace.specs.declared.log.Did.TheVariants as Done
use Rattle.td_trace.specs.declared.log.EditorLog.{EditorLog}
use Rattle.td_trace.specs.Entries.{traced, traced_history, told_of, is_request, tells_request, is_request_at}
use Rattle.td_trace.specs.Family.{AreAllCalls}
use Rattle.td_trace.specs.Editors.{calls_at, site_calls_at}
use Rattle.td_reader.specs.Values.{IsShortNumber, IsIndexed}

-- ---- the calls of a line

-- what a list is of
abbrev Of : {X : Type 0} → List X → Type 0
Of {X} xs = X

-- a call that a line asks for
abbrev Ask : Type 0
Ask = Of (asks_of Line.Look)

-- whatever was made last, the request has its index in range
abbrev FitsAsk : Ask → Type 0
FitsAsk ask = (made : Option DotValue) → IsIndexed (request_of ask made)

mapped : {X Y : Type 0} (P : Y → Type 0) (f : X → Y) (xs : List X) → ((x : X) → P (f x)) → (y : Y) → In y (map f xs)
    → P y
mapped P f xs h y i = let x = map_In f y xs i in subst P (sym x.2) (h x.0)

replicated : {X : Type 0} (P : X → Type 0) (n : ℕ) (x : X) → P x → (y : X) → In y (replicate n x) → P y
replicated P zero x h y i = absurd i
replicated P (suc n) x h y (inl e) = subst P (sym e) h
replicated P (suc n) x h y (inr i) = replicated P n x h y i

pasted_on : (before : List (List ℕ)) (runs : List (List (List ℕ))) (ask : Ask) → In ask (paste_on before runs)
    → FitsAsk ask
pasted_on before [] ask i = absurd i
pasted_on before (run ∷ runs) ask (inl e) = subst FitsAsk (sym e) (λ made. tt)
pasted_on before (run ∷ runs) ask (inr i) = pasted_on run runs ask i

all_typed : (index : ℕ) (atoms : List (List ℕ)) → IsShortNumber index → (ask : Ask) → In ask (typed index atoms)
    → FitsAsk ask
all_typed index [] h ask i = absurd i
all_typed index (atom ∷ atoms) h ask (inl e) = subst FitsAsk (sym e) (λ made. h)
all_typed index (atom ∷ atoms) h ask (inr i) = mapped FitsAsk _ atoms (λ other made. tt) ask i

all_pasted : (index : ℕ) (runs : List (List (List ℕ))) → IsShortNumber index → (ask : Ask) → In ask (pasted index runs)
    → FitsAsk ask
all_pasted index [] h ask i = absurd i
all_pasted index (run ∷ runs) h ask (inl e) = subst FitsAsk (sym e) (λ made. h)
all_pasted index (run ∷ runs) h ask (inr i) = pasted_on run runs ask i

-- the index that a line tells, or 0
abbrev pub index_in : Place → ℕ
index_in Root = 0
index_in (Beside index bit) = index

abbrev pub index_of : EditorLine → ℕ
index_of (Line.Ins index atoms) = index
index_of (Line.Paste index atoms) = index
index_of (Line.Del index count) = index
index_of (Line.Flat place) = index_in place
index_of (Line.Cancel p) = 0
index_of Line.Look = 0

abbrev pub FitsLine : EditorLine → Type 0
FitsLine line = index_of line < 10 ^ 9

short : (index : ℕ) → index < 10 ^ 9 → IsShortNumber index
short index h = omega (arith, h)

line_asks : (line : EditorLine) → FitsLine line → (ask : Ask) → In ask (asks_of line) → FitsAsk ask
line_asks (Line.Ins index atoms) h ask i = all_typed index atoms (short index h) ask i
line_asks (Line.Paste index atoms) h ask i = all_pasted index (runs_of atoms) (short index h) ask i
line_asks (Line.Del index count) h ask i = replicated FitsAsk count _ (λ made. short index h) ask i
line_asks (Line.Flat Root) h ask (inl e) = subst FitsAsk (sym e) (λ made. tt)
line_asks (Line.Flat Root) h ask (inr i) = absurd i
line_asks (Line.Flat (Beside index bit)) h ask (inl e) = subst FitsAsk (sym e) (λ made. short index h)
line_asks (Line.Flat (Beside index bit)) h ask (inr i) = absurd i
line_asks (Line.Cancel p) h ask (inl e) = subst FitsAsk (sym e) (λ made. tt)
line_asks (Line.Cancel p) h ask (inr i) = absurd i
line_asks Line.Look h ask i = absurd i

-- ---- what leads to an end

-- what is still to do asks for requests in range
record FitsRest (r : Rest) : Type 0 where
  pub asks : (ask : Ask) → In ask r.asks → FitsAsk ask
  pub lines : (line : EditorLine) → In line r.lines → FitsLine line

-- behind a call
replied_fits : (reply : Reply) (r : Rest) (asks : List Ask)
    → ((ask : Ask) → In ask asks → FitsAsk ask) → ((line : EditorLine) → In line r.lines → FitsLine line)
    → FitsRest (replied reply r asks)
replied_fits (Made dot) r asks h k = record { asks = h; lines = k }
replied_fits Cancelled r asks h k = record { asks = λ ask i. absurd i; lines = k }
replied_fits (Held by_) r asks h k = record { asks = λ ask i. absurd i; lines = k }
replied_fits (Position len) r asks h k = record { asks = λ ask i. absurd i; lines = k }
replied_fits (Gone x) r asks h k = record { asks = λ ask i. absurd i; lines = k }
replied_fits (Limit made undecided) r asks h k = record { asks = λ ask i. absurd i; lines = k }
replied_fits (NotOpen p) r asks h k = record { asks = λ ask i. absurd i; lines = k }
replied_fits New r asks h k = record { asks = λ ask i. absurd i; lines = k }
replied_fits Later r asks h k = record { asks = λ ask i. absurd i; lines = k }
replied_fits Repeat r asks h k = record { asks = λ ask i. absurd i; lines = k }
replied_fits (Unfit why) r asks h k = record { asks = λ ask i. absurd i; lines = k }
replied_fits (Taken dot) r asks h k = record { asks = λ ask i. absurd i; lines = k }
replied_fits (Dropped dot why) r asks h k = record { asks = λ ask i. absurd i; lines = k }
replied_fits Idle r asks h k = record { asks = λ ask i. absurd i; lines = k }

-- what an editor does has its requests in range
abbrev FitsAct : Act → Type 0
FitsAct (Called request reply) = IsIndexed request
FitsAct Looked = ⊤

leads_fit : (r : Rest) (acts : List Act) (s : Rest) → Leads r acts s → FitsRest r → (act : Act)
    → In act acts → FitsAct act
leads_fit r [] s Stays h act i = absurd i
leads_fit r _ s (Calls {ask = ask} {asks = asks} {reply = reply} {acts = acts} e rest) h act (inl same) =
    subst FitsAct (sym same) (h.asks ask (subst (λ (l : List Ask). In ask l) (sym e) (inl refl)) r.made)
leads_fit r _ s (Calls {ask = ask} {asks = asks} {reply = reply} {acts = acts} e rest) h act (inr i) =
    leads_fit (replied reply r asks) acts s rest
    (replied_fits reply r asks
    (λ a j. h.asks a (subst (λ (l : List Ask). In a l) (sym e) (inr j))) h.lines) act i
leads_fit r _ s (Looks {lines = lines} {acts = acts} e f rest) h act (inl same) =
    subst FitsAct (sym same) tt
leads_fit r _ s (Looks {lines = lines} {acts = acts} e f rest) h act (inr i) =
    leads_fit (record r { lines = lines }) acts s rest
    (record {
      asks = h.asks;
      lines = λ line j. h.lines line (subst (λ (l : List EditorLine). In line l) (sym f) (inr j));
    }) act i
leads_fit r acts s (Begins {line = line} {lines = lines} e f g rest) h act i =
    leads_fit (record r { asks = asks_of line; lines = lines }) acts s rest
    (record {
      asks = line_asks line (h.lines line (subst (λ (l : List EditorLine). In line l) (sym f) (inl refl)));
      lines = λ other j. h.lines other (subst (λ (l : List EditorLine). In other l) (sym f) (inr j));
    }) act i

-- ---- the lines of a script

-- the type of commands, of which nothing but what they come to is told
abbrev Domain : {X Y : Type 0} → (X → Y) → Type 0
Domain {X} {Y} f = X

abbrev Command : Type 0
Command = Domain calls_of_command

abbrev first_index : List EditorLine → ℕ
first_index [] = 0
first_index (line ∷ lines) = index_of line

one_line : (e : ℕ) (c : Command) → length (line_at e c) ≤ 1
one_line e c = grind arith

its_index : (sites e : ℕ) (c : Command) → IsLiveCommand sites c → first_index (line_at e c) < 10 ^ 9
its_index sites e c h = grind arith

-- the first command says how many sites there are, and is no line
no_line : (sites e : ℕ) (c : Command) (cs : List Command) → AreLiveCommands sites (c ∷ cs) → length (line_at e c) ≤ 0
no_line sites e c cs h = grind arith

few_fit : (lines : List EditorLine) → length lines ≤ 1 → first_index lines < 10 ^ 9 → (line : EditorLine)
    → In line lines → FitsLine line
few_fit [] few h line i = absurd i
few_fit (x ∷ []) few h line (inl e) = subst FitsLine (sym e) h
few_fit (x ∷ []) few h line (inr i) = absurd i
few_fit (x ∷ y ∷ lines) few h line i = absurd (omega (arith, few))

none_in : (lines : List EditorLine) → length lines ≤ 0 → (line : EditorLine) → In line lines → ⊥
none_in [] few line i = i
none_in (x ∷ lines) few line i = omega (arith, few)

others_fit : (sites e : ℕ) (cs : List Command) → All (IsLiveCommand sites) cs → (line : EditorLine)
    → In line (lines_at e cs) → FitsLine line
others_fit sites e [] h line i = absurd i
others_fit sites e (c ∷ cs) h line i =
    ⊎_elim
    (λ (j : In line (line_at e c)).
    few_fit (line_at e c) (one_line e c) (its_index sites e c (All-head (IsLiveCommand sites) c cs h)) line j)
    (λ (j : In line (lines_at e cs)). others_fit sites e cs (All-tail (IsLiveCommand sites) c cs h) line j)
    (In-append line (line_at e c) (lines_at e cs) i)

commands_fit : (sites e : ℕ) (cs : List Command) → AreLiveCommands sites cs → (line : EditorLine)
    → In line (lines_at e cs) → FitsLine line
commands_fit sites e [] h line i = absurd i
commands_fit sites e (c ∷ cs) h line i =
    ⊎_elim (λ (j : In line (line_at e c)). absurd (none_in (line_at e c) (no_line sites e c cs h) line j))
    (λ (j : In line (lines_at e cs)). others_fit sites e cs h.2 line j)
    (In-append line (line_at e c) (lines_at e cs) i)

-- the lines of each editor
abbrev pub FitLines : List (List EditorLine) → Type 0
FitLines lines = (own : List EditorLine) → In own lines → (line : EditorLine) → In line own → FitsLine line

pub script_lines : (bytes : List ℕ) (live : Live) → SpellsLive bytes live → FitLines live.lines
script_lines bytes live s own i line j =
    let there : In own (lines_of_all (length (homes_in s.of)) s.of) =
    subst (λ (l : Live). In own l.lines) s.whole i in
    let e =
    map_In (λ (editor : ℕ). lines_at editor s.of) own (range_with_len 1 (length (homes_in s.of))) there in
    commands_fit live.sites e.0 s.of s.commands line (subst (λ (l : List EditorLine). In line l) e.2 j)

-- ---- what editors did

-- the entry is a call that an editor made
record Recorded (entries : History) (acts : List Act) (entry : ℕ) : Type 0 where
  request : Request
  reply : Reply
  is : entry_at entries entry ≡ Some (record { input = Local request; reply = reply })
  among : In (Called request reply) acts

abbrev entry_of : Did → ℕ
entry_of (Done.Call call entry) = entry
entry_of (Done.Look calls upto text) = 0

later : {entries : History} {act : Act} {acts : List Act} {entry : ℕ} → Recorded entries acts entry
    → Recorded entries (act ∷ acts) entry
later r = record { request = r.request; reply = r.reply; is = r.is; among = inr r.among }

acted : (entries : History) (did : List Did) (acts : List Act) → AreActs entries did acts → (call entry : ℕ)
    → In (Done.Call call entry) did → Recorded entries acts entry
acted entries [] acts are call entry i = absurd i
acted entries (Done.Call c e ∷ rest) [] are call entry i = absurd are
acted entries (Done.Look c u t ∷ rest) [] are call entry i = absurd are
acted entries (Done.Call c e ∷ rest) (Called request reply ∷ acts) are call entry (inl same) =
    record {
      request = request;
      reply = reply;
      is = subst
          (λ (k : ℕ). entry_at entries k ≡ Some (record { input = Local request; reply = reply }))
          (sym (ap entry_of same)) are.0;
      among = inl refl;
    }
acted entries (Done.Call c e ∷ rest) (Called request reply ∷ acts) are call entry (inr i) =
    later (acted entries rest acts are.1 call entry i)
acted entries (Done.Call c e ∷ rest) (Looked ∷ acts) are call entry i = absurd are
acted entries (Done.Look c u t ∷ rest) (Called request reply ∷ acts) are call entry i = absurd are
acted entries (Done.Look c u t ∷ rest) (Looked ∷ acts) are call entry (inl same) = absurd cc
acted entries (Done.Look c u t ∷ rest) (Looked ∷ acts) are call entry (inr i) =
    later (acted entries rest acts are call entry i)

call_found : (k : ℕ) (did : List Did) → 0 < calls_at k did → (call : ℕ) × In (Done.Call call k) did
call_found k [] h = absurd (omega (arith, h))
call_found k (Done.Look calls upto text ∷ rest) h = let f = call_found k rest h in (f.0, inr f.1)
call_found k (Done.Call call entry ∷ rest) h = at (nat_eq entry k) refl h (call_found k rest)
  where
    at : (b : Bool) → nat_eq entry k ≡ b → 0 < (if b then suc (calls_at k rest) else calls_at k rest)
        → (0 < calls_at k rest → (c : ℕ) × In (Done.Call c k) rest)
        → (c : ℕ) × In (Done.Call c k) (Done.Call call entry ∷ rest)
    at true e some ih = (call, inl (ap (λ (z : ℕ). Done.Call call z) (sym (eqb-true entry k e))))
    at false e some ih = let f = ih some in (f.0, inr f.1)

record Caller (site k : ℕ) (logs : List EditorLog) : Type 0 where
  log : EditorLog
  among : In log logs
  home : log.home ≡ site
  some : 0 < calls_at k log.did

caller : (site k : ℕ) (logs : List EditorLog) → 0 < site_calls_at site k logs → Caller site k logs
caller site k [] h = absurd (omega (arith, h))
caller site k (log ∷ logs) h = at (nat_eq log.home site) refl h (caller site k logs)
  where
    behind : Caller site k logs → Caller site k (log ∷ logs)
    behind c = record { log = c.log; among = inr c.among; home = c.home; some = c.some }

    either_one : (a b : ℕ) → 0 < a + b → (0 < a) ⊎ (0 < b)
    either_one zero b h = inr (omega (arith, h))
    either_one (suc a) b h = inl (omega arith)

    at : (b : Bool) → nat_eq log.home site ≡ b
        → 0 < (if b then calls_at k log.did + site_calls_at site k logs else site_calls_at site k logs)
        → (0 < site_calls_at site k logs → Caller site k logs) → Caller site k (log ∷ logs)
    at true e some ih =
        ⊎_elim
        (λ (here : 0 < calls_at k log.did).
        record { log = log; among = inl refl; home = eqb-true log.home site e; some = here })
        (λ (there : 0 < site_calls_at site k logs). behind (ih there))
        (either_one (calls_at k log.did) (site_calls_at site k logs) some)
    at false e some ih = behind (ih some)

zipped : {A B : Type 0} (R : A → B → Type 0) (xs : List A) (ys : List B) → AllZip R xs ys → (y : B) → In y ys
    → (x : A) × In x xs × R x y
zipped R [] [] all y i = absurd i
zipped R [] (z ∷ ys) all y i = absurd all
zipped R (x ∷ xs) [] all y i = absurd all
zipped R (x ∷ xs) (z ∷ ys) all y (inl e) = (x, inl refl, subst (R x) (sym e) all.0)
zipped R (x ∷ xs) (z ∷ ys) all y (inr i) = let f = zipped R xs ys all.1 y i in (f.0, inr f.1, f.2)

-- ---- entries

place_of : {X : Type 0} (x : X) (xs : List X) → In x xs → (k : ℕ) × (slice_get xs k ≡ Some x)
place_of x (y ∷ xs) (inl e) = (0, ap Some (sym e))
place_of x (y ∷ xs) (inr i) = let f = place_of x xs i in (suc f.0, f.1)
place_of x [] i = absurd i

told_at : (h : History) (k : ℕ) (e : Entry) → slice_get h k ≡ Some e
    → slice_get (traced_history h) k ≡ Some (traced e)
told_at [] k e f = absurd cc
told_at (x ∷ h) zero e f = ap (λ (z : Entry). Some (traced z)) (same_Some x e f)
told_at (x ∷ h) (suc k) e f = told_at h k e f

local_same : (a b : Request) → Local a ≡ Local b → a ≡ b
local_same a b e = cc

-- the entry at a place is told as a request
asked_at : (h : History) (k : ℕ) (e : Entry) (request : Request) → slice_get h k ≡ Some e → e.input ≡ Local request
    → is_request_at (traced_history h) (suc k) ≡ true
asked_at h k e request there is =
    let told : slice_get (traced_history h) k ≡ Some (traced e) = told_at h k e there in
    subst (λ (o : Option TraceEntry). tells_request o ≡ true) (sym told)
    (subst (λ (input : Input). is_request (told_of input) ≡ true) (sym is) refl)

-- where it is a call of what an editor did, it is that call's request
recorded_fits : (h : History) (k : ℕ) (e : Entry) (request : Request) → slice_get h k ≡ Some e
    → e.input ≡ Local request → (acts : List Act) → Recorded h acts (suc k)
    → ((act : Act) → In act acts → FitsAct act) → IsIndexed request
recorded_fits h k e request there is acts r fits =
    let call : Entry = record { input = Local r.request; reply = r.reply } in
    let same : e ≡ call = same_Some e call (sym there ∙ r.is) in
    let asked : Local request ≡ Local r.request = sym is ∙ ap (λ (z : Entry). z.input) same in
    subst IsIndexed (sym (local_same request r.request asked)) (fits (Called r.request r.reply) r.among)

-- each request of a history is that of one call, which a line asks for
pub indexes_fit : (family : Family) (lines : List (List EditorLine)) (logs : List EditorLog) → FitLines lines
    → AllZip (λ (own : List EditorLine) (log : EditorLog). FollowsLines (history family log.home) own log.did) lines
    logs → AreAllCalls family logs → (site : ℕ) → 0 < site → site ≤ length family
    → (e : Entry) → In e (history family site) → (request : Request) → e.input ≡ Local request → IsIndexed request
indexes_fit family lines logs fits followed calls site some within e i request is =
    let h : History = history family site in
    let place = place_of e h i in
    let asked : is_request_at (traced_history h) (suc place.0) ≡ true =
    asked_at h place.0 e request place.1 is in
    let one : site_calls_at site (suc place.0) logs ≡ 1 = calls site (suc place.0) some within asked in
    let c : Caller site (suc place.0) logs = caller site (suc place.0) logs (omega (arith, one)) in
    let own =
    zipped (λ (own : List EditorLine) (log : EditorLog). FollowsLines (history family log.home) own log.did) lines logs
    followed c.log c.among in
    let f : FollowsLines (history family c.log.home) own.0 c.log.did = own.2 in
    let call = call_found (suc place.0) c.log.did c.some in
    let r : Recorded (history family c.log.home) f.acts (suc place.0) =
    acted (history family c.log.home) c.log.did f.acts f.are call.0 (suc place.0) call.1 in
    recorded_fits h place.0 e request place.1 is f.acts
    (subst (λ (home : ℕ). Recorded (history family home) f.acts (suc place.0)) c.home r)
    (leads_fit (all_of own.0) f.acts f.rest f.leads
    (record { asks = λ ask j. absurd j; lines = fits own.0 own.1 }))
