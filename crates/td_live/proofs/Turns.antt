-- A desk before and after a turn.
use Rattle.std.proofs.Common.{◌≡◌, ◌<◌, ◌≤◌, ◌+◌, ◌++◌, ℕ, suc, Bool, true, false, true≢false, IsTrue, ◌↔◌}
use Rattle.std.proofs.Common.{List, [], ◌∷◌, length, map, sum_by, Result, Ok, Err, OnErr, IfOk, refl, sym, ap}
use Rattle.std.proofs.Common.{◌∙◌, subst, arith, length-append, append-nil, ⊎_elim}
use Rattle.std.specs.List.{AllByRecursion, concat}
use Rattle.std.proofs.lemmas.List.{length-map}
use mathlib.Core.List.{IsPrefix}
use Rattle.td_op.specs.declared.request.Request.{Request}
use Rattle.td_op.specs.declared.reply.Reply.{Reply}
use Rattle.td_op.specs.declared.reply.Reply.TheVariants.{Made, Cancelled, Held, Position, Gone, Limit, NotOpen}
use Rattle.td_op.specs.declared.reply.Reply.TheVariants.{New, Later, Repeat, Unfit, Taken, Dropped, Idle}
use Rattle.td_view.specs.declared.publish.Publish.{Publish}
use Rattle.td_view.specs.Publishes.{EndsWith, last_upto}
use Rattle.td_view.specs.Values.{ReaderValue}
use Rattle.td_view.proofs.Rising.{ends_upto}
use Rattle.td_line.specs.declared.ask.Ask.{Ask as Sent}
use Rattle.td_line.specs.declared.answer.Answer.{Answer}
use Rattle.td_line.specs.declared.report.Report.{Report}
use Rattle.td_line.specs.declared.not_sent.NotSent.{NotSent}
use Rattle.td_line.specs.declared.not_sent.NotSent.TheVariants as Why
use Rattle.td_line.specs.Lines.{line_places}
use Rattle.td_link.specs.Moments.{WasFull}
use Rattle.td_line.specs.Editors.{EditorValue, LaterEditor, AwaitsAnswer, IsWhy, polled}
use Rattle.td_line.specs.Editors.{with_ask, when_shown, when_refused}
use Rattle.td_script.specs.declared.live.editor_line.EditorLine.{EditorLine}
use Rattle.td_script.specs.declared.live.editor_line.EditorLine.TheVariants as Line
use Rattle.td_script.specs.LiveScript.{calls as calls_of}
use Rattle.td_trace.specs.declared.log.Did.{Did}
use Rattle.td_trace.specs.declared.log.Did.TheVariants.{Call, Look}
use Rattle.td_trace.specs.Editors.{Sofar, nothing_yet, further}
use Rattle.td_live.specs.declared.ask.Ask.{Ask}
use Rattle.td_live.specs.declared.next.Next.TheVariants as Next
use Rattle.td_live.specs.Agenda.{IsNextToDo}
use Rattle.td_live.specs.Asking.{request_of, asks_of}
use Rattle.td_live.specs.Following.{Rest, Act, Called, Looked, Leads, Stays as LeadsStays, Calls}
use Rattle.td_live.specs.Following.{Looks, Begins, HasNothingLeft, replied, all_of, calls_left}
use Rattle.td_live.specs.Desks.{DeskValue, IsDesk, HasDoneLines, LaterDesk, AwaitsNext, acts_of}
use Rattle.td_live.specs.Desks.{acts_by, AreAnswered, AreLooksAt, sofar_of}
use Rattle.td_live.specs.declared.went.Went.{Went}
use Rattle.td_live.specs.declared.went.Went.TheVariants as Went
use Rattle.td_live.specs.Turning.{AsksNothing, AreDone, IsDeskParts, IsUnused, new_desk, Stays, Keeps, HasAnswered}
use Rattle.td_live.specs.Turning.{HasDoneLook, HasSubmitted, IsHindered, IsTurn}
use Rattle.td_base.specs.declared.memory.Memory.{Memory}
use Rattle.td_line.proofs.Editing.{later_editor_self, later_editor_then}
use Rattle.td_site.proofs.Lists.{prefix_self, prefix_then}
use Rattle.td_live.proofs.Leading.{leads_then, leads_call, leads_look}
use Rattle.td_live.proofs.Logging.{acts_more, acts_call, acts_look, answered_call, answered_look}
use Rattle.td_live.proofs.Logging.{sofar_more, in_last, seen_later, seen_call, seen_look}

-- ---- what is done leads on

-- the acts are others by an equation
leads_by : (a b : Rest) (acts more : List Act) → more ≡ acts → Leads a acts b → Leads a more b
leads_by a b acts more e way = subst (λ (w : List Act). Leads a w b) (sym e) way

-- a list of polled answers is as long as that of the reports
as_many : (e : EditorValue) → length (polled e) ≡ length e.answers.taken
as_many e = length-map e.answers.taken (λ (r : Report). r.answer)

-- where no call is pending, each request has its answer
pub all_answered : (d : DeskValue) → IsDesk d → (AwaitsAnswer d.editor → ⊥)
    → length (polled d.editor) ≡ length d.editor.asks.sent
all_answered d is idle = at_most (polled d.editor) d.editor.asks.sent is.asked
    (λ less. idle (subst (λ (n : ℕ). n < length d.editor.asks.sent) (as_many d.editor) less))
  where
    at_most : (xs : List Answer) (ys : List Sent) → length xs ≤ length ys → (length xs < length ys → ⊥)
        → length xs ≡ length ys
    at_most xs ys few none = at (length xs) (length ys) few none
      where
        at : (m n : ℕ) → m ≤ n → (m < n → ⊥) → m ≡ n
        at m n few none = omega (arith, few, none)

-- ---- a line begins

pub desk_begun : (d : DeskValue) (rest : Rest) → IsDesk d → (AwaitsAnswer d.editor → ⊥)
    → calls_left rest ≤ calls_left d.rest → IsDesk (record d { rest = rest })
desk_begun d rest is idle few = record {
  answered = is.answered;
  seen = is.seen;
  pending = λ p. absurd (idle p);
  entry = is.entry;
  upto = is.upto;
  asked = is.asked;
  made = is.made;
  room = let r : length (polled d.editor) + calls_left d.rest ≤ d.editor.calls = is.room in omega (arith, few);
}

-- ---- a call is sent

pub desk_submitted : (d : DeskValue) (request : Request) (ask : Ask) (asks : List Ask) → IsDesk d
    → (AwaitsAnswer d.editor → ⊥) → d.rest.asks ≡ ask ∷ asks → request ≡ request_of ask d.rest.made
    → IsDesk (record d { editor = with_ask request d.editor })
desk_submitted d request ask asks is idle next request_is =
    let q : Sent = record { call = d.editor.made + 1; request = request } in
    let more : length (d.editor.asks.sent ++ q ∷ []) ≡ length d.editor.asks.sent + 1 =
    length-append d.editor.asks.sent (q ∷ []) in
    record {
      answered = is.answered;
      seen = is.seen;
      pending = λ _. record {
        before = d.editor.asks.sent;
        ask = q;
        sent = refl;
        one = all_answered d is idle;
        next = ask;
        others = asks;
        asks = next;
        request = request_is;
      };
      entry = is.entry;
      upto = is.upto;
      asked = let a : length (polled d.editor) ≤ length d.editor.asks.sent = is.asked in omega (arith, more);
      made = let m : d.editor.made ≡ length d.editor.asks.sent = is.made in omega (arith, more);
      room = is.room;
    }

-- there is room for one more call
pub has_room : (d : DeskValue) (ask : Ask) (asks : List Ask) → IsDesk d → (AwaitsAnswer d.editor → ⊥)
    → d.rest.asks ≡ ask ∷ asks → d.editor.made < d.editor.calls
has_room d ask asks is idle next =
    let all : length (polled d.editor) ≡ length d.editor.asks.sent = all_answered d is idle in
    let made : d.editor.made ≡ length d.editor.asks.sent = is.made in
    let room : length (polled d.editor) + calls_left d.rest ≤ d.editor.calls = is.room in
    let some : length d.rest.asks ≡ suc (length asks) = ap (λ (w : List Ask). length w) next in
    omega arith

-- ---- an answer comes

-- fewer calls are left once one got its reply
replied_fewer : (reply : Reply) (r : Rest) (ask : Ask) (asks : List Ask) → r.asks ≡ ask ∷ asks
    → calls_left (replied reply r asks) + 1 ≤ calls_left r
replied_fewer reply r ask asks next =
    let some : length r.asks ≡ suc (length asks) = ap (λ (w : List Ask). length w) next in
    at reply (omega arith) (omega arith)
  where
    at : (reply : Reply) → (length asks + sum_by calls_of r.lines) + 1 ≤ calls_left r
        → (0 + sum_by calls_of r.lines) + 1 ≤ calls_left r → calls_left (replied reply r asks) + 1 ≤ calls_left r
    at (Made dot) all none = all
    at Cancelled all none = none
    at (Held by) all none = none
    at (Position len) all none = none
    at (Gone id) all none = none
    at (Limit made undecided) all none = none
    at (NotOpen proposal) all none = none
    at New all none = none
    at Later all none = none
    at Repeat all none = none
    at (Unfit why) all none = none
    at (Taken dot) all none = none
    at (Dropped dot why) all none = none
    at Idle all none = none

-- the call whose answer comes is the one that was pending
acts_answered : (d : DeskValue) (answer : Answer) (sent : List Sent) (answers : List Answer) (call : ℕ)
    → IsDesk d → (w : AwaitsNext d) → sent ≡ d.editor.asks.sent → answers ≡ polled d.editor ++ answer ∷ []
    → acts_by sent answers (d.did ++ Call call answer.entry ∷ [])
    ≡ acts_of d ++ Called (request_of w.next d.rest.made) answer.reply ∷ []
acts_answered d answer sent answers call is w sent_is answers_are =
    let did : List Did = d.did ++ Call call answer.entry ∷ [] in
    let front : acts_by w.before (polled d.editor) d.did ≡ acts_of d =
    sym (acts_more w.before (w.ask ∷ []) (polled d.editor) 0 d.did is.answered (omega (arith, w.one)))
    ∙ ap (λ (s : List Sent). acts_by s (polled d.editor) d.did) (sym w.sent) in
    ap (λ (s : List Sent). acts_by s answers did) (sent_is ∙ w.sent)
    ∙ ap (λ (a : List Answer). acts_by (w.before ++ w.ask ∷ []) a did) answers_are
    ∙ acts_call w.before w.ask (polled d.editor) answer 0 d.did call answer.entry is.answered w.one
    ∙ ap (λ (acts : List Act). acts ++ Called w.ask.request answer.reply ∷ []) front
    ∙ ap (λ (r : Request). acts_of d ++ Called r answer.reply ∷ []) w.request

pub desk_answered : (d : DeskValue) (f : EditorValue) (answer : Answer) (rest : Rest) (call : ℕ) → IsDesk d
    → AwaitsAnswer d.editor → call ≡ d.editor.made → polled f ≡ polled d.editor ++ answer ∷ []
    → f ≡ record d.editor {
      answers = record d.editor.answers { taken = f.answers.taken };
      reader = record d.editor.reader { known = f.reader.known };
      entry = answer.entry;
    }
    → ((ask : Ask) (asks : List Ask) → d.rest.asks ≡ ask ∷ asks → rest ≡ replied answer.reply d.rest asks)
    → IsDesk (record { editor = f; rest = rest; did = d.did ++ Call call answer.entry ∷ [] })
desk_answered d f answer rest call is waits call_is polled_is f_is rest_is =
    let w : AwaitsNext d = is.pending waits in
    let did : List Did = d.did ++ Call call answer.entry ∷ [] in
    let rest' : rest ≡ replied answer.reply d.rest w.others = rest_is w.next w.others w.asks in
    let sent : f.asks.sent ≡ d.editor.asks.sent = ap (λ (e : EditorValue). e.asks.sent) f_is in
    let seen : f.reader.seen ≡ d.editor.reader.seen = ap (λ (e : EditorValue). e.reader.seen) f_is in
    let made : f.made ≡ d.editor.made = ap (λ (e : EditorValue). e.made) f_is in
    let may : f.calls ≡ d.editor.calls = ap (λ (e : EditorValue). e.calls) f_is in
    let so : sofar_of nothing_yet did ≡ further (sofar_of nothing_yet d.did) (Call call answer.entry) =
    sofar_more nothing_yet d.did (Call call answer.entry) in
    let one : length (polled f) ≡ length (polled d.editor) + 1 =
    ap (λ (a : List Answer). length a) polled_is ∙ length-append (polled d.editor) (answer ∷ []) in
    let all : length d.editor.asks.sent ≡ length w.before + 1 =
    ap (λ (a : List Sent). length a) w.sent ∙ length-append w.before (w.ask ∷ []) in
    let here : length f.asks.sent ≡ length d.editor.asks.sent = ap (λ (a : List Sent). length a) sent in
    let before : length (polled d.editor) ≡ length w.before = w.one in
    let was : d.editor.made ≡ length d.editor.asks.sent = is.made in
    let room : length (polled d.editor) + calls_left d.rest ≤ d.editor.calls = is.room in
    let fewer : calls_left (replied answer.reply d.rest w.others) + 1 ≤ calls_left d.rest =
    replied_fewer answer.reply d.rest w.next w.others w.asks in
    let left : calls_left rest ≡ calls_left (replied answer.reply d.rest w.others) =
    ap (λ (r : Rest). calls_left r) rest' in
    record {
      answered = subst (λ (a : List Answer). AreAnswered 0 a did) (sym polled_is)
          (answered_call (polled d.editor) answer 0 d.did call is.answered (omega arith));
      seen = subst (λ (s : List Publish). AreLooksAt s 0 0 did) (sym seen)
          (seen_call d.editor.reader.seen nothing_yet d.did call answer.entry is.seen);
      pending = λ p.
          let less : length f.answers.taken < length f.asks.sent = p in
          absurd (omega (arith, as_many f));
      entry = ap (λ (s : Sofar). s.entry) so ∙ sym (ap (λ (e : EditorValue). e.entry) f_is);
      upto = subst (λ (s : List Publish). (sofar_of nothing_yet did).upto ≤ last_upto s) (sym seen)
          (let u : (sofar_of nothing_yet did).upto ≡ (sofar_of nothing_yet d.did).upto =
          ap (λ (s : Sofar). s.upto) so in omega (arith, is.upto));
      asked = omega arith;
      made = omega arith;
      room = omega arith;
    }

-- ---- a look

-- a desk whose reader has seen more is one
pub desk_reader : (d : DeskValue) (f : EditorValue) → IsDesk d → (AwaitsAnswer d.editor → ⊥)
    → f ≡ record d.editor { reader = f.reader } → IsPrefix d.editor.reader.seen f.reader.seen
    → last_upto d.editor.reader.seen ≤ last_upto f.reader.seen → IsDesk (record d { editor = f })
desk_reader d f is idle f_is more rises =
    subst (λ (e : EditorValue). IsDesk (record d { editor = e })) (sym f_is)
    (record {
      answered = is.answered;
      seen = seen_later d.editor.reader.seen f.reader.seen 0 0 d.did more is.seen;
      pending = λ p. absurd (idle p);
      entry = is.entry;
      upto = omega (arith, is.upto, rises);
      asked = is.asked;
      made = is.made;
      room = is.room;
    })

pub desk_looked : (d : DeskValue) (f : EditorValue) (rest : Rest) (lines : List EditorLine) (p : Publish) (calls : ℕ)
    → IsDesk d → (AwaitsAnswer d.editor → ⊥) → d.rest.asks ≡ [] → d.rest.lines ≡ Line.Look ∷ lines
    → rest ≡ record d.rest { lines = lines } → f ≡ record d.editor { reader = f.reader }
    → IsPrefix d.editor.reader.seen f.reader.seen → EndsWith f.reader.seen p → d.editor.entry ≤ p.upto
    → last_upto d.editor.reader.seen ≤ p.upto → calls ≡ d.editor.made
    → IsDesk (record {
      editor = f;
      rest = rest;
      did = d.did ++ Look calls p.upto (concat p.atoms) ∷ [];
    })
desk_looked d f rest lines p calls is idle none next rest_is f_is more ends entry upto calls_are =
    let did : List Did = d.did ++ Look calls p.upto (concat p.atoms) ∷ [] in
    let so : sofar_of nothing_yet did ≡ further (sofar_of nothing_yet d.did) (Look calls p.upto (concat p.atoms)) =
    sofar_more nothing_yet d.did (Look calls p.upto (concat p.atoms)) in
    let last : last_upto f.reader.seen ≡ p.upto = ends_upto f.reader.seen p ends in
    let all : length (polled d.editor) ≡ length d.editor.asks.sent = all_answered d is idle in
    let was : d.editor.made ≡ length d.editor.asks.sent = is.made in
    let room : length (polled d.editor) + calls_left d.rest ≤ d.editor.calls = is.room in
    let asks : length rest.asks ≡ length d.rest.asks = ap (λ (r : Rest). length r.asks) rest_is in
    let rest' : sum_by calls_of rest.lines ≡ sum_by calls_of d.rest.lines =
    ap (λ (r : Rest). sum_by calls_of r.lines) rest_is ∙ sym (ap (λ (l : List EditorLine). sum_by calls_of l) next) in
    subst (λ (e : EditorValue). IsDesk (record { editor = e; rest = rest; did = did })) (sym f_is)
    (record {
      answered = answered_look (polled d.editor) 0 d.did calls p.upto (concat p.atoms) is.answered (omega arith);
      seen = seen_look f.reader.seen nothing_yet d.did calls p
          (seen_later d.editor.reader.seen f.reader.seen 0 0 d.did more is.seen)
          (omega (arith, is.entry)) (omega (arith, is.upto)) (in_last f.reader.seen p ends);
      pending = λ p. absurd (idle p);
      entry = ap (λ (s : Sofar). s.entry) so ∙ is.entry;
      upto = let u : (sofar_of nothing_yet did).upto ≡ p.upto = ap (λ (s : Sofar). s.upto) so in omega arith;
      asked = is.asked;
      made = is.made;
      room = omega arith;
    })

-- ---- a desk that has done nothing

pub desk_new : (editor : EditorValue) (lines : List EditorLine) → IsUnused editor
    → sum_by calls_of lines ≤ editor.calls → IsDesk (new_desk editor lines)
desk_new editor lines new few =
    let sent : length editor.asks.sent ≡ 0 = ap (λ (l : List Sent). length l) new.asks in
    let none : polled editor ≡ [] = ap (λ (l : List Report). map (λ (r : Report). r.answer) l) new.answers in
    let no : length (polled editor) ≡ 0 = ap (λ (l : List Answer). length l) none in
    record {
      answered = none;
      seen = tt;
      pending = λ p.
          let less : length editor.answers.taken < length editor.asks.sent = p in absurd (omega arith);
      entry = sym new.entry;
      upto = omega arith;
      asked = omega arith;
      made = omega (arith, new.made);
      room = omega arith;
    }

-- ---- whether the lines are done

pub done_on : {a b : Rest} {acts : List Act} → Leads a acts b → acts ≡ [] → AreDone a → AreDone b
done_on LeadsStays none done = done
done_on (Calls asks way) none done = absurd (cc none)
done_on (Looks asks lines way) none done = absurd (cc none)
done_on {a = a} (Begins {line = line} {lines = lines} asks lines_are no_look way) none done =
    let all : AllByRecursion AsksNothing (line ∷ lines) =
    subst (λ (l : List EditorLine). AllByRecursion AsksNothing l) lines_are done.lines in
    done_on way none (record { asks = all.0.1; lines = all.1 })

pub done_before : {a b : Rest} {acts : List Act} → Leads a acts b → acts ≡ [] → AreDone b → AreDone a
done_before LeadsStays none done = done
done_before (Calls asks way) none done = absurd (cc none)
done_before (Looks asks lines way) none done = absurd (cc none)
done_before {a = a} (Begins {line = line} {lines = lines} asks lines_are no_look way) none done =
    let then : AreDone (record a { asks = asks_of line; lines = lines }) = done_before way none done in
    record {
      asks = asks;
      lines = subst (λ (l : List EditorLine). AllByRecursion AsksNothing l) (sym lines_are)
          ((no_look, then.asks), then.lines);
    }

pub over_done : (r : Rest) → HasNothingLeft r → AreDone r
over_done r over = record {
  asks = over.asks;
  lines = subst (λ (l : List EditorLine). AllByRecursion AsksNothing l) (sym over.lines) tt;
}

-- where a call or a look is next, the lines are not done
pub asks_not_done : (r : Rest) (ask : Ask) (asks : List Ask) → r.asks ≡ ask ∷ asks → AreDone r → ⊥
asks_not_done r ask asks next done = at r.asks ask asks done.asks next
  where
    at : (l : List Ask) (ask : Ask) (asks : List Ask) → l ≡ [] → l ≡ ask ∷ asks → ⊥
    at l ask asks e f = cc

pub look_not_done : (r : Rest) (lines : List EditorLine) → r.lines ≡ Line.Look ∷ lines → AreDone r → ⊥
look_not_done r lines next done =
    let all : AllByRecursion AsksNothing (Line.Look ∷ lines) =
    subst (λ (l : List EditorLine). AllByRecursion AsksNothing l) next done.lines in
    all.0.0 refl

-- ---- what a turn says

pub later_self : (d : DeskValue) → LaterDesk d d
later_self d = record { editor = later_editor_self d.editor; done = λ lines h. h; did = prefix_self d.did }

pub later_then : (d e f : DeskValue) → LaterDesk d e → LaterDesk e f → LaterDesk d f
later_then d e f p q = record {
  editor = later_editor_then d.editor e.editor f.editor p.editor q.editor;
  done = λ lines h. q.done lines (p.done lines h);
  did = prefix_then d.did e.did f.did p.did q.did;
}

-- what is next after lines have begun was next before
stays_begun : (d e : DeskValue) (rest : Rest) → Leads d.rest [] rest → Stays (record d { rest = rest }) e → Stays d e
stays_begun d e rest way s = record { rest = leads_then way s.rest; did = s.did }

pub keeps_begun : (d e : DeskValue) (rest : Rest) → Leads d.rest [] rest → Keeps (record d { rest = rest }) e
    → Keeps d e
keeps_begun d e rest way k = record { stays = stays_begun d e rest way k.stays; editor = k.editor }

pub turn_begun : (d e : DeskValue) (rest : Rest) (went : Went) → (AwaitsAnswer d.editor → ⊥) → Leads d.rest [] rest
    → IsTurn (record d { rest = rest }) went e → IsTurn d went e
turn_begun d e rest Went.Answered idle way h = absurd (idle h.pending)
turn_begun d e rest Went.Looked idle way h = record {
  idle = idle;
  editor = h.editor;
  rest = leads_then way h.rest;
  publish = h.publish;
  last = h.last;
  did = h.did;
}
turn_begun d e rest Went.Submitted idle way h = record {
  idle = idle;
  request = h.request;
  next = h.next;
  editor = h.editor;
  stays = stays_begun d e rest way h.stays;
}
turn_begun d e rest Went.Over idle way h = (
  record { idle = idle; done = done_before way refl h.0.done },
  stays_begun d e rest way h.1,
  h.2,
)
turn_begun d e rest Went.Again idle way h = (stays_begun d e rest way h.0, h.1)

-- ---- what each part of a turn comes to

waits_on : {P : Type 0} → P → IsTrue true ↔ P
waits_on p = (λ _. p, λ _. refl)

waits_off : {P : Type 0} → (P → ⊥) → IsTrue false ↔ P
waits_off none = (λ t. absurd (true≢false (sym t)), λ p. absurd (none p))

pub not_waiting : (waits : Bool) (P : Type 0) → IsTrue waits ↔ P → waits ≡ false → P → ⊥
not_waiting waits P is off p = absurd (true≢false (sym (is.1 p) ∙ off))

pub always_err : {T E P : Type 0} (r : Result T E) → P → OnErr r P
always_err (Ok x) p = tt
always_err (Err e) p = p

pub if_ok : {T E : Type 0} (P Q : T → Type 0) (r : Result T E) → ((x : T) → P x → Q x) → IfOk r P → IfOk r Q
if_ok P Q (Ok x) f p = f x p
if_ok P Q (Err e) f p = tt

pub keeps_same : (d e : DeskValue) → e ≡ d → Keeps d e
keeps_same d e same = subst (λ (f : DeskValue). Keeps d f) (sym same) (record {
  stays = record { rest = LeadsStays; did = refl };
  editor = refl;
})

-- ---- what was done of any lines

-- a look changes the reader alone
pub shown_reader : (e f : EditorValue) (seen : List Publish) → f ≡ when_shown seen e
    → f ≡ record e { reader = f.reader }
shown_reader e f seen f_is =
    f_is ∙ sym (ap (λ (r : ReaderValue). record e { reader = r }) (ap (λ (x : EditorValue). x.reader) f_is))

pub refused_reader : (e f : EditorValue) (given : List (List Publish)) → f ≡ when_refused given e
    → f ≡ record e { reader = f.reader }
refused_reader e f given f_is =
    f_is ∙ sym (ap (λ (r : ReaderValue). record e { reader = r }) (ap (λ (x : EditorValue). x.reader) f_is))

acts_kept : (d e : DeskValue) → e.editor.asks.sent ≡ d.editor.asks.sent → polled e.editor ≡ polled d.editor
    → e.did ≡ d.did → acts_of e ≡ acts_of d
acts_kept d e sent answers did = λ i. acts_by (sent i) (answers i) (did i)

done_begun : (lines : List EditorLine) (d e : DeskValue) → acts_of e ≡ acts_of d → Leads d.rest [] e.rest
    → HasDoneLines lines d → HasDoneLines lines e
done_begun lines d e acts way done =
    leads_by (all_of lines) e.rest (acts_of d ++ []) (acts_of e) (acts ∙ sym (append-nil (acts_of d)))
    (leads_then done way)

done_by_editor : (lines : List EditorLine) (d e : DeskValue) → Stays d e
    → e.editor ≡ record d.editor { reader = e.editor.reader } → HasDoneLines lines d → HasDoneLines lines e
done_by_editor lines d e stays editor_is =
    done_begun lines d e
    (acts_kept d e (ap (λ (x : EditorValue). x.asks.sent) editor_is) (ap (λ (x : EditorValue). polled x) editor_is)
    stays.did)
    stays.rest

same_first : (x y : Ask) (xs ys : List Ask) → x ∷ xs ≡ y ∷ ys → x ≡ y
same_first x y xs ys e = cc

done_answered : (lines : List EditorLine) (d e : DeskValue) → IsDesk d → HasAnswered d e → HasDoneLines lines d
    → HasDoneLines lines e
done_answered lines d e is h done =
    let w : AwaitsNext d = is.pending h.pending in
    let reply : Reply = h.answer.reply in
    let sent : e.editor.asks.sent ≡ d.editor.asks.sent = ap (λ (x : EditorValue). x.asks.sent) h.editor in
    let same : w.next ≡ h.ask = same_first w.next h.ask w.others h.asks (sym w.asks ∙ h.next) in
    let acts : acts_of e ≡ acts_of d ++ Called (request_of h.ask d.rest.made) reply ∷ [] =
    ap (λ (did : List Did). acts_by e.editor.asks.sent (polled e.editor) did) h.did
    ∙ acts_answered d h.answer e.editor.asks.sent (polled e.editor) (length (polled d.editor) + 1) is w sent h.answers
    ∙ ap (λ (a : Ask). acts_of d ++ Called (request_of a d.rest.made) reply ∷ []) same in
    leads_by (all_of lines) e.rest (acts_of d ++ Called (request_of h.ask d.rest.made) reply ∷ []) (acts_of e) acts
    (subst (λ (r : Rest). Leads (all_of lines) (acts_of d ++ Called (request_of h.ask d.rest.made) reply ∷ []) r)
    (sym h.rest) (leads_call reply done h.next))

done_looked : (lines : List EditorLine) (d e : DeskValue) → IsDesk d → HasDoneLook d e → HasDoneLines lines d
    → HasDoneLines lines e
done_looked lines d e is h done =
    let sent : e.editor.asks.sent ≡ d.editor.asks.sent = ap (λ (x : EditorValue). x.asks.sent) h.editor in
    let answers : polled e.editor ≡ polled d.editor = ap (λ (x : EditorValue). polled x) h.editor in
    let acts : acts_of e ≡ acts_of d ++ Looked ∷ [] =
    (λ i. acts_by (sent i) (answers i) (h.did i))
    ∙ acts_look d.editor.asks.sent (polled d.editor) 0 d.did (length (polled d.editor)) h.publish.upto
    (concat h.publish.atoms) is.answered is.asked in
    leads_by (all_of lines) e.rest (acts_of d ++ Looked ∷ []) (acts_of e) acts (leads_then done h.rest)

done_submitted : (lines : List EditorLine) (d e : DeskValue) → IsDesk d → HasSubmitted d e → HasDoneLines lines d
    → HasDoneLines lines e
done_submitted lines d e is h =
    let q : Sent = record { call = d.editor.made + 1; request = h.request } in
    let sent : e.editor.asks.sent ≡ d.editor.asks.sent ++ q ∷ [] = ap (λ (x : EditorValue). x.asks.sent) h.editor in
    let answers : polled e.editor ≡ polled d.editor = ap (λ (x : EditorValue). polled x) h.editor in
    let acts : acts_of e ≡ acts_of d =
    (λ i. acts_by (sent i) (answers i) (h.stays.did i))
    ∙ acts_more d.editor.asks.sent (q ∷ []) (polled d.editor) 0 d.did is.answered is.asked in
    done_begun lines d e acts h.stays.rest

-- a turn that answers so goes on with what was done
pub done_on_turn : (lines : List EditorLine) (d e : DeskValue) (went : Went) → IsDesk d → IsTurn d went e
    → HasDoneLines lines d → HasDoneLines lines e
done_on_turn lines d e Went.Answered is h = done_answered lines d e is h
done_on_turn lines d e Went.Looked is h = done_looked lines d e is h
done_on_turn lines d e Went.Submitted is h = done_submitted lines d e is h
done_on_turn lines d e Went.Over is h = done_by_editor lines d e h.1 (same_editor d e h.2)
  where
    same_editor : (d e : DeskValue) → e.editor ≡ d.editor → e.editor ≡ record d.editor { reader = e.editor.reader }
    same_editor d e same =
        same ∙ sym (ap (λ (r : ReaderValue). record d.editor { reader = r }) (ap (λ (x : EditorValue). x.reader) same))
done_on_turn lines d e Went.Again is h = done_by_editor lines d e h.0 (at h.1)
  where
    same_editor : e.editor ≡ d.editor → e.editor ≡ record d.editor { reader = e.editor.reader }
    same_editor same =
        same ∙ sym (ap (λ (r : ReaderValue). record d.editor { reader = r }) (ap (λ (x : EditorValue). x.reader) same))

    at : IsHindered d e → e.editor ≡ record d.editor { reader = e.editor.reader }
    at = ⊎_elim (λ p. same_editor p.2)
        (⊎_elim (λ p. same_editor p.2) (λ p. refused_reader d.editor e.editor e.editor.reader.given p.1))

did_more : (d e : DeskValue) (x : Did) → e.did ≡ d.did ++ x ∷ [] → IsPrefix d.did e.did
did_more d e x did = (x ∷ [], sym did)

did_kept : (d e : DeskValue) → Stays d e → IsPrefix d.did e.did
did_kept d e stays = ([], append-nil d.did ∙ sym stays.did)

did_on_turn : (d e : DeskValue) (went : Went) → IsTurn d went e → IsPrefix d.did e.did
did_on_turn d e Went.Answered h = did_more d e (Call (length (polled d.editor) + 1) h.answer.entry) h.did
did_on_turn d e Went.Looked h =
    did_more d e (Look (length (polled d.editor)) h.publish.upto (concat h.publish.atoms)) h.did
did_on_turn d e Went.Submitted h = did_kept d e h.stays
did_on_turn d e Went.Over h = did_kept d e h.1
did_on_turn d e Went.Again h = did_kept d e h.0

pub later_turn : (d e : DeskValue) (went : Went) → IsDesk d → IsTurn d went e → LaterEditor d.editor e.editor
    → LaterDesk d e
later_turn d e went is h later = record {
  editor = later;
  done = λ lines. done_on_turn lines d e went is h;
  did = did_on_turn d e went h;
}

-- the desk is later than before a turn, whatever that answers
pub later_by : (d e : DeskValue) (r : Result Went Memory) → IsDesk d → IfOk r (λ went. IsTurn d went e)
    → OnErr r (Keeps d e) → LaterEditor d.editor e.editor → LaterDesk d e
later_by d e (Ok went) is turn keeps later = later_turn d e went is turn later
later_by d e (Err m) is turn keeps later = record {
  editor = later;
  done = λ lines. done_by_editor lines d e keeps.stays keeps.editor;
  did = did_kept d e keeps.stays;
}

-- ---- its answer

answered_idle : (d : DeskValue) (f : EditorValue) (answer : Answer) → IsDesk d → AwaitsAnswer d.editor
    → polled f ≡ polled d.editor ++ answer ∷ [] → f.asks.sent ≡ d.editor.asks.sent → AwaitsAnswer f → ⊥
answered_idle d f answer is waits polled_is sent p =
    let w : AwaitsNext d = is.pending waits in
    let less : length f.answers.taken < length f.asks.sent = p in
    let one : length (polled f) ≡ length (polled d.editor) + 1 =
    ap (λ (a : List Answer). length a) polled_is ∙ length-append (polled d.editor) (answer ∷ []) in
    let all : length d.editor.asks.sent ≡ length w.before + 1 =
    ap (λ (a : List Sent). length a) w.sent ∙ length-append w.before (w.ask ∷ []) in
    let here : length f.asks.sent ≡ length d.editor.asks.sent = ap (λ (a : List Sent). length a) sent in
    let before : length (polled d.editor) ≡ length w.before = w.one in
    absurd (omega (arith, as_many f))

pub parts_answered : (d : DeskValue) (f : EditorValue) (answer : Answer) (rest : Rest) (call : ℕ) (waits : Bool)
    (did : List Did) → IsDeskParts call waits d → AwaitsAnswer d.editor → polled f ≡ polled d.editor ++ answer ∷ []
    → f ≡ record d.editor {
      answers = record d.editor.answers { taken = f.answers.taken };
      reader = record d.editor.reader { known = f.reader.known };
      entry = answer.entry;
    }
    → ((ask : Ask) (asks : List Ask) → d.rest.asks ≡ ask ∷ asks → rest ≡ replied answer.reply d.rest asks)
    → did ≡ d.did ++ Call call answer.entry ∷ []
    → IsDeskParts call false (record { editor = f; rest = rest; did = did })
parts_answered d f answer rest call waits did parts pending polled_is f_is rest_is did_is = record {
  desk = subst (λ (l : List Did). IsDesk (record { editor = f; rest = rest; did = l })) (sym did_is)
      (desk_answered d f answer rest call parts.desk pending parts.call_is polled_is f_is rest_is);
  call_is = parts.call_is ∙ sym (ap (λ (e : EditorValue). e.made) f_is);
  waits_is = waits_off (answered_idle d f answer parts.desk pending polled_is
      (ap (λ (e : EditorValue). e.asks.sent) f_is));
}

pub turn_answered : (d : DeskValue) (f : EditorValue) (answer : Answer) (rest : Rest) (call : ℕ)
    (did : List Did) → IsDesk d → call ≡ d.editor.made → AwaitsAnswer d.editor
    → polled f ≡ polled d.editor ++ answer ∷ []
    → f ≡ record d.editor {
      answers = record d.editor.answers { taken = f.answers.taken };
      reader = record d.editor.reader { known = f.reader.known };
      entry = answer.entry;
    }
    → ((ask : Ask) (asks : List Ask) → d.rest.asks ≡ ask ∷ asks → rest ≡ replied answer.reply d.rest asks)
    → did ≡ d.did ++ Call call answer.entry ∷ []
    → HasAnswered d (record { editor = f; rest = rest; did = did })
turn_answered d f answer rest call did is call_is pending polled_is f_is rest_is did_is =
    let w : AwaitsNext d = is.pending pending in
    let all : length d.editor.asks.sent ≡ length w.before + 1 =
    ap (λ (a : List Sent). length a) w.sent ∙ length-append w.before (w.ask ∷ []) in
    let number : call ≡ length (polled d.editor) + 1 = omega (arith, is.made, w.one) in
    record {
      pending = pending;
      answer = answer;
      answers = polled_is;
      editor = f_is;
      ask = w.next;
      asks = w.others;
      next = w.asks;
      rest = rest_is w.next w.others w.asks;
      did = did_is ∙ ap (λ (n : ℕ). d.did ++ Call n answer.entry ∷ []) number;
    }

-- ---- its call

pub parts_submitted : (d : DeskValue) (f : EditorValue) (request : Request) (call waited : ℕ) (waits : Bool)
    → IsDeskParts waited waits d → (AwaitsAnswer d.editor → ⊥) → IsNextToDo (Next.Ask request) d.rest
    → call ≡ d.editor.made + 1 → f ≡ with_ask request d.editor → IsDeskParts call true (record d { editor = f })
parts_submitted d f request call waited waits parts idle next call_is f_is =
    let q : Sent = record { call = d.editor.made + 1; request = request } in
    let more : length (d.editor.asks.sent ++ q ∷ []) ≡ length d.editor.asks.sent + 1 =
    length-append d.editor.asks.sent (q ∷ []) in
    let count : length (polled d.editor) ≡ length d.editor.answers.taken = as_many d.editor in
    let few : length (polled d.editor) ≤ length d.editor.asks.sent = parts.desk.asked in
    let less : length d.editor.answers.taken < length (d.editor.asks.sent ++ q ∷ []) = omega arith in
    subst (λ (e : EditorValue). IsDeskParts call true (record d { editor = e })) (sym f_is) (record {
      desk = desk_submitted d request next.0 next.1.0 parts.desk idle next.1.1 next.2;
      call_is = call_is;
      waits_is = waits_on less;
    })

-- a desk is not Busy and not Spent
pub only_full : (d : DeskValue) (why : NotSent) (request : Request) → IsDesk d → (AwaitsAnswer d.editor → ⊥)
    → IsNextToDo (Next.Ask request) d.rest → IsWhy d.editor why → WasFull line_places d.editor.asks.sent
only_full d (Why.Busy pending) request is idle next w = absurd (idle w.0)
only_full d (Why.Spent calls) request is idle next w =
    let less : d.editor.made < d.editor.calls = has_room d next.0 next.1.0 is idle next.1.1 in
    let all : d.editor.made ≡ d.editor.calls = w.1 in
    absurd (omega arith)
only_full d Why.Full request is idle next w = w.2

-- ---- its look

-- what is seen then is no older
pub seen_rises : (old new : List Publish) (p : Publish) → EndsWith new p → last_upto old ≤ p.upto
    → last_upto old ≤ last_upto new
seen_rises old new p ends few = omega (arith, ends_upto new p ends)

pub parts_reader : (d : DeskValue) (f : EditorValue) (call : ℕ) (waits : Bool) (did : List Did)
    → IsDeskParts call waits d → (AwaitsAnswer d.editor → ⊥) → f ≡ record d.editor { reader = f.reader }
    → IsPrefix d.editor.reader.seen f.reader.seen → last_upto d.editor.reader.seen ≤ last_upto f.reader.seen
    → did ≡ d.did
    → IsDeskParts call waits (record { editor = f; rest = d.rest; did = did })
parts_reader d f call waits did parts idle f_is more rises did_is =
    subst (λ (l : List Did). IsDeskParts call waits (record { editor = f; rest = d.rest; did = l }))
    (sym did_is) (record {
      desk = desk_reader d f parts.desk idle f_is more rises;
      call_is = parts.call_is ∙ sym (ap (λ (e : EditorValue). e.made) f_is);
      waits_is = subst (λ (e : EditorValue). IsTrue waits ↔ AwaitsAnswer e) (sym f_is) parts.waits_is;
    })

pub parts_looked : (d : DeskValue) (f : EditorValue) (rest : Rest) (p : Publish) (call : ℕ) (waits : Bool)
    (upto : ℕ) (text : List ℕ) (did : List Did) → IsDeskParts call waits d → (AwaitsAnswer d.editor → ⊥)
    → IsNextToDo Next.Look d.rest
    → ((lines : List EditorLine) → d.rest.lines ≡ Line.Look ∷ lines → rest ≡ record d.rest { lines = lines })
    → f ≡ record d.editor { reader = f.reader } → IsPrefix d.editor.reader.seen f.reader.seen
    → EndsWith f.reader.seen p → d.editor.entry ≤ p.upto → last_upto d.editor.reader.seen ≤ p.upto
    → upto ≡ p.upto → text ≡ concat p.atoms → did ≡ d.did ++ Look call upto text ∷ []
    → IsDeskParts call waits (record { editor = f; rest = rest; did = did })
parts_looked d f rest p call waits upto text did parts idle next rest_is f_is more ends entry rises upto_is text_is
    did_is =
    let e : did ≡ d.did ++ Look call p.upto (concat p.atoms) ∷ [] =
    did_is ∙ (λ i. d.did ++ Look call (upto_is i) (text_is i) ∷ []) in
    record {
      desk = subst (λ (l : List Did). IsDesk (record { editor = f; rest = rest; did = l })) (sym e)
          (desk_looked d f rest next.1.0 p call parts.desk idle next.0 next.1.1 (rest_is next.1.0 next.1.1) f_is more
          ends entry rises parts.call_is);
      call_is = parts.call_is ∙ sym (ap (λ (x : EditorValue). x.made) f_is);
      waits_is = subst (λ (x : EditorValue). IsTrue waits ↔ AwaitsAnswer x) (sym f_is) parts.waits_is;
    }

pub turn_looked : (d : DeskValue) (f : EditorValue) (rest : Rest) (p : Publish) (call : ℕ)
    (upto : ℕ) (text : List ℕ) (did : List Did) → IsDesk d → call ≡ d.editor.made → (AwaitsAnswer d.editor → ⊥)
    → IsNextToDo Next.Look d.rest
    → ((lines : List EditorLine) → d.rest.lines ≡ Line.Look ∷ lines → rest ≡ record d.rest { lines = lines })
    → f ≡ when_shown f.reader.seen d.editor → EndsWith f.reader.seen p
    → upto ≡ p.upto → text ≡ concat p.atoms → did ≡ d.did ++ Look call upto text ∷ []
    → HasDoneLook d (record { editor = f; rest = rest; did = did })
turn_looked d f rest p call upto text did is call_is idle next rest_is f_is ends upto_is text_is did_is =
    let all : length (polled d.editor) ≡ length d.editor.asks.sent = all_answered d is idle in
    let number : call ≡ length (polled d.editor) = omega (arith, is.made) in
    record {
      idle = idle;
      editor = f_is;
      rest = subst (λ (r : Rest). Leads d.rest (Looked ∷ []) r) (sym (rest_is next.1.0 next.1.1))
          (leads_look LeadsStays next.0 next.1.1);
      publish = p;
      last = ends;
      did = did_is ∙ (λ i. d.did ++ Look (number i) (upto_is i) (text_is i) ∷ []);
    }

-- ---- its beginning

pub parts_new : (editor : EditorValue) (lines : List EditorLine) → IsUnused editor
    → sum_by calls_of lines ≤ editor.calls → IsDeskParts 0 false (new_desk editor lines)
parts_new editor lines new few = record {
  desk = desk_new editor lines new few;
  call_is = sym new.made;
  waits_is = waits_off (λ p.
      let less : length editor.answers.taken < length editor.asks.sent = p in
      let sent : length editor.asks.sent ≡ 0 = ap (λ (l : List Sent). length l) new.asks in absurd (omega arith));
}
