-- An editor before and after a call.
use Rattle.std.proofs.Common.{◌≡◌, ℕ, zero, suc, ◌+◌, ◌<◌, ◌≤◌, ◌-◌, ◌^◌, min, length, length-append}
use Rattle.std.proofs.Common.{Option, Some, None, IfSome, IfNone, Ok, Err, List, [], ◌∷◌, ◌++◌, map}
use Rattle.std.proofs.Common.{refl, ap, sym, subst, ◌∙◌, arith, le_trans}
use Rattle.std.specs.List.{range_with_len}
use Rattle.std.proofs.lemmas.List.{length-map, map-append}
use Rattle.std.proofs.lemmas.List.FromFn.{length-range_with_len}
use mathlib.Core.List.{IsPrefix}
use Rattle.td_op.specs.declared.request.Request.{Request}
use Rattle.logbook.specs.Pages.{Book}
use Rattle.td_link.specs.Ends.{RxValue}
use Rattle.td_link.specs.Moments.{WasFull}
use Rattle.td_view.specs.declared.publish.Publish.{Publish}
use Rattle.td_view.specs.declared.shown.Shown.{Shown}
use Rattle.td_view.specs.Deeds.{publish_of}
use Rattle.td_view.specs.Publishes.{EndsWith, AreLegal, last_upto}
use Rattle.td_view.specs.Values.{ReaderValue}
use Rattle.td_site.proofs.Lists.{prefix_self, prefix_then}
use Rattle.td_view.proofs.Rising.{rises, ends_upto}
use Rattle.td_site.specs.Shows.{UptoAtLeast}
use Rattle.td_line.specs.declared.ask.Ask.{Ask}
use Rattle.td_line.specs.declared.answer.Answer.{Answer}
use Rattle.td_line.specs.declared.report.Report.{Report}
use Rattle.td_line.specs.declared.not_sent.NotSent.TheVariants.{Full}
use Rattle.td_line.specs.Editors.{EditorValue, IsEditor, AwaitsAnswer, IsPolledCount}
use Rattle.td_line.specs.Editors.{IsSubmitted, LaterEditor, polled, with_ask}

-- as many requests are sent as calls are made
asked : (e : EditorValue) → IsEditor e → length e.asks.sent ≡ e.made
asked e is =
    sym (length-map e.asks.sent (λ (q : Ask). q.call))
    ∙ (ap length is.numbered ∙ length-range_with_len 1 e.made)

-- what the count of the answers polled tells
pub pending : (e : EditorValue) (count : ℕ) → IsEditor e → IsPolledCount count (length e.answers.taken)
    → e.made < 2 ^ 64 → count < e.made → AwaitsAnswer e
pending e count is counted few less =
    let n : length e.asks.sent ≡ e.made = asked e is in
    omega (arith, counted)

pub answered : (e : EditorValue) (count : ℕ) → IsEditor e → IsPolledCount count (length e.answers.taken)
    → e.made ≤ count → AwaitsAnswer e → ⊥
answered e count is counted most waits =
    let n : length e.asks.sent ≡ e.made = asked e is in
    let w : length e.answers.taken < length e.asks.sent = waits in
    absurd (omega (arith, counted))

pub counted_more : (count : ℕ) (a b : RxValue Report Book) (report : Report) → IsPolledCount count (length a.taken)
    → b ≡ record a { taken = a.taken ++ report ∷ [] } → IsPolledCount (min (count + 1) (2 ^ 64 - 1)) (length b.taken)
counted_more count a b report counted taken =
    let n : length b.taken ≡ length a.taken + 1 =
    ap (λ (x : RxValue Report Book). length x.taken) taken ∙ length-append a.taken (report ∷ []) in
    omega (arith, counted)

range_more : (a n : ℕ) → range_with_len a (suc n) ≡ range_with_len a n ++ (a + n) ∷ []
range_more a zero = let e : a ≡ a + 0 = omega arith in ap (λ (k : ℕ). k ∷ []) e
range_more a (suc n) =
    let e : (a + 1) + n ≡ a + suc n = omega arith in
    ap (λ (w : List ℕ). a ∷ w) (range_more (a + 1) n ∙ ap (λ (k : ℕ). range_with_len (a + 1) n ++ k ∷ []) e)

-- one call more, by the next number
calls_more : (asks : List Ask) (q : Ask) (n : ℕ) → map (λ (a : Ask). a.call) asks ≡ range_with_len 1 n
    → q.call ≡ n + 1 → map (λ (a : Ask). a.call) (asks ++ q ∷ []) ≡ range_with_len 1 (n + 1)
calls_more asks q n numbered call =
    let k : q.call ≡ 1 + n = omega arith in
    let m : suc n ≡ n + 1 = omega arith in
    map-append (λ (a : Ask). a.call) asks (q ∷ [])
    ∙ ((λ i. numbered i ++ k i ∷ []) ∙ (sym (range_more 1 n) ∙ ap (range_with_len 1) m))

-- what a call says that sends one
pub sent_ask : (e : EditorValue) (request : Request) → (AwaitsAnswer e → ⊥) → e.made < e.calls
    → IsSubmitted e request (Ok (e.made + 1)) (with_ask request e)
sent_ask e request free less = (free, less, refl, refl)

-- and one that finds the queue full
pub no_place : (e : EditorValue) (request : Request) → IsEditor e → (AwaitsAnswer e → ⊥) → e.made < e.calls
    → WasFull e.asks.cap e.asks.sent → IsSubmitted e request (Err Full) e
no_place e request is free less full =
    ((free, less, subst (λ (cap : ℕ). WasFull cap e.asks.sent) is.cap full), refl)

-- the editor with one more request is one
pub with_ask_is : (e : EditorValue) (request : Request) → IsEditor e → e.made < e.calls
    → IsEditor (with_ask request e)
with_ask_is e request is less = record {
  views = is.views;
  fresh = is.fresh;
  numbered = calls_more e.asks.sent (record { call = e.made + 1; request = request }) e.made is.numbered refl;
  within = omega arith;
  cap = is.cap;
}

-- the editor when a report is taken, whose list is a beginning of what its reader knows then
pub polled_is : (e : EditorValue) (report : Report) (answers : RxValue Report Book) (r : ReaderValue) → IsEditor e
    → answers ≡ record e.answers { taken = e.answers.taken ++ report ∷ [] }
    → r ≡ record e.reader { known = r.known } → UptoAtLeast report.told.list report.answer.entry
    → IsPrefix report.told.list r.known → AreLegal r.known
    → IsEditor (record e { answers = answers; reader = r; entry = report.answer.entry })
polled_is e report answers r is taken reader upto told legal = record {
  views =
      ap (λ (x : RxValue Report Book). x.mark) taken
      ∙ (is.views ∙ ap Some (sym (ap (λ (x : ReaderValue). x.views) reader)));
  fresh = le_trans
      (subst (λ (n : ℕ). report.answer.entry ≤ n) (sym (ends_upto report.told.list upto.0 upto.1)) upto.2)
      (rises report.told.list r.known told legal);
  numbered = is.numbered;
  within = is.within;
  cap = is.cap;
}

-- and the editor with another reader of the same views, which knows of no less
with_reader_is : (e : EditorValue) (r : ReaderValue) → IsEditor e → r.views ≡ e.reader.views
    → last_upto e.reader.known ≤ last_upto r.known → IsEditor (record e { reader = r })
with_reader_is e r is views known = record {
  views = is.views ∙ ap Some (sym views);
  fresh = le_trans is.fresh known;
  numbered = is.numbered;
  within = is.within;
  cap = is.cap;
}

-- that is, with its reader after a look, which was refused by a reader like this or shown a text
pub looked_is : {X : Type 0} (B : Type 0) (result : Option X) (e : EditorValue) (r n : ReaderValue) → IsEditor e
    → n.views ≡ e.reader.views → n.known ≡ e.reader.known → IfNone result (r ≡ n)
    → IfSome result (λ _. r ≡ record e.reader { seen = r.seen; known = r.seen; given = e.reader.given ++ r.seen ∷ [] })
    → IfSome result (λ _. IsPrefix e.reader.known r.seen × B) → IfSome result (λ _. AreLegal r.seen)
    → IsEditor (record e { reader = r })
looked_is B None e r n is views known none some later legal =
    with_reader_is e r is (ap (λ (x : ReaderValue). x.views) none ∙ views)
    (omega (arith, ap (λ (x : ReaderValue). last_upto x.known) none ∙ ap last_upto known))
looked_is B (Some x) e r n is views known none some later legal =
    with_reader_is e r is (ap (λ (x : ReaderValue). x.views) some)
    (subst (λ (list : List Publish). last_upto e.reader.known ≤ last_upto list)
    (sym (ap (λ (x : ReaderValue). x.known) some))
    (rises e.reader.known r.seen later.0 legal))

-- the text at the end of what is seen then is no older than what was known before
not_older : (known seen : List Publish) (p : Publish) → IsPrefix known seen → AreLegal seen → EndsWith seen p
    → last_upto known ≤ p.upto
not_older known seen p before legal ends =
    subst (λ (n : ℕ). last_upto known ≤ n) (ends_upto seen p ends) (rises known seen before legal)

-- so the text shown has at least the entry of the last answer polled, and is no older than those seen
pub shown_is : {X : Type 0} (Says : Shown → X → Type 0) (result : Option X) (e : EditorValue) (seen : List Publish)
    → IsEditor e → IfSome result (λ answer. (x : Shown) × Says x answer × EndsWith seen (publish_of x))
    → IfSome result (λ _. IsPrefix e.reader.known seen × IsPrefix e.reader.seen seen)
    → IfSome result (λ _. AreLegal seen)
    → IfSome result (λ answer. (x : Shown) × Says x answer × EndsWith seen (publish_of x)
    × (e.entry ≤ x.upto) × (last_upto e.reader.seen ≤ x.upto))
shown_is Says None e seen is shown later legal = tt
shown_is Says (Some answer) e seen is shown later legal =
    let x = shown.0 in (
      x,
      shown.1,
      shown.2,
      le_trans is.fresh (not_older e.reader.known seen (publish_of x) later.0 legal shown.2),
      not_older e.reader.seen seen (publish_of x) later.1 legal shown.2,
    )

-- an editor is itself later
pub later_editor_self : (e : EditorValue) → LaterEditor e e
later_editor_self e = record {
  home = refl;
  asks = refl;
  answers = refl;
  views = refl;
  calls = refl;
  submitted = prefix_self e.asks.sent;
  taken = prefix_self e.answers.taken;
  seen = prefix_self e.reader.seen;
  known = prefix_self e.reader.known;
}

-- what is later than a later editor is later
pub later_editor_then : (e f g : EditorValue) → LaterEditor e f → LaterEditor f g → LaterEditor e g
later_editor_then e f g p q = record {
  home = q.home ∙ p.home;
  asks = q.asks ∙ p.asks;
  answers = q.answers ∙ p.answers;
  views = q.views ∙ p.views;
  calls = q.calls ∙ p.calls;
  submitted = prefix_then e.asks.sent f.asks.sent g.asks.sent p.submitted q.submitted;
  taken = prefix_then e.answers.taken f.answers.taken g.answers.taken p.taken q.taken;
  seen = prefix_then e.reader.seen f.reader.seen g.reader.seen p.seen q.seen;
  known = prefix_then e.reader.known f.reader.known g.reader.known p.known q.known;
}

-- the answers polled by then begin with those before
pub later_polled : (e f : EditorValue) → LaterEditor e f → IsPrefix (polled e) (polled f)
later_polled e f later =
    let say : Report → Answer = λ (r : Report). r.answer in (
      map say later.taken.0,
      sym (map-append say e.answers.taken later.taken.0) ∙ ap (map say) later.taken.1,
    )

pub later_ask : (e : EditorValue) (request : Request) → LaterEditor e (with_ask request e)
later_ask e request = record {
  home = refl;
  asks = refl;
  answers = refl;
  views = refl;
  calls = refl;
  submitted = (record { call = e.made + 1; request = request } ∷ [], refl);
  taken = prefix_self e.answers.taken;
  seen = prefix_self e.reader.seen;
  known = prefix_self e.reader.known;
}

pub later_report : (e : EditorValue) (report : Report) (answers : RxValue Report Book) (r : ReaderValue)
    → answers ≡ record e.answers { taken = e.answers.taken ++ report ∷ [] }
    → r ≡ record e.reader { known = r.known } → IsPrefix e.reader.known r.known
    → LaterEditor e (record e { answers = answers; reader = r; entry = report.answer.entry })
later_report e report answers r taken reader before = record {
  home = refl;
  asks = refl;
  answers = ap (λ (x : RxValue Report Book). x.link) taken;
  views = ap (λ (x : ReaderValue). x.views) reader;
  calls = refl;
  submitted = prefix_self e.asks.sent;
  taken = (report ∷ [], sym (ap (λ (x : RxValue Report Book). x.taken) taken));
  seen = subst (λ (list : List Publish). IsPrefix e.reader.seen list)
      (sym (ap (λ (x : ReaderValue). x.seen) reader))
      (prefix_self e.reader.seen);
  known = before;
}
