-- What is recorded stays recorded when the histories grow, and one thing more that is done is recorded too.
use Rattle.std.proofs.Common.{◌≡◌, ◌<◌, ◌≤◌, ◌+◌, ◌-◌, ◌++◌, ◌==◌, ℕ, zero, suc, Bool, true, false, List, [], ◌∷◌}
use Rattle.std.proofs.Common.{length, take, Some, slice_get, if◌then◌else◌, refl, sym, ap, ◌∙◌, subst, arith}
use Rattle.std.proofs.lemmas.List.{map-append, length-map, length-append}
use mathlib.Core.List.{IsPrefix}
use Rattle.td_op.specs.declared.input.Input.TheVariants.{Local}
use Rattle.td_op.specs.declared.reply.Reply.{Reply}
use Rattle.td_op.specs.declared.request.Request.{Request}
use Rattle.td_doc.specs.Document.{text_of}
use Rattle.td_machine.specs.Machine.{start}
use Rattle.td_machine.specs.History.{Family, History, history, after}
use Rattle.std.proofs.lemmas.List.{take-append-le}
use Rattle.td_site.proofs.Lists.{prefix_self, prefix_then}
use Rattle.td_line.specs.Calls.{entry_at}
use Rattle.td_line.proofs.Calling.{entry_more}
use Rattle.td_script.specs.declared.live.editor_line.EditorLine.{EditorLine}
use Rattle.td_trace.specs.declared.entry.TraceEntry.{TraceEntry}
use Rattle.td_trace.specs.declared.log.Did.{Did}
use Rattle.td_trace.specs.declared.log.Did.TheVariants.{Call, Look}
use Rattle.td_trace.specs.declared.log.EditorLog.{EditorLog}
use Rattle.td_trace.specs.Entries.{traced, traced_history, tells_request, is_request_at}
use Rattle.td_trace.specs.Editors.{Sofar, further, nothing_yet, IsDid, AreDid, calls_at, site_calls_at}
use Rattle.td_trace.specs.Family.{IsLogOf, text_past}
use Rattle.td_live.specs.Following.{Act, Called, Looked, AreActs}
use Rattle.td_live.specs.Desks.{sofar_of}
use Rattle.td_live.specs.Books.{BookValue, IsBook, AreHistoriesGrown, log_of}

-- ---- requests

get_request_more : (old more : List TraceEntry) (k : ℕ) → tells_request (slice_get old k) ≡ true
    → tells_request (slice_get (old ++ more) k) ≡ true
get_request_more [] more k e = absurd (cc e)
get_request_more (x ∷ old) more zero e = e
get_request_more (x ∷ old) more (suc k) e = get_request_more old more k e

request_more : (old more : List TraceEntry) (k : ℕ) → is_request_at old k ≡ true → is_request_at (old ++ more) k ≡ true
request_more old more zero e = absurd (cc e)
request_more old more (suc k) e = get_request_more old more k e

get_request_within : (entries : List TraceEntry) (k : ℕ) → tells_request (slice_get entries k) ≡ true
    → k < length entries
get_request_within [] k e = absurd (cc e)
get_request_within (x ∷ entries) zero e = omega arith
get_request_within (x ∷ entries) (suc k) e = let h : k < length entries = get_request_within entries k e in
    omega (arith, h)

pub request_within : (entries : List TraceEntry) (k : ℕ) → is_request_at entries k ≡ true → k ≤ length entries
request_within entries zero e = omega arith
request_within entries (suc k) e = let h : k < length entries = get_request_within entries k e in omega (arith, h)

-- the last entry is a request
pub request_last : (old : History) (request : Request) (reply : Reply)
    → is_request_at (traced_history (old ++ record { input = Local request; reply = reply } ∷ [])) (suc (length old))
    ≡ true
request_last [] request reply = refl
request_last (x ∷ old) request reply = request_last old request reply

-- ---- histories that grow

pub did_stays : (old more : List TraceEntry) (t u : ℕ → List ℕ) → ((k : ℕ) → k ≤ length old → t k ≡ u k) → (s : Sofar)
    (did : List Did) → AreDid old t s did → AreDid (old ++ more) u s did
did_stays old more t u same s [] h = tt
did_stays old more t u same s (Call call entry ∷ did) h = (
  (h.0.0, h.0.1, request_more old more entry h.0.2),
  did_stays old more t u same (further s (Call call entry)) did
      h.1,
)
did_stays old more t u same s (Look calls upto text ∷ did) h =
    let few : upto ≤ length old = h.0.1 in
    let both : length (old ++ more) ≡ length old + length more = length-append old more in (
      (h.0.0, omega (arith, few, both), h.0.2, h.0.3, h.0.4 ∙ same upto few),
      did_stays old more t u same (further s (Look calls upto text)) did h.1,
    )

pub acts_stay : (old more : History) (did : List Did) (acts : List Act) → AreActs old did acts
    → AreActs (old ++ more) did acts
acts_stay old more [] acts h = h
acts_stay old more (Call call entry ∷ did) [] h = absurd h
acts_stay old more (Look calls upto text ∷ did) [] h = absurd h
acts_stay old more (Call call entry ∷ did) (Called request reply ∷ acts) h = (
  entry_more old more entry (record { input = Local request; reply = reply }) h.0,
  acts_stay old more did acts h.1,
)
acts_stay old more (Call call entry ∷ did) (Looked ∷ acts) h = absurd h
acts_stay old more (Look calls upto text ∷ did) (Called request reply ∷ acts) h = absurd h
acts_stay old more (Look calls upto text ∷ did) (Looked ∷ acts) h = acts_stay old more did acts h

pub grown_self : (family : Family) → AreHistoriesGrown family family
grown_self family = record { size = refl; histories = λ site some within. prefix_self (history family site) }

pub grown_then : (f g h : Family) → AreHistoriesGrown f g → AreHistoriesGrown g h → AreHistoriesGrown f h
grown_then f g h a b =
    record {
      size = b.size ∙ a.size;
      histories = λ site some within.
          prefix_then (history f site) (history g site) (history h site) (a.histories site some within)
          (b.histories site some (subst (λ (n : ℕ). site ≤ n) (sym a.size) within));
    }

module _ (old new : Family) (g : AreHistoriesGrown old new) (site : ℕ) (some : 0 < site)
    (within : site ≤ length old) where
  abbrev before : History
  before = history old site

  goes_on : IsPrefix (history old site) (history new site)
  goes_on = g.histories site some within

  -- the text behind so many of the entries that there were
  pub text_same : (k : ℕ) → k ≤ length before → text_past old site k ≡ text_past new site k
  text_same k few =
      let same : take k (history old site) ≡ take k (history new site) =
      sym (take-append-le k (history old site) goes_on.0 few) ∙ ap (take k) goes_on.1 in
      ap (λ (x : ℕ × History). text_of (after (start site x.0) x.1).doc) (λ i. (sym g.size i, same i))

  pub did_grown : (s : Sofar) (did : List Did) → AreDid (traced_history (history old site)) (text_past old site) s did
      → AreDid (traced_history (history new site)) (text_past new site) s did
  did_grown s did h =
      let is : traced_history (history old site) ++ traced_history goes_on.0 ≡ traced_history (history new site) =
      sym (map-append traced (history old site) goes_on.0) ∙ ap traced_history goes_on.1 in
      let long : length (traced_history (history old site)) ≡ length (history old site) =
      length-map (history old site) traced in
      subst (λ (es : List TraceEntry). AreDid es (text_past new site) s did) is
      (did_stays (traced_history (history old site)) (traced_history goes_on.0) (text_past old site)
      (text_past new site)
      (λ k few. text_same k (subst (λ (n : ℕ). k ≤ n) long few)) s did h)

  pub acts_grown : (did : List Did) (acts : List Act) → AreActs (history old site) did acts
      → AreActs (history new site) did acts
  acts_grown did acts h =
      subst (λ (es : History). AreActs es did acts) goes_on.1 (acts_stay (history old site) goes_on.0 did acts h)

pub log_grown : (old new : Family) → AreHistoriesGrown old new → (log : EditorLog) → IsLogOf old log → IsLogOf new log
log_grown old new g log l =
    record {
      some = l.some;
      within = subst (λ (n : ℕ). log.home ≤ n) (sym g.size) l.within;
      did = did_grown old new g log.home l.some l.within nothing_yet log.did l.did;
    }

pub book_grown : (old new : Family) → AreHistoriesGrown old new → (lines : List EditorLine) (b : BookValue)
    → IsBook old lines b → IsBook new lines b
book_grown old new g lines b i =
    record {
      logged = log_grown old new g (log_of b) i.logged;
      acts = i.acts;
      are = acts_grown old new g b.home i.logged.some i.logged.within b.did i.acts i.are;
      leads = i.leads;
    }

-- ---- one thing more that is done

pub did_push : (entries : List TraceEntry) (t : ℕ → List ℕ) (s : Sofar) (did : List Did) (next : Did)
    → AreDid entries t s did → IsDid entries t (sofar_of s did) next → AreDid entries t s (did ++ next ∷ [])
did_push entries t s [] next h is = (is, tt)
did_push entries t s (d ∷ did) next h is = (h.0, did_push entries t (further s d) did next h.1 is)

-- the entry of the last call, and the text at which the last look was, are of the history
pub sofar_within : (entries : List TraceEntry) (t : ℕ → List ℕ) (s : Sofar) (did : List Did) → AreDid entries t s did
    → s.entry ≤ length entries → s.upto ≤ length entries
    → ((sofar_of s did).entry ≤ length entries) × ((sofar_of s did).upto ≤ length entries)
sofar_within entries t s [] h entry upto = (entry, upto)
sofar_within entries t s (Call call k ∷ did) h entry upto =
    sofar_within entries t (further s (Call call k)) did h.1 (request_within entries k h.0.2) upto
sofar_within entries t s (Look calls k text ∷ did) h entry upto =
    sofar_within entries t (further s (Look calls k text)) did h.1 entry h.0.1

pub acts_push_call : (entries : History) (did : List Did) (acts : List Act) (call k : ℕ) (request : Request)
    (reply : Reply)
    → AreActs entries did acts → entry_at entries k ≡ Some (record { input = Local request; reply = reply })
    → AreActs entries (did ++ Call call k ∷ []) (acts ++ Called request reply ∷ [])
acts_push_call entries [] [] call k request reply h e = (e, refl)
acts_push_call entries [] (act ∷ acts) call k request reply h e = absurd (cc h)
acts_push_call entries (Call c j ∷ did) [] call k request reply h e = absurd h
acts_push_call entries (Look c u text ∷ did) [] call k request reply h e = absurd h
acts_push_call entries (Call c j ∷ did) (Called q r ∷ acts) call k request reply h e =
    (h.0, acts_push_call entries did acts call k request reply h.1 e)
acts_push_call entries (Call c j ∷ did) (Looked ∷ acts) call k request reply h e = absurd h
acts_push_call entries (Look c u text ∷ did) (Called q r ∷ acts) call k request reply h e = absurd h
acts_push_call entries (Look c u text ∷ did) (Looked ∷ acts) call k request reply h e =
    acts_push_call entries did acts call k request reply h e

pub acts_push_look : (entries : History) (did : List Did) (acts : List Act) (calls upto : ℕ) (text : List ℕ)
    → AreActs entries did acts → AreActs entries (did ++ Look calls upto text ∷ []) (acts ++ Looked ∷ [])
acts_push_look entries [] [] calls upto text h = refl
acts_push_look entries [] (act ∷ acts) calls upto text h = absurd (cc h)
acts_push_look entries (Call c j ∷ did) [] calls upto text h = absurd h
acts_push_look entries (Look c u t ∷ did) [] calls upto text h = absurd h
acts_push_look entries (Call c j ∷ did) (Called q r ∷ acts) calls upto text h =
    (h.0, acts_push_look entries did acts calls upto text h.1)
acts_push_look entries (Call c j ∷ did) (Looked ∷ acts) calls upto text h = absurd h
acts_push_look entries (Look c u t ∷ did) (Called q r ∷ acts) calls upto text h = absurd h
acts_push_look entries (Look c u t ∷ did) (Looked ∷ acts) calls upto text h =
    acts_push_look entries did acts calls upto text h

-- ---- how many calls are an entry

pub calls_both : (k : ℕ) (did more : List Did) → calls_at k (did ++ more) ≡ calls_at k did + calls_at k more
calls_both k [] more = omega arith
calls_both k (Look calls upto text ∷ did) more = calls_both k did more
calls_both k (Call call entry ∷ did) more =
    at (entry == k) (calls_at k (did ++ more)) (calls_at k did) (calls_both k did more)
  where
    at : (b : Bool) (x y : ℕ) → x ≡ y + calls_at k more
        → (if b then suc x else x) ≡ (if b then suc y else y) + calls_at k more
    at true x y e = omega (arith, e)
    at false x y e = e

pub site_calls_both : (site k : ℕ) (logs more : List EditorLog)
    → site_calls_at site k (logs ++ more) ≡ site_calls_at site k logs + site_calls_at site k more
site_calls_both site k [] more = omega arith
site_calls_both site k (log ∷ logs) more =
    at (log.home == site) (site_calls_at site k (logs ++ more)) (site_calls_at site k logs)
    (site_calls_both site k logs more)
  where
    at : (b : Bool) (x y : ℕ) → x ≡ y + site_calls_at site k more
        → (if b then calls_at k log.did + x else x)
        ≡ (if b then calls_at k log.did + y else y) + site_calls_at site k more
    at true x y e = omega (arith, e)
    at false x y e = e
