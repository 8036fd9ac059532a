-- Lines that can follow each other: what they tell so far.
use Rattle.std.proofs.Common.{◌≡◌, ◌<◌, ◌≤◌, ◌+◌, ◌^◌, ℕ, Bool, true, false, not}
use Rattle.std.proofs.Common.{eqb, ltb, leb, ◌&&◌, List, [], ◌∷◌, ◌++◌, length, Option, Some, None, refl, sym}
use Rattle.std.proofs.Common.{ap, subst, ◌∙◌, length-append, arith, true≢false}
use Rattle.std.specs.List.{AllByRecursion}
use Rattle.std.specs.Option.{option_and_then}
use Rattle.std.specs.Str.{IsUtf8}
use Rattle.std.proofs.lemmas.Bool.{eqb-true, leb-true, ltb-true, and_parts, false≢true, false_from_ne_true, cond-true}
use Rattle.std.proofs.lemmas.Option.{none-some, same_Some, cond_some}
use Rattle.std.proofs.lemmas.List.{nil_from_length}
use Rattle.td_base.specs.declared.site.TheConstants.{MAX_SITE}
use Rattle.td_base.proofs.Passing.{all_append}
use Rattle.td_trace.specs.declared.entry.TraceEntry.{TraceEntry}
use Rattle.td_trace.specs.declared.log.Did.{Did}
use Rattle.td_trace.specs.declared.log.Did.TheVariants.{Call, Look}
use Rattle.td_trace.specs.declared.log.EditorLog.{EditorLog}
use Rattle.td_report.specs.Trace.{did_said}
use Rattle.td_report.specs.TraceLines.{TraceLine, SitesAre, HistoryOf, EntryIs, EditorAt, CallIs, LookIs, TextIs}
use Rattle.td_report.specs.TraceLines.{Ended}
use Rattle.td_reader.specs.declared.reached.Reached.{Reached}
use Rattle.td_reader.specs.Reached.{nothing_read, reached_by}
use Rattle.td_reader.specs.Values.{TraceValue, FitsEntry, FitsHistory, FitsDid, FitsLog, IsShortNumber}
use Rattle.td_reader.proofs.Lasts.{on_last, LastIs, last_pushed, last_changed, last_weaker, last_any, length_on_last}
use Rattle.td_reader.proofs.Lasts.{all_on_last}
use Rattle.td_reader.proofs.LineLaws.{FitsLine}
use Rattle.td_reader.proofs.Openings.{opening, with_history, push_entry, with_entry, with_log, push_did, with_did}
use Rattle.td_reader.proofs.Openings.{with_text, open_history, open_entry, open_log, open_did, open_text, open_end}

-- one line behind the other
abbrev pub run : Reached → List TraceLine → Option Reached
run r [] = Some r
run r (line ∷ lines) = option_and_then (λ next. run next lines) (reached_by r line)

pub run_behind : (r : Reached) (xs : List TraceLine) (s : Reached) (ys : List TraceLine) → run r xs ≡ Some s → run r
    (xs ++ ys) ≡ run s ys
run_behind r [] s ys e = ap (λ (t : Reached). run t ys) (same_Some r s e)
run_behind r (x ∷ xs) s ys e = at_next (reached_by r x) (λ n h. run_behind n xs s ys h) e
  where
    at_next : (o : Option Reached) → ((n : Reached) → run n xs ≡ Some s → run n (xs ++ ys) ≡ run s ys)
        → option_and_then (λ next. run next xs) o ≡ Some s → option_and_then
        (λ next. run next (xs ++ ys)) o ≡ run s ys
    at_next None ih e = absurd (none-some s e)
    at_next (Some n) ih e = ih n e

-- what lines tell that have come so far
pub record IsAt (r : Reached) (lines : List TraceLine) : Type 0 where
  pub value : TraceValue
  pub begun : r.is_begun ≡ true
  pub few : value.sites ≤ MAX_SITE
  pub sites : r.sites ≡ value.sites
  pub site : r.site ≡ length value.histories
  pub last : 0 < length value.histories → LastIs (λ h. r.entries ≡ length h) value.histories
  pub editors : r.editors ≡ length value.logs
  pub texts : r.texts ≡ length value.texts
  pub within : length value.histories ≤ value.sites
  pub texts_within : length value.texts ≤ value.sites
  pub first : length value.histories < value.sites → (length value.logs ≡ 0) × (length value.texts ≡ 0)
  pub ended : r.is_ended ≡ true → (length value.histories ≡ value.sites) × (length value.texts ≡ value.sites)
  pub histories : AllByRecursion FitsHistory value.histories
  pub logs : AllByRecursion (FitsLog value.sites) value.logs
  pub few_logs : IsShortNumber (length value.logs)
  pub utf8 : AllByRecursion IsUtf8 value.texts
  pub said : lines ≡ opening value r.is_ended
  pub reached : run nothing_read lines ≡ Some r

more_reached : (r s : Reached) (lines : List TraceLine) (line : TraceLine) → run nothing_read lines ≡ Some r
    → reached_by r line ≡ Some s
    → run nothing_read (lines ++ line ∷ []) ≡ Some s
more_reached r s lines line e f = run_behind nothing_read lines r (line ∷ []) e ∙ ap
    (option_and_then (λ next. run next [])) f

-- what is said, one line more, before the end
more_said : (r : Reached) (v w : TraceValue) (lines : List TraceLine) (line : TraceLine) → r.is_ended ≡ false
    → lines ≡ opening v r.is_ended
    → opening v false ++ line ∷ [] ≡ opening w false → lines ++ line ∷ [] ≡ opening w r.is_ended
more_said r v w lines line still e step =
    ap (λ (xs : List TraceLine). xs ++ line ∷ []) (e ∙ ap (opening v) still) ∙ step ∙ ap (opening w) (sym still)

no_end : {A : Type 0} (b : Bool) → b ≡ false → b ≡ true → A
no_end b e f = absurd (true≢false (sym f ∙ e))

at_history : (r : Reached) (lines : List TraceLine) (site : ℕ) → IsAt r lines → site ≡ r.site + 1 → site ≤ r.sites
    → run nothing_read (lines ++ HistoryOf site ∷ []) ≡ Some (record r { site = site; entries = 0 })
    → IsAt (record r { site = site; entries = 0 }) (lines ++ HistoryOf site ∷ [])
at_history r lines site h is room reached =
    let v : TraceValue = h.value in
    let fewer : length v.histories < v.sites = omega (arith, h.site, h.sites) in
    let none = h.first fewer in
    let still : r.is_ended ≡ false = false_from_ne_true r.is_ended
    (λ (e : r.is_ended ≡ true). let full : length v.histories ≡
    v.sites = (h.ended e).0 in absurd (omega arith)) in
    let one_more : length (v.histories ++ [] ∷ []) ≡ length v.histories + 1 = length-append v.histories ([] ∷ []) in
    let number : site ≡ 1 + length v.histories = omega (arith, h.site) in
    record {
      value = with_history v;
      begun = h.begun;
      few = h.few;
      sites = h.sites;
      site = omega arith;
      last = λ _. last_pushed (λ x. 0 ≡ length x) v.histories [] refl;
      editors = h.editors;
      texts = h.texts;
      within = omega arith;
      texts_within = h.texts_within;
      first = λ _. none;
      ended = λ e. no_end r.is_ended still e;
      histories = all_append FitsHistory v.histories ([] ∷ []) h.histories
          (record { each = tt; few = omega arith }, tt);
      logs = h.logs;
      few_logs = h.few_logs;
      utf8 = h.utf8;
      said = more_said r v (with_history v) lines (HistoryOf site) still h.said
          (open_history v site (nil_from_length v.logs none.0) (nil_from_length v.texts none.1) number);
      reached = reached;
    }

at_entry : (r : Reached) (lines : List TraceLine) (number : ℕ) (e : TraceEntry) → IsAt r lines → number < 2 ^ 64
    → FitsEntry e
    → number ≡ r.entries + 1 → 0 < r.site → r.editors ≡ 0 → r.texts ≡ 0
    → run nothing_read (lines ++ EntryIs number e ∷ []) ≡ Some (record r { entries = number })
    → IsAt (record r { entries = number }) (lines ++ EntryIs number e ∷ [])
at_entry r lines number e h small fits is some no_logs no_texts reached =
    let v : TraceValue = h.value in
    let still : r.is_ended ≡ false = false_from_ne_true r.is_ended (λ (x : r.is_ended ≡ true).
    let full : length v.histories ≡ v.sites = (h.ended x).0 in let none : length v.texts ≡ v.sites = (h.ended x).1 in
    absurd (omega (arith, h.site, h.texts))) in
    let same : length (on_last (push_entry e) v.histories) ≡ length v.histories = length_on_last
    (push_entry e) v.histories in
    let last : LastIs (λ x. r.entries ≡ length x) v.histories = h.last (omega (arith, h.site)) in
    record {
      value = with_entry v e;
      begun = h.begun;
      few = h.few;
      sites = h.sites;
      site = h.site ∙ sym same;
      last = λ _. last_changed (λ x. r.entries ≡ length x) (λ x. number ≡ length x) (push_entry e)
          (λ x (l : r.entries ≡ length x). omega (arith, length-append x (e ∷ []))) v.histories last;
      editors = h.editors;
      texts = h.texts;
      within = omega (arith, h.within);
      texts_within = h.texts_within;
      first = λ _. (omega (arith, h.editors), omega (arith, h.texts));
      ended = λ x. no_end r.is_ended still x;
      histories = all_on_last FitsHistory (λ x. r.entries ≡ length x) (push_entry e)
          (λ x (l : r.entries ≡ length x) (f : FitsHistory x). record {
            each = all_append FitsEntry x (e ∷ []) f.each (fits, tt);
            few = omega (arith, length-append x (e ∷ []));
          }) v.histories last h.histories;
      logs = h.logs;
      few_logs = h.few_logs;
      utf8 = h.utf8;
      said = more_said r v (with_entry v e) lines (EntryIs number e) still h.said
          (open_entry v number e (nil_from_length v.logs (omega (arith, h.editors)))
          (nil_from_length v.texts (omega (arith, h.texts)))
          (last_weaker (λ x. r.entries ≡ length x) (λ x. number ≡ 1 + length x)
          (λ x (l : r.entries ≡ length x). omega arith) v.histories last));
      reached = reached;
    }

at_editor : (r : Reached) (lines : List TraceLine) (number home : ℕ) → IsAt r lines → number < 2 ^ 32 → 1 ≤ home
    → number ≡ r.editors + 1 → home ≤ r.sites → r.site ≡ r.sites → r.texts ≡ 0
    → run nothing_read (lines ++ EditorAt number home ∷ []) ≡ Some (record r { editors = number })
    → IsAt (record r { editors = number }) (lines ++ EditorAt number home ∷ [])
at_editor r lines number home h small least is within full no_texts reached =
    let v : TraceValue = h.value in
    let still : r.is_ended ≡ false = false_from_ne_true r.is_ended (λ (x : r.is_ended ≡ true).
    let none : length v.texts ≡ v.sites = (h.ended x).1 in absurd (omega (arith, h.sites, h.texts))) in
    let one_more : length (v.logs ++ record { home = home; did = [] } ∷ []) ≡ length v.logs + 1 = length-append v.logs
    (record { home = home; did = [] } ∷ []) in
    record {
      value = with_log v home;
      begun = h.begun;
      few = h.few;
      sites = h.sites;
      site = h.site;
      last = h.last;
      editors = omega (arith, h.editors);
      texts = h.texts;
      within = h.within;
      texts_within = h.texts_within;
      first = λ (x : length v.histories < v.sites). absurd (omega (arith, h.site, h.sites));
      ended = λ x. no_end r.is_ended still x;
      histories = h.histories;
      logs = all_append (FitsLog v.sites) v.logs (record { home = home; did = [] } ∷ []) h.logs
          (record { some = least; within = omega (arith, h.sites); did = tt }, tt);
      few_logs = omega (arith, h.editors);
      utf8 = h.utf8;
      said = more_said r v (with_log v home) lines (EditorAt number home) still h.said
          (open_log v number home (nil_from_length v.texts (omega (arith, h.texts))) (omega (arith, h.editors)));
      reached = reached;
    }

no_logs_at_none : (sites : ℕ) (logs : List EditorLog) → sites ≡ 0 → AllByRecursion (FitsLog sites) logs
    → length logs ≡ 0
no_logs_at_none sites [] e h = refl
no_logs_at_none sites (log ∷ logs) e h = absurd (omega (arith, h.0.some, h.0.within))

at_did : (r : Reached) (lines : List TraceLine) (d : Did) → IsAt r lines → FitsDid d → 0 < r.editors → r.texts ≡ 0
    → run nothing_read (lines ++ did_said d ∷ []) ≡ Some r → IsAt r (lines ++ did_said d ∷ [])
at_did r lines d h fits some no_texts reached =
    let v : TraceValue = h.value in
    let still : r.is_ended ≡ false = false_from_ne_true r.is_ended (λ (x : r.is_ended ≡ true).
    let none : length v.texts ≡ v.sites = (h.ended x).1 in
    let no_logs : length v.logs ≡ 0 = no_logs_at_none v.sites v.logs (omega (arith, h.texts)) h.logs in absurd
    (omega (arith, h.editors))) in
    let same : length (on_last (push_did d) v.logs) ≡ length v.logs = length_on_last (push_did d) v.logs in
    let there : 0 < length v.logs = omega (arith, h.editors) in
    record {
      value = with_did v d;
      begun = h.begun;
      few = h.few;
      sites = h.sites;
      site = h.site;
      last = h.last;
      editors = h.editors ∙ sym same;
      texts = h.texts;
      within = h.within;
      texts_within = h.texts_within;
      first = λ (x : length v.histories < v.sites). let none : length v.logs ≡ 0 = (h.first x).0 in absurd
          (omega arith);
      ended = λ x. no_end r.is_ended still x;
      histories = h.histories;
      logs = all_on_last (FitsLog v.sites) (λ _. Unit {0}) (push_did d)
          (λ log _ (f : FitsLog v.sites log). record {
            some = f.some;
            within = f.within;
            did = all_append FitsDid
                log.did (d ∷ []) f.did (fits, tt);
          })
          v.logs (last_any v.logs there) h.logs;
      few_logs = omega (arith, h.few_logs);
      utf8 = h.utf8;
      said = more_said r v (with_did v d) lines (did_said d) still h.said
          (open_did v d (nil_from_length v.texts (omega (arith, h.texts))) there);
      reached = reached;
    }

at_text : (r : Reached) (lines : List TraceLine) (site : ℕ) (text : List ℕ) → IsAt r lines → IsUtf8 text
    → site ≡ r.texts + 1 → site ≤ r.sites → r.site ≡ r.sites
    → run nothing_read (lines ++ TextIs site text ∷ []) ≡ Some (record r { texts = site })
    → IsAt (record r { texts = site }) (lines ++ TextIs site text ∷ [])
at_text r lines site text h fits is room full reached =
    let v : TraceValue = h.value in
    let still : r.is_ended ≡ false = false_from_ne_true r.is_ended (λ (x : r.is_ended ≡ true).
    let none : length v.texts ≡ v.sites = (h.ended x).1 in absurd (omega (arith, h.sites, h.texts))) in
    let one_more : length (v.texts ++ text ∷ []) ≡ length v.texts + 1 = length-append v.texts (text ∷ []) in
    record {
      value = with_text v text;
      begun = h.begun;
      few = h.few;
      sites = h.sites;
      site = h.site;
      last = h.last;
      editors = h.editors;
      texts = omega (arith, h.texts);
      within = h.within;
      texts_within = omega (arith, h.sites, h.texts);
      first = λ (x : length v.histories < v.sites). absurd (omega (arith, h.site, h.sites));
      ended = λ x. no_end r.is_ended still x;
      histories = h.histories;
      logs = h.logs;
      few_logs = h.few_logs;
      utf8 = all_append IsUtf8 v.texts (text ∷ []) h.utf8 (fits, tt);
      said = more_said r v (with_text v text) lines (TextIs site text) still h.said
          (open_text v site text (omega (arith, h.texts)));
      reached = reached;
    }

at_end : (r : Reached) (lines : List TraceLine) → IsAt r lines → r.is_ended ≡ false → r.site ≡ r.sites
    → r.texts ≡ r.sites
    → run nothing_read (lines ++ Ended ∷ []) ≡ Some (record r { is_ended = true })
    → IsAt (record r { is_ended = true }) (lines ++ Ended ∷ [])
at_end r lines h still full all reached =
    let v : TraceValue = h.value in
    record {
      value = v;
      begun = h.begun;
      few = h.few;
      sites = h.sites;
      site = h.site;
      last = h.last;
      editors = h.editors;
      texts = h.texts;
      within = h.within;
      texts_within = h.texts_within;
      first = h.first;
      ended = λ _. (omega (arith, h.site, h.sites), omega (arith, h.texts, h.sites));
      histories = h.histories;
      logs = h.logs;
      few_logs = h.few_logs;
      utf8 = h.utf8;
      said = ap (λ (xs : List TraceLine). xs ++ Ended ∷ []) (h.said ∙ ap (opening v) still) ∙ open_end v;
      reached = reached;
    }

at_sites : (n : ℕ) → n ≤ MAX_SITE → IsAt (record nothing_read { is_begun = true; sites = n }) (SitesAre n ∷ [])
at_sites n h = record {
  value = record { sites = n; histories = []; logs = []; texts = [] };
  begun = refl;
  few = h;
  sites = refl;
  site = refl;
  last = λ (x : 0 < 0). absurd (omega arith);
  editors = refl;
  texts = refl;
  within = omega arith;
  texts_within = omega arith;
  first = λ _. (refl, refl);
  ended = λ (e : false ≡ true). absurd (false≢true e);
  histories = tt;
  logs = tt;
  few_logs = omega arith;
  utf8 = tt;
  said = refl;
  reached = refl;
}

-- ---- one more line, where it can be the next

pub at_line : (r s : Reached) (lines : List TraceLine) (line : TraceLine) → IsAt r lines → FitsLine line
    → reached_by r line ≡ Some s
    → IsAt s (lines ++ line ∷ [])
at_line r s lines (SitesAre n) h fits e =
    absurd (none-some s (sym (cond-true r.is_begun None (Some
    (record nothing_read { is_begun = true; sites = n })) h.begun) ∙ e))
at_line r s lines (HistoryOf site) h fits e =
    let got = cond_some (eqb site (r.site + 1) && leb site r.sites) (record r { site = site; entries = 0 }) s e in
    let parts = and_parts (eqb site (r.site + 1)) (leb site r.sites) got.0 in
    let next : Reached = record r { site = site; entries = 0 } in
    subst (λ (t : Reached). IsAt t (lines ++ HistoryOf site ∷ [])) got.1
    (at_history r lines site h (eqb-true site (r.site + 1) parts.0) (leb-true site r.sites parts.1)
    (more_reached r next lines (HistoryOf site) h.reached (e ∙ ap (λ (t : Reached). Some t) (sym got.1))))
at_line r s lines (EntryIs number entry) h fits e =
    let next : Reached = record r { entries = number } in
    let got = cond_some (eqb number (r.entries + 1) && (ltb 0 r.site &&
    (eqb r.editors 0 && eqb r.texts 0))) next s e in
    let parts = and_parts (eqb number (r.entries + 1)) (ltb 0 r.site && (eqb r.editors 0 && eqb r.texts 0)) got.0 in
    let more = and_parts (ltb 0 r.site) (eqb r.editors 0 && eqb r.texts 0) parts.1 in
    let last = and_parts (eqb r.editors 0) (eqb r.texts 0) more.1 in
    subst (λ (t : Reached). IsAt t (lines ++ EntryIs number entry ∷ [])) got.1
    (at_entry r lines number entry h fits.0 fits.1 (eqb-true number (r.entries + 1) parts.0)
    (ltb-true 0 r.site more.0) (eqb-true r.editors 0 last.0)
    (eqb-true r.texts 0 last.1) (more_reached r next lines (EntryIs number entry) h.reached
    (e ∙ ap (λ (t : Reached). Some t) (sym got.1))))
at_line r s lines (EditorAt number home) h fits e =
    let next : Reached = record r { editors = number } in
    let got = cond_some (eqb number (r.editors + 1) && (leb home r.sites &&
    (eqb r.site r.sites && eqb r.texts 0))) next s e in
    let parts = and_parts (eqb number (r.editors + 1)) (leb home r.sites &&
    (eqb r.site r.sites && eqb r.texts 0)) got.0 in
    let more = and_parts (leb home r.sites) (eqb r.site r.sites && eqb r.texts 0) parts.1 in
    let last = and_parts (eqb r.site r.sites) (eqb r.texts 0) more.1 in
    subst (λ (t : Reached). IsAt t (lines ++ EditorAt number home ∷ [])) got.1
    (at_editor r lines number home h fits.0 fits.1.least (eqb-true number (r.editors + 1) parts.0)
    (leb-true home r.sites more.0)
    (eqb-true r.site r.sites last.0) (eqb-true r.texts 0 last.1)
    (more_reached r next lines (EditorAt number home) h.reached (e ∙ ap (λ (t : Reached). Some t) (sym got.1))))
at_line r s lines (CallIs call entry) h fits e =
    let got = cond_some (ltb 0 r.editors && eqb r.texts 0) r s e in
    let parts = and_parts (ltb 0 r.editors) (eqb r.texts 0) got.0 in
    subst (λ (t : Reached). IsAt t (lines ++ CallIs call entry ∷ [])) got.1
    (at_did r lines (Call call entry) h fits (ltb-true 0 r.editors parts.0) (eqb-true r.texts 0 parts.1)
    (more_reached r r lines (CallIs call entry) h.reached (e ∙ ap (λ (t : Reached). Some t) (sym got.1))))
at_line r s lines (LookIs calls upto text) h fits e =
    let got = cond_some (ltb 0 r.editors && eqb r.texts 0) r s e in
    let parts = and_parts (ltb 0 r.editors) (eqb r.texts 0) got.0 in
    subst (λ (t : Reached). IsAt t (lines ++ LookIs calls upto text ∷ [])) got.1
    (at_did r lines (Look calls upto text) h fits (ltb-true 0 r.editors parts.0) (eqb-true r.texts 0 parts.1)
    (more_reached r r lines (LookIs calls upto text) h.reached (e ∙ ap (λ (t : Reached). Some t) (sym got.1))))
at_line r s lines (TextIs site text) h fits e =
    let next : Reached = record r { texts = site } in
    let got = cond_some (eqb site (r.texts + 1) && (leb site r.sites && eqb r.site r.sites)) next s e in
    let parts = and_parts (eqb site (r.texts + 1)) (leb site r.sites && eqb r.site r.sites) got.0 in
    let more = and_parts (leb site r.sites) (eqb r.site r.sites) parts.1 in
    subst (λ (t : Reached). IsAt t (lines ++ TextIs site text ∷ [])) got.1
    (at_text r lines site text h fits.1 (eqb-true site (r.texts + 1) parts.0) (leb-true site r.sites more.0)
    (eqb-true r.site r.sites more.1)
    (more_reached r next lines (TextIs site text) h.reached (e ∙ ap (λ (t : Reached). Some t) (sym got.1))))
at_line r s lines Ended h fits e =
    let next : Reached = record r { is_ended = true } in
    let got = cond_some (r.is_begun && (not r.is_ended && (eqb r.site r.sites && eqb r.texts r.sites))) next s e in
    let parts = and_parts r.is_begun (not r.is_ended && (eqb r.site r.sites && eqb r.texts r.sites)) got.0 in
    let more = and_parts (not r.is_ended) (eqb r.site r.sites && eqb r.texts r.sites) parts.1 in
    let last = and_parts (eqb r.site r.sites) (eqb r.texts r.sites) more.1 in
    subst (λ (t : Reached). IsAt t (lines ++ Ended ∷ [])) got.1
    (at_end r lines h (not_true r.is_ended more.0) (eqb-true r.site r.sites last.0) (eqb-true r.texts r.sites last.1)
    (more_reached r next lines Ended h.reached (e ∙ ap (λ (t : Reached). Some t) (sym got.1))))
  where
    not_true : (b : Bool) → not b ≡ true → b ≡ false
    not_true true e = absurd (false≢true e)
    not_true false e = refl

-- the first line
pub at_first : (s : Reached) (line : TraceLine) → FitsLine line → reached_by nothing_read line ≡ Some s → IsAt s
    (line ∷ [])
at_first s (SitesAre n) h e =
    subst (λ (t : Reached). IsAt t (SitesAre n ∷ [])) (same_Some
    (record nothing_read { is_begun = true; sites = n }) s e) (at_sites n h)
at_first s (HistoryOf site) h e =
    let got = cond_some (eqb site (0 + 1) && leb site 0) (record nothing_read { site = site; entries = 0 }) s e in
    let none : site ≤ 0 = leb-true site 0 (and_parts (eqb site (0 + 1)) (leb site 0) got.0).1 in
    absurd (omega (arith, h.least))
at_first s (EntryIs number entry) h e =
    let got = cond_some (eqb number (0 + 1) && false) (record nothing_read { entries = number }) s e in
    absurd (false≢true (and_parts (eqb number (0 + 1)) false got.0).1)
at_first s (EditorAt number home) h e =
    let got = cond_some (eqb number (0 + 1) && (leb home 0 && true)) (record nothing_read { editors = number }) s e in
    let none : home ≤ 0 = leb-true home 0 (and_parts (leb home 0) true
    (and_parts (eqb number (0 + 1)) (leb home 0 && true) got.0).1).0 in
    absurd (omega (arith, h.1.least))
at_first s (CallIs call entry) h e = absurd (none-some s e)
at_first s (LookIs calls upto text) h e = absurd (none-some s e)
at_first s (TextIs site text) h e =
    let got = cond_some (eqb site (0 + 1) && (leb site 0 && true)) (record nothing_read { texts = site }) s e in
    let none : site ≤ 0 = leb-true site 0 (and_parts (leb site 0) true
    (and_parts (eqb site (0 + 1)) (leb site 0 && true) got.0).1).0 in
    absurd (omega (arith, h.0.least))
at_first s Ended h e = absurd (none-some s e)
