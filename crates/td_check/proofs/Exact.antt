-- What is found of a trace is Yes exactly where it is that of a live family.
use Rattle.std.proofs.Common.{◌≡◌, ◌≢◌, ◌↔◌, ◌<◌, ◌≤◌, ◌-◌, List, [], ◌∷◌, ℕ, zero, suc, Bool, nat_eq, length}
use Rattle.std.proofs.Common.{take, Some, slice_get, refl, sym, ◌∙◌, subst, arith}
use Rattle.std.specs.List.{AllByRecursion}
use Rattle.std.proofs.lemmas.Option.{same_Some}
use Rattle.td_base.proofs.Elements.{In-slice_get}
use Rattle.std.proofs.lemmas.Bool.{eqb-true, eqb-false, true_from_ne_false}
use Rattle.td_trace.specs.declared.entry.TraceEntry.{TraceEntry}
use Rattle.td_trace.specs.declared.log.Did.{Did}
use Rattle.td_trace.specs.declared.log.EditorLog.{EditorLog}
use Rattle.td_trace.specs.Editors.{Sofar, nothing_yet, further, IsDid, AreDid, site_calls_at}
use Rattle.td_reader.specs.Values.{TraceValue, IsTraceValue}
use Rattle.td_law_replay.specs.Accepted.{IsLiveTrace, IsLogIn, IsAcceptedAt}
use Rattle.td_law_replay.specs.Ended.{IsConsistentTrace}
use Rattle.td_law_replay.specs.Judging.{States}
use Rattle.td_law_replay.specs.Rounds.{Course, Starts, Does, Passes, Repeats}
use Rattle.td_law_replay.specs.Traced.{site_entries}
use Rattle.td_law_replay.proofs.Accepting.{accepted_is_live, live_is_accepted}
use Rattle.td_law_replay.proofs.Rounding.{reaches_of}
use Rattle.td_law_replay.proofs.Stopped.{lost_untraced, wrong_untraced, stuck_untraced, unsent_untraced}
use Rattle.td_check.specs.declared.verdict.Fault.{Fault}
use Rattle.td_check.specs.declared.verdict.Verdict.{Verdict}
use Rattle.td_check.specs.declared.verdict.Verdict.TheVariants.{Yes, No}
use Rattle.td_check.specs.Findings.{IsReplayedWith, so_far}
use Rattle.td_check.specs.Stops.{Stops, Wrong, Lost, Stuck, Unsent}
use Rattle.td_check.specs.Verdict.{IsFinding, OfStop, OfDeed, OfAlone, OfText, OfOpen, OfNone}
use Rattle.td_check.proofs.Ranges.{in_range}

no_is_not_yes : (line : ℕ) (fault : Fault) → No line fault ≢ Yes
no_is_not_yes line fault e = cc

-- ---- stops

course_within : (all : List (List TraceEntry)) (states : States) (site : ℕ) (moved : Bool) → 0 < length all
    → Course all states site moved → (0 < site) × (site ≤ length all)
course_within all _ _ _ some Starts = (omega arith, omega (arith, some))
course_within all _ _ _ some (Does {old} {new} {site} {moved} before_ g) = course_within all old site moved some before_
course_within all _ _ _ some (Passes {states} {site} {moved} before_ less rests) = (omega arith, omega (arith, less))
course_within all _ _ _ some (Repeats before_ last rests) = (omega arith, omega (arith, some))

stops_untraced : (t : TraceValue) (line : ℕ) (fault : Fault) → 0 < length t.histories → Stops t line fault
    → ¬ IsConsistentTrace t.histories
stops_untraced t _ _ some (Wrong {states} {site} {moved} entry course wrong) =
    let there = course_within t.histories states site moved some course in
    wrong_untraced t.histories states (reaches_of t.histories states site moved course) site there.0 there.1 entry wrong
stops_untraced t _ _ some (Lost {states} {site} {moved} entry course lost) =
    let there = course_within t.histories states site moved some course in
    lost_untraced t.histories states (reaches_of t.histories states site moved course) site there.0 there.1 entry lost
stops_untraced t _ _ some (Stuck {states} site stuck first) = stuck_untraced t.histories states stuck
stops_untraced t _ _ some (Unsent {last} site k over unsent first) =
    unsent_untraced t.histories last (reaches_of t.histories last over.site over.moved over.course) over.over
    (λ votes. unsent.unsent (votes site unsent.some unsent.within unsent.entry
    (In-slice_get (site_entries t.histories site) (k - 1) unsent.entry unsent.is) unsent.vote unsent.takes))

-- ---- deeds

pub logs_at : (P : EditorLog → Type 0) (logs : List EditorLog) (k : ℕ) (log : EditorLog) → AllByRecursion P logs
    → slice_get logs k ≡ Some log → P log
logs_at P [] k log each is = absurd cc
logs_at P (l ∷ logs) zero log each is = subst P (same_Some l log is) each.0
logs_at P (l ∷ logs) (suc k) log each is = logs_at P logs k log each.1 is

did_at : (entries : List TraceEntry) (text_at : ℕ → List ℕ) (s : Sofar) (dids : List Did) (k : ℕ) (did : Did)
    → AreDid entries text_at s dids → slice_get dids k ≡ Some did → IsDid entries text_at (so_far s (take k dids)) did
did_at entries text_at s [] k did each is = absurd cc
did_at entries text_at s (d ∷ dids) zero did each is =
    subst (λ (e : Did). IsDid entries text_at s e) (same_Some d did is) each.0
did_at entries text_at s (d ∷ dids) (suc k) did each is = did_at entries text_at (further s d) dids k did each.1 is

-- ---- all

module _ (t : TraceValue) (is : IsTraceValue t) (some : 0 < t.sites) where
  abbrev all : List (List TraceEntry)
  all = t.histories

  some_histories : 0 < length all
  some_histories = subst (λ (n : ℕ). 0 < n) (sym is.each_history) some

  consistent : IsLiveTrace all t.logs t.texts → IsConsistentTrace all
  consistent live = record { family = live.family; consistent = live.live.settled.consistent; is = live.is }

  accepted : (last : States) (text_at : ℕ → ℕ → List ℕ) → IsReplayedWith t last text_at → IsLiveTrace all t.logs t.texts
      → IsAcceptedAt all last text_at t.logs t.texts
  accepted last text_at r live =
      live_is_accepted all t.logs t.texts live last (reaches_of all last r.over.site r.over.moved r.over.course)
      r.over.over text_at r.texts

  pub found_exactly : (v : Verdict) → IsFinding t v → (v ≡ Yes) ↔ IsLiveTrace all t.logs t.texts
  found_exactly _ (OfStop {line} {fault} stops) = (
    λ e. absurd (no_is_not_yes line fault e),
    λ live. absurd (stops_untraced t line fault some_histories stops (consistent live)),
  )
  found_exactly _ (OfDeed {last} {text_at} {line} {fault} r first) = (
    λ e. absurd (no_is_not_yes line fault e),
    λ live.
        let log = logs_at (IsLogIn all text_at) t.logs first.editor first.log (accepted last text_at r live).logs_are
        first.is in
        absurd (first.bad (did_at (site_entries all first.log.home) (text_at first.log.home) nothing_yet first.log.did
        first.deeds first.did log.did first.did_is)),
  )
  found_exactly _ (OfAlone {last} {text_at} {line} r logs first) = (
    λ e. absurd cc,
    λ live.
        absurd (first.is.alone ((accepted last text_at r live).calls first.site first.k first.is.some first.is.within
        first.is.asked)),
  )
  found_exactly _ (OfText {last} {text_at} {line} r logs none first) = (
    λ e. absurd cc,
    λ live. absurd (first.other ((accepted last text_at r live).text first.site first.some first.within)),
  )
  found_exactly _ (OfOpen {last} {text_at} r logs none texts is_open) = (
    λ e. absurd cc,
    λ live.
        let a = accepted last text_at r live in absurd (is_open (record { vectors = a.vectors; decided = a.decided })),
  )
  found_exactly _ (OfNone {last} {text_at} r logs none texts settled) = (
    λ e.
        accepted_is_live all t.logs t.texts (in_range t is some) last
        (reaches_of all last r.over.site r.over.moved r.over.course) r.over.over text_at r.texts
        (record {
          votes = r.votes;
          logs_are = logs;
          calls = λ site k there within asked.
              eqb-true (site_calls_at site k t.logs) 1 (true_from_ne_false (nat_eq (site_calls_at site k t.logs) 1)
              (λ f. none site k (record {
                some = there;
                within = within;
                asked = asked;
                alone = eqb-false (site_calls_at site k t.logs) 1 f;
              })));
          each_text = is.each_text ∙ sym is.each_history;
          text = texts;
          vectors = settled.vectors;
          decided = settled.decided;
        }),
    λ live. refl,
  )
