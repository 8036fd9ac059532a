-- A possible trace has the verdict yes: the rounds of the replay come to their end, and nothing wrong is found there.
use Rattle.std.proofs.Common.{◌≡◌, ◌≢◌, ◌<◌, ◌≤◌, ◌+◌, ◌*◌, ◌-◌, ℕ, zero, suc, List, Bool, true, false, nat_eq}
use Rattle.std.proofs.Common.{length, refl, sym, ap, ◌∙◌, subst, ⊎_elim, arith}
use Rattle.std.proofs.lemmas.Bool.{eqb-true, eqb-false}
use Rattle.td_check.specs.Verdict.{IsFinding, OfNone, IsVerdict, OfNoSite, OfTrace, IsPossible}
use Rattle.td_check.specs.declared.verdict.Verdict.TheVariants.{Yes}
use Rattle.td_check.proofs.Ranges.{in_range}
use Rattle.td_machine.specs.History.{Family, IsConsistent}
use Rattle.td_reader.specs.Form.{IsTraceOf}
use Rattle.td_reader.specs.Values.{TraceValue}
use Rattle.td_law_replay.specs.Accepted.{IsLiveTrace, IsAcceptedAt}
use Rattle.td_law_replay.specs.Ended.{VotesWereSent}
use Rattle.td_law_replay.specs.Judging.{States, begin}
use Rattle.td_law_replay.specs.Replay.{Goes, Reaches, AllDone}
use Rattle.td_law_replay.specs.Rounds.{GoesAt, Rests, Course, Starts, Does, Passes, Repeats}
use Rattle.td_law_replay.proofs.Accepting.{live_is_accepted, texts_there}
use Rattle.td_law_replay.proofs.Exactly.{goes_less}
use Rattle.td_law_replay.proofs.Going.{many}
use Rattle.td_law_replay.proofs.Judging.{none_left}
use Rattle.td_law_replay.proofs.Progress.{Can, never_stops}
use Rattle.td_law_replay.proofs.Rounding.{Turn, Resting, Going, turn, not_stuck, reaches_of}
use Rattle.td_law_replay.proofs.Shown.{votes_sent}
use Rattle.td_trace.specs.declared.entry.TraceEntry.{TraceEntry}
use Rattle.td_trace.specs.Entries.{traced_family}

-- ---- the rounds end

-- the rounds come to an end in which no entry is left
record Ends (all : List (List TraceEntry)) : Type 0 where
  states : States
  site : ℕ
  moved : Bool
  course : Course all states site moved
  over : AllDone all states

-- how many entries are left, which are fewer with each that is done
record Left (all : List (List TraceEntry)) : Type 0 where
  entries : States → ℕ
  fewer : (old new : States) → Goes all old new → entries new + 1 ≡ entries old

left_of : (all : List (List TraceEntry)) → Left all
left_of all = record { entries = _; fewer = λ old new g. goes_less all old new g }

-- what is left of a round that did something, or nothing: a whole one more, where it did
abbrev round_left : Bool → ℕ
round_left true = 100
round_left false = 0

-- it grows less with each step of the rounds: with an entry done, with a site passed, and with a round ended
abbrev left_at : ℕ → ℕ → Bool → ℕ
left_at entries site moved = entries * 200 + round_left moved + (64 - site)

module _ (family : Family) (c : IsConsistent family) where
  abbrev all : List (List TraceEntry)
  all = traced_family family

  abbrev n : ℕ
  n = length (traced_family family)

  abbrev entries : States → ℕ
  entries = (left_of (traced_family family)).entries

  abbrev Ended : ℕ → Type 0
  Ended bound =
      (states : States) (site : ℕ) (moved : Bool) → Course all states site moved → 0 < site → site ≤ n
      → left_at (entries states) site moved < bound → Ends all

  few : n ≤ 64
  few = subst (λ (k : ℕ). k ≤ 64) (sym (many family)) c.legal.few

  ended_step : (bound : ℕ) → Ended bound → Ended (suc bound)
  ended_step bound ih states site moved course some within less =
      ⊎_elim
      (λ (over : AllDone all states).
      record { states = states; site = site; moved = moved; course = course; over = over })
      (λ (g : Can family states). at g (turn family c states reaches site some in_family))
      (never_stops family c states reaches)
    where
      reaches : Reaches all states
      reaches = reaches_of all states site moved course

      in_family : site ≤ length family
      in_family = subst (λ (k : ℕ). site ≤ k) (many family) within

      not_over : Can family states → AllDone all states → ⊥
      not_over g over = none_left g.1.entry g.1.rest (sym (over g.1.site g.1.some g.1.within) ∙ g.1.next)

      repeats : Can family states → (b : Bool) → moved ≡ b → site ≡ n → Rests all site states → Ends all
      repeats g true e last rests =
          ih states 1 false (Repeats (subst (λ (b : Bool). Course all states site b) e course) last rests)
          (omega arith) (omega (arith, some, within))
          (again (entries states) (subst (λ (b : Bool). left_at (entries states) site b < suc bound) e less))
        where
          again : (left : ℕ) → left * 200 + 100 + (64 - site) < suc bound → left * 200 + 0 + (64 - 1) < bound
          again left h = omega (arith, h)
      repeats g false e last rests =
          absurd
          (not_stuck family c states
          (record {
            site = site;
            last = last;
            course = subst (λ (b : Bool). Course all states site b) e course;
            rests = rests;
            left = not_over g;
          }))

      rested : Can family states → Rests all site states → (b : Bool) → nat_eq site n ≡ b → Ends all
      rested g rests true e = repeats g moved refl (eqb-true site n e) rests
      rested g rests false e =
          let apart : site ≢ n = eqb-false site n e in
          let before : site < n = omega (arith, within, apart) in
          ih states (site + 1) moved (Passes course before rests) (omega arith) (omega (arith, before))
          (passed (entries states) (round_left moved) before less)
        where
          passed : (left round : ℕ) → site < n → left * 200 + round + (64 - site) < suc bound
              → left * 200 + round + (64 - (site + 1)) < bound
          passed left round before h = omega (arith, h, before, few)

      done : (new : States) → GoesAt all site states new → Ends all
      done new g =
          let one : entries new + 1 ≡ entries states = (left_of all).fewer states new g.goes in
          ih new site true (Does course g) some within
          (fewer (entries new) (entries states) (round_left moved) one less)
        where
          fewer : (now before round : ℕ) → now + 1 ≡ before → before * 200 + round + (64 - site) < suc bound
              → now * 200 + 100 + (64 - site) < bound
          fewer now before round e h = omega (arith, e, h)

      at : Can family states → Turn family c states reaches site → Ends all
      at g (Resting rests) = rested g rests (nat_eq site n) refl
      at g (Going new goes) = done new goes

  ended : (bound : ℕ) → Ended bound
  ended zero states site moved course some within less = absurd (omega (arith, less))
  ended (suc bound) states site moved course some within less =
      ended_step bound (ended bound) states site moved course some within less

  rounds_end : Ends all
  rounds_end =
      let there : 0 < n = subst (λ (k : ℕ). 0 < k) (sym (many family)) c.legal.some in
      ended (suc (left_at (entries (begin all)) 1 false)) (begin all) 1 false Starts (omega arith) there (omega arith)

-- ---- what is found there

module _ (t : TraceValue) (l : IsLiveTrace t.histories t.logs t.texts) where
  ends : Ends t.histories
  ends = subst (λ (all : List (List TraceEntry)). Ends all) l.is (rounds_end l.family l.live.settled.consistent)

  reached : Reaches t.histories ends.states
  reached = reaches_of t.histories ends.states ends.site ends.moved ends.course

  votes : VotesWereSent t.histories ends.states
  votes =
      subst
      (λ (all : List (List TraceEntry)).
      (last : States) → Reaches all last → AllDone all last → VotesWereSent all last) l.is
      (votes_sent l.family l.live.settled.consistent) ends.states reached ends.over

pub found_yes : (t : TraceValue) (bytes : List ℕ) → IsTraceOf bytes t → 0 < t.sites
    → IsLiveTrace t.histories t.logs t.texts → IsFinding t Yes
found_yes t bytes is some l =
    let e : Ends t.histories = ends t l in
    let texts = texts_there t.histories (in_range t is.0 some) e.states (reached t l) e.over (votes t l) in
    let a : IsAcceptedAt t.histories e.states texts.0 t.logs t.texts =
    live_is_accepted t.histories t.logs t.texts l e.states (reached t l) e.over texts.0 texts.1 in
    OfNone {last = e.states} {text_at = texts.0}
    (record {
      over = record { site = e.site; moved = e.moved; course = e.course; over = e.over };
      votes = votes t l;
      texts = texts.1;
    })
    a.logs_are (λ site k alone. alone.alone (a.calls site k alone.some alone.within alone.asked)) a.text
    (record { vectors = a.vectors; decided = a.decided })

pub possible_yes : (bytes : List ℕ) → IsPossible bytes → IsVerdict bytes Yes
possible_yes bytes p =
    ⊎_elim (λ (none : p.value.sites ≡ 0). OfNoSite p.short p.value p.is none)
    (λ (l : IsLiveTrace p.value.histories p.value.logs p.value.texts).
    let some : 0 < length (traced_family l.family) =
    subst (λ (k : ℕ). 0 < k) (sym (many l.family)) l.live.settled.consistent.legal.some in
    let there : 0 < p.value.sites =
    subst (λ (k : ℕ). 0 < k) (ap (λ (all : List (List TraceEntry)). length all) l.is ∙ p.is.0.each_history) some in
    OfTrace p.short p.value p.is there (found_yes p.value bytes p.is there l)) p.live
