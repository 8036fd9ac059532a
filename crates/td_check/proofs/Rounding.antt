-- A round over the sites, and rounds up to the end.
use Rattle.std.proofs.Common.{true≢false, ◌≡◌, ◌⊎◌, ◌<◌, ◌≤◌, ◌+◌, ◌-◌, ◌||◌, List, ℕ, suc, drop, Bool, true}
use Rattle.std.proofs.Common.{false, length, Option, Some, None, refl, sym, ap, ◌∙◌, subst, inl, inr, arith}
use Rattle.std.proofs.lemmas.Bool.{cases_order}
use Rattle.std.specs.Prelude.{MatchOption}
use Rattle.td_reader.specs.Values.{TraceValue, IsTraceValue}
use Rattle.std.proofs.lemmas.List.{length-drop}
use Rattle.td_trace.specs.declared.entry.TraceEntry.{TraceEntry}
use Rattle.td_law_replay.specs.Judging.{SiteState, States, begin}
use Rattle.td_law_replay.specs.Traced.{site_entries}
use Rattle.td_law_replay.specs.Replay.{AllDone, Stays}
use Rattle.td_law_replay.specs.Rounds.{Course, Starts, Passes, Repeats, Rests}
use Rattle.td_law_replay.proofs.Rounding.{reaches_of}
use Rattle.td_check.specs.Looks.{all_seen}
use Rattle.td_check.specs.Course.{AreSeen, AreAllSeen, HasMoved, HasGone, IsInRound, HasRounded, HasEnded}
use Rattle.td_check.specs.Course.{IsStuckAt, all_left}
use Rattle.td_check.specs.Lines.{next_line}
use Rattle.td_check.specs.Sites.{ReplayValue, histories_of, done_of, states_of}
use Rattle.td_check.specs.Stops.{IsOver, Stops, Stuck}
use Rattle.td_check.specs.declared.looks.Looks.{Looks}
use Rattle.td_check.specs.declared.stop.Stop.{Stop}
use Rattle.td_check.specs.declared.stop.Went.TheVariants as went
use Rattle.td_check.proofs.Going.{going_begins, looks_alike}
use Rattle.td_check.proofs.States.{state_is}

-- ---- on and on

pub moved_on : (old mid new : ReplayValue) (before_ after_ : Looks) (moved more : Bool) → HasMoved old mid before_ moved
    → HasMoved mid new after_ more → HasMoved old new after_ (moved || more)
moved_on old mid new before_ after_ moved more first second =
    record {
      trace = second.trace ∙ first.trace;
      replaying = second.replaying;
      seen = second.seen;
      fewer = omega (arith, first.fewer, second_fewer);
      less = λ e. at moved more e first.less second_less;
    }
  where
    second_fewer : all_left new ≤ all_left mid
    second_fewer = second.fewer

    second_less : more ≡ true → all_left new < all_left mid
    second_less = second.less

    first_fewer : all_left mid ≤ all_left old
    first_fewer = first.fewer

    at : (a b : Bool) → (a || b) ≡ true → (a ≡ true → all_left mid < all_left old)
        → (b ≡ true → all_left new < all_left mid) → all_left new < all_left old
    at true b e one two = let less = one refl in omega (arith, less, second_fewer)
    at false true e one two = let less = two refl in omega (arith, less, first_fewer)
    at false false e one two = absurd (true≢false (sym e))

-- ---- a round

pub round_begins : (old : ReplayValue) (looks : Looks) → 0 < old.trace.sites
    → Course (histories_of old) (states_of old) 1 false → AreSeen old looks
    → HasMoved old old looks false × IsInRound old 0 false
round_begins old looks some course seen = (
  (going_begins 1 old looks (reaches_of (histories_of old) (states_of old) 1 false course) seen).moved,
  inl (some, course),
)

-- the site whose turn it is
turn : (r : ReplayValue) (k : ℕ) (moved : Bool) → k < r.trace.sites → IsInRound r k moved
    → Course (histories_of r) (states_of r) (k + 1) moved
turn r k moved less (inl (less_, course)) = course
turn r k moved less (inr (e, course, rests)) = absurd (omega (arith, less, e))

pub round_stops : (old mid new : ReplayValue) (before_ after_ : Looks) (k site : ℕ) (moved : Bool) (stop : Stop)
    → HasMoved old mid before_ moved → IsInRound mid k moved → k < old.trace.sites → site ≡ k + 1
    → HasGone site mid new after_ (went.Stopped stop) → Stops old.trace stop.line stop.fault
round_stops old mid new before_ after_ k site moved stop has round less number gone =
    subst (λ (t : TraceValue). Stops t stop.line stop.fault) has.trace
    (gone moved (subst (λ (s : ℕ). Course (histories_of mid) (states_of mid) s moved) (sym number)
    (turn mid k moved (subst (λ (t : TraceValue). k < t.sites) (sym has.trace) less) round)))

pub round_on : (old mid new : ReplayValue) (before_ after_ : Looks) (k site : ℕ) (moved more : Bool)
    → IsTraceValue old.trace → HasMoved old mid before_ moved → IsInRound mid k moved → k < old.trace.sites
    → site ≡ k + 1 → HasGone site mid new after_ (went.Rests more)
    → HasMoved old new after_ (moved || more) × IsInRound new (k + 1) (moved || more)
round_on old mid new before_ after_ k site moved more is has round less number gone = (
  moved_on old mid new before_ after_ moved more has gone.0.moved,
  at (cases_order (k + 1) new.trace.sites),
)
  where
    same : new.trace ≡ mid.trace
    same = gone.0.moved.trace

    less_mid : k < mid.trace.sites
    less_mid = subst (λ (t : TraceValue). k < t.sites) (sym has.trace) less

    less_new : k < new.trace.sites
    less_new = subst (λ (t : TraceValue). k < t.sites) (sym same) less_mid

    course : Course (histories_of new) (states_of new) (k + 1) (moved || more)
    course =
        subst (λ (t : TraceValue). Course t.histories (states_of new) (k + 1) (moved || more)) (sym same)
        (subst (λ (s : ℕ). Course (histories_of mid) (states_of new) s (moved || more)) number
        (gone.0.course moved
        (subst (λ (s : ℕ). Course (histories_of mid) (states_of mid) s moved) (sym number)
        (turn mid k moved less_mid round))))

    rests : Rests (histories_of new) (k + 1) (states_of new)
    rests =
        subst (λ (t : TraceValue). Rests t.histories (k + 1) (states_of new)) (sym same)
        (subst (λ (s : ℕ). Rests (histories_of mid) s (states_of new)) number gone.1)

    many : length (histories_of new) ≡ new.trace.sites
    many = subst (λ (t : TraceValue). length t.histories ≡ t.sites) (sym (same ∙ has.trace)) is.each_history

    at : (k + 1 ≡ new.trace.sites) ⊎ ((k + 1 < new.trace.sites) ⊎ (new.trace.sites < k + 1))
        → IsInRound new (k + 1) (moved || more)
    at (inl e) = inr (e, course, rests)
    at (inr (inl below)) =
        inl (below, Passes course (subst (λ (n : ℕ). k + 1 < n) (sym many) below) rests)
    at (inr (inr above)) = absurd (omega (arith, above, less_new))

pub round_ends : (old new : ReplayValue) (looks : Looks) (k : ℕ) (moved : Bool) → k ≡ old.trace.sites
    → HasMoved old new looks moved → IsInRound new k moved
    → HasMoved old new looks moved × IsInRound new new.trace.sites moved
round_ends old new looks k moved all has round = (
  has,
  subst (λ (n : ℕ). IsInRound new n moved) (all ∙ ap (λ (t : TraceValue). t.sites) (sym has.trace)) round,
)

-- ---- rounds

-- the end of a round
last_course : (r : ReplayValue) (moved : Bool) → IsInRound r r.trace.sites moved
    → Course (histories_of r) (states_of r) r.trace.sites moved × Rests (histories_of r) r.trace.sites (states_of r)
last_course r moved (inl (less, course)) = absurd (omega (arith, less))
last_course r moved (inr (e, course, rests)) = (course, rests)

pub begun_moved : (old : ReplayValue) (looks : Looks) → states_of old ≡ begin (histories_of old) → AreSeen old looks
    → HasMoved old old looks false × Course (histories_of old) (states_of old) 1 false
begun_moved old looks begun seen =
    let course : Course (histories_of old) (states_of old) 1 false =
    subst (λ (s : States). Course (histories_of old) s 1 false) (sym begun) Starts in
    ((going_begins 1 old looks (reaches_of (histories_of old) (states_of old) 1 false course) seen).moved, course)

many_of : (old new : ReplayValue) → new.trace ≡ old.trace → IsTraceValue old.trace
    → length (histories_of new) ≡ new.trace.sites
many_of old new same is = subst (λ (t : TraceValue). length t.histories ≡ t.sites) (sym same) is.each_history

-- one more round
pub again : (old mid new : ReplayValue) (before_ after_ : Looks) (was : Bool) → IsTraceValue old.trace
    → HasMoved old mid before_ was → HasRounded mid new after_ (went.Rests true)
    → HasMoved old new after_ true × Course (histories_of new) (states_of new) 1 false
again old mid new before_ after_ was is has rounded =
    let last = last_course new true rounded.1 in (
      subst (HasMoved old new after_) (or_last was) (moved_on old mid new before_ after_ was true has rounded.0),
      Repeats last.0 (sym (many_of old new (rounded.0.trace ∙ has.trace) is)) last.1,
    )
  where
    or_last : (b : Bool) → (b || true) ≡ true
    or_last true = refl
    or_last false = refl

pub run_stops : (old mid new : ReplayValue) (before_ after_ : Looks) (was : Bool) (stop : Stop)
    → HasMoved old mid before_ was → HasRounded mid new after_ (went.Stopped stop) → HasEnded old new after_ (Some stop)
run_stops old mid new before_ after_ was stop has rounded =
    subst (λ (t : TraceValue). Stops t stop.line stop.fault) has.trace rounded

-- nothing was done in the last round
pub run_ends : (old mid new : ReplayValue) (before_ after_ : Looks) (was : Bool) (found : Option Stop)
    → IsTraceValue old.trace → HasMoved old mid before_ was → HasRounded mid new after_ (went.Rests false)
    → ((site : ℕ) → 0 < site → site ≤ new.trace.sites
    → done_of new site ≤ length (site_entries (histories_of new) site))
    → MatchOption found (AllDone (histories_of new) (states_of new)) (IsStuckAt new) → HasEnded old new after_ found
run_ends old mid new before_ after_ was None is has rounded within over =
    let last = last_course new false rounded.1 in (
      rounded.0.trace ∙ has.trace,
      subst (λ (t : TraceValue). IsOver t (states_of new)) (rounded.0.trace ∙ has.trace)
          (record { site = new.trace.sites; moved = false; course = last.0; over = over }),
      all_looked,
    )
  where
    same : new.trace ≡ old.trace
    same = rounded.0.trace ∙ has.trace

    is_new : IsTraceValue new.trace
    is_new = subst IsTraceValue (sym same) is

    done_all : (site : ℕ) → 0 < site → site ≤ new.trace.sites → suc (done_of new site) ≡ all_seen new.trace site
    done_all site some most =
        let there : site ≤ length (histories_of new) = subst (λ (n : ℕ). site ≤ n) (sym is_new.each_history) most in
        let entries = site_entries (histories_of new) site in
        let left : length (drop (done_of new site) entries) ≡ length entries - done_of new site =
        length-drop (done_of new site) entries in
        let none : length (drop (done_of new site) entries) ≡ 0 =
        ap (λ (s : SiteState). length s.left) (sym (state_is (histories_of new) new.machines new.done site some there))
        ∙ ap (λ (l : List TraceEntry). length l) (over site some there) in
        let low : done_of new site ≤ length entries = within site some most in
        omega (arith, left, none, low)

    all_looked : AreAllSeen old.trace (states_of new) after_
    all_looked =
        subst (λ (t : TraceValue). AreAllSeen t (states_of new) after_) same
        (λ text_at way.
        looks_alike new.trace is_new text_at after_ (λ s. suc (done_of new s)) (all_seen new.trace) done_all
        (rounded.0.seen (states_of new) text_at Stays way))
run_ends old mid new before_ after_ was (Some stop) is has rounded within stuck =
    let last = last_course new false rounded.1 in
    subst (λ (t : TraceValue). Stops t stop.line stop.fault) (rounded.0.trace ∙ has.trace)
    (subst (λ (line : ℕ). Stops new.trace line stop.fault) (sym stuck.line_is)
    (subst (Stops new.trace (next_line new.trace (states_of new) stuck.site)) (sym stuck.fault_is)
    (Stuck stuck.site
    (record {
      site = new.trace.sites;
      last = sym (many_of old new (rounded.0.trace ∙ has.trace) is);
      course = last.0;
      rests = last.1;
      left = λ over. stuck.first.left (over stuck.site stuck.first.some stuck.first.within);
    }) stuck.first)))
