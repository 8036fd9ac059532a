-- The looks that are found true along the course.
use Rattle.std.proofs.Common.{true≢false, ◌∷◌, ◌||◌, ◌≡◌, ◌<◌, ◌≤◌, ◌+◌, ◌-◌, List, ℕ, suc, [], Bool, true}
use Rattle.std.proofs.Common.{false, nat_eq, nat_lt, if◌then◌else◌, length, drop, None, refl, sym, ap, ◌∙◌, subst}
use Rattle.std.proofs.Common.{arith}
use Rattle.std.proofs.lemmas.Bool.{eqb-true, eqb-false, ltb-true, ltb-false}
use Rattle.std.proofs.lemmas.List.{length-drop, drop_all}
use Rattle.td_doc.specs.Document.{text_of}
use Rattle.td_reader.specs.Values.{TraceValue, IsTraceValue, FitsLog}
use Rattle.td_law_replay.specs.Accepted.{AreTextsOnTheWay}
use Rattle.td_trace.specs.declared.entry.TraceEntry.{TraceEntry}
use Rattle.td_reader.specs.LineNumbers.{line_of_entry}
use Rattle.td_law_replay.specs.Judging.{SiteState, States}
use Rattle.td_law_replay.specs.Replay.{Reaches, Then, GoesOnTo, Further}
use Rattle.td_law_replay.specs.Rounds.{Course, Does, GoesAt, Rests, IsLostAt, IsWrongAt}
use Rattle.td_law_replay.specs.Traced.{site_entries}
use Rattle.td_check.specs.Course.{AreSeen, HasGone, HasLooked, IsGoing, IsStuckAt, all_left}
use Rattle.td_check.specs.Looks.{AreLooks, IsLookAt, one_more}
use Rattle.td_check.specs.Sites.{ReplayValue, histories_of, machine_of, done_of, states_of, IsReplaying, HasDone}
use Rattle.td_check.specs.Sites.{HasStopped, NextComesTo}
use Rattle.td_check.specs.Lines.{done_at, next_line}
use Rattle.td_check.specs.Stops.{Stops, Lost, Wrong}
use Rattle.td_check.specs.declared.stop.Went.{Went}
use Rattle.td_check.specs.declared.stop.Went.TheVariants as went
use Rattle.td_check.specs.declared.verdict.Fault.TheVariants.{Missing, Reply}
use Rattle.td_check.specs.States.{done_in, left_in}
use Rattle.td_check.specs.declared.looks.Looks.{Looks}
use Rattle.td_check.proofs.Exact.{logs_at}
use Rattle.td_check.proofs.States.{state_is}

-- the same of each site that there is
pub looks_alike : (t : TraceValue) → IsTraceValue t → (text_at : ℕ → ℕ → List ℕ) (looks : Looks) (seen now : ℕ → ℕ)
    → ((site : ℕ) → 0 < site → site ≤ t.sites → seen site ≡ now site)
    → AreLooks t seen text_at looks → AreLooks t now text_at looks
looks_alike t is text_at looks seen now same l =
    record {
      due = l.due;
      true_ones = λ place spot text look less.
          l.true_ones place spot text look (subst (λ (n : ℕ). spot.upto < n) (sym (alike spot.site (home look))) less);
      others = λ place spot text look most.
          l.others place spot text look (subst (λ (n : ℕ). n ≤ spot.upto) (sym (alike spot.site (home look))) most);
    }
  where
    home : {place : _} {spot : _} {text : _} → (look : IsLookAt t place spot text)
        → (0 < spot.site) × (spot.site ≤ t.sites)
    home {place} {spot} {text} look =
        let fits = logs_at (FitsLog t.sites) t.logs place.editor look.log is.logs look.is in
        (subst (λ (n : ℕ). 0 < n) look.home fits.some, subst (λ (n : ℕ). n ≤ t.sites) look.home fits.within)

    alike : (site : ℕ) → (0 < site) × (site ≤ t.sites) → seen site ≡ now site
    alike site there = same site there.0 there.1

-- the text of a site, by how many entries it has done
pub text_by_done : (r : ReplayValue) (last : States) (text_at : ℕ → ℕ → List ℕ) → IsReplaying r
    → GoesOnTo (histories_of r) (states_of r) last → AreTextsOnTheWay (histories_of r) last text_at
    → (site : ℕ) → 0 < site → site ≤ length (histories_of r)
    → done_of r site ≤ length (site_entries (histories_of r) site)
    → text_of (machine_of r site).doc ≡ text_at site (done_of r site)
text_by_done r last text_at reaches on way site some within done =
    let entries = site_entries (histories_of r) site in
    let is = state_is (histories_of r) r.machines r.done site some within in
    let left : length (drop (done_of r site) entries) ≡ length entries - done_of r site =
    length-drop (done_of r site) entries in
    let back : length entries - length (drop (done_of r site) entries) ≡ done_of r site = omega (arith, left, done) in
    sym (ap (λ (s : _). text_of s.machine.doc) is)
    ∙ way (states_of r) reaches on site some within
    ∙ ap (λ (s : _). text_at site (length entries - length s.left)) is
    ∙ ap (λ (n : ℕ). text_at site n) back

pub seen_on : (old new : ReplayValue) (site : ℕ) → IsTraceValue new.trace → 0 < site
    → site ≤ length (histories_of new) → IsReplaying new
    → done_of new site ≤ length (site_entries (histories_of new) site) → HasDone site old new
    → (before_ after_ : Looks) → AreSeen old before_ → HasLooked new site before_ after_ → AreSeen new after_
seen_on old new site is some within reaches most done before_ after_ seen looked = λ last text_at on way.
    let same = done.trace in
    let was : AreLooks old.trace (λ s. suc (done_of old s)) text_at before_ =
    seen last text_at
    (Further done.goes.goes (subst (λ (t : TraceValue). GoesOnTo t.histories (states_of new) last) same on))
    (subst (λ (t : TraceValue). AreTextsOnTheWay t.histories last text_at) same way) in
    let there : AreLooks new.trace (λ s. suc (done_of old s)) text_at before_ =
    subst (λ (t : TraceValue). AreLooks t (λ s. suc (done_of old s)) text_at before_) (sym same) was in
    let here : suc (done_of old site) ≡ done_of new site = omega (arith, done.here) in
    let more : AreLooks new.trace (one_more site (λ s. suc (done_of old s))) text_at after_ =
    looked (λ s. suc (done_of old s)) text_at there here
    (text_by_done new last text_at reaches on way site some within most) in
    looks_alike new.trace is text_at after_ (one_more site (λ s. suc (done_of old s))) (λ s. suc (done_of new s))
    (λ other there_ within_. at other (nat_eq other site) refl there_) more
  where
    plus_one : (k : ℕ) → suc k ≡ k + 1
    plus_one k = omega arith

    at : (other : ℕ) (b : Bool) → nat_eq other site ≡ b → 0 < other
        → one_more site (λ s. suc (done_of old s)) other ≡ suc (done_of new other)
    at other true f there_ =
        let e : other ≡ site = eqb-true other site f in
        ap (λ (b : Bool). if b then suc (suc (done_of old other)) else suc (done_of old other)) f
        ∙ ap (λ (s : ℕ). suc (suc (done_of old s))) e
        ∙ ap suc (plus_one (done_of old site) ∙ sym done.here)
        ∙ ap (λ (s : ℕ). suc (done_of new s)) (sym e)
    at other false f there_ =
        ap (λ (b : Bool). if b then suc (suc (done_of old other)) else suc (done_of old other)) f
        ∙ ap suc (sym (done.others other there_ (eqb-false other site f)))

-- ---- one entry after another

or_true : (b : Bool) → (b || true) ≡ true
or_true true = refl
or_true false = refl

or_false : (b : Bool) → (b || false) ≡ b
or_false true = refl
or_false false = refl

pub going_begins : (site : ℕ) (old : ReplayValue) (looks : Looks) → IsReplaying old → AreSeen old looks
    → IsGoing site old old looks false
going_begins site old looks replaying seen =
    record {
      moved = record {
        trace = refl;
        replaying = replaying;
        seen = seen;
        fewer = omega arith;
        less = λ e. absurd (true≢false (sym e));
      };
      course = λ moved course. subst (λ (b : Bool). Course (histories_of old) (states_of old) site b)
          (sym (or_false moved)) course;
    }

pub going_on : (site : ℕ) (old mid new : ReplayValue) (before_ after_ : Looks) (more : Bool)
    → IsGoing site old mid before_ more → HasDone site mid new → IsTraceValue new.trace → 0 < site
    → site ≤ old.trace.sites → done_of new site ≤ length (site_entries (histories_of new) site)
    → HasLooked new site before_ after_ → IsGoing site old new after_ true
going_on site old mid new before_ after_ more going done is some within_old most looked =
    record {
      moved = record {
        trace = done.trace ∙ going.moved.trace;
        replaying = reaches;
        seen = seen_on mid new site is some within reaches most done before_ after_ going.moved.seen looked;
        fewer = omega (arith, fewer, one);
        less = λ e. omega (arith, fewer, one);
      };
      course = λ moved course.
          subst (λ (b : Bool). Course (histories_of old) (states_of new) site b) (sym (or_true moved))
          (Does (going.course moved course)
          (subst (λ (t : TraceValue). GoesAt t.histories site (states_of mid) (states_of new)) going.moved.trace
          done.goes));
    }
  where
    within : site ≤ length (histories_of new)
    within =
        subst (λ (n : ℕ). site ≤ n)
        (ap (λ (t : TraceValue). t.sites) (sym (done.trace ∙ going.moved.trace)) ∙ sym is.each_history) within_old

    reaches : IsReplaying new
    reaches =
        subst (λ (t : TraceValue). Reaches t.histories (states_of new)) (sym done.trace)
        (Then going.moved.replaying done.goes.goes)

    fewer : all_left mid ≤ all_left old
    fewer = going.moved.fewer

    one : all_left new + 1 ≡ all_left mid
    one = ap (λ (t : TraceValue). left_in t.histories new.done + 1) done.trace ∙ done.fewer

-- ---- where it stops

-- how many entries a site has done, by what is left
pub done_is : (r : ReplayValue) (site : ℕ) → 0 < site → site ≤ length (histories_of r)
    → done_of r site ≤ length (site_entries (histories_of r) site)
    → done_at r.trace (states_of r) site ≡ done_of r site
done_is r site some within most =
    let entries = site_entries (histories_of r) site in
    let left : length (drop (done_of r site) entries) ≡ length entries - done_of r site =
    length-drop (done_of r site) entries in
    ap (λ (s : SiteState). length entries - length s.left)
    (state_is (histories_of r) r.machines r.done site some within)
    ∙ omega (arith, left, most)

pub line_is : (r : ReplayValue) (site : ℕ) → 0 < site → site ≤ length (histories_of r)
    → done_of r site ≤ length (site_entries (histories_of r) site)
    → next_line r.trace (states_of r) site ≡ line_of_entry r.trace site (done_of r site + 1)
line_is r site some within most =
    ap (λ (k : ℕ). line_of_entry r.trace site (k + 1)) (done_is r site some within most)

-- an entry is left where one stands next
pub some_left : (r : ReplayValue) (site : ℕ) → 0 < site → site ≤ length (histories_of r) → (entry : TraceEntry)
    (rest : List TraceEntry) → (states_of r site).left ≡ entry ∷ rest
    → done_of r site < length (site_entries (histories_of r) site)
some_left r site some within entry rest next =
    let entries = site_entries (histories_of r) site in
    let left : length (drop (done_of r site) entries) ≡ length entries - done_of r site =
    length-drop (done_of r site) entries in
    let more : length (drop (done_of r site) entries) ≡ suc (length rest) =
    ap (λ (s : SiteState). length s.left) (sym (state_is (histories_of r) r.machines r.done site some within))
    ∙ ap (λ (l : List TraceEntry). length l) next in
    omega (arith, left, more)

-- ---- how a site's turn ends

module _ (site : ℕ) (old mid new : ReplayValue) (looks : Looks) (more : Bool)
    (going : IsGoing site old mid looks more) where
  pub gone_rests : NextComesTo site mid None new
      → IsGoing site old new looks more × Rests (histories_of old) site (states_of new)
  gone_rests next =
      subst (λ (r : ReplayValue). IsGoing site old r looks more
      × Rests (histories_of old) site (states_of r)) (sym next.1) (
        going,
        subst (λ (t : TraceValue). Rests t.histories site (states_of mid)) going.moved.trace next.0,
      )

  module _ (stopped : HasStopped mid new) (some : 0 < site) (within : site ≤ old.trace.sites)
      (is : IsTraceValue new.trace) (most : done_of new site ≤ length (site_entries (histories_of new) site)) where
    same_trace : new.trace ≡ old.trace
    same_trace = stopped.trace ∙ going.moved.trace

    same_done : done_of mid site ≡ done_of new site
    same_done = ap (λ (done : List ℕ). done_in done site) (sym stopped.done)

    within_mid : site ≤ length (histories_of mid)
    within_mid =
        subst (λ (t : TraceValue). site ≤ length t.histories) stopped.trace
        (subst (λ (n : ℕ). site ≤ n) (ap (λ (t : TraceValue). t.sites) (sym same_trace) ∙ sym is.each_history) within)

    most_mid : done_of mid site ≤ length (site_entries (histories_of mid) site)
    most_mid =
        subst (λ (k : ℕ). k ≤ length (site_entries (histories_of mid) site)) (sym same_done)
        (subst (λ (t : TraceValue). done_of new site ≤ length (site_entries t.histories site)) stopped.trace most)

    line_there : next_line old.trace (states_of mid) site ≡ line_of_entry new.trace site (done_of new site + 1)
    line_there =
        ap (λ (t : TraceValue). next_line t (states_of mid) site) (sym going.moved.trace)
        ∙ line_is mid site some within_mid most_mid
        ∙ ap (λ (t : TraceValue). line_of_entry t site (done_of mid site + 1)) (sym stopped.trace)
        ∙ ap (λ (k : ℕ). line_of_entry new.trace site (k + 1)) same_done

    pub gone_lost : (entry : TraceEntry) → IsLostAt (histories_of mid) site (states_of mid) entry → (w : Went)
        → w ≡ went.Stopped (record { line = line_of_entry new.trace site (done_of new site + 1); fault = Missing })
        → HasGone site old new looks w
    gone_lost entry lost w is_it =
        subst (HasGone site old new looks) (sym is_it)
        (λ moved course.
        subst (λ (line : ℕ). Stops old.trace line Missing) line_there
        (Lost entry (going.course moved course)
        (subst (λ (t : TraceValue). IsLostAt t.histories site (states_of mid) entry) going.moved.trace lost)))

    pub gone_wrong : (entry : TraceEntry) → IsWrongAt (histories_of mid) site (states_of mid) entry → (w : Went)
        → w ≡ went.Stopped (record { line = line_of_entry new.trace site (done_of new site + 1); fault = Reply })
        → HasGone site old new looks w
    gone_wrong entry wrong w is_it =
        subst (HasGone site old new looks) (sym is_it)
        (λ moved course.
        subst (λ (line : ℕ). Stops old.trace line Reply) line_there
        (Wrong entry (going.course moved course)
        (subst (λ (t : TraceValue). IsWrongAt t.histories site (states_of mid) entry) going.moved.trace wrong)))

-- ---- where nothing more can be done

none_left_at : (r : ReplayValue) (site : ℕ) → 0 < site → site ≤ length (histories_of r)
    → length (site_entries (histories_of r) site) ≤ done_of r site → (states_of r site).left ≡ []
none_left_at r site some within all =
    ap (λ (s : SiteState). s.left) (state_is (histories_of r) r.machines r.done site some within)
    ∙ drop_all (done_of r site) (site_entries (histories_of r) site) all

pub left_on : (r : ReplayValue) (place site : ℕ) → IsTraceValue r.trace → site ≡ place + 1 → site ≤ r.trace.sites
    → nat_lt (done_of r site) (length (site_entries (histories_of r) site)) ≡ false
    → ((s : ℕ) → 0 < s → s ≤ place → (states_of r s).left ≡ [])
    → (s : ℕ) → 0 < s → s ≤ place + 1 → (states_of r s).left ≡ []
left_on r place site is number within none before_ s some most = at (nat_eq s site) refl
  where
    at : (b : Bool) → nat_eq s site ≡ b → (states_of r s).left ≡ []
    at true f =
        subst (λ (k : ℕ). (states_of r k).left ≡ []) (sym (eqb-true s site f))
        (none_left_at r site (omega (arith, number)) (subst (λ (n : ℕ). site ≤ n) (sym is.each_history) within)
        (ltb-false (done_of r site) (length (site_entries (histories_of r) site)) none))
    at false f = let apart = eqb-false s site f in before_ s some (omega (arith, number, most, apart))

pub stuck_here : (r : ReplayValue) (place site line : ℕ) → IsTraceValue r.trace → site ≡ place + 1
    → site ≤ r.trace.sites → nat_lt (done_of r site) (length (site_entries (histories_of r) site)) ≡ true
    → ((s : ℕ) → 0 < s → s ≤ place → (states_of r s).left ≡ [])
    → line ≡ line_of_entry r.trace site (done_of r site + 1)
    → IsStuckAt r (record { line = line; fault = Missing })
stuck_here r place site line is number within left before_ line_told =
    let some : 0 < site = omega (arith, number) in
    let there : site ≤ length (histories_of r) = subst (λ (n : ℕ). site ≤ n) (sym is.each_history) within in
    let entries = site_entries (histories_of r) site in
    let less : done_of r site < length entries = ltb-true (done_of r site) (length entries) left in
    let rest : length (drop (done_of r site) entries) ≡ length entries - done_of r site =
    length-drop (done_of r site) entries in
    record {
      site = site;
      first = record {
        some = some;
        within = there;
        left = λ e. let none = ap (λ (l : List TraceEntry). length l)
            (ap (λ (s : SiteState). s.left) (sym (state_is (histories_of r) r.machines r.done site some there)) ∙ e) in
            omega (arith, none, rest, less);
        before = λ s at less_. before_ s at (omega (arith, less_, number));
      };
      line_is = line_told ∙ sym (line_is r site some there (omega (arith, less)));
      fault_is = refl;
    }
