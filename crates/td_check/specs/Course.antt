-- What the course of the replay comes to, as it is kept.
use Rattle.std.specs.Prelude.{◌≡◌, ◌⊎◌, ◌<◌, ◌≤◌, ◌+◌, ℕ, List, Bool, true, ◌||◌, suc, nat_le, if◌then◌else◌, Option}
use Rattle.std.specs.Prelude.{Some, None}
use Rattle.td_doc.specs.Document.{text_of}
use Rattle.td_reader.specs.Values.{TraceValue}
use Rattle.td_law_replay.specs.Accepted.{AreTextsOnTheWay}
use Rattle.td_law_replay.specs.Judging.{States}
use Rattle.td_law_replay.specs.Replay.{GoesOnTo}
use Rattle.td_law_replay.specs.Rounds.{Course, Rests}
use Rattle.td_check.specs.declared.stop.Stop.{Stop}
use Rattle.td_check.specs.declared.stop.Went.{Went}
use Rattle.td_check.specs.declared.stop.Went.TheVariants as went
use Rattle.td_check.specs.declared.looks.Looks.{Looks}
use Rattle.td_check.specs.Looks.{AreLooks, all_seen, one_more}
use Rattle.td_check.specs.Sites.{ReplayValue, histories_of, machine_of, states_of, done_of, IsReplaying}
use Rattle.td_check.specs.States.{left_in}
use Rattle.td_check.specs.Lines.{next_line}
use Rattle.td_check.specs.Stops.{IsFirstLeft, IsOver, Stops}
use Rattle.td_check.specs.declared.verdict.Fault.TheVariants.{Missing}

-- whatever end this goes on to: the looks at the texts so far are found true where they are
abbrev pub AreSeen : ReplayValue → Looks → Type 0
AreSeen r looks =
    (last : States) (text_at : ℕ → ℕ → List ℕ) → GoesOnTo (histories_of r) (states_of r) last
    → AreTextsOnTheWay (histories_of r) last text_at
    → AreLooks r.trace (λ site. suc (done_of r site)) text_at looks

-- the same, with the looks at the texts that the first k sites begin with, and no others
abbrev pub seen_first : ReplayValue → ℕ → ℕ → ℕ
seen_first r k site = if nat_le site k then suc (done_of r site) else done_of r site

abbrev pub AreFirstSeen : ReplayValue → ℕ → Looks → Type 0
AreFirstSeen r k looks =
    (last : States) (text_at : ℕ → ℕ → List ℕ) → GoesOnTo (histories_of r) (states_of r) last
    → AreTextsOnTheWay (histories_of r) last text_at
    → AreLooks r.trace (seen_first r k) text_at looks

-- what looks at the text of a site do, by how many texts of each site were seen before
abbrev pub HasLooked : ReplayValue → ℕ → Looks → Looks → Type 0
HasLooked r site old new =
    (seen : ℕ → ℕ) (text_at : ℕ → ℕ → List ℕ) → AreLooks r.trace seen text_at old → seen site ≡ done_of r site
    → text_of (machine_of r site).doc ≡ text_at site (done_of r site)
    → AreLooks r.trace (one_more site seen) text_at new

abbrev pub all_left : ReplayValue → ℕ
all_left r = left_in (histories_of r) r.done

-- the replay went on from one to the other
pub record HasMoved (old new : ReplayValue) (looks : Looks) (moved : Bool) : Type 0 where
  pub trace : new.trace ≡ old.trace
  pub replaying : IsReplaying new
  pub seen : AreSeen new looks
  pub fewer : all_left new ≤ all_left old
  pub less : moved ≡ true → all_left new < all_left old

-- a site goes on, in whatever round it is
pub record IsGoing (site : ℕ) (old new : ReplayValue) (looks : Looks) (more : Bool) : Type 0 where
  pub moved : HasMoved old new looks more
  pub course : (moved : Bool) → Course (histories_of old) (states_of old) site moved
      → Course (histories_of old) (states_of new) site (moved || more)

-- a site went as far as it can
abbrev pub HasGone : ℕ → ReplayValue → ReplayValue → Looks → Went → Type 0
HasGone site old new looks (went.Stopped stop) =
    (moved : Bool) → Course (histories_of old) (states_of old) site moved → Stops old.trace stop.line stop.fault
HasGone site old new looks (went.Rests more) =
    IsGoing site old new looks more × Rests (histories_of old) site (states_of new)

-- so many sites had their turn in this round
abbrev pub IsInRound : ReplayValue → ℕ → Bool → Type 0
IsInRound r k moved =
    ((k < r.trace.sites) × Course (histories_of r) (states_of r) (k + 1) moved)
    ⊎ ((k ≡ r.trace.sites) × Course (histories_of r) (states_of r) k moved × Rests (histories_of r) k (states_of r))

-- a round is over
abbrev pub HasRounded : ReplayValue → ReplayValue → Looks → Went → Type 0
HasRounded old new looks (went.Stopped stop) = Stops old.trace stop.line stop.fault
HasRounded old new looks (went.Rests moved) =
    HasMoved old new looks moved × IsInRound new new.trace.sites moved

-- all looks are found true where they are
abbrev pub AreAllSeen : TraceValue → States → Looks → Type 0
AreAllSeen t last looks =
    (text_at : ℕ → ℕ → List ℕ) → AreTextsOnTheWay t.histories last text_at → AreLooks t (all_seen t) text_at looks

-- the course is over, or stopped
abbrev pub HasEnded : ReplayValue → ReplayValue → Looks → Option Stop → Type 0
HasEnded old new looks (Some stop) = Stops old.trace stop.line stop.fault
HasEnded old new looks None =
    (new.trace ≡ old.trace) × IsOver old.trace (states_of new) × AreAllSeen old.trace (states_of new) looks

-- nothing more can be done, and the stop is at the next entry of the first site that has one left
pub record IsStuckAt (r : ReplayValue) (stop : Stop) : Type 0 where
  pub site : ℕ
  pub first : IsFirstLeft r.trace (states_of r) site
  pub line_is : stop.line ≡ next_line r.trace (states_of r) site
  pub fault_is : stop.fault ≡ Missing
