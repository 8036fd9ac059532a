-- The replay of entries that are written out, computed.
use Rattle.std.proofs.Common.{◌≡◌, ◌<◌, ◌≤◌, ℕ, List, [], ◌∷◌, length, refl}
use Rattle.td_machine.specs.Machine.{Machine}
use Rattle.td_trace.specs.declared.entry.TraceEntry.{TraceEntry}
use Rattle.td_law_replay.specs.Replies.{NotUnfit}
use Rattle.td_law_replay.specs.Judging.{States, begin, Steps, judge}
use Rattle.td_law_replay.specs.Replay.{put, Reaches, Begun, Then, GoesOnTo, Stays, Further}
use Rattle.td_law_replay.specs.Rounds.{GoesAt}
use Rattle.td_law_replay.specs.Stage.{stepped_as, next_state, then_sites, after_sites}

-- the entry can be done, as tests that compute show
abbrev pub CanDo : List (List TraceEntry) → States → ℕ → Machine → List TraceEntry → Type 0
CanDo all states site m [] = ⊥
CanDo all states site m (e ∷ rest) =
    (0 < site) × (site ≤ length all)
    × (judge all states site m e.told e.reply ≡ Steps (stepped_as (judge all states site m e.told e.reply) m))
    × ((stepped_as (judge all states site m e.told e.reply) m).reply ≡ e.reply) × NotUnfit e.reply

abbrev pub then_state : List (List TraceEntry) → States → ℕ → States
then_state all states site =
    put states site (next_state all states site (states site).machine (states site).left)

abbrev pub AllCan : List (List TraceEntry) → States → List ℕ → Type 0
AllCan all states [] = Unit {0}
AllCan all states (site ∷ sites) =
    CanDo all states site (states site).machine (states site).left × AllCan all (then_state all states site) sites

pub goes_left : (all : List (List TraceEntry)) (states : States) (site : ℕ) (left : List TraceEntry)
    → (states site).left ≡ left → CanDo all states site (states site).machine left
    → GoesAt all site states (put states site (next_state all states site (states site).machine left))
goes_left all states site [] e k = absurd k
goes_left all states site (entry ∷ rest) e k =
    record {
      goes = record {
        site = site;
        some = k.0;
        within = k.1;
        entry = entry;
        rest = rest;
        next = e;
        to = stepped_as (judge all states site (states site).machine entry.told entry.reply) (states site).machine;
        judged = k.2;
        reply = k.3;
        fit = k.4;
        is = refl;
      };
      here = refl;
    }

pub reaches_then : (all : List (List TraceEntry)) (states : States) → Reaches all states → (sites : List ℕ)
    → AllCan all states sites → Reaches all (then_sites all states sites)
reaches_then all states r [] c = r
reaches_then all states r (site ∷ sites) c =
    reaches_then all (then_state all states site)
    (Then r (goes_left all states site (states site).left refl c.0).goes) sites c.1

pub reaches_sites : (all : List (List TraceEntry)) (sites : List ℕ) → AllCan all (begin all) sites
    → Reaches all (after_sites all sites)
reaches_sites all sites c = reaches_then all (begin all) Begun sites c

pub leads_then : (all : List (List TraceEntry)) (states : States) (sites : List ℕ) → AllCan all states sites
    → GoesOnTo all states (then_sites all states sites)
leads_then all states [] c = Stays
leads_then all states (site ∷ sites) c =
    Further (goes_left all states site (states site).left refl c.0).goes
    (leads_then all (then_state all states site) sites c.1)
