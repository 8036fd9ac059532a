-- What the end of the course comes to for the verdict.
use Rattle.std.proofs.Common.{◌≡◌, ◌<◌, ℕ, List, Some, sym, subst}
use Rattle.td_machine.specs.Machine.{Machine}
use Rattle.td_reader.specs.Values.{TraceValue, IsTraceValue}
use Rattle.td_law_replay.specs.Ended.{VotesWereSent}
use Rattle.td_law_replay.specs.Judging.{States}
use Rattle.td_law_replay.proofs.Accepting.{texts_there}
use Rattle.td_law_replay.proofs.Rounding.{reaches_of}
use Rattle.td_check.specs.Course.{HasEnded, AreAllSeen}
use Rattle.td_check.specs.Findings.{IsReplayedWith}
use Rattle.td_check.specs.FirstUnsent.{IsFirstUnsent}
use Rattle.td_check.specs.Looks.{AreLooks, all_seen}
use Rattle.td_check.specs.Seated.{AreSeated}
use Rattle.td_check.specs.Sites.{ReplayValue, states_of}
use Rattle.td_check.specs.Stops.{IsOver, Stops, Unsent}
use Rattle.td_check.specs.Verdict.{IsFinding, OfStop}
use Rattle.td_check.specs.declared.looks.Looks.{Looks}
use Rattle.td_check.specs.declared.stop.Stop.{Stop}
use Rattle.td_check.specs.declared.verdict.Fault.TheVariants.{Missing}
use Rattle.td_check.specs.declared.verdict.Verdict.{Verdict}
use Rattle.td_check.specs.declared.verdict.Verdict.TheVariants.{No}
use Rattle.td_check.proofs.Ranges.{in_range}

pub stop_found : (t : TraceValue) (old new : ReplayValue) (looks : Looks) (stop : Stop) → old.trace ≡ t
    → HasEnded old new looks (Some stop) → (v : Verdict) → v ≡ No stop.line stop.fault → IsFinding t v
stop_found t old new looks stop same stops v is =
    subst (IsFinding t) (sym is) (OfStop (subst (λ (u : TraceValue). Stops u stop.line stop.fault) same stops))

pub unsent_found : (t : TraceValue) (last : States) (line : ℕ) → IsOver t last → IsFirstUnsent t last line
    → (v : Verdict) → v ≡ No line Missing → IsFinding t v
unsent_found t last line over u v is =
    subst (IsFinding t) (sym is)
    (subst (λ (k : ℕ). IsFinding t (No k Missing)) (sym u.line_is) (OfStop (Unsent u.site u.k over u.unsent u.before)))

-- what is seated among the sites of the trace
pub seated_of : (t : TraceValue) (r : ReplayValue) (machines : List Machine) → r.trace ≡ t
    → AreSeated r.trace.sites (states_of r) machines → AreSeated t.sites (states_of r) machines
seated_of t r machines same seated =
    subst (λ (u : TraceValue). AreSeated u.sites (states_of r) machines) same seated

-- the end, with the texts on the way to it
pub end_found : (t : TraceValue) → IsTraceValue t → 0 < t.sites
    → (last : States) (looks : Looks) (machines : List Machine)
    → AreSeated t.sites last machines → IsOver t last → VotesWereSent t.histories last → AreAllSeen t last looks
    → (v : Verdict)
    → ((l : States) (text_at : ℕ → ℕ → List ℕ) → AreSeated t.sites l machines → IsReplayedWith t l text_at
    → AreLooks t (all_seen t) text_at looks → IsFinding t v)
    → IsFinding t v
end_found t is some last looks machines seated over votes seen v found =
    let texts = texts_there t.histories (in_range t is some) last
    (reaches_of t.histories last over.site over.moved over.course) over.over votes in
    found last texts.0 seated (record { over = over; votes = votes; texts = texts.1 }) (seen texts.0 texts.1)
