use Rattle.std.proofs.Common.{◌≡◌, ℕ, Option, None, subst, ◌∙◌}
use Rattle.std.specs.Prelude.{MatchOption}
use Rattle.td_reader.specs.Values.{TraceValue}
use Rattle.td_law_replay.specs.Ended.{VotesWereSent}
use Rattle.td_check.specs.Course.{HasEnded, AreAllSeen}
use Rattle.td_check.specs.FirstUnsent.{IsFirstUnsent}
use Rattle.td_check.specs.Seated.{AreSeated}
use Rattle.td_check.specs.Sites.{ReplayValue, states_of}
use Rattle.td_check.specs.Stops.{IsOver}
use Rattle.td_check.specs.Verdict.{IsFinding}
use Rattle.td_check.specs.declared.stop.Stop.{Stop}
use Rattle.td_check.proofs.AtSeats.{if_ok_so}
use Rattle.td_check.proofs.Verdicts.{stop_found, unsent_found, seated_of, end_found}
use Rattle.td_check.proofs.check.judge_replay.Goals as goal

pub returns-in-Some : goal.returns-in-Some
returns-in-Some c =
    stop_found c.args.trace.now c.in_ok-replay.replay c.run.new.self c.run.new.looks c.in-Some.stop
    c.in_ok-replay.ensures.begun.0
    (subst (λ (found : Option Stop). HasEnded c.in_ok-replay.replay c.run.new.self c.run.new.looks found) c.in-Some.is
    c.in_ok-stop.ensures) c.no.result c.no.ensures

pub returns-in-Some-2 : goal.returns-in-Some-2
returns-in-Some-2 c =
    let t : TraceValue = c.args.trace.now in
    let r : ReplayValue = c.run.new.self in
    let same : c.in_ok-replay.replay.trace ≡ t = c.in_ok-replay.ensures.begun.0 in
    let run : HasEnded c.in_ok-replay.replay r c.run.new.looks None =
    subst (λ (found : Option Stop). HasEnded c.in_ok-replay.replay r c.run.new.looks found) c.in_default.is
    c.in_ok-stop.ensures in
    let over : IsOver t (states_of r) = subst (λ (u : TraceValue). IsOver u (states_of r)) same run.1 in
    let seated : AreSeated t.sites (states_of r) c.seats-seats.result.now =
    seated_of t r c.seats-seats.result.now (run.0 ∙ same) c.seats-seats.ensures in
    unsent_found t (states_of r) c.in-Some-2.line over
    (subst (λ (found : Option ℕ). MatchOption found (VotesWereSent t.histories (states_of r))
    (IsFirstUnsent t (states_of r))) c.in-Some-2.is (c.in_ok-line.ensures (states_of r) seated))
    c.no-in-Some-2.result c.no-in-Some-2.ensures

pub returns : goal.returns
returns c =
    let t : TraceValue = c.args.trace.now in
    let r : ReplayValue = c.run.new.self in
    let same : c.in_ok-replay.replay.trace ≡ t = c.in_ok-replay.ensures.begun.0 in
    let run : HasEnded c.in_ok-replay.replay r c.run.new.looks None =
    subst (λ (found : Option Stop). HasEnded c.in_ok-replay.replay r c.run.new.looks found) c.in_default.is
    c.in_ok-stop.ensures in
    let over : IsOver t (states_of r) = subst (λ (u : TraceValue). IsOver u (states_of r)) same run.1 in
    let seen : AreAllSeen t (states_of r) c.run.new.looks =
    subst (λ (u : TraceValue). AreAllSeen u (states_of r) c.run.new.looks) same run.2 in
    let seated : AreSeated t.sites (states_of r) c.seats-seats.result.now =
    seated_of t r c.seats-seats.result.now (run.0 ∙ same) c.seats-seats.ensures in
    let votes : VotesWereSent t.histories (states_of r) =
    subst (λ (found : Option ℕ). MatchOption found (VotesWereSent t.histories (states_of r))
    (IsFirstUnsent t (states_of r))) c.in_default-2.is (c.in_ok-line.ensures (states_of r) seated) in
    if_ok_so _ (IsFinding t) c.judge_end.result
    (λ v found. end_found t c.sites.ensures.value c.requires (states_of r) c.run.new.looks c.seats-seats.result.now
    seated over votes seen v found) c.judge_end.ensures
