use Rattle.std.proofs.Common.{◌≡◌, ◌≤◌, ℕ, Some, option_map, unwrap_or, length, sym, ap, ◌∙◌, subst, arith}
use Rattle.std.proofs.lemmas.Bool.{both_ways}
use Rattle.std.specs.Prelude.{slice_get}
use Rattle.td_trace.specs.Editors.{IsDid}
use Rattle.td_trace.specs.declared.log.Did.{Did}
use Rattle.td_reader.specs.LineNumbers.{did_count}
use Rattle.td_reader.specs.Said.{did_of}
use Rattle.td_law_replay.specs.Accepted.{IsLogIn}
use Rattle.td_law_replay.specs.Traced.{site_entries}
use Rattle.td_check.proofs.DeedsJudged.{deed_not_so, editor_more, home_of_log, log_so, more_so_far, own_deed, own_home}
use Rattle.td_check.proofs.LooksTold.{did_of_log}
use Rattle.td_check.specs.Looks.{did_at}
use Rattle.td_check.proofs.deeds.first_of.Goals as goal

pub returns-then-not-goes_on : goal.returns-then-not-goes_on
returns-then-not-goes_on c = λ text_at a before.
    let t = c.args.trace.now in
    let editor = c.args.editor in
    let index = c.loop-index.index in
    let did : Did = did_of c.in_ok-did.did in
    let s = c.loop-index.done in
    let told : did_at t editor index ≡ Some did = sym c.did.ensures ∙ ap (option_map did_of) c.in_ok-did.was in
    let d = did_of_log t editor index did told in
    let home : c.in_ok-home.home ≡ d.log.home =
    own_home (slice_get t.logs editor) d.log c.in_ok-home.home d.is (sym c.home.ensures ∙ c.in_ok-home.was) in
    let bad : ¬ IsDid (site_entries t.histories c.in_ok-home.home) (text_at c.in_ok-home.home) s did =
    λ k. both_ways c.goes_on.result c.if-not-goes_on.true ((c.goes_on.ensures.is text_at a).1 k) in
    deed_not_so t text_at d.log editor index s did c.line_of_did.result c.fault_of.result before d.is d.told
    (subst (λ (h : ℕ). ¬ IsDid (site_entries t.histories h) (text_at h) s did) home bad)
    c.line_of_did.ensures c.fault_of.ensures (c.loop-index.invariant text_at a d.log d.is)

pub loop-index-preserved : goal.loop-index-preserved
loop-index-preserved c = λ text_at a log at.
    let t = c.args.trace.now in
    let editor = c.args.editor in
    let index = c.loop-index.index in
    let did : Did = did_of c.in_ok-did.did in
    let s = c.loop-index.done in
    let told : did_at t editor index ≡ Some did = sym c.did.ensures ∙ ap (option_map did_of) c.in_ok-did.was in
    let home : c.in_ok-home.home ≡ log.home =
    own_home (slice_get t.logs editor) log c.in_ok-home.home at (sym c.home.ensures ∙ c.in_ok-home.was) in
    let is : IsDid (site_entries t.histories c.in_ok-home.home) (text_at c.in_ok-home.home) s did =
    (c.goes_on.ensures.is text_at a).0 c.if-not-goes_on.false in
    more_so_far t text_at log index s c.goes_on.new.self did (own_deed (slice_get t.logs editor) log index did at told)
    (subst (λ (h : ℕ). IsDid (site_entries t.histories h) (text_at h) s did) home is)
    (c.goes_on.ensures.new c.if-not-goes_on.false) (c.loop-index.invariant text_at a log at)

pub returns : goal.returns
returns c = λ text_at a before.
    let t = c.args.trace.now in
    let editor = c.args.editor in
    let h = home_of_log t editor c.in_ok-home.home (sym c.home.ensures ∙ c.in_ok-home.was) in
    let count : c.dids-index-end.result ≡ length h.log.did =
    c.dids-index-end.ensures ∙ ap (λ o. unwrap_or (option_map did_count o) 0) h.is in
    let all : length h.log.did ≤ c.loop-index.index = omega arith in
    editor_more (IsLogIn t.histories text_at) t.logs editor h.log h.is before
    (log_so t text_at h.log editor c.loop-index.index c.loop-index.done c.sites.ensures.value h.is all
    (c.loop-index.invariant text_at a h.log h.is))
