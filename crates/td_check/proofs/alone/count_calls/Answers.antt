use Rattle.std.proofs.Common.{◌≡◌, ◌<◌, ◌≤◌, ◌+◌, ℕ, List, Some, length, option_map, unwrap_or, take, sym, ap, ◌∙◌}
use Rattle.std.proofs.Common.{subst, arith}
use Rattle.std.proofs.lemmas.List.{take_all}
use Rattle.std.specs.Prelude.{slice_get}
use Rattle.td_trace.specs.Editors.{calls_at}
use Rattle.td_trace.specs.declared.log.Did.{Did}
use Rattle.td_reader.specs.LineNumbers.{did_count}
use Rattle.td_reader.specs.Said.{did_of}
use Rattle.td_check.specs.Alone.{AreCounts}
use Rattle.td_check.proofs.AloneCounts.{did_counted, told_within}
use Rattle.td_check.proofs.DeedsJudged.{own_deed}
use Rattle.td_check.proofs.alone.count_calls.Goals.{in-Some, in_default}
use Rattle.td_check.proofs.alone.count_calls.Goals as goal

pub loop-index-preserved : goal.loop-index-preserved
loop-index-preserved c = λ log at before a.
    let t = c.args.trace.now in
    let editor = c.args.editor in
    let index = c.loop-index.index in
    let front = c.loop-index.invariant log at before a in
    elim c.match-did.branch [
      | in-Some w ↦
          let did : Did = did_of w.in-Some.did in
          let told : slice_get log.did index ≡ Some did =
          own_deed (slice_get t.logs editor) log index did at
          (sym c.did.ensures ∙ ap (option_map did_of) w.in-Some.is) in
          let next : AreCounts (λ (i : ℕ). before i + calls_at (i + 1) (take (index + 1) log.did)) w.count_did.new.row =
          did_counted log index did before w.count_did.new.row told
          (w.count_did.ensures (λ (i : ℕ). before i + calls_at (i + 1) (take index log.did)) front) in
          subst (AreCounts (λ (i : ℕ). before i + calls_at (i + 1) (take (index + 1) log.did))) (sym w.row-is) next
      | in_default w ↦
          let less : index < unwrap_or (option_map did_count (slice_get t.logs editor)) 0 =
          subst (λ (n : ℕ). index < n) c.dids-index-end.ensures c.loop-index-test.true in
          absurd (told_within (slice_get t.logs editor) log index at less
          (sym c.did.ensures ∙ ap (option_map did_of) w.in_default.is))
    ]

pub returns : goal.returns
returns c = λ log at before a.
    let count : c.dids-index-end.result ≡ length log.did =
    c.dids-index-end.ensures ∙ ap (λ o. unwrap_or (option_map did_count o) 0) at in
    let all : length log.did ≤ c.loop-index.index = omega arith in
    subst (λ (deeds : List Did). AreCounts (λ (i : ℕ). before i + calls_at (i + 1) deeds) c.loop-index.row)
    (take_all c.loop-index.index log.did all) (c.loop-index.invariant log at before a)
