use Rattle.std.proofs.Common.{◌≤◌, length, subst, arith}
use Rattle.std.proofs.lemmas.List.{take_all}
use Rattle.std.specs.List.{AllByRecursion}
use Rattle.td_law_replay.specs.Accepted.{IsLogIn}
use Rattle.td_check.proofs.deeds.first_deed.Goals as goal

pub loop-editor-preserved : goal.loop-editor-preserved
loop-editor-preserved c = λ text_at a. c.in_default.ensures text_at a (c.loop-editor.invariant text_at a)

pub returns : goal.returns
returns c = λ text_at a.
    let t = c.args.trace.now in
    let all : length t.logs ≤ c.loop-editor.editor = omega (arith, c.editors-editor-end.ensures) in
    subst (AllByRecursion (IsLogIn t.histories text_at)) (take_all c.loop-editor.editor t.logs all)
    (c.loop-editor.invariant text_at a)
