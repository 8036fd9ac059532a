use Rattle.std.proofs.Common.{◌∙◌, ◌++◌, ◌∷◌, [], ℕ, List, map, take, sym, ap}
use Rattle.td_script.specs.declared.live.editor_line.EditorLine.{EditorLine}
use Rattle.td_live.proofs.Seats.{count_of, counts_more, counts_all}
use Rattle.td_live.proofs.live.calls_of.Goals as goal

pub loop-own-preserved : goal.loop-own-preserved
loop-own-preserved c =
    let all : List (List EditorLine) = c.args.lines.now in
    let i : ℕ = c.loop-own.own-index in
    c.in_ok-push.ensures.items ∙ ap (λ (l : List ℕ). l ++ c.calls.result ∷ []) c.loop-own.invariant
    ∙ ap (λ (k : ℕ). map count_of (take i all) ++ k ∷ []) c.calls.ensures.value
    ∙ sym (counts_more all i c.own-item.result c.loop-own-test.true c.own-item.is)

pub returns : goal.returns
returns c = c.loop-own.invariant ∙ counts_all c.args.lines.now c.loop-own.own-index c.loop-own-test.false
