use Rattle.std.proofs.Common.{◌∙◌, ◌++◌, ◌∷◌, [], ℕ, List, take, sym, ap}
use Rattle.td_line.specs.Editors.{EditorValue}
use Rattle.td_room.proofs.Gathers.{homes, homes_more, homes_all}
use Rattle.td_room.proofs.gathering.homes_of.Goals as goal

pub loop-editor-preserved : goal.loop-editor-preserved
loop-editor-preserved c =
    let es : List EditorValue = c.args.editors.now in
    let i : ℕ = c.loop-editor.editor-index in
    c.in_ok-push.ensures.items ∙ ap (λ (l : List ℕ). l ++ c.home.result ∷ []) c.loop-editor.invariant
    ∙ ap (λ (k : ℕ). homes (take i es) ++ k ∷ []) c.home.ensures
    ∙ sym (homes_more es i c.editor-item.result c.loop-editor-test.true c.editor-item.is)

pub returns : goal.returns
returns c = c.loop-editor.invariant ∙ homes_all c.args.editors.now c.loop-editor.editor-index c.loop-editor-test.false
