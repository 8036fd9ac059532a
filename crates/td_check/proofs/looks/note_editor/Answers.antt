use Rattle.std.proofs.Common.{◌≡◌, ◌+◌, Option, None, Some, option_map, unwrap_or, subst, sym, ◌∙◌, refl, arith}
use Rattle.std.specs.Prelude.{slice_get}
use Rattle.td_trace.specs.declared.log.EditorLog.{EditorLog}
use Rattle.td_reader.specs.LineNumbers.{did_count}
use Rattle.td_check.specs.Looks.{AreDueBefore}
use Rattle.td_check.specs.declared.looks.Place.{Place}
use Rattle.td_check.proofs.LooksDue.{due_noted, due_passed, due_ended}
use Rattle.td_check.proofs.looks.note_editor.Goals.{in-Some-spot_of+in_ok-note, in_default-spot_of}
use Rattle.td_check.proofs.looks.note_editor.Goals as goal

no_log : (o : Option EditorLog) → option_map (λ (log : EditorLog). log.home) o ≡ None
    → unwrap_or (option_map did_count o) 0 ≡ 0
no_log None e = refl
no_log (Some log) e = absurd cc

pub returns-in_default : goal.returns-in_default
returns-in_default c = λ b.
    due_ended c.args.trace.now c.args.editor 0 c.args.due.now
    (no_log (slice_get c.args.trace.now.logs c.args.editor) (sym c.home.ensures ∙ c.in_default.is)) b

pub loop-index-preserved : goal.loop-index-preserved
loop-index-preserved c = λ b.
    let t = c.args.trace.now in
    let place : Place = record { editor = c.args.editor; index = c.loop-index.index } in
    let before = c.loop-index.invariant b in
    elim c.match-spot_of.branch [
      | in-Some-spot_of+in_ok-note w ↦
          let next : AreDueBefore t c.args.editor (c.loop-index.index + 1) w.note.new.due =
          due_noted t place c.loop-index.due w.note.new.due w.in-Some-spot_of.spot w.in-Some-spot_of.ensures
          w.in_ok-note.ensures before in
          subst (AreDueBefore t c.args.editor (c.loop-index.index + 1)) (sym w.due-is) next
      | in_default-spot_of w ↦
          let next : AreDueBefore t c.args.editor (c.loop-index.index + 1) c.loop-index.due =
          due_passed t place c.loop-index.due w.in_default-spot_of.ensures before in
          subst (AreDueBefore t c.args.editor (c.loop-index.index + 1)) (sym w.due-is) next
    ]

pub returns : goal.returns
returns c = λ b.
    let n : c.loop-index.index ≡ c.dids-index-end.result = omega arith in
    due_ended c.args.trace.now c.args.editor c.loop-index.index c.loop-index.due
    (sym c.dids-index-end.ensures ∙ sym n) (c.loop-index.invariant b)
