use Rattle.std.proofs.Common.{◌≡◌, ◌∙◌, ◌-◌, Some, List, length, ap, sym}
use Rattle.std.specs.Prelude.{slice_get}
use Rattle.td_script.specs.declared.live.editor_line.EditorLine.{EditorLine}
use Rattle.td_script.specs.declared.live.editor_line.EditorLine.TheVariants.{Look}
use Rattle.td_live.proofs.Agendas.{at_a_line}
use Rattle.td_live.proofs.agenda.Agenda.at_hand.Goals as goal

pub returns-in-Look : goal.returns-in-Look
returns-in-Look c =
    let kept : List EditorLine = c.self.inside.lines.items in
    let last : slice_get kept (length kept - 1) ≡ Some Look =
    ap (λ (lines : List EditorLine). slice_get lines (length lines - 1)) (sym c.deref.ensures.value)
    ∙ sym c.in-Some-last.ensures.value ∙ ap (λ (line : EditorLine). Some line) c.in-Look.is in
    at_a_line c.self.inside.calls c.self.inside.made kept c.args.self.now c.self.view_is c.in_default.ensures Look last

pub returns-in_default-line : goal.returns-in_default-line
returns-in_default-line c =
    let kept : List EditorLine = c.self.inside.lines.items in
    let line : EditorLine = c.in-Some-last.line.now in
    let last : slice_get kept (length kept - 1) ≡ Some line =
    ap (λ (lines : List EditorLine). slice_get lines (length lines - 1)) (sym c.deref.ensures.value)
    ∙ sym c.in-Some-last.ensures.value in
    let at = at_a_line c.self.inside.calls c.self.inside.made kept c.args.self.now c.self.view_is c.in_default.ensures
    line last in
    record {
      asks = at.0;
      line = line;
      lines = at.1.0;
      lines_are = at.1.1;
      no_look = c.in_default-line.not-Look;
    }
