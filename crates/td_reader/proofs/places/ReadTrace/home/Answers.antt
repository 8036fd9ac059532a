use Rattle.std.proofs.Common.{◌+◌, ◌∙◌, arith, sym}
use Rattle.std.proofs.lemmas.Option.{none-some}
use Rattle.td_report.specs.TraceLines.{EditorAt}
use Rattle.td_reader.specs.Said.{said_by}
use Rattle.td_reader.proofs.PartLines.{has_editor, home_read}
use Rattle.td_reader.proofs.places.ReadTrace.home.Goals as goal

pub returns-in_err-line : goal.returns-in_err-line
returns-in_err-line c =
    let h = has_editor c.args.self.now c.args.editor c.log_begin-begin.result
    (omega (arith, c.editors.ensures, c.if-editor-editors.false)) c.log_begin-begin.ensures.begin in
    absurd (none-some (EditorAt (1 + c.args.editor) h.log.home) (sym c.in_err-line.ensures ∙ h.there))

pub returns : goal.returns
returns c =
    let h = has_editor c.args.self.now c.args.editor c.log_begin-begin.result
    (omega (arith, c.editors.ensures, c.if-editor-editors.false)) c.log_begin-begin.ensures.begin in
    home_read c.args.self.now c.args.editor c.log_begin-begin.result (said_by c.in_ok-line.field-0) c.home.result h
    c.in_ok-line.ensures c.home.ensures
