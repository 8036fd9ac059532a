use Rattle.std.proofs.Common.{◌∙◌, arith, sym}
use Rattle.std.specs.Prelude.{option_map}
use Rattle.std.proofs.lemmas.Option.{none-some}
use Rattle.td_report.specs.Trace.{did_said}
use Rattle.td_reader.specs.Said.{did_of, said_by}
use Rattle.td_reader.proofs.PartLines.{did_read, has_did}
use Rattle.td_reader.proofs.places.ReadTrace.did.Goals as goal

pub returns-in_err-line : goal.returns-in_err-line
returns-in_err-line c =
    let h = has_did c.args.self.now c.args.editor c.args.j c.log_begin-begin.result
    (omega (arith, c.dids.ensures, c.if-j-dids.false)) c.log_begin-begin.ensures.begin in
    absurd (none-some (did_said h.did) (sym c.in_err-line.ensures ∙ h.there))

pub returns : goal.returns
returns c =
    let h = has_did c.args.self.now c.args.editor c.args.j c.log_begin-begin.result
    (omega (arith, c.dids.ensures, c.if-j-dids.false)) c.log_begin-begin.ensures.begin in
    did_read c.args.self.now c.args.editor c.args.j c.log_begin-begin.result (said_by c.in_ok-line.field-0)
    (option_map did_of c.into_did.result) h c.in_ok-line.ensures c.into_did.ensures
