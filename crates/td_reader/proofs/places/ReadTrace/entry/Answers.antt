use Rattle.std.proofs.Common.{◌+◌, ◌∙◌, arith, sym}
use Rattle.std.proofs.lemmas.Option.{none-some}
use Rattle.td_report.specs.TraceLines.{EntryIs}
use Rattle.td_reader.specs.Said.{said_by}
use Rattle.td_reader.proofs.PartLines.{entry_read, has_entry}
use Rattle.td_reader.proofs.places.ReadTrace.entry.Goals as goal

pub returns-in_err-line : goal.returns-in_err-line
returns-in_err-line c =
    let h = has_entry c.args.self.now c.args.site c.args.k c.history_begin-begin.result
    (omega (arith, c.entries.ensures, c.if-k-entries.false)) c.history_begin-begin.ensures.begin in
    absurd (none-some (EntryIs (1 + c.args.k) h.entry) (sym c.in_err-line.ensures ∙ h.there))

pub returns : goal.returns
returns c =
    let h = has_entry c.args.self.now c.args.site c.args.k c.history_begin-begin.result
    (omega (arith, c.entries.ensures, c.if-k-entries.false)) c.history_begin-begin.ensures.begin in
    entry_read c.args.self.now c.args.site c.args.k c.history_begin-begin.result (said_by c.in_ok-line.field-0)
    c.entry.result h c.in_ok-line.ensures c.entry.ensures
