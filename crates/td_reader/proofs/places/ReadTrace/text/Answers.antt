use Rattle.std.proofs.Common.{◌+◌, ◌-◌, ◌∙◌, arith, sym}
use Rattle.std.specs.Prelude.{slice_get}
use Rattle.std.proofs.lemmas.Option.{none-some}
use Rattle.td_report.specs.TraceLines.{TextIs}
use Rattle.td_reader.specs.Said.{said_by}
use Rattle.td_reader.proofs.PartLines.{has_text, match_found, text_read}
use Rattle.td_reader.proofs.places.ReadTrace.text.Goals as goal

pub returns-in_err-line : goal.returns-in_err-line
returns-in_err-line c =
    let h = has_text c.args.self.now c.args.site (c.texts_begin-begin.result + c.place.result)
    c.sites.ensures.value c.number.ensures.least
    (omega (arith, c.number.ensures.value, c.sites.ensures.sites, c.if-number-sites.false))
    (omega (
      arith,
      c.texts_begin-begin.ensures.begin,
      c.place.ensures.place,
      c.number.ensures.least,
    )) in
    absurd (none-some (TextIs (1 + (c.args.site - 1)) h.text) (sym c.in_err-line.ensures ∙ h.there))

pub returns : goal.returns
returns c =
    let place = c.texts_begin-begin.result + c.place.result in
    let h = has_text c.args.self.now c.args.site place c.sites.ensures.value c.number.ensures.least
    (omega (arith, c.number.ensures.value, c.sites.ensures.sites, c.if-number-sites.false))
    (omega (
      arith,
      c.texts_begin-begin.ensures.begin,
      c.place.ensures.place,
      c.number.ensures.least,
    )) in
    match_found c.into_text.result (slice_get c.args.self.now.texts (c.args.site - 1))
    (text_read c.args.self.now c.args.site place (said_by c.in_ok-line.field-0) c.into_text.result h
    c.in_ok-line.ensures c.into_text.ensures)
