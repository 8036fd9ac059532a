use Rattle.std.proofs.Common.{sym, ap}
use Rattle.std.specs.Prelude.{Some, length}
use Rattle.std.proofs.lemmas.Bool.{eqb-true, eqb-false}
use Rattle.std.proofs.lemmas.List.{nil_from_length}
use Rattle.td_input.proofs.Whole.{read_whole, only_request, none_read}
use Rattle.td_input.proofs.reading.read_request.Goals as goal

pub returns-in-Ok-clause-found : goal.returns-in-Ok-clause-found
returns-in-Ok-clause-found c =
    read_whole c.args.bytes.now c.in-Ok.request c.request.new.reader.rest.now c.in-Ok.ensures
    (nil_from_length c.request.new.reader.rest.now (eqb-true _ _ (sym c.if-is_empty.ensures)))

pub returns-in-Ok-clause-only : goal.returns-in-Ok-clause-only
returns-in-Ok-clause-only c = λ r h small is.
    ap Some (only_request c.args.bytes.now c.in-Ok.request r c.request.new.reader.rest.now c.in-Ok.ensures h small is).0

pub returns-in-Ok-2-clause-only : goal.returns-in-Ok-2-clause-only
returns-in-Ok-2-clause-only c = λ r h small is.
    absurd (eqb-false _ _ (sym c.if-is_empty.ensures)
    (ap length (only_request c.args.bytes.now c.in-Ok-2.field-0 r c.request.new.reader.rest.now c.in-Ok-2.ensures h
    small is).1))

pub returns-in-Err-clause-only : goal.returns-in-Err-clause-only
returns-in-Err-clause-only c = λ r h small is. absurd
    (none_read c.args.bytes.now c.in-Err.field-0.left r c.in-Err.ensures h small is)
