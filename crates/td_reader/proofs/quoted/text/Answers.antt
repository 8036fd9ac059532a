use Rattle.td_reader.proofs.Texts.{is_raw, no_text_read, text_read}
use Rattle.td_reader.proofs.quoted.text.Goals as goal

pub returns-in_default : goal.returns-in_default
returns-in_default c =
    no_text_read c.args.bytes.now c.in_ok-raw.raw.now c.in_ok-raw.rest.now c.in_ok-raw.ensures
    c.in_default.ensures.cases.0

pub invariant_of-result : goal.invariant_of-result
invariant_of-result c =
    is_raw c.args.bytes.now c.in_ok-raw.raw.now c.in_ok-raw.rest.now c.in_ok-raw.ensures c.in-Ok.ensures.cases.1

pub returns : goal.returns
returns c =
    text_read c.args.bytes.now c.in_ok-raw.raw.now c.in_ok-raw.rest.now c.in_ok-raw.ensures c.in-Ok.ensures.cases.1
