use Rattle.td_reader.proofs.Numbers.{no_text, parsed_by}
use Rattle.td_reader.proofs.number.parsed.Goals as goal

pub returns-in_default : goal.returns-in_default
returns-in_default c = no_text c.args.digits.now c.in_default.ensures.cases.0

pub returns : goal.returns
returns c =
    let same = c.in-Ok.ensures.cases in
    parsed_by c.args.digits.now c.in-Ok.text.now c.parse.result c.ok.result same.0 c.parse.ensures.value.0
    c.ok.ensures.value
