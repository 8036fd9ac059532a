use Rattle.std.proofs.Common.{◌+◌, ◌∙◌, arith, sym}
use Rattle.td_reader.specs.LineNumbers.{history_lines, log_lines}
use Rattle.td_reader.proofs.PartLines.{is_found, texts_begin, texts_within}
use Rattle.td_reader.proofs.places.ReadTrace.texts_begin.Goals as goal
use Rattle.std.proofs.lemmas.Option.{same_Some}

pub unwrap-requires : goal.unwrap-requires
unwrap-requires c =
    is_found c.begin.result (1 + history_lines c.args.self.now.histories + log_lines c.args.self.now.logs)
    (c.begin.ensures.begin ∙ texts_begin c.args.self.now c.parts.result c.parts.ensures)

pub returns-clause-begin : goal.returns-clause-begin
returns-clause-begin c =
    same_Some c.unwrap.result (1 + history_lines c.args.self.now.histories + log_lines c.args.self.now.logs)
    (sym c.unwrap.ensures ∙ c.begin.ensures.begin ∙ texts_begin c.args.self.now c.parts.result c.parts.ensures)

pub returns-clause-few : goal.returns-clause-few
returns-clause-few c = λ site most.
    let is = same_Some c.unwrap.result (1 + history_lines c.args.self.now.histories + log_lines c.args.self.now.logs)
    (sym c.unwrap.ensures ∙ c.begin.ensures.begin ∙ texts_begin c.args.self.now c.parts.result c.parts.ensures) in
    omega (arith, is, texts_within c.args.self.now site c.begin.ensures.value most, c.begin.ensures.few)
