use Rattle.std.proofs.Common.{◌+◌, ◌-◌, ◌∙◌, arith, sym, take}
use Rattle.td_reader.specs.LineNumbers.{history_lines}
use Rattle.td_reader.proofs.PartLines.{history_found, is_found}
use Rattle.td_reader.proofs.places.ReadTrace.history_begin.Goals as goal
use Rattle.std.proofs.lemmas.Option.{same_Some}

pub unwrap-requires : goal.unwrap-requires
unwrap-requires c =
    is_found c.begin.result (1 + history_lines (take (c.args.site - 1) c.args.self.now.histories))
    (history_found c.args.self.now c.args.site c.place.result c.begin.result
    (omega (arith, c.place.ensures.place)) c.requires c.begin.ensures.begin)

pub returns-clause-begin : goal.returns-clause-begin
returns-clause-begin c =
    same_Some c.unwrap.result (1 + history_lines (take (c.args.site - 1) c.args.self.now.histories))
    (sym c.unwrap.ensures ∙ history_found c.args.self.now c.args.site c.place.result c.begin.result
    (omega (arith, c.place.ensures.place)) c.requires c.begin.ensures.begin)
