use Rattle.std.proofs.Common.{◌+◌, ◌∙◌, arith, sym, take}
use Rattle.td_reader.specs.LineNumbers.{history_lines, log_lines}
use Rattle.td_reader.proofs.PartLines.{is_found, log_found}
use Rattle.td_reader.proofs.places.ReadTrace.log_begin.Goals as goal
use Rattle.std.proofs.lemmas.Option.{same_Some}

pub unwrap-requires : goal.unwrap-requires
unwrap-requires c =
    is_found c.begin.result
    (1 + history_lines c.args.self.now.histories + log_lines (take c.args.editor c.args.self.now.logs))
    (log_found c.args.self.now (c.from.result + c.args.editor) c.args.editor c.begin.result
    (omega (arith, c.from.ensures, c.sites.ensures.sites, c.sites.ensures.value.each_history)) c.requires
    c.begin.ensures.begin)

pub returns-clause-begin : goal.returns-clause-begin
returns-clause-begin c =
    same_Some c.unwrap.result
    (1 + history_lines c.args.self.now.histories + log_lines (take c.args.editor c.args.self.now.logs))
    (sym c.unwrap.ensures ∙ log_found c.args.self.now (c.from.result + c.args.editor) c.args.editor c.begin.result
    (omega (arith, c.from.ensures, c.sites.ensures.sites, c.sites.ensures.value.each_history)) c.requires
    c.begin.ensures.begin)
