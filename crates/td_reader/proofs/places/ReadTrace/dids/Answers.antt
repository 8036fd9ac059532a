use Rattle.std.proofs.Common.{◌+◌, ◌∙◌, arith, ap, Option, ℕ}
use Rattle.td_reader.proofs.PartLines.{log_size}
use Rattle.td_reader.proofs.places.ReadTrace.dids.Goals as goal
use Rattle.std.specs.Prelude.{unwrap_or}

pub returns : goal.returns
returns c =
    c.unwrap_or.ensures ∙ ap (λ (o : Option ℕ). unwrap_or o 0) (c.size.ensures
    ∙ log_size c.args.self.now (c.from.result + c.args.editor) c.args.editor
    (omega (arith, c.from.ensures, c.sites.ensures.sites, c.sites.ensures.value.each_history)))
