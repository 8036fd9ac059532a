use Rattle.std.proofs.Common.{refl}
use Rattle.td_script.proofs.Cutting.{first_line}
use Rattle.td_script.proofs.line.split_line.Goals as goal

pub returns-clause-lines : goal.returns-clause-lines
returns-clause-lines c =
    rw c.unwrap_or.ensures
    (first_line c.args.bytes.now c.split_once.result _ refl refl c.requires c.split_once.ensures.some
    c.split_once.ensures.none)
