use Rattle.td_text.proofs.RunLemmas.{runs_kept}
use Rattle.td_text.proofs.runs.runs_of.Goals as goal

pub invariant_of-result : goal.invariant_of-result
invariant_of-result c =
    (runs_kept c.args.atoms.now c.lengths.result.now c.bytes.result.now c.requires.each c.requires.few
    c.lengths.ensures c.bytes.ensures).0

pub returns : goal.returns
returns c =
    (runs_kept c.args.atoms.now c.lengths.result.now c.bytes.result.now c.requires.each c.requires.few
    c.lengths.ensures c.bytes.ensures).1
