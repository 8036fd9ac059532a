use Rattle.td_base.proofs.RunLemmas.{one_parts}
use Rattle.td_base.proofs.run.Run.one.Goals as goal

pub invariant_of-result : goal.invariant_of-result
invariant_of-result c = rw c.bytes.ensures.bytes
    (one_parts 64 c.args.atom c.padded.result.now c.bytes.ensures.atom c.bytes.ensures.atom.short c.padded.ensures).0

pub returns : goal.returns
returns c = rw c.bytes.ensures.bytes
    (one_parts 64 c.args.atom c.padded.result.now c.bytes.ensures.atom c.bytes.ensures.atom.short c.padded.ensures).1
