use Rattle.std.proofs.Common.{take, arith, length-set, ◌∙◌}
use Rattle.td_base.specs.declared.run.TheConstants.{MAX_RUN_LEN}
use Rattle.td_reader.proofs.AtomLaws.{stopped, failed, stepped, full}
use Rattle.td_reader.proofs.atoms.fill_atoms.Goals as goal

pub returns-in_default-clause-read : goal.returns-in_default-clause-read
returns-in_default-clause-read c =
    stopped MAX_RUN_LEN c.loop-len.len (take c.loop-len.len c.loop-len.atoms) c.args.bytes.now c.loop-len.rest.now
    c.in_default.ensures c.loop-len.invariant.read

pub returns-in_default-atom-clause-read : goal.returns-in_default-atom-clause-read
returns-in_default-atom-clause-read c =
    failed MAX_RUN_LEN c.loop-len.len (take c.loop-len.len c.loop-len.atoms) c.args.bytes.now c.loop-len.rest.now
    c.in-Some.inner.now c.loop-len-test.true c.in-Some.ensures c.in_default-atom.ensures c.loop-len.invariant.read

pub loop-len-preserved : goal.loop-len-preserved
loop-len-preserved c = record {
  size = length-set c.loop-len.atoms c.loop-len.len c.in-Some-atom.read.0 ∙ c.loop-len.invariant.size;
  read = stepped MAX_RUN_LEN c.loop-len.len c.loop-len.atoms c.args.bytes.now c.loop-len.rest.now c.in-Some.inner.now
      c.in-Some-atom.read.0
      c.in-Some-atom.read.1.now c.loop-len-test.true (omega (arith, c.loop-len.invariant.size)) c.in-Some.ensures
      c.in-Some-atom.ensures c.loop-len.invariant.read;
}

pub returns-clause-read : goal.returns-clause-read
returns-clause-read c =
    full MAX_RUN_LEN c.loop-len.len c.loop-len.atoms c.args.bytes.now c.loop-len.rest.now c.loop-len-test.false
    c.loop-len.invariant.size c.loop-len.invariant.read
