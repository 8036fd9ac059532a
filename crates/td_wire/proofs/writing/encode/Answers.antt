use Rattle.td_wire.proofs.Sizes.{op_spelled, vote_spelled}
use Rattle.td_wire.proofs.writing.encode.Goals as goal
use Rattle.td_wire.proofs.writing.encode.Goals.{in-Op, in-Vote}

pub returns : goal.returns
returns c = elim c.match-message.branch [
  | in-Op w ↦ rw w.bytes-is (op_spelled c.args.message.now w.in-Op.op c.new-bytes.result c.extend.new.self
      w.put_op.new.bytes w.in-Op.is c.new-bytes.ensures c.extend.ensures w.put_op.ensures.bytes w.put_op.ensures.can)
  | in-Vote w ↦ rw w.bytes-is (vote_spelled c.args.message.now w.in-Vote.vote c.new-bytes.result c.extend.new.self
      w.put_vote.new.bytes w.in-Vote.is c.new-bytes.ensures c.extend.ensures w.put_vote.ensures.bytes
      w.put_vote.ensures.can)
]

pub invariant_of-result : goal.invariant_of-result
invariant_of-result c = (c.args.message.now, returns c)
