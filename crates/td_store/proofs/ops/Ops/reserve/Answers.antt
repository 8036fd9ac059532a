use Rattle.std.proofs.Common.{arith}
use Rattle.td_store.proofs.StoredOps.{roomier}
use Rattle.td_store.proofs.ops.Ops.reserve.Goals as goal

pub invariant_of-self-2 : goal.invariant_of-self-2
invariant_of-self-2 c =
    roomier c.self.inside.heads c.reserve.new.self c.self.inside.chains c.reserve-2.new.self c.self.invariant
    c.reserve.ensures.ops c.reserve-2.ensures.places
    (omega (
      arith,
      c.self.invariant.room,
      c.in_ok-reserve.ensures.ok,
      c.reserve.ensures.room,
      c.in_ok-reserve-2.ensures.ok,
    ))
