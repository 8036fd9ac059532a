use Rattle.td_wire.proofs.Sizes.{deps_room}
use Rattle.td_wire.proofs.writing.put_deps.Goals as goal

pub extend-requires : goal.extend-requires
extend-requires c =
    rw c.to_be_bytes.ensures (deps_room c.args.bytes.now c.args.deps.now c.loop-i.bytes c.loop-i.i c.requires
    c.size-n.ensures.vector.short (rw (← c.size-n.ensures.size) c.loop-i-test.true) c.loop-i.invariant)
