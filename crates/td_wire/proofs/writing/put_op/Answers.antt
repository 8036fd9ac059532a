use Rattle.std.proofs.Common.{refl}
use Rattle.td_wire.specs.Spelling.{dot_bytes}
use Rattle.td_wire.proofs.Sizes.{deps_short}
use Rattle.td_wire.proofs.writing.put_op.Goals as goal

pub put_body-requires : goal.put_body-requires
put_body-requires c =
    deps_short c.args.bytes.now (dot_bytes c.dot.result) c.deps.result.now c.put_deps.new.bytes c.push.new.self
    c.put_dot.new.bytes c.kind_of.result c.requires c.put_deps.ensures.vector.short refl
    c.push.ensures c.put_dot.ensures.bytes c.put_deps.ensures.bytes
