use Rattle.std.proofs.Common.{◌-◌, ap, arith}
use Rattle.td_list.specs.Items.{weight_of}
use Rattle.td_list.proofs.Names.{weight-parts}
use Rattle.td_list.proofs.Weights.{weight-put}
use Rattle.td_list.proofs.chunk.Chunk.splice.Goals as goal

pub put-requires-else-piece-to-clause-light : goal.put-requires-else-piece-to-clause-light
put-requires-else-piece-to-clause-light c =
    let parts = weight-parts (c.args.to - c.args.from) c.args.piece.now in
    let more = ap weight_of c.split_at.ensures.back in
    omega (arith, c.requires.light)

pub lay-requires-clause-light : goal.lay-requires-clause-light
lay-requires-clause-light c =
    let parts = weight-parts (c.args.to - c.args.from) c.args.piece.now in
    let over = ap weight_of c.split_at.ensures.front in
    let more = ap weight_of c.split_at.ensures.back in
    let now = ap weight_of c.in_ok-put-2.ensures.ok in
    let put = weight-put c.args.to c.args.self.now c.split_at.result.1.now in
    omega (arith, c.requires.light)
