use Rattle.std.proofs.Common.{◌≡◌, ◌++◌, ◌∙◌, length, ap, arith}
use Rattle.td_rope.proofs.Pieces.{count_pieces, halves}
use Rattle.td_rope.proofs.chunk.ChunkPart.part.Goals as goal

pub stretch-requires-clause-to : goal.stretch-requires-clause-to
stretch-requires-clause-to c =
    omega (
      arith,
      c.len-end.ensures,
      c.self.inside.lengths.ok.0,
      ap length c.self.view_is,
      count_pieces
          c.self.inside.lengths.items c.self.inside.bytes.items,
    )

pub stretch-requires-2-clause-to : goal.stretch-requires-2-clause-to
stretch-requires-2-clause-to c =
    omega (
      arith,
      c.len-end.ensures,
      c.cut_beside-cut.ensures,
      c.self.inside.lengths.ok.0,
      ap length c.self.view_is,
      count_pieces c.self.inside.lengths.items c.self.inside.bytes.items,
    )

pub returns-clause-ok : goal.returns-clause-ok
returns-clause-ok c =
    let count = count_pieces c.self.inside.lengths.items c.self.inside.bytes.items in
    let end_is : c.len-end.result ≡ length c.args.self.now =
    omega (arith, c.len-end.ensures, c.self.inside.lengths.ok.0, ap length c.self.view_is, count) in
    let front = c.drop.view_is ∙ c.in_ok-self-inside.ensures in
    (λ j. front j ++ c.in_ok-rest.ensures j) ∙ halves c.args.self.now c.cut_beside-cut.result c.len-end.result
    c.cut_beside-cut.ensures end_is
