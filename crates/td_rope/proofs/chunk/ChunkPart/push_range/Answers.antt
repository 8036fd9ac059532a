use Rattle.std.proofs.Common.{◌≡◌, ◌∙◌, ◌++◌, ℕ, List, min, ap}
use Rattle.std.specs.List.{concat}
use Rattle.td_rope.proofs.Results.{then_ok}
use Rattle.td_rope.proofs.Pieces.{clamped}
use Rattle.td_rope.proofs.chunk.ChunkPart.push_range.Goals as goal

pub returns-clause-ok : goal.returns-clause-ok
returns-clause-ok c =
    let last = c.min-last.ensures ∙ ap (min c.args.to) c.len.ensures in
    let bytes = c.bytes_of.ensures.bytes ∙ ap concat
    (clamped c.args.self.now c.args.from c.args.to c.min-last.result c.min-first.result last c.min-first.ensures) in
    then_ok c.push.result _ _ (λ (e : c.push.new.self ≡ c.args.text.now ++ c.bytes_of.result.now). e
    ∙ ap (λ (bs : List ℕ). c.args.text.now ++ bs) bytes) c.push.ensures.ok
