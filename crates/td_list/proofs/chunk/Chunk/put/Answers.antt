use Rattle.std.proofs.Common.{◌∙◌, ap, sym, arith, ◌||◌, Bool}
use Rattle.td_list.specs.Items.{weight_of, has_mark}
use Rattle.td_list.proofs.Weights.{weight-put}
use Rattle.td_list.proofs.Marks.{mark-put}
use Rattle.td_list.proofs.chunk.Chunk.put.Goals as goal

pub invariant_of-self-2 : goal.invariant_of-self-2
invariant_of-self-2 c =
    let piece = c.args.piece.now in
    let items = c.self.inside.items.items in
    let now = c.in_ok-put_in.ensures.ok in
    let put = ap weight_of now in
    let whole = weight-put c.args.place items piece in
    let heavy = ap weight_of c.self.view_is in (
      omega (arith, c.weight_of.ensures, c.self.invariant.0),
      c.is_marked_with-self-inside.ensures ∙ ap (λ (b : Bool). b || has_mark piece) c.self.invariant.1
          ∙ mark-put c.args.place items piece ∙ sym (ap has_mark now),
      omega (arith, c.weight_of.ensures, c.self.invariant.0, c.requires.light),
    )
