use Rattle.std.proofs.Common.{◌∙◌, ◌++◌, ◌∷◌, ◌<◌, List, [], append_assoc, ap, sym, map, arith}
use Rattle.std.specs.List.{range_with_len}
use Rattle.std.proofs.lemmas.List.FromFn.{map-range_with_len_more}
use Rattle.td_tree.specs.declared.tree_row.RowState.{RowState}
use Rattle.td_tree.specs.declared.tree_row.RowState.TheVariants.{InArray}
use Rattle.td_tree.proofs.growth.push_states.Goals as goal

pub loop-index-preserved : goal.loop-index-preserved
loop-index-preserved c =
    let before : List RowState = c.args.states.now.items in
    let so_far : List RowState = map (InArray c.args.array) (range_with_len 0 c.loop-index.index) in
    let low : c.loop-index.index < c.args.count = c.loop-index-test.true in
    record {
      room = omega (arith, c.loop-index.invariant.room, c.push_state.ensures.room, c.push_state.ensures.long);
      there =
          c.push_state.ensures.state ∙ ap (λ (xs : List RowState). xs ++ InArray c.args.array c.loop-index.index ∷ [])
          c.loop-index.invariant.there
          ∙ append_assoc before so_far (InArray c.args.array c.loop-index.index ∷ [])
          ∙ ap (λ (xs : List RowState). before ++ xs) (sym
          (map-range_with_len_more (InArray c.args.array) 0 c.loop-index.index c.loop-index.index (omega arith)));
    }
