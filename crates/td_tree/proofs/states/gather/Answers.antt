use Rattle.std.proofs.Common.{◌<◌, ◌∙◌, ℕ, List, length, get_or, arith}
use Rattle.td_tree.specs.declared.tree_row.RowState.{RowState}
use Rattle.td_tree.specs.declared.tree_row.RowState.TheVariants.{InArray}
use Rattle.td_tree.proofs.Gathered.{in_place}
use Rattle.td_tree.proofs.SetStates.{step_long, step_other, own_state, away}
use Rattle.td_tree.proofs.states.gather.Goals as goal

pub set_state-requires-clause-row : goal.set_state-requires-clause-row
set_state-requires-clause-row c =
    let known = c.requires.known (get_or c.args.numbers.now c.loop-k.k 0)
    (in_place c.args.numbers.now 0 c.loop-k.k c.loop-k-test.true) in
    let long = c.loop-k.invariant.long in
    omega arith

pub loop-k-preserved : goal.loop-k-preserved
loop-k-preserved c =
    let numbers : List ℕ = c.args.numbers.now in
    let states : List RowState = c.loop-k.states.items in
    let now : List RowState = c.set_state.new.states.items in
    let k : ℕ = c.loop-k.k in
    let i = c.loop-k.invariant in
    let low : k < length numbers = c.loop-k-test.true in
    let known = c.requires.known (get_or numbers k 0) (in_place numbers 0 k low) in
    let long = i.long in
    let l : get_or numbers k 0 < length states = omega arith in
    let s : RowState = InArray c.args.array k in
    record {
      long = step_long states (get_or numbers k 0) s l now c.set_state.ensures ∙ i.long;
      inside = λ j b. own_state states now numbers k (λ n. InArray c.args.array n) low l c.set_state.ensures
          c.requires.apart i.inside j b;
      others = λ r n. step_other states (get_or numbers k 0) s l now c.set_state.ensures r (away numbers k r low n)
          ∙ i.others r n;
    }
