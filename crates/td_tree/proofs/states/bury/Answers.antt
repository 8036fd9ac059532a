use Rattle.std.proofs.Common.{◌≡◌, ◌<◌, ◌∙◌, ℕ, List, length, get_or, ap, arith}
use Rattle.td_tree.specs.declared.tree_row.RowState.{RowState}
use Rattle.td_tree.specs.declared.tree_row.RowState.TheVariants.{Gone}
use Rattle.td_tree.proofs.Gathered.{in_place, place_in}
use Rattle.td_tree.proofs.SetStates.{step_long, step_other, same_state, away}
use Rattle.td_tree.proofs.states.bury.Goals as goal

pub set_state-requires-clause-row : goal.set_state-requires-clause-row
set_state-requires-clause-row c =
    let known = c.requires (get_or c.args.numbers.now c.loop-k.k 0)
    (in_place c.args.numbers.now 0 c.loop-k.k c.loop-k-test.true) in
    let long = c.loop-k.invariant.long in
    omega arith

pub loop-k-preserved : goal.loop-k-preserved
loop-k-preserved c =
    let numbers : List ℕ = c.args.numbers.now in
    let states : List RowState = c.loop-k.states.items in
    let now : List RowState = c.set_state.new.states.items in
    let k : ℕ = c.loop-k.k in
    let i = c.loop-k.invariant in
    let low : k < length numbers = c.loop-k-test.true in
    let known = c.requires (get_or numbers k 0) (in_place numbers 0 k low) in
    let long = i.long in
    let l : get_or numbers k 0 < length states = omega arith in
    record {
      long = step_long states (get_or numbers k 0) Gone l now c.set_state.ensures ∙ i.long;
      gone = λ j b. same_state states now numbers k Gone low l c.set_state.ensures i.gone j b;
      others = λ r n. step_other states (get_or numbers k 0) Gone l now c.set_state.ensures r (away numbers k r low n)
          ∙ i.others r n;
    }

pub returns-clause-gone : goal.returns-clause-gone
returns-clause-gone c = λ r m.
    let j : (j : ℕ) × (j < length c.args.numbers.now)
    × (r ≡ get_or c.args.numbers.now j 0) = place_in c.args.numbers.now r m in
    let low = j.1 in
    ap (λ (y : ℕ). get_or c.loop-k.states.items y Gone) j.2
    ∙ c.loop-k.invariant.gone j.0 (omega (arith, c.loop-k-test.false))
