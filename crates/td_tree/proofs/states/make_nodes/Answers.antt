use Rattle.std.proofs.Common.{◌≡◌, ◌<◌, ◌≤◌, ◌∙◌, ◌+◌, ℕ, zero, suc, List, [], ◌∷◌}
use Rattle.std.proofs.Common.{length, get_or, drop, ap, sym, arith}
use Rattle.std.proofs.Math.Seq.{drop-cons, drop-nil}
use Rattle.td_tree.specs.declared.tree_row.RowState.{RowState}
use Rattle.td_tree.specs.declared.tree_row.RowState.TheVariants.{Node}
use Rattle.td_tree.specs.Ways.{node_states}
use Rattle.td_tree.proofs.Gathered.{in_place}
use Rattle.td_tree.proofs.SetStates.{step_long}
use Rattle.td_tree.proofs.states.make_nodes.Goals as goal

pub set_state-requires-clause-row : goal.set_state-requires-clause-row
set_state-requires-clause-row c =
    let known = c.requires (get_or c.args.numbers.now c.loop-k.k 0)
    (in_place c.args.numbers.now 0 c.loop-k.k c.loop-k-test.true) in
    let long = c.loop-k.invariant.long in
    omega arith

pub loop-k-preserved : goal.loop-k-preserved
loop-k-preserved c =
    let numbers : List ℕ = c.args.numbers.now in
    let states : List RowState = c.loop-k.states.items in
    let k : ℕ = c.loop-k.k in
    let i = c.loop-k.invariant in
    let low : k < length numbers = c.loop-k-test.true in
    let known = c.requires (get_or numbers k 0) (in_place numbers 0 k low) in
    let long = i.long in
    let l : get_or numbers k 0 < length states = omega arith in
    record {
      long = step_long states (get_or numbers k 0) Node l c.set_state.new.states.items c.set_state.ensures ∙ i.long;
      rest = (λ j. node_states (drop (up k j) numbers) (c.set_state.ensures j))
          ∙ sym (ap (λ (rest : List ℕ). node_states rest states) (drop-cons numbers k 0 low)) ∙ i.rest;
    }
  where
    up : (k : ℕ) → k + 1 ≡ suc k
    up k = omega arith

pub returns : goal.returns
returns c =
    sym (ap (λ (rest : List ℕ). node_states rest c.loop-k.states.items)
    (none c.args.numbers.now c.loop-k.k (omega (arith, c.loop-k-test.false)))) ∙ c.loop-k.invariant.rest
  where
    none : (xs : List ℕ) (k : ℕ) → length xs ≤ k → drop k xs ≡ []
    none [] k l = drop-nil k
    none (x ∷ xs) zero l = absurd (omega arith)
    none (x ∷ xs) (suc k) l = none xs k (omega arith)
