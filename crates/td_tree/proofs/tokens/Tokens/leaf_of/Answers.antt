use Rattle.std.proofs.Common.{◌≡◌, ◌≢◌, ◌<◌, ◌≤◌, ◌+◌, ◌-◌, ◌/◌, ℕ, refl, sym, subst, true≢false, arith}
use Rattle.td_tree.specs.declared.tree_row.RowState.TheVariants.{InArray}
use Rattle.td_tree.specs.Parts.{Parts, state_at, row_of_array, Cut}
use Rattle.td_tree.proofs.Down.{top_stands, go_left, go_right}
use Rattle.td_tree.proofs.tokens.Tokens.leaf_of.Goals as goal

pub returns-then-stands-clause-part : goal.returns-then-stands-clause-part
returns-then-stands-clause-part c =
    (top_stands c.args.self.now c.args.array c.loop-array.from c.loop-array.len c.loop-array.invariant.cut
    (omega (arith, c.loop-array.invariant.low, c.loop-array.invariant.high)) (c.if-stands.ensures.0 refl)).0

pub returns-then-stands-clause-leaf : goal.returns-then-stands-clause-leaf
returns-then-stands-clause-leaf c =
    (top_stands c.args.self.now c.args.array c.loop-array.from c.loop-array.len c.loop-array.invariant.cut
    (omega (arith, c.loop-array.invariant.low, c.loop-array.invariant.high)) (c.if-stands.ensures.0 refl)).1

pub loop-array-preserved-then-index-middle : goal.loop-array-preserved-then-index-middle
loop-array-preserved-then-index-middle c = record {
  cut = go_left c.args.self.now c.args.array c.loop-array.from c.loop-array.len c.loop-array.invariant.cut
      (omega (arith, c.loop-array.invariant.low, c.loop-array.invariant.high))
      (λ e. true≢false (sym (c.if-stands.ensures.1 e)));
  low = c.loop-array.invariant.low;
  high = c.if-index-middle.true;
  within = omega (arith, c.loop-array.invariant.within);
}

-- the row is not the top, which has left
not_top : (p : Parts) (a i m : ℕ) → state_at p (row_of_array p a i) ≡ InArray a i
    → (state_at p (row_of_array p a m) ≡ InArray a m → ⊥) → m ≤ i → m < i
not_top p a i m here away h = other m i h (λ e. away
    (subst (λ (k : ℕ). state_at p (row_of_array p a k) ≡ InArray a k) (sym e) here))
  where
    other : (m i : ℕ) → m ≤ i → m ≢ i → m < i
    other m i h n = omega arith

pub loop-array-preserved : goal.loop-array-preserved
loop-array-preserved c =
    let p = c.args.self.now in
    let from = c.loop-array.from in
    let n = c.loop-array.len in
    let away : state_at p (row_of_array p c.args.array (from + n / 2)) ≡ InArray c.args.array (from + n / 2)
    → ⊥ = λ e. true≢false (sym (c.if-stands.ensures.1 e)) in
    let past = not_top p c.args.array c.args.index (from + n / 2) c.requires.stands away c.if-index-middle.false in
    let rest : n - n / 2 - 1 ≡ n - (n / 2 + 1) = omega arith in
    record {
      cut = subst (λ (k : ℕ). Cut p c.args.array (from + n / 2 + 1) k) rest
          (go_right p c.args.array from n c.loop-array.invariant.cut
          (omega (arith, c.loop-array.invariant.low, c.loop-array.invariant.high)) away);
      low = omega arith;
      high = omega (arith, c.loop-array.invariant.high);
      within = omega (arith, c.loop-array.invariant.within, c.loop-array.invariant.high, c.loop-array.invariant.low);
    }
