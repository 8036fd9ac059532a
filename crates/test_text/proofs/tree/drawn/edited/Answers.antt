use Rattle.std.proofs.Common.{◌≡◌, ◌≢◌, ◌∙◌, ◌≤◌, ◌+◌, ℕ, ap, arith}
use Rattle.td_base.specs.Value.{DotValue}
use Rattle.test_text.proofs.tree.drawn.edited.Goals as goal

-- a dot of a later number is another
other : (d e : DotValue) (n : ℕ) → e.seq ≡ n → n + 1 ≤ d.seq → d ≢ e
other d e n is more same = absurd (later d.seq e.seq n is more (ap (λ (x : DotValue). x.seq) same))
  where
    later : (a b n : ℕ) → b ≡ n → n + 1 ≤ a → a ≡ b → ⊥
    later a b n e l f = omega arith

pub apply_to_both-requires-clause-rows : goal.apply_to_both-requires-clause-rows
apply_to_both-requires-clause-rows g c =
    let same : c.in_ok-edit.edit.dot.seq ≡ c.loop-seq.seq =
    ap (λ (d : DotValue). d.seq) (c.in_ok-edit.ensures ∙ c.in_ok-dot.ensures) ∙ c.from.ensures in
    c.loop-seq.invariant.rows c.in_ok-edit.edit.dot (omega arith)

pub apply_to_both-requires-clause-tree : goal.apply_to_both-requires-clause-tree
apply_to_both-requires-clause-tree g c =
    let same : c.in_ok-edit.edit.dot.seq ≡ c.loop-seq.seq =
    ap (λ (d : DotValue). d.seq) (c.in_ok-edit.ensures ∙ c.in_ok-dot.ensures) ∙ c.from.ensures in
    c.loop-seq.invariant.tree c.in_ok-edit.edit.dot (omega arith)

pub loop-seq-preserved : goal.loop-seq-preserved
loop-seq-preserved g c =
    let same : c.in_ok-edit.edit.dot.seq ≡ c.loop-seq.seq =
    ap (λ (d : DotValue). d.seq) (c.in_ok-edit.ensures ∙ c.in_ok-dot.ensures) ∙ c.from.ensures in
    record {
      rows = λ d l. c.apply_to_both.ensures.rows d (other d c.in_ok-edit.edit.dot c.loop-seq.seq same l)
          (c.loop-seq.invariant.rows d (omega arith));
      tree = λ d l. c.apply_to_both.ensures.tree d (other d c.in_ok-edit.edit.dot c.loop-seq.seq same l)
          (c.loop-seq.invariant.tree d (omega arith));
    }
