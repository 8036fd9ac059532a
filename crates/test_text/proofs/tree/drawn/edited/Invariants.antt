use Rattle.std.proofs.Common.{◌≤◌}
use Rattle.td_base.specs.Value.{DotValue}
use Rattle.td_doc.specs.Answers.{IsFresh}
use Rattle.td_tree.specs.Parts.{doc_rows}
use Rattle.test_text.proofs.tree.drawn.edited.Given as goal

-- the inserts that are to come are of neither document
abbrev pub invariant-loop-seq : goal.invariant-loop-seq
invariant-loop-seq g l = record {
  rows : (d : DotValue) → l.seq ≤ d.seq → IsFresh l.rows d;
  tree : (d : DotValue) → l.seq ≤ d.seq → IsFresh (doc_rows l.tree) d;
}
