use Rattle.std.proofs.Common.{◌≡◌, ◌<◌, ℕ}
use Rattle.td_list.specs.Items.{IsItem, weight_of}
use Rattle.test_text.proofs.list.by_turns.Given as goal

-- the items to put others before, and further names are new
abbrev pub invariant-loop-name : goal.invariant-loop-name
invariant-loop-name g l = record {
  there : (x : ℕ) → x < l.name → IsItem x (g.S.Sequence.items l.list);
  used : (x : ℕ) → IsItem x (g.S.Sequence.items l.list) → x < l.name;
  weight : weight_of (g.S.Sequence.items l.list) ≡ l.name;
}
