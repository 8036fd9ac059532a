use Rattle.std.proofs.Common.{◌≡◌, ◌∙◌, ℕ, length, ap, sym, arith, Some, None}
use Rattle.td_tree.proofs.tree.TreeDoc.empty.Goals as goal

pub invariant_of-result : goal.invariant_of-result
invariant_of-result c =
    let none = ap length c.in_ok-empty.ensures.1 in (
      record {
        tree = c.in_ok-empty.ensures.0;
        named = record {
          found = λ id r e. absurd (no r (sym (c.empty-2.ensures id) ∙ e));
          here = λ r l. absurd (omega arith);
        };
        each_seen = λ r l. absurd (omega arith);
      },
      tt,
    )
  where
    no : (r : ℕ) → None ≡ Some r → ⊥
    no r e = cc
