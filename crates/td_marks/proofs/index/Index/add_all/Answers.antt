use Rattle.std.proofs.Common.{◌≡◌, ◌∷◌, [], ⊎_elim, subst, take, sym}
use Rattle.td_base.specs.Lists.{In}
use Rattle.td_base.specs.Value.{AtomIdValue}
use Rattle.td_base.proofs.Lists.{In-append}
use Rattle.td_marks.specs.Index.{numbers_at}
use Rattle.td_marks.proofs.Listed.{with_next}
use Rattle.td_marks.proofs.index.Index.add_all.Goals as goal

pub returns-in_err-add-clause-kept : goal.returns-in_err-add-clause-kept
returns-in_err-add-clause-kept c = λ x k i. c.add.ensures.kept x k (c.loop-id.invariant.kept x k i)

pub loop-id-preserved : goal.loop-id-preserved
loop-id-preserved c = record {
  kept = λ x k i. c.add.ensures.kept x k (c.loop-id.invariant.kept x k i);
  listed = λ x i.
      ⊎_elim
      (λ (j : In x (take c.loop-id.id-index c.args.atoms.now)).
      c.add.ensures.kept x c.args.number (c.loop-id.invariant.listed x j))
      (λ (j : In x (c.id-item.result ∷ [])). ⊎_elim
      (λ (e : x ≡ c.id-item.result).
      subst (λ (y : AtomIdValue). In c.args.number (numbers_at c.add.new.self y)) (sym e) c.in_ok-add.ensures.listed)
      (λ (none : ⊥). absurd none) j)
      (In-append x (take c.loop-id.id-index c.args.atoms.now) (c.id-item.result ∷ [])
      (subst (In x) (with_next c.args.atoms.now c.loop-id.id-index c.id-item.result c.loop-id-test.true c.id-item.is)
      i));
}
