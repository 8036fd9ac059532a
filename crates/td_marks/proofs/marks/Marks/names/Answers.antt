use Rattle.std.proofs.Common.{◌≡◌, ◌∙◌, ℕ, List, sym, ap, subst, arith}
use Rattle.std.specs.Int.{bit_at}
use Rattle.td_marks.specs.Index.{HaveAll, numbers_at}
use Rattle.td_marks.specs.Mark.{bits_below, has_name}
use Rattle.td_marks.specs.Marks.{MarksValue}
use Rattle.td_marks.specs.declared.mark_op.TheConstants.{NAMES}
use Rattle.td_marks.proofs.Names.{bit_set, bit_left, bit_tells}
use Rattle.td_marks.proofs.marks.Marks.names.Goals.{then-has_name, else-has_name}
use Rattle.td_marks.proofs.marks.Marks.names.Goals as goal

pub has_name-requires : goal.has_name-requires
has_name-requires c =
    subst (λ (numbers : List ℕ). HaveAll c.args.self.now.ops c.args.id numbers) (sym c.numbers-numbers.ensures)
    (subst (λ (m : MarksValue). HaveAll m.ops c.args.id (numbers_at c.self.inside.index c.args.id)) c.self.view_is
    (c.self.invariant.listed c.args.id))

pub loop-name-preserved : goal.loop-name-preserved
loop-name-preserved c =
    let has = has_name c.args.self.now.ops c.args.id in
    let n : ℕ = c.loop-name.name in
    elim c.if-has_name.branch [
      | then-has_name w ↦ w.names-is
          ∙ bit_set n has c.loop-name.names c.loop-name-test.true c.loop-name.invariant
          (sym c.has_name.ensures ∙ w.if-has_name.true)
      | else-has_name w ↦ w.names-is
          ∙ bit_left n has c.loop-name.names c.loop-name.invariant (sym c.has_name.ensures ∙ w.if-has_name.false)
    ]

pub returns-clause-bits : goal.returns-clause-bits
returns-clause-bits c = λ m h.
    let has = has_name c.args.self.now.ops c.args.id in
    let all : c.loop-name.name ≡ NAMES = omega (arith, c.loop-name.auto.name-end, c.loop-name-test.false) in
    ap (λ (n : ℕ). bit_at n m) (c.loop-name.invariant ∙ ap (λ (n : ℕ). bits_below n has) all) ∙ bit_tells NAMES has m h
