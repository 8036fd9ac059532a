use Rattle.std.proofs.Common.{◌≡◌, ◌≤◌, ◌∙◌, ◌+◌, ℕ, sym, ap, arith, Some}
use Rattle.td_base.specs.declared.dot.TheConstants.{MAX_SEQ}
use Rattle.td_marks.specs.Making.{mark_refusal}
use Rattle.td_marks.specs.Marks.{MarksValue, count_of, next_dot}
use Rattle.td_marks.specs.declared.mark_fault.MarkFault.TheVariants.{Limit}
use Rattle.td_marks.proofs.Parts.{get_is_count, none_refused, limit_refused}
use Rattle.td_marks.proofs.marks.Marks.judge.Goals as goal

not_none : (n : ℕ) → (n ≡ 0 → ⊥) → 1 ≤ n
not_none n h = omega (arith, h)

past : (n : ℕ) → ((1 ≤ n + 1) × (n + 1 ≤ MAX_SEQ) → ⊥) → n ≤ MAX_SEQ → MAX_SEQ ≤ n
past n h small = omega (arith, λ (k : n + 1 ≤ MAX_SEQ). h (omega arith, k))

pub returns-in-Some-clause-ok : goal.returns-in-Some-clause-ok
returns-in-Some-clause-ok c =
    let made : c.get-made.result ≡ count_of c.self.inside.site c.self.inside.ops.items =
    c.get-made.ensures.number
    ∙ get_is_count c.self.inside.site c.self.inside.have c.self.inside.ops.items c.self.inside.index c.self.invariant
    c.self.inside.site c.self.invariant.marks.first c.self.invariant.marks.own in
    ap (λ (m : MarksValue). mark_refusal c.args.live (count_of m.site m.ops) c.args.index c.args.count)
    (sym c.self.view_is)
    ∙ none_refused c.args.live (count_of c.self.inside.site c.self.inside.ops.items) c.args.index c.args.count
    (omega (arith, not_none c.args.count c.if-count-eq0.false))
    (omega (arith, c.if-from.false, c.from.ensures, c.from-else-count-eq0.ensures, c.from-else-count-eq0-2.ensures))
    c.if-count-gt-MAX_ATOMS.false
    (omega (arith, made, c.in-Some.ensures.0.1))

pub returns-in-Some-clause-dot : goal.returns-in-Some-clause-dot
returns-in-Some-clause-dot c =
    let made : c.get-made.result ≡ count_of c.self.inside.site c.self.inside.ops.items =
    c.get-made.ensures.number
    ∙ get_is_count c.self.inside.site c.self.inside.have c.self.inside.ops.items c.self.inside.index c.self.invariant
    c.self.inside.site c.self.invariant.marks.first c.self.invariant.marks.own in
    c.in-Some.ensures.1 ∙ (λ i. record { site = c.self.inside.site; seq = made i + 1 })
    ∙ ap (λ (m : MarksValue). next_dot m.site m.ops) c.self.view_is

pub returns-in-None-clause-fault : goal.returns-in-None-clause-fault
returns-in-None-clause-fault c =
    let made : c.get-made.result ≡ count_of c.self.inside.site c.self.inside.ops.items =
    c.get-made.ensures.number
    ∙ get_is_count c.self.inside.site c.self.inside.have c.self.inside.ops.items c.self.inside.index c.self.invariant
    c.self.inside.site c.self.invariant.marks.first c.self.invariant.marks.own in
    ap (λ (m : MarksValue). mark_refusal c.args.live (count_of m.site m.ops) c.args.index c.args.count)
    (sym c.self.view_is)
    ∙ limit_refused c.args.live (count_of c.self.inside.site c.self.inside.ops.items) c.args.index c.args.count
    (omega (arith, not_none c.args.count c.if-count-eq0.false))
    (omega (arith, c.if-from.false, c.from.ensures, c.from-else-count-eq0.ensures, c.from-else-count-eq0-2.ensures))
    c.if-count-gt-MAX_ATOMS.false
    (omega (arith, made, past c.get-made.result c.in-None.ensures c.get-made.ensures.small))
    ∙ ap (λ (n : ℕ). Some (Limit n)) (sym made)
