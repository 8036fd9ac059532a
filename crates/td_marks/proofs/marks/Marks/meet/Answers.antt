use Rattle.std.proofs.Common.{◌≡◌, ◌<◌, ◌≤◌, ◌+◌, ℕ, List, length, take, Some, sym, ◌∙◌, subst, arith}
use Rattle.td_base.specs.Lists.{kth}
use Rattle.td_base.proofs.Places.{some_at}
use Rattle.td_marks.specs.Mark.{MarkOpValue}
use Rattle.td_marks.specs.Marks.{MarksValue}
use Rattle.td_marks.proofs.Meeting.{kth_next, takes_grow, takes_more}
use Rattle.td_marks.proofs.marks.Marks.meet.Goals as goal

pub loop-place-preserved : goal.loop-place-preserved
loop-place-preserved c =
    let ops : List MarkOpValue = c.args.other.now.ops in
    let place : ℕ = c.loop-place.place in
    let less : place < length ops = omega (arith, c.loop-place-test.true, c.ops-place-end.ensures.ops) in
    let o = some_at ops place less in
    let there : kth (place + 1) ops ≡ Some o.0 = kth_next ops place ∙ o.1 in
    record {
      taken = takes_more ops place o.0 c.args.self.now c.loop-place.self c.take_kth.new.self there
          c.loop-place.invariant.taken (c.in_ok-take_kth.ensures.ok o.0 there);
      within = omega (arith, less);
    }

pub overflow_sub-result : goal.overflow_sub-result
overflow_sub-result c =
    let grown : length c.args.self.now.ops ≤ length c.loop-place.self.ops =
    subst (λ (m : MarksValue). length c.args.self.now.ops ≤ length m.ops) (sym c.loop-place.invariant.taken)
    (takes_grow (take c.loop-place.place c.args.other.now.ops) c.args.self.now) in
    omega (arith, grown, c.ops-before.ensures.ops, c.ops.ensures.ops)

pub returns-clause-taken : goal.returns-clause-taken
returns-clause-taken c =
    let grown : length c.args.self.now.ops ≤ length c.loop-place.self.ops =
    subst (λ (m : MarksValue). length c.args.self.now.ops ≤ length m.ops) (sym c.loop-place.invariant.taken)
    (takes_grow (take c.loop-place.place c.args.other.now.ops) c.args.self.now) in
    omega (arith, grown, c.ops-before.ensures.ops, c.ops.ensures.ops)
