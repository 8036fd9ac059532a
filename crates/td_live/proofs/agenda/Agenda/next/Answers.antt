use Rattle.std.proofs.Common.{◌≡◌, ◌<◌, ◌∙◌, length, ap, arith, subst, sym}
use Rattle.td_live.specs.Agenda.{IsToBegin}
use Rattle.td_live.specs.Asking.{asks_of}
use Rattle.td_live.specs.Following.{Leads, Rest}
use Rattle.td_live.proofs.Leading.{leads_begun}
use Rattle.td_live.proofs.agenda.Agenda.next.Goals as goal

pub loop-next-smaller : goal.loop-next-smaller
loop-next-smaller c =
    let b : IsToBegin c.loop-next.self = c.in_default.ensures in
    let begun : c.begin.new.self ≡ record c.loop-next.self { asks = asks_of b.line; lines = b.lines } =
    c.begin.ensures.begun b.line b.lines b.lines_are in
    let less : length c.begin.new.self.lines < length c.loop-next.self.lines =
    omega (arith, ap (λ (r : Rest). length r.lines) begun, ap length b.lines_are) in
    less

pub loop-next-preserved : goal.loop-next-preserved
loop-next-preserved c =
    let b : IsToBegin c.loop-next.self = c.in_default.ensures in
    let begun : c.begin.new.self ≡ record c.loop-next.self { asks = asks_of b.line; lines = b.lines } =
    c.begin.ensures.begun b.line b.lines b.lines_are in
    record {
      leads = λ first acts way. subst (λ (r : Rest). Leads first acts r) (sym begun)
          (leads_begun (c.loop-next.invariant.leads first acts way) b.asks b.lines_are b.no_look);
      calls = omega (arith, c.begin.ensures.calls, c.loop-next.invariant.calls);
      same = λ some. absurd (some (ap (λ (r : Rest). r.asks) (sym (c.loop-next.invariant.same some)) ∙ b.asks));
    }
