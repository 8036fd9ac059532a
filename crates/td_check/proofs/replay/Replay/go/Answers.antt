use Rattle.std.proofs.Common.{Option, Some, ap, subst, ◌∙◌}
use Rattle.td_check.specs.Sites.{NextComesTo}
use Rattle.td_check.specs.declared.judged.Judged.{Judged}
use Rattle.td_check.specs.declared.judged.Judged.TheVariants as judged
use Rattle.td_check.proofs.Going.{going_on, gone_rests, gone_lost, gone_wrong}
use Rattle.td_check.proofs.replay.Replay.go.Goals as goal

pub returns-in-Some-Lost : goal.returns-in-Some-Lost
returns-in-Some-Lost g c =
    let next : NextComesTo c.args.site c.loop-self.self (Some judged.Lost) c.next.new.self =
    subst (λ (o : Option Judged). NextComesTo c.args.site c.loop-self.self o c.next.new.self)
    (c.in-Some-Lost.is ∙ ap Some c.in-Some-Lost.field-0-is) c.in_ok-next.ensures in
    let told = c.stopped.ensures in
    gone_lost c.args.site c.args.self.now c.loop-self.self c.next.new.self c.loop-self.looks c.loop-self.moved
    c.loop-self.invariant next.1 told.some c.requires.within told.value told.most next.0.0 next.0.1 c.stopped.result
    told.stopped

pub returns-in-Some-Wrong : goal.returns-in-Some-Wrong
returns-in-Some-Wrong g c =
    let next : NextComesTo c.args.site c.loop-self.self (Some judged.Wrong) c.next.new.self =
    subst (λ (o : Option Judged). NextComesTo c.args.site c.loop-self.self o c.next.new.self)
    (c.in-Some-Wrong.is ∙ ap Some c.in-Some-Wrong.field-0-is) c.in_ok-next.ensures in
    let told = c.stopped-in-Some-Wrong.ensures in
    gone_wrong c.args.site c.args.self.now c.loop-self.self c.next.new.self c.loop-self.looks c.loop-self.moved
    c.loop-self.invariant next.1 told.some c.requires.within told.value told.most next.0.0 next.0.1
    c.stopped-in-Some-Wrong.result told.stopped

pub returns-in-None : goal.returns-in-None
returns-in-None g c =
    gone_rests c.args.site c.args.self.now c.loop-self.self c.next.new.self c.loop-self.looks c.loop-self.moved
    c.loop-self.invariant
    (subst (λ (o : Option Judged). NextComesTo c.args.site c.loop-self.self o c.next.new.self) c.in-None.is
    c.in_ok-next.ensures)

pub returns-in-Some-Waits : goal.returns-in-Some-Waits
returns-in-Some-Waits g c =
    gone_rests c.args.site c.args.self.now c.loop-self.self c.next.new.self c.loop-self.looks c.loop-self.moved
    c.loop-self.invariant
    (subst (λ (o : Option Judged). NextComesTo c.args.site c.loop-self.self o c.next.new.self)
    (c.in-Some-Waits.is ∙ ap Some c.in-Some-Waits.field-0-is) c.in_ok-next.ensures)

pub loop-self-preserved : goal.loop-self-preserved
loop-self-preserved g c =
    going_on c.args.site c.args.self.now c.loop-self.self c.next.new.self c.loop-self.looks c.look.new.looks
    c.loop-self.moved c.loop-self.invariant
    (subst (λ (o : Option Judged). NextComesTo c.args.site c.loop-self.self o c.next.new.self)
    (c.in-Some-Done.is ∙ ap Some c.in-Some-Done.field-0-is) c.in_ok-next.ensures)
    c.look.ensures.value c.look.ensures.some c.requires.within c.look.ensures.most
    c.in_ok-look-in-Some-Done.ensures.ok
