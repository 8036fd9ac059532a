use Rattle.std.proofs.Common.{◌∙◌, List, ap, sym, subst, arith}
use Rattle.td_list.specs.Items.{Item, IsItem, put_at, put_before, weight_of}
use Rattle.td_list.specs.Buffered.{IsBuffered}
use Rattle.td_list.proofs.Waiting.{waits_in_all, weight_all, widened, put_waiting}
use Rattle.td_list.proofs.buffered.Buffered.put_within.Goals as goal

pub put_before-requires-clause-new : goal.put_before-requires-clause-new
put_before-requires-clause-new g c = λ x i j. c.requires.new x i
    (subst (IsItem x) c.self.view_is (waits_in_all c.self.inside.at c.self.inside.waiting c.self.inside.list x j))

pub put_before-requires-clause-light : goal.put_before-requires-clause-light
put_before-requires-clause-light g c =
    let one = weight_all c.self.inside.at c.self.inside.waiting c.self.inside.list in
    let two = ap weight_of c.self.view_is in
    omega (arith, c.requires.light)

pub invariant_of-self-then-not-branch : goal.invariant_of-self-then-not-branch
invariant_of-self-then-not-branch g c = subst (λ (xs : List Item). IsBuffered c.self.inside.at xs c.self.inside.list)
    (sym (c.in_ok-put_before.ensures.not c.if-not-branch.true)) c.self.invariant

pub returns-then-not-branch-clause-not : goal.returns-then-not-branch-clause-not
returns-then-not-branch-clause-not g c = λ e.
    let items : List Item = c.self.inside.list in
    ap (λ (xs : List Item). put_at c.self.inside.at xs items)
    (c.in_ok-put_before.ensures.not c.if-not-branch.true) ∙ c.self.view_is

pub invariant_of-self-2 : goal.invariant_of-self-2
invariant_of-self-2 g c =
    widened c.self.inside.at c.self.inside.waiting c.self.inside.list c.args.piece.now c.args.self.now
    c.put_before.new.self c.args.name c.self.invariant c.self.view_is c.requires.new c.requires.light
    (c.in_ok-put_before.ensures.put c.if-not-branch.false)

pub returns-clause-put : goal.returns-clause-put
returns-clause-put g c = λ t.
    let w : List Item = c.self.inside.waiting in
    let items : List Item = c.self.inside.list in
    let e = c.in_ok-put_before.ensures in
    ap (λ (xs : List Item). put_at c.self.inside.at xs items) (e.put c.if-not-branch.false)
    ∙ put_waiting c.self.inside.at w items c.self.invariant.new c.args.name c.args.piece.now
    (e.there c.if-not-branch.false)
    ∙ ap (put_before c.args.name c.args.piece.now) c.self.view_is
