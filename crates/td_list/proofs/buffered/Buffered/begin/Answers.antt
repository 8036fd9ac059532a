use Rattle.std.proofs.Common.{◌∙◌, ap, arith, None}
use Rattle.td_list.specs.Items.{put_before, weight_of}
use Rattle.td_list.proofs.Halves.{put_none}
use Rattle.td_list.proofs.Waiting.{nothing_waits, begun}
use Rattle.td_list.proofs.buffered.Buffered.begin.Goals as goal

pub invariant_of-self-in_err-begin : goal.invariant_of-self-in_err-begin
invariant_of-self-in_err-begin g c =
    let was = ap weight_of (c.in_ok-flush.ensures.ok ∙ c.self.view_is) in
    nothing_waits c.begin.new.self c.flush.new.list c.in_err-begin.ensures.err (omega (arith, c.requires.light))

pub invariant_of-self-then-not-branch : goal.invariant_of-self-then-not-branch
invariant_of-self-then-not-branch g c =
    let was = ap weight_of (c.in_ok-flush.ensures.ok ∙ c.self.view_is) in
    nothing_waits c.begin.new.self c.flush.new.list (c.in_ok-begin.ensures.not c.if-not-branch.true)
    (omega (arith, c.requires.light))

pub returns-then-not-branch-clause-not : goal.returns-then-not-branch-clause-not
returns-then-not-branch-clause-not g c = λ e.
    put_none None c.flush.new.list c.begin.new.self (c.in_ok-begin.ensures.not c.if-not-branch.true)
    ∙ c.in_ok-flush.ensures.ok ∙ c.self.view_is

pub invariant_of-self-2 : goal.invariant_of-self-2
invariant_of-self-2 g c =
    begun c.args.name c.begin.new.self c.flush.new.list c.args.self.now c.args.piece.now
    (c.in_ok-flush.ensures.ok ∙ c.self.view_is) (c.in_ok-begin.ensures.put c.if-not-branch.false) c.requires.there
    c.requires.new c.requires.light

pub returns-clause-put : goal.returns-clause-put
returns-clause-put g c = λ t.
    let is = c.in_ok-flush.ensures.ok ∙ c.self.view_is in
    let now = c.in_ok-begin.ensures.put c.if-not-branch.false in
    λ i. put_before c.args.name (now i) (is i)
