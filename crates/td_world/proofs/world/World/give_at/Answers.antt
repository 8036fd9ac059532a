use Rattle.std.proofs.Common.{◌∙◌}
use Rattle.td_world.proofs.Passed.{own_passed, own_moves, own_answer}
use Rattle.td_world.proofs.world.World.give_at.Goals as goal

pub pass_over-requires-clause-passed : goal.pass_over-requires-clause-passed
pass_over-requires-clause-passed g c = own_passed c.args.to c.args.k c.args.self.now
    (c.is_from.ensures c.if-is_from.true)

pub returns-then-is_from-clause-given : goal.returns-then-is_from-clause-given
returns-then-is_from-clause-given g c = λ m sent.
    own_answer c.args.to m c.args.self.now (c.is_from.ensures c.if-is_from.true m sent)

pub returns-then-is_from-clause-ok : goal.returns-then-is_from-clause-ok
returns-then-is_from-clause-ok g c = λ m sent.
    c.pass_over.ensures.same ∙ own_moves c.args.to m c.args.self.now (c.is_from.ensures c.if-is_from.true m sent)
