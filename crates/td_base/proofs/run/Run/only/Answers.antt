use Rattle.td_base.proofs.OnlyAtom.{last_within, several, only_one}
use Rattle.std.proofs.Common.{◌∙◌, ap, Some}
use Rattle.td_base.proofs.run.Run.only.Goals as goal

pub overflow_shr-self-inside : goal.overflow_shr-self-inside
overflow_shr-self-inside c = last_within c.self.inside.bytes c.self.inside.ends c.self.invariant

pub returns-then-self-last-ne0-clause-only : goal.returns-then-self-last-ne0-clause-only
returns-then-self-last-ne0-clause-only c =
    several c.self.inside.bytes c.self.inside.ends c.args.self.now c.self.invariant c.self.view_is
    c.if-self-last-ne0.true

pub padded_to-requires : goal.padded_to-requires
padded_to-requires c =
    (only_one c.self.inside.bytes c.self.inside.ends c.args.self.now c.self.invariant c.self.view_is
    c.if-self-last-ne0.false).parts

pub returns-clause-only : goal.returns-clause-only
returns-clause-only c = ap Some c.padded_to.ensures
    ∙ (only_one c.self.inside.bytes c.self.inside.ends c.args.self.now c.self.invariant c.self.view_is
    c.if-self-last-ne0.false).atom

pub returns-clause-run : goal.returns-clause-run
returns-clause-run c = rw c.padded_to.ensures
    (only_one c.self.inside.bytes c.self.inside.ends c.args.self.now c.self.invariant c.self.view_is
    c.if-self-last-ne0.false).run
