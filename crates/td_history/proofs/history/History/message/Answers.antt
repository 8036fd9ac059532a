use Rattle.std.proofs.Common.{◌-◌, ◌∙◌, Some, length, sym, ap, arith}
use Rattle.std.specs.Option.{option_map}
use Rattle.td_op.specs.declared.message.Message.TheVariants.{Op, Vote}
use Rattle.td_history.specs.declared.message.CompactMessage.TheVariants.{Op as CompactOp, Vote as CompactVote}
use Rattle.td_base.specs.Lists.{kth}
use Rattle.td_history.proofs.Pasts.{sent_is, sent_within}
use Rattle.td_history.proofs.Standing.{stand_length}
use Rattle.td_history.proofs.history.History.message.Goals as goal

pub at-requires : goal.at-requires
at-requires c =
    let same = stand_length _ _ _ c.self.invariant.sending ∙ ap (λ v. length v.sent) c.self.view_is in
    omega (arith, c.requires.some, c.requires.within)

pub returns-in-Vote : goal.returns-in-Vote
returns-in-Vote c =
    sym (ap (λ v. Some (Vote v)) c.vote.ensures
    ∙ (sent_is _ _ c.args.k (Some (CompactVote c.in-Vote.vote)) c.requires.some c.self.invariant.sending
    (sym (ap Some c.in-Vote.is) ∙ sym c.at.ensures)
    ∙ ap (λ v. kth c.args.k v.sent) c.self.view_is))

pub at-requires-2 : goal.at-requires-2
at-requires-2 c =
    sent_within _ _ (c.args.k - 1) _ c.self.invariant.sending (sym (ap Some c.in-Op.is) ∙ sym c.at.ensures)

pub returns : goal.returns
returns c =
    sym (sym (ap (option_map Op) c.at-2.ensures)
    ∙ (sent_is _ _ c.args.k (Some (CompactOp c.in-Op.number)) c.requires.some c.self.invariant.sending
    (sym (ap Some c.in-Op.is) ∙ sym c.at.ensures)
    ∙ ap (λ v. kth c.args.k v.sent) c.self.view_is))
