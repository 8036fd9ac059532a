use Rattle.std.proofs.Common.{◌∙◌, sym, ap, is_some}
use Rattle.td_machine.specs.Hold.{Hold}
use Rattle.test_replica.proofs.Placed.{free_of, more_placed, no_some}
use Rattle.test_replica.proofs.vote.hold.Goals as goal

pub hold-requires-clause-free : goal.hold-requires-clause-free
hold-requires-clause-free c =
    free_of c.args.doc.now c.args.slot c.args.holds.now
    (sym c.held_over.ensures ∙ no_some c.held_over.result (sym c.is_some.ensures ∙ c.if-is_some.false))

pub returns : goal.returns
returns c =
    more_placed c.args.doc.now c.args.holds.now c.hold.new.self
    (record { proposal = c.in_ok-proposal.proposal; slot = c.args.slot }) c.requires
    (sym c.is_rooted.ensures ∙ c.if-not-is_rooted.false)
    (free_of c.args.doc.now c.args.slot c.args.holds.now
    (sym c.held_over.ensures ∙ no_some c.held_over.result (sym c.is_some.ensures ∙ c.if-is_some.false)))
    c.in_ok-hold.ensures.ok c.hold.ensures.order
