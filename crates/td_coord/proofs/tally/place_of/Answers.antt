use Rattle.std.proofs.Common.{rules, sym}
use Rattle.std.proofs.lemmas.Fn.{always_returns_same}
use Rattle.td_base.specs.Order.{dot_cmp}
use Rattle.td_machine.specs.Decision.{Ballot}
use Rattle.td_coord.proofs.Rising.{place_behind, place_found}
use Rattle.td_coord.proofs.tally.place_of.Goals as goal

pub returns-in-Less : goal.returns-in-Less
returns-in-Less c =
    place_behind c.args.proposal c.args.ballots.now c.in-Some.last.now c.requires (sym c.in-Some.ensures.value)
    (search rules)

pub returns-in-Greater : goal.returns-in-Greater
returns-in-Greater c =
    place_found c.args.proposal c.args.ballots.now c.binary_search_by.result c.requires
    c.binary_search_by.ensures.bound
    (c.binary_search_by.ensures.position (λ (b : Ballot). dot_cmp b.proposal c.args.proposal)
    (always_returns_same _ _ _ (λ a r f k. search rules)))
