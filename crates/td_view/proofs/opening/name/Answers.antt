use Rattle.std.proofs.Common.{ap}
use Rattle.td_view.specs.Deeds.{State, state_of}
use Rattle.td_view.proofs.Moves.{names}
use Rattle.td_view.proofs.Deeding.{none_done}
use Rattle.td_view.proofs.Standing.{stands_next}
use Rattle.td_view.proofs.opening.name.Goals as goal

pub publish_as-requires : goal.publish_as-requires
publish_as-requires g c next is =
    let x = c.args.press.desk.shown.value in
    let s = c.requires.stands in
    let same = none_done (state_of next) (state_of x) _ is c.requires.nothing in
    names _ _ x next (stands_next next x.upto x.last x.count x.atoms x.past same s.counted s.legal s.ends)
    (ap (λ (t : State). t.4.book) same)
