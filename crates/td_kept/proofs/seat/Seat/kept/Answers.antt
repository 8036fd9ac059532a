use Rattle.std.proofs.Common.{rules, ◌≡◌, Some}
use Rattle.td_kept.proofs.Places.{leaves_whole, whole_in}
use Rattle.td_kept.proofs.seat.Seat.kept.Goals as goal

pub returns-clause-journal : goal.returns-clause-journal
returns-clause-journal g c =
    let k = c.unwrap.result.now in
    let there : c.self.inside.kept ≡ Some c.unwrap.result.now = search rules in
    leaves_whole k (whole_in c.self.inside.kept k there c.self.invariant)
