use Rattle.std.proofs.Common.{◌<◌, ◌≤◌, ◌-◌, length, arith}
use Rattle.td_vote.proofs.Beside.{beside_is}
use Rattle.td_vote.proofs.by_place.beside.Goals as goal
use Rattle.td_vote.proofs.by_place.beside.Goals.{then-place-held, else-place-held}

pub returns : goal.returns
returns g c =
    let held = c.args.held.now in
    let i = c.place_of-place.result in
    let from = c.saturating_sub-from.result in
    let to = c.if-place-held.to in
    let e = c.place_of-place.ensures in
    let low : from ≤ i - 1 = omega (arith, c.saturating_sub-from.ensures) in
    let past : i < length held → i < to =
    elim c.if-place-held.branch [
      | then-place-held w ↦ λ h. omega (arith, w.to-is)
      | else-place-held w ↦ λ h. omega (arith, w.if-place-held.false, w.to-is, h)
    ] in
    let upto : i ≤ to =
    elim c.if-place-held.branch [
      | then-place-held w ↦ omega (arith, w.to-is)
      | else-place-held w ↦ omega (arith, w.to-is)
    ] in
    beside_is (g.D.Doc.rows c.args.doc.now) c.requires.apart.document c.args.slot.now held c.requires.order
    c.requires.apart.apart i e.bound e.before e.behind from to low past upto
