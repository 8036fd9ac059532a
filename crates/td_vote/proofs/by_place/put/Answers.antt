use Rattle.std.proofs.Common.{◌≡◌, ◌≤◌, List, true, false, length, subst}
use Rattle.std.specs.List.{AllWithin}
use Rattle.td_machine.specs.Hold.{Hold}
use Rattle.td_vote.specs.ByPlace.{place_before}
use Rattle.td_vote.proofs.Placed.{placed_more, same_more}
use Rattle.td_vote.proofs.by_place.put.Goals as goal

pub returns-clause-order : goal.returns-clause-order
returns-clause-order g c =
    let rows = g.D.Doc.rows c.args.doc.now in
    let held = c.args.held.now.items in
    let own : Hold = record { proposal = c.args.proposal; slot = c.args.slot.now } in
    let place = c.place_of-place.result in
    let is = c.deref.ensures.value in
    let e = c.place_of-place.ensures in
    rw c.in_ok-insert.ensures.items
    (placed_more rows held c.requires.apart c.requires.order own c.requires.rooted c.requires.free place
    (subst (λ (xs : List Hold). place ≤ length xs) is e.bound)
    (subst (λ (xs : List Hold). AllWithin (λ (h : Hold). place_before rows h.slot own.slot ≡ true) xs 0 place) is
    e.before)
    (subst
    (λ (xs : List Hold). AllWithin (λ (h : Hold). place_before rows h.slot own.slot ≡ false) xs place (length xs))
    is e.behind))

pub returns-clause-ok : goal.returns-clause-ok
returns-clause-ok g c =
    let own : Hold = record { proposal = c.args.proposal; slot = c.args.slot.now } in
    λ holds same.
    rw c.in_ok-insert.ensures.items (same_more c.args.held.now.items holds c.place_of-place.result own same)
