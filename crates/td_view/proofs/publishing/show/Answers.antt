use Rattle.std.proofs.Common.{ap, ◌∙◌}
use Rattle.td_view.specs.Deeds.{State, state_of}
use Rattle.td_view.specs.Publishes.{changed_all}
use Rattle.td_view.proofs.Moves.{shows}
use Rattle.td_view.proofs.Deeding.{all_done}
use Rattle.td_view.proofs.Results.{if_ok}
use Rattle.td_view.proofs.Standing.{stands_next}
use Rattle.td_view.proofs.publishing.show.Goals as goal

pub publish_as-requires : goal.publish_as-requires
publish_as-requires g c next is =
    let a = c.args in
    let p = a.publishing.now in
    let r = c.requires in
    let x = a.press.desk.shown.value in
    let atoms = changed_all p.changes.now x.atoms in
    let done = all_done (state_of next) (state_of x) _ p.changes.now p.upto p.last p.count a.next.now is r.pending in
    shows _ _ x next (stands_next next p.upto p.last p.count atoms a.next.now done r.counted r.legal r.ends)
    (ap (λ (s : State). s.4.book) done ∙ r.book)

pub returns-clause-shown : goal.returns-clause-shown
returns-clause-shown g c =
    let a = c.args in
    let p = a.publishing.now in
    let x = a.press.desk.shown.value in
    let y = c.publish_as.result.0.desk.shown.value in
    if_ok c.publish_as.result.1 _ _ _
    (λ v. all_done (state_of y) (state_of x) _ p.changes.now p.upto p.last p.count a.next.now v.0 c.requires.pending)
    c.publish_as.ensures.values

pub returns-clause-stands : goal.returns-clause-stands
returns-clause-stands g c =
    let a = c.args in
    let p = a.publishing.now in
    let r = c.requires in
    let x = a.press.desk.shown.value in
    let y = c.publish_as.result.0.desk.shown.value in
    if_ok c.publish_as.result.1 _ _ _
    (λ v. stands_next y p.upto p.last p.count (changed_all p.changes.now x.atoms) a.next.now
    (all_done (state_of y) (state_of x) _ p.changes.now p.upto p.last p.count a.next.now v.0 r.pending) r.counted
    r.legal r.ends)
    c.publish_as.ensures.values
