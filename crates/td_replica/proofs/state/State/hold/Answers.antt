use Rattle.std.proofs.Common.{◌≤◌, List, sym, subst}
use Rattle.td_doc.specs.Document.{DocRow}
use Rattle.td_vote.specs.ByPlace.{AreSame}
use Rattle.td_replica.specs.Parts.{StateValue, MayHold}
use Rattle.td_replica.proofs.Kept.{found_room, with_kept}
use Rattle.td_replica.proofs.state.State.hold.Goals as goal

pub hold-requires : goal.hold-requires
hold-requires g c =
    let may : MayHold (g.D.Doc.rows c.self.inside.doc) c.args.slot.now c.self.inside.holds.holds =
    subst (λ (s : StateValue). MayHold s.machine.doc c.args.slot.now s.machine.holds) (sym c.self.view_is)
    c.requires.may in
    record {
      placed = record { apart = may.apart; order = c.self.invariant.kept.order };
      rooted = may.rooted;
      free = may.free;
    }

pub invariant_of-self : goal.invariant_of-self
invariant_of-self g c =
    let s = c.self.inside in
    let rows : List DocRow = g.D.Doc.rows s.doc in
    let more = c.hold.new.self in
    let some : 1 ≤ s.holds.hold_places =
    subst (λ (v : StateValue). 1 ≤ v.room.holds) (sym c.self.view_is) c.requires.place in
    with_kept s.site rows rows s.have s.waiting s.holds more s.tally s.past c.self.invariant c.hold.ensures.commits
    (record {
      same = found_room c.hold.result s.holds.hold_places (AreSame more.by_place more.holds) c.hold.ensures.same
          c.hold.ensures.memory some;
      order = c.hold.ensures.order;
    })
