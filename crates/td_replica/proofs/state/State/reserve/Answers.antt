use Rattle.std.proofs.Common.{List, refl}
use Rattle.td_doc.specs.Document.{DocRow}
use Rattle.td_replica.proofs.Kept.{reserved}
use Rattle.td_replica.proofs.state.State.reserve.Goals as goal

pub invariant_of-self-in_err-reserve-2 : goal.invariant_of-self-in_err-reserve-2
invariant_of-self-in_err-reserve-2 g c =
    let s = c.self.inside in
    let rows : List DocRow = g.D.Doc.rows s.doc in
    reserved s.site rows s.have s.waiting s.holds c.reserve-2.new.self s.tally s.tally s.past c.reserve.new.self
    c.self.invariant c.reserve-2.ensures.holds c.reserve-2.ensures.by_place c.reserve-2.ensures.commits (refl, refl)
    c.reserve.ensures.before

pub invariant_of-self-2 : goal.invariant_of-self-2
invariant_of-self-2 g c =
    let s = c.self.inside in
    let rows : List DocRow = g.D.Doc.rows s.doc in
    reserved s.site rows s.have s.waiting s.holds c.reserve-2.new.self s.tally c.reserve-3.new.self s.past
    c.reserve.new.self c.self.invariant c.reserve-2.ensures.holds c.reserve-2.ensures.by_place
    c.reserve-2.ensures.commits c.reserve-3.ensures.sites c.reserve.ensures.before
