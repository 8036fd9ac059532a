use Rattle.std.proofs.Common.{◌≡◌, ◌∙◌, ℕ, List, length, refl, sym, ap, subst}
use Rattle.td_base.specs.Value.{DotValue}
use Rattle.td_clock.specs.Vector.{vector_bump}
use Rattle.td_doc.specs.Document.{DocRow}
use Rattle.td_op.specs.Op.{OpValue}
use Rattle.td_machine.specs.Counts.{IsNext}
use Rattle.td_store.specs.Inserting.{inserting}
use Rattle.td_history.specs.Past.{Past, IsNextIn}
use Rattle.td_replica.specs.declared.state.Origin.TheVariants.{Here}
use Rattle.td_replica.specs.Parts.{StateValue, IsState, logged, machine_of, with_note}
use Rattle.td_replica.proofs.Noting.{next_in, noted, note_machine}
use Rattle.td_replica.proofs.state.State.note_insertion.Goals as goal

pub make_insertion-requires-clause-next : goal.make_insertion-requires-clause-next
make_insertion-requires-clause-next g c =
    let have : List ℕ = c.self.inside.have in
    let log : List OpValue = c.self.inside.past.log in
    let x : OpValue = inserting c.args.dot have c.args.slot.now c.args.run.now in
    let next : IsNext have x =
    subst (λ (v : List ℕ). IsNext v (inserting c.args.dot v c.args.slot.now c.args.run.now))
    (sym (ap (λ (s : StateValue). s.machine.have) c.self.view_is)) c.requires.next in
    let here : IsNextIn (length have) x.dot.site log x =
    next_in have log x c.self.invariant.counted c.self.invariant.in_turn next tt in
    subst (λ (n : ℕ). IsNextIn n c.self.inside.past.room_site log x) (sym c.self.invariant.past_size)
    (subst (λ (s : ℕ). IsNextIn (length have) s log x)
    (sym (ap (λ (s : StateValue). s.room.site) c.self.view_is ∙ c.requires.site)) here)

pub invariant_of-self : goal.invariant_of-self
invariant_of-self g c =
    let s = c.self.inside in
    let have : List ℕ = c.self.inside.have in
    let x : OpValue = inserting c.args.dot have c.args.slot.now c.args.run.now in
    let next : IsNext have x =
    subst (λ (v : List ℕ). IsNext v (inserting c.args.dot v c.args.slot.now c.args.run.now))
    (sym (ap (λ (s : StateValue). s.machine.have) c.self.view_is)) c.requires.next in
    let site : c.dot.inside.site ≡ c.args.dot.site = ap (λ (d : DotValue). d.site) c.dot.view_is in
    let rows : List DocRow = g.D.Doc.rows s.doc in
    subst (λ (p : Past). IsState s.site rows c.bump.new.self s.waiting s.holds s.tally p) (sym c.make_insertion.ensures)
    (subst (λ (v : List ℕ). IsState s.site rows v s.waiting s.holds s.tally (logged Here x s.past))
    (sym (c.bump.ensures ∙ ap (λ (k : ℕ). vector_bump have k) site))
    (noted s.site rows have s.waiting s.holds s.holds s.tally s.past Here x c.self.invariant next tt refl
    c.self.invariant.kept))

pub returns-clause-machine : goal.returns-clause-machine
returns-clause-machine g c =
    let s = c.self.inside in
    let x : OpValue = inserting c.args.dot s.have c.args.slot.now c.args.run.now in
    let rows : List DocRow = g.D.Doc.rows s.doc in
    let site : c.dot.inside.site ≡ c.args.dot.site = ap (λ (d : DotValue). d.site) c.dot.view_is in
    ap (λ (p : Past). machine_of s.site rows c.bump.new.self s.waiting s.holds s.tally p) c.make_insertion.ensures
    ∙ ap (λ (v : List ℕ). machine_of s.site rows v s.waiting s.holds s.tally (logged Here x s.past))
    (c.bump.ensures ∙ ap (λ (k : ℕ). vector_bump s.have k) site)
    ∙ note_machine s.site rows s.have s.waiting s.holds s.tally s.past c.self.invariant Here x s.holds refl
    ∙ ap (λ (v : StateValue).
    with_note Here (inserting c.args.dot v.machine.have c.args.slot.now c.args.run.now) v.machine) c.self.view_is
