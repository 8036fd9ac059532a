use Rattle.std.proofs.Common.{◌≡◌, ◌∙◌, ℕ, List, length, sym, ap, subst}
use Rattle.std.specs.Prelude.{IfSome}
use Rattle.td_base.specs.Value.{DotValue}
use Rattle.td_clock.specs.Vector.{vector_bump}
use Rattle.td_doc.specs.Document.{DocRow}
use Rattle.td_op.specs.Op.{OpValue}
use Rattle.td_machine.specs.Counts.{IsNext}
use Rattle.td_history.specs.Past.{Past, IsNextIn, IsUndecided, decided_by}
use Rattle.td_replica.specs.Parts.{StateValue, IsState, logged, machine_of, with_note}
use Rattle.td_replica.proofs.Noting.{next_in, noted, note_machine}
use Rattle.td_replica.proofs.state.State.note.Goals as goal

pub log-requires-clause-next : goal.log-requires-clause-next
log-requires-clause-next g c =
    let x : OpValue = c.args.op.now in
    let have : List ℕ = c.self.inside.have in
    let log : List OpValue = c.self.inside.past.log in
    let next : IsNext have x =
    subst (λ (v : List ℕ). IsNext v x) (sym (ap (λ (s : StateValue). s.machine.have) c.self.view_is))
    c.requires.next in
    let decides : IfSome (decided_by x.body) (IsUndecided log) =
    subst (λ (l : List OpValue). IfSome (decided_by x.body) (IsUndecided l))
    (sym (ap (λ (s : StateValue). s.machine.log) c.self.view_is)) c.requires.decides in
    let here : IsNextIn (length have) x.dot.site log x =
    next_in have log x c.self.invariant.counted c.self.invariant.in_turn next decides in
    subst (λ (n : ℕ). IsNextIn n c.self.inside.past.room_site log x) (sym c.self.invariant.past_size)
    (subst (λ (s : ℕ). IsNextIn (length have) s log x)
    (sym (ap (λ (s : StateValue). s.room.site) c.self.view_is ∙ c.requires.site)) here)

pub invariant_of-self : goal.invariant_of-self
invariant_of-self g c =
    let x : OpValue = c.args.op.now in
    let rows : List DocRow = g.D.Doc.rows c.self.inside.doc in
    let have : List ℕ = c.self.inside.have in
    let next : IsNext have x =
    subst (λ (v : List ℕ). IsNext v x) (sym (ap (λ (s : StateValue). s.machine.have) c.self.view_is))
    c.requires.next in
    let decides : IfSome (decided_by x.body) (IsUndecided c.self.inside.past.log) =
    subst (λ (l : List OpValue). IfSome (decided_by x.body) (IsUndecided l))
    (sym (ap (λ (s : StateValue). s.machine.log) c.self.view_is)) c.requires.decides in
    let site : c.bump.inside.site ≡ x.dot.site =
    ap (λ (d : DotValue). d.site) c.bump.view_is ∙ ap (λ (d : DotValue). d.site) c.dot.ensures.dot in
    subst
    (λ (p : Past).
    IsState c.self.inside.site rows c.bump-2.new.self c.self.inside.waiting c.end_hold.new.holds c.self.inside.tally p)
    (sym c.log.ensures)
    (subst
    (λ (v : List ℕ).
    IsState c.self.inside.site rows v c.self.inside.waiting c.end_hold.new.holds c.self.inside.tally
    (logged c.args.origin x c.self.inside.past))
    (sym (c.bump-2.ensures ∙ ap (λ (k : ℕ). vector_bump have k) site))
    (noted c.self.inside.site rows have c.self.inside.waiting c.self.inside.holds c.end_hold.new.holds
    c.self.inside.tally c.self.inside.past c.args.origin x c.self.invariant next decides c.end_hold.ensures.commits
    (c.end_hold.ensures.kept rows c.self.invariant.kept)))

pub returns-clause-machine : goal.returns-clause-machine
returns-clause-machine g c =
    let x : OpValue = c.args.op.now in
    let s = c.self.inside in
    let past : Past = logged c.args.origin x s.past in
    let rows : List DocRow = g.D.Doc.rows s.doc in
    let site : c.bump.inside.site ≡ x.dot.site =
    ap (λ (d : DotValue). d.site) c.bump.view_is ∙ ap (λ (d : DotValue). d.site) c.dot.ensures.dot in
    ap (λ (p : Past). machine_of s.site rows c.bump-2.new.self s.waiting c.end_hold.new.holds s.tally p) c.log.ensures
    ∙ ap (λ (v : List ℕ). machine_of s.site rows v s.waiting c.end_hold.new.holds s.tally past)
    (c.bump-2.ensures ∙ ap (λ (k : ℕ). vector_bump s.have k) site)
    ∙ note_machine s.site rows s.have s.waiting s.holds s.tally s.past c.self.invariant c.args.origin x
    c.end_hold.new.holds c.end_hold.ensures.holds
    ∙ ap (λ (v : StateValue). with_note c.args.origin x v.machine) c.self.view_is
