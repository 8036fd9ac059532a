use Rattle.std.proofs.Common.{◌≡◌, ◌∙◌, ℕ, Bool, length, sym, ap}
use Rattle.td_base.specs.Value.{DotValue}
use Rattle.td_machine.specs.Ready.{waits}
use Rattle.td_causal.specs.declared.offer.Offer.{Offer}
use Rattle.td_causal.specs.declared.offer.Offer.TheVariants.{Later}
use Rattle.td_causal.specs.Offering.{offer_answer, kept_after}
use Rattle.td_causal.specs.Waiting.{is_kept, put_in_order}
use Rattle.td_causal.proofs.Kept.{kept_waits}
use Rattle.td_replica.specs.Parts.{StateValue}
use Rattle.td_replica.proofs.Noting.{waits_too, wait_state}
use Rattle.td_replica.proofs.state.State.wait.Goals as goal

pub invariant_of-self-2 : goal.invariant_of-self-2
invariant_of-self-2 g c =
    let x = c.args.op.now in
    let w : DotValue × ℕ = (x.dot, c.kept-number.result) in
    let here : is_kept x.dot c.self.inside.waiting ≡ waits x.dot c.args.self.now.machine.waiting =
    kept_waits (length c.self.inside.have) c.self.inside.past.ops x.dot c.self.inside.waiting c.self.invariant.stored
    ∙ ap (λ (s : StateValue). waits x.dot s.machine.waiting) c.self.view_is in
    let later : c.in_ok-offer.field-0 ≡ Later =
    c.in_ok-offer.ensures.answer
    ∙ ap (λ (b : Bool). offer_answer c.self.inside.have x b) here
    ∙ ap (λ (s : StateValue). offer_answer s.machine.have x (waits x.dot c.args.self.now.machine.waiting))
    c.self.view_is
    ∙ c.requires.late in
    let waiting : c.offer.new.self ≡ put_in_order w c.self.inside.waiting =
    c.in_ok-offer.ensures.kept ∙ ap (λ (a : Offer). kept_after a w c.self.inside.waiting) later in
    let sized : length x.deps ≡ length c.self.inside.have =
    c.requires.sized ∙ sym (ap (λ (s : StateValue). s.machine.size) c.self.view_is) in
    rw (waiting, c.keep.ensures.past, c.kept-number.ensures)
    (waits_too c.self.inside.site (g.D.Doc.rows c.self.inside.doc) c.self.inside.have c.self.inside.waiting
    c.self.inside.holds c.self.inside.tally c.self.inside.past c.self.invariant x c.offer.ensures.op sized)

pub returns-clause-ok : goal.returns-clause-ok
returns-clause-ok g c =
    let x = c.args.op.now in
    let w : DotValue × ℕ = (x.dot, c.kept-number.result) in
    let here : is_kept x.dot c.self.inside.waiting ≡ waits x.dot c.args.self.now.machine.waiting =
    kept_waits (length c.self.inside.have) c.self.inside.past.ops x.dot c.self.inside.waiting c.self.invariant.stored
    ∙ ap (λ (s : StateValue). waits x.dot s.machine.waiting) c.self.view_is in
    let later : c.in_ok-offer.field-0 ≡ Later =
    c.in_ok-offer.ensures.answer
    ∙ ap (λ (b : Bool). offer_answer c.self.inside.have x b) here
    ∙ ap (λ (s : StateValue). offer_answer s.machine.have x (waits x.dot c.args.self.now.machine.waiting))
    c.self.view_is
    ∙ c.requires.late in
    let waiting : c.offer.new.self ≡ put_in_order w c.self.inside.waiting =
    c.in_ok-offer.ensures.kept ∙ ap (λ (a : Offer). kept_after a w c.self.inside.waiting) later in
    rw (waiting, c.keep.ensures.past, c.kept-number.ensures, ← c.self.view_is)
    (wait_state c.self.inside.site (g.D.Doc.rows c.self.inside.doc) c.self.inside.have c.self.inside.waiting
    c.self.inside.holds c.self.inside.tally c.self.inside.past c.self.invariant x)
