use Rattle.std.proofs.Common.{◌≡◌, ◌++◌, ◌∷◌, [], ℕ, List, false, nat_eq, nat_lt, length, sym, ap, ◌∙◌, rules}
use Rattle.td_clock.specs.Vector.{vector_get, vector_has}
use Rattle.td_op.specs.declared.input.Input.TheVariants.{Take}
use Rattle.td_op.specs.declared.message.Message.TheVariants.{Op as AnOp}
use Rattle.td_op.specs.Op.{OpValue}
use Rattle.td_machine.specs.Machine.{Machine, made}
use Rattle.td_machine.specs.Ready.{waits}
use Rattle.td_machine.specs.Step.{step}
use Rattle.td_store.specs.Lists.{OpsValue}
use Rattle.td_causal.specs.declared.offer.Offer.{Offer}
use Rattle.td_causal.specs.Offering.{offer_answer, kept_after}
use Rattle.td_causal.specs.Waiting.{ops_waiting, is_kept, put_in_order}
use Rattle.td_seat.proofs.Knowing.{kept_seat, not_again, late_machine}
use Rattle.td_seat.proofs.seat.Seat.know.Goals as goal

pub invariant_of-self-in-Later : goal.invariant_of-self-in-Later
invariant_of-self-in-Later g c =
    let r = c.self.inside.replica in
    let o = c.self.inside.outlines in
    let w = c.self.inside.waiting in
    let x : OpValue = c.args.outline.now in
    let sized : length x.deps ≡ r.machine.size = c.requires.sized ∙ ap (λ (m : Machine). m.size) (sym c.self.view_is) in
    let more : c.push.new.self.ops ≡ o.ops ++ x ∷ [] =
    c.push.ensures.ops ∙ ap (λ (p : OpsValue). p.ops ++ x ∷ []) c.in_ok-reserve.ensures.ops in
    let put : c.offer.new.self ≡ put_in_order (x.dot, length o.ops) w =
    c.in_ok-offer.ensures.kept ∙ ap (λ (a : Offer). kept_after a (x.dot, c.len-number.result) w) c.in-Later.is
    ∙ ap (λ (k : ℕ). put_in_order (x.dot, k) w)
    (c.len-number.ensures ∙ ap (λ (p : OpsValue). length p.ops) c.in_ok-reserve.ensures.ops) in
    kept_seat r o c.push.new.self w c.offer.new.self x c.self.invariant c.offer.ensures.op sized
    (c.push.ensures.size ∙ ap (λ (p : OpsValue). p.size) c.in_ok-reserve.ensures.ops) more put

pub returns-in-Repeat-clause-reply : goal.returns-in-Repeat-clause-reply
returns-in-Repeat-clause-reply g c =
    let r = c.self.inside.replica in
    let o = c.self.inside.outlines in
    let w = c.self.inside.waiting in
    let x : OpValue = c.args.outline.now in
    let sized : length x.deps ≡ r.machine.size = c.requires.sized ∙ ap (λ (m : Machine). m.size) (sym c.self.view_is) in
    let had : vector_has r.machine.have x.dot ≡ false = search rules in
    let quiet : waits x.dot (ops_waiting o.ops w) ≡ false = search rules in
    let apart : nat_eq x.dot.site r.machine.site ≡ false = search rules in
    let low : nat_lt (made r.machine) (vector_get x.deps r.machine.site) ≡ false = search rules in
    let is : c.in_ok-offer.field-0 ≡ offer_answer r.machine.have x (is_kept x.dot w) =
    c.in_ok-offer.ensures.answer
    ∙ ap (λ (have : List ℕ). offer_answer have x (is_kept x.dot w)) c.have-2.ensures in
    absurd (not_again r.machine o.ops w x c.in_ok-offer.field-0 r.machine.size c.self.invariant.stored
    sized had quiet apart low is c.in-Repeat.is)

pub returns-in-Repeat-clause-ok : goal.returns-in-Repeat-clause-ok
returns-in-Repeat-clause-ok g c not_new =
    let r = c.self.inside.replica in
    let o = c.self.inside.outlines in
    let w = c.self.inside.waiting in
    let x : OpValue = c.args.outline.now in
    let sized : length x.deps ≡ r.machine.size = c.requires.sized ∙ ap (λ (m : Machine). m.size) (sym c.self.view_is) in
    let had : vector_has r.machine.have x.dot ≡ false = search rules in
    let quiet : waits x.dot (ops_waiting o.ops w) ≡ false = search rules in
    let apart : nat_eq x.dot.site r.machine.site ≡ false = search rules in
    let low : nat_lt (made r.machine) (vector_get x.deps r.machine.site) ≡ false = search rules in
    let is : c.in_ok-offer.field-0 ≡ offer_answer r.machine.have x (is_kept x.dot w) =
    c.in_ok-offer.ensures.answer
    ∙ ap (λ (have : List ℕ). offer_answer have x (is_kept x.dot w)) c.have-2.ensures in
    absurd (not_again r.machine o.ops w x c.in_ok-offer.field-0 r.machine.size c.self.invariant.stored
    sized had quiet apart low is c.in-Repeat.is)

pub returns-in-Later-clause-ok : goal.returns-in-Later-clause-ok
returns-in-Later-clause-ok g c not_new =
    let r = c.self.inside.replica in
    let o = c.self.inside.outlines in
    let w = c.self.inside.waiting in
    let x : OpValue = c.args.outline.now in
    let sized : length x.deps ≡ r.machine.size = c.requires.sized ∙ ap (λ (m : Machine). m.size) (sym c.self.view_is) in
    let had : vector_has r.machine.have x.dot ≡ false = search rules in
    let quiet : waits x.dot (ops_waiting o.ops w) ≡ false = search rules in
    let apart : nat_eq x.dot.site r.machine.site ≡ false = search rules in
    let low : nat_lt (made r.machine) (vector_get x.deps r.machine.site) ≡ false = search rules in
    let is : c.in_ok-offer.field-0 ≡ offer_answer r.machine.have x (is_kept x.dot w) =
    c.in_ok-offer.ensures.answer
    ∙ ap (λ (have : List ℕ). offer_answer have x (is_kept x.dot w)) c.have-2.ensures in
    let more : c.push.new.self.ops ≡ o.ops ++ x ∷ [] =
    c.push.ensures.ops ∙ ap (λ (p : OpsValue). p.ops ++ x ∷ []) c.in_ok-reserve.ensures.ops in
    let put : c.offer.new.self ≡ put_in_order (x.dot, length o.ops) w =
    c.in_ok-offer.ensures.kept ∙ ap (λ (a : Offer). kept_after a (x.dot, c.len-number.result) w) c.in-Later.is
    ∙ ap (λ (k : ℕ). put_in_order (x.dot, k) w)
    (c.len-number.ensures ∙ ap (λ (p : OpsValue). length p.ops) c.in_ok-reserve.ensures.ops) in
    late_machine r.machine o.ops w x c.in_ok-offer.field-0 r.machine.size c.self.invariant.stored sized had quiet apart low is
    c.in-Later.is c.push.new.self.ops c.offer.new.self more put
    ∙ ap (λ (m : Machine). (step m (Take (AnOp x))).machine) c.self.view_is
