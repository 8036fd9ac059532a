use Rattle.std.proofs.Common.{refl, ap, arith}
use Rattle.td_history.proofs.Pasts.{reserved}
use Rattle.td_history.proofs.history.History.reserve.Goals as goal

pub invariant_of-self : goal.invariant_of-self
invariant_of-self c =
    let h = c.self.invariant in
    let log = c.reserve.ensures in
    reserved _ c.self.inside.log _ _ _ c.self.inside.entries _ _ _ h.own h.sending h.entering log.size log.ops refl
    refl refl refl refl
    (omega arith) (omega (arith, h.sent_room)) (omega arith)

pub invariant_of-self-in_err-reserve-2 : goal.invariant_of-self-in_err-reserve-2
invariant_of-self-in_err-reserve-2 c =
    let h = c.self.invariant in
    let log = c.reserve.ensures in
    let sent = c.reserve-2.ensures in
    reserved _ c.self.inside.log _ _ _ c.self.inside.entries _ _ _ h.own h.sending h.entering log.size log.ops
    sent.items refl refl refl refl
    (omega arith) (omega arith) (omega arith)

pub invariant_of-self-in_err-reserve-3 : goal.invariant_of-self-in_err-reserve-3
invariant_of-self-in_err-reserve-3 c =
    let h = c.self.invariant in
    let log = c.reserve.ensures in
    let sent = c.reserve-2.ensures in
    let entries = c.reserve-3.ensures.entries in
    reserved _ c.self.inside.log _ _ _ c.self.inside.entries _ _ _ h.own h.sending h.entering log.size log.ops
    sent.items
    (ap (λ e. e.entries) entries) (ap (λ e. e.texts) entries) (ap (λ e. e.offered) entries) (ap (λ e. e.wholes) entries)
    (omega arith) (omega arith) (omega arith)

pub invariant_of-self-2 : goal.invariant_of-self-2
invariant_of-self-2 c =
    let h = c.self.invariant in
    let log = c.reserve.ensures in
    let sent = c.reserve-2.ensures in
    let entries = c.reserve-3.ensures.entries in
    reserved _ c.self.inside.log _ _ _ c.self.inside.entries _ _ _ h.own h.sending h.entering log.size log.ops
    sent.items
    (ap (λ e. e.entries) entries) (ap (λ e. e.texts) entries) (ap (λ e. e.offered) entries) (ap (λ e. e.wholes) entries)
    (omega (arith, c.in_ok-reserve.ensures.room)) (omega (arith, c.in_ok-reserve-2.ensures.room))
    (omega (arith, c.in_ok-reserve-3.ensures.room))
