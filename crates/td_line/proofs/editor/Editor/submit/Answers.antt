use Rattle.std.proofs.Common.{refl, ◌<◌, ◌≤◌, ◌^◌, arith}
use Rattle.td_line.proofs.Editing.{pending, answered, sent_ask, no_place, with_ask_is, later_ask}
use Rattle.td_line.proofs.editor.Editor.submit.Goals as goal

pub returns-then-self-from-clause-submitted : goal.returns-then-self-from-clause-submitted
returns-then-self-from-clause-submitted g c =
    let few : c.self.inside.made < 2 ^ 64 = omega (arith, c.from.type_inv, c.from.ensures) in
    let less : c.self.inside.polled < c.self.inside.made = omega (arith, c.from.ensures, c.if-self-from.true) in
    rw (← c.self.view_is) ((pending _ _ c.self.invariant.0 c.self.invariant.1 few less, refl), refl)

pub returns-then-self-clause-submitted : goal.returns-then-self-clause-submitted
returns-then-self-clause-submitted g c =
    let most : c.self.inside.made ≤ c.self.inside.polled = omega (arith, c.from.ensures, c.if-self-from.false) in
    rw (← c.self.view_is) (
      (
        answered _ _ c.self.invariant.0 c.self.invariant.1 most,
        omega (arith, c.self.invariant.0.within),
        refl,
      ),
      refl,
    )

pub invariant_of-self : goal.invariant_of-self
invariant_of-self g c =
    rw c.in-Ok.ensures.sent
    (with_ask_is _ c.args.request c.self.invariant.0 c.if-self.false, c.self.invariant.1)

pub returns-in-Ok-clause-submitted : goal.returns-in-Ok-clause-submitted
returns-in-Ok-clause-submitted g c =
    let most : c.self.inside.made ≤ c.self.inside.polled = omega (arith, c.from.ensures, c.if-self-from.false) in
    rw (← c.self.view_is, c.in-Ok.ensures.sent)
    (sent_ask _ c.args.request (answered _ _ c.self.invariant.0 c.self.invariant.1 most) c.if-self.false)

pub returns-in-Ok-clause-later : goal.returns-in-Ok-clause-later
returns-in-Ok-clause-later g c = rw (← c.self.view_is, c.in-Ok.ensures.sent) (later_ask _ c.args.request)

pub returns-in-Err-clause-submitted : goal.returns-in-Err-clause-submitted
returns-in-Err-clause-submitted g c =
    let is = c.self.invariant.0 in
    let most : c.self.inside.made ≤ c.self.inside.polled = omega (arith, c.from.ensures, c.if-self-from.false) in
    rw (← c.self.view_is, c.in-Err.ensures.sent.1)
    (no_place _ c.args.request is (answered _ _ is c.self.invariant.1 most) c.if-self.false c.in-Err.ensures.full)

pub returns-in-Ok-clause-editor : goal.returns-in-Ok-clause-editor
returns-in-Ok-clause-editor g c =
    rw c.in-Ok.ensures.sent (with_ask_is _ c.args.request c.self.invariant.0 c.if-self.false)
