use Rattle.std.proofs.Common.{◌≡◌, ◌∙◌, ◌++◌, List, ap, sym, subst, arith, None}
use Rattle.std.specs.Prelude.{OnOk, OnErr}
use Rattle.td_list.specs.Items.{Item, IsItem}
use Rattle.td_list.specs.Items.{weight_of}
use Rattle.td_list.proofs.Halves.{put_none}
use Rattle.td_list.proofs.Waiting.{nothing_waits}
use Rattle.td_list.proofs.buffered.BufferedSequence.push.Goals as goal

pub push-done-requires-clause-new : goal.push-done-requires-clause-new
push-done-requires-clause-new g c = λ x i j. c.requires.new x i
    (subst (IsItem x) (c.in_ok-flush.ensures.ok ∙ c.self.view_is) j)

pub push-done-requires-clause-light : goal.push-done-requires-clause-light
push-done-requires-clause-light g c =
    let was = ap weight_of (c.in_ok-flush.ensures.ok ∙ c.self.view_is) in
    omega (arith, c.requires.light)

pub invariant_of-self-2 : goal.invariant_of-self-2
invariant_of-self-2 g c = nothing_waits c.flush.new.self c.push-done.new.self c.in_ok-flush.ensures.none c.light.ensures

pub returns-clause-ok : goal.returns-clause-ok
returns-clause-ok g c =
    let list : List Item = c.push-done.new.self in
    let old : List Item = c.args.self.now in
    let piece : List Item = c.args.piece.now in
    subst (λ (xs : List Item). OnOk c.push-done.result (xs ≡ old ++ piece))
    (sym (put_none None list c.flush.new.self c.in_ok-flush.ensures.none))
    (subst (λ (ys : List Item). OnOk c.push-done.result (list ≡ ys ++ piece))
    (c.in_ok-flush.ensures.ok ∙ c.self.view_is) c.push-done.ensures.ok)

pub returns-clause-err : goal.returns-clause-err
returns-clause-err g c =
    let list : List Item = c.push-done.new.self in
    subst (λ (xs : List Item). OnErr c.push-done.result (xs ≡ c.args.self.now))
    (sym (put_none None list c.flush.new.self c.in_ok-flush.ensures.none))
    (subst (λ (ys : List Item). OnErr c.push-done.result (list ≡ ys))
    (c.in_ok-flush.ensures.ok ∙ c.self.view_is) c.push-done.ensures.err)
