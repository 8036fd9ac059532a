use Rattle.std.proofs.Common.{◌≡◌, ◌∙◌, List, ap, sym, subst, arith, None}
use Rattle.std.specs.Prelude.{OnOk, OnErr}
use Rattle.td_list.specs.Items.{Item, IsItem}
use Rattle.td_list.specs.Items.{put_before, weight_of}
use Rattle.td_list.proofs.Halves.{put_none}
use Rattle.td_list.proofs.Waiting.{nothing_waits}
use Rattle.td_list.proofs.buffered.Buffered.put_now.Goals as goal

pub insert_before-done-requires-clause-there : goal.insert_before-done-requires-clause-there
insert_before-done-requires-clause-there g c =
    subst (IsItem c.args.name) (sym (c.in_ok-flush.ensures.ok ∙ c.self.view_is)) c.requires.there

pub insert_before-done-requires-clause-new : goal.insert_before-done-requires-clause-new
insert_before-done-requires-clause-new g c = λ x i j. c.requires.new x i
    (subst (IsItem x) (c.in_ok-flush.ensures.ok ∙ c.self.view_is) j)

pub insert_before-done-requires-clause-light : goal.insert_before-done-requires-clause-light
insert_before-done-requires-clause-light g c =
    let was = ap weight_of (c.in_ok-flush.ensures.ok ∙ c.self.view_is) in
    omega (arith, c.requires.light)

pub invariant_of-self-2 : goal.invariant_of-self-2
invariant_of-self-2 g c =
    nothing_waits c.flush.new.self c.insert_before-done.new.self c.in_ok-flush.ensures.none c.light.ensures

pub returns-clause-ok : goal.returns-clause-ok
returns-clause-ok g c =
    let list : List Item = c.insert_before-done.new.self in
    let old : List Item = c.args.self.now in
    let piece : List Item = c.args.piece.now in
    subst (λ (xs : List Item). OnOk c.insert_before-done.result (xs ≡ put_before c.args.name piece old))
    (sym (put_none None list c.flush.new.self c.in_ok-flush.ensures.none))
    (subst (λ (ys : List Item). OnOk c.insert_before-done.result (list ≡ put_before c.args.name piece ys))
    (c.in_ok-flush.ensures.ok ∙ c.self.view_is) c.insert_before-done.ensures.ok)

pub returns-clause-err : goal.returns-clause-err
returns-clause-err g c =
    let list : List Item = c.insert_before-done.new.self in
    subst (λ (xs : List Item). OnErr c.insert_before-done.result (xs ≡ c.args.self.now))
    (sym (put_none None list c.flush.new.self c.in_ok-flush.ensures.none))
    (subst (λ (ys : List Item). OnErr c.insert_before-done.result (list ≡ ys))
    (c.in_ok-flush.ensures.ok ∙ c.self.view_is) c.insert_before-done.ensures.err)
