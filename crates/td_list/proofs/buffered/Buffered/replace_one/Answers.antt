use Rattle.std.proofs.Common.{◌≡◌, ◌∙◌, ◌++◌, List, ap, sym, subst, arith, None}
use Rattle.std.specs.Prelude.{OnOk, OnErr}
use Rattle.td_list.specs.Items.{Item, IsItem, AreNew, items_before, items_after}
use Rattle.td_list.specs.Items.{weight_of}
use Rattle.td_list.proofs.Halves.{put_none}
use Rattle.td_list.proofs.Waiting.{nothing_waits}
use Rattle.td_list.proofs.buffered.Buffered.replace_one.Goals as goal

pub replace_one-done-requires-clause-there : goal.replace_one-done-requires-clause-there
replace_one-done-requires-clause-there g c =
    subst (IsItem c.args.name) (sym (c.in_ok-flush.ensures.ok ∙ c.self.view_is)) c.requires.there

pub replace_one-done-requires-clause-new : goal.replace_one-done-requires-clause-new
replace_one-done-requires-clause-new g c = subst
    (λ (xs : List Item). AreNew c.args.piece.now (items_before c.args.name xs ++ items_after c.args.name xs))
    (sym (c.in_ok-flush.ensures.ok ∙ c.self.view_is)) c.requires.new

pub replace_one-done-requires-clause-light : goal.replace_one-done-requires-clause-light
replace_one-done-requires-clause-light g c =
    let was = ap weight_of (c.in_ok-flush.ensures.ok ∙ c.self.view_is) in
    omega (arith, c.requires.light)

pub invariant_of-self-2 : goal.invariant_of-self-2
invariant_of-self-2 g c =
    nothing_waits c.flush.new.self c.replace_one-done.new.self c.in_ok-flush.ensures.none c.light.ensures

pub returns-clause-ok : goal.returns-clause-ok
returns-clause-ok g c =
    let list : List Item = c.replace_one-done.new.self in
    let old : List Item = c.args.self.now in
    let piece : List Item = c.args.piece.now in
    subst (λ (xs : List Item). OnOk c.replace_one-done.result
    (xs ≡ items_before c.args.name old ++ (piece ++ items_after c.args.name old)))
    (sym (put_none None list c.flush.new.self c.in_ok-flush.ensures.none))
    (subst (λ (ys : List Item). OnOk c.replace_one-done.result
    (list ≡ items_before c.args.name ys ++ (piece ++ items_after c.args.name ys)))
    (c.in_ok-flush.ensures.ok ∙ c.self.view_is) c.replace_one-done.ensures.ok)

pub returns-clause-err : goal.returns-clause-err
returns-clause-err g c =
    let list : List Item = c.replace_one-done.new.self in
    subst (λ (xs : List Item). OnErr c.replace_one-done.result (xs ≡ c.args.self.now))
    (sym (put_none None list c.flush.new.self c.in_ok-flush.ensures.none))
    (subst (λ (ys : List Item). OnErr c.replace_one-done.result (list ≡ ys))
    (c.in_ok-flush.ensures.ok ∙ c.self.view_is) c.replace_one-done.ensures.err)
