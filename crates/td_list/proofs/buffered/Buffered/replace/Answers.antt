use Rattle.std.proofs.Common.{◌≡◌, ◌≤◌, ◌∙◌, ◌++◌, List, ap, sym, subst, arith, None}
use Rattle.std.specs.Prelude.{OnOk, OnErr}
use Rattle.std.specs.Option.{ForSome}
use Rattle.td_list.specs.Items.{Item, IsItem, AreNew, items_before, items_from_end, place_of}
use Rattle.td_list.specs.Items.{replace, weight_of}
use Rattle.td_list.proofs.Halves.{put_none}
use Rattle.td_list.proofs.Waiting.{nothing_waits}
use Rattle.td_list.proofs.buffered.Buffered.replace.Goals as goal

pub replace-done-requires-clause-first : goal.replace-done-requires-clause-first
replace-done-requires-clause-first g c =
    subst (IsItem c.args.first) (sym (c.in_ok-flush.ensures.ok ∙ c.self.view_is)) c.requires.first

pub replace-done-requires-clause-end : goal.replace-done-requires-clause-end
replace-done-requires-clause-end g c = subst
    (λ (xs : List Item). ForSome c.args.end (λ x. IsItem x xs × (place_of c.args.first xs ≤ place_of x xs)))
    (sym (c.in_ok-flush.ensures.ok ∙ c.self.view_is)) c.requires.end

pub replace-done-requires-clause-new : goal.replace-done-requires-clause-new
replace-done-requires-clause-new g c = subst
    (λ (xs : List Item). AreNew c.args.piece.now (items_before c.args.first xs ++ items_from_end c.args.end xs))
    (sym (c.in_ok-flush.ensures.ok ∙ c.self.view_is)) c.requires.new

pub replace-done-requires-clause-light : goal.replace-done-requires-clause-light
replace-done-requires-clause-light g c =
    let was = ap weight_of (c.in_ok-flush.ensures.ok ∙ c.self.view_is) in
    omega (arith, c.requires.light)

pub invariant_of-self-2 : goal.invariant_of-self-2
invariant_of-self-2 g c =
    nothing_waits c.flush.new.self c.replace-done.new.self c.in_ok-flush.ensures.none c.light.ensures

pub returns-clause-ok : goal.returns-clause-ok
returns-clause-ok g c =
    let list : List Item = c.replace-done.new.self in
    let old : List Item = c.args.self.now in
    let piece : List Item = c.args.piece.now in
    subst (λ (xs : List Item). OnOk c.replace-done.result (xs ≡ replace c.args.first c.args.end piece old))
    (sym (put_none None list c.flush.new.self c.in_ok-flush.ensures.none))
    (subst (λ (ys : List Item). OnOk c.replace-done.result (list ≡ replace c.args.first c.args.end piece ys))
    (c.in_ok-flush.ensures.ok ∙ c.self.view_is) c.replace-done.ensures.ok)

pub returns-clause-err : goal.returns-clause-err
returns-clause-err g c =
    let list : List Item = c.replace-done.new.self in
    subst (λ (xs : List Item). OnErr c.replace-done.result (xs ≡ c.args.self.now))
    (sym (put_none None list c.flush.new.self c.in_ok-flush.ensures.none))
    (subst (λ (ys : List Item). OnErr c.replace-done.result (list ≡ ys))
    (c.in_ok-flush.ensures.ok ∙ c.self.view_is) c.replace-done.ensures.err)
