use Rattle.std.proofs.Common.{◌≡◌, ◌+◌, ◌∙◌, ◌++◌, ℕ, List, length, drop, ap, sym, subst, take-append-drop}
use Rattle.std.proofs.Common.{append_assoc, Option, true≢false}
use Rattle.std.proofs.lemmas.List.{drop-drop, nil_from_length}
use Rattle.td_list.specs.Items.{Item, IsItem, items_from, items_from_end}
use Rattle.td_list.proofs.Parted.{drop_place}
use Rattle.td_list.proofs.Halves.{put_none}
use Rattle.td_list.proofs.Waiting.{item_all, back_first, from_waiting, from_last, lent_some, lent_whole}
use Rattle.td_list.proofs.buffered.Buffered.lend_from.Goals as goal

pub returns-in-Some-clause-parts : goal.returns-in-Some-clause-parts
returns-in-Some-clause-parts g c =
    let at : Option ℕ = c.self.inside.at in
    let w : List Item = c.self.inside.waiting in
    let items : List Item = c.self.inside.list in
    let k : List Item = items_from_end at items in
    let x : ℕ = c.args.name in
    let lent : List Item = c.lend_from-lent.result.now in
    let n : ℕ = length lent in
    let place : ℕ = c.in-Some.place in
    let rest : List Item = drop (place + n) w in
    let h = c.in-Some.ensures.there in
    let whole : items_from x w ≡ lent ++ rest =
    sym (drop_place x w h) ∙ ap (λ (m : ℕ). drop m w) (sym c.in-Some.ensures.place)
    ∙ sym (take-append-drop n (drop place w))
    ∙ (λ i. sym c.lend_from-lent.ensures.part i ++ drop-drop n place w i) in (
      rest ++ k,
      ap (items_from x) (sym c.self.view_is) ∙ from_waiting at w items c.self.invariant.new x h
          ∙ ap (λ (xs : List Item). xs ++ k) whole ∙ append_assoc lent rest k,
      c.from_waiting-behind.ensures k (back_first at items c.self.invariant.there),
    )

pub lend_from-behind-requires : goal.lend_from-behind-requires
lend_from-behind-requires g c = item_all c.self.inside.at c.self.inside.waiting c.self.inside.list c.args.name
    (subst (IsItem c.args.name) (sym c.self.view_is) c.requires) c.in-None.ensures.none

pub is_front-requires-clause-there : goal.is_front-requires-clause-there
is_front-requires-clause-there g c = item_all c.self.inside.at c.self.inside.waiting c.self.inside.list c.args.name
    (subst (IsItem c.args.name) (sym c.self.view_is) c.requires) c.in-None.ensures.none

pub returns-then-len-eq0-clause-parts : goal.returns-then-len-eq0-clause-parts
returns-then-len-eq0-clause-parts g c =
    let w : List Item = c.self.inside.waiting in
    let x : ℕ = c.args.name in
    let p = c.lend_from-behind.ensures.parts in (
      p.0,
      ap (items_from x) (sym c.self.view_is ∙ put_none c.self.inside.at c.self.inside.list w
          (nil_from_length w (sym c.len.ensures.value ∙ c.if-len-eq0.true))) ∙ p.1,
      p.2,
    )

pub returns-then-not-is_front-clause-parts : goal.returns-then-not-is_front-clause-parts
returns-then-not-is_front-clause-parts g c =
    let x : ℕ = c.args.name in
    let p = c.lend_from-behind.ensures.parts in (
      p.0,
      ap (items_from x) (sym c.self.view_is)
          ∙ from_last c.self.inside.at c.self.inside.waiting c.self.inside.list x c.in-None.ensures.none
          (λ i. true≢false (sym (c.is_front.ensures.1 i) ∙ c.if-not-is_front.true)) ∙ p.1,
      p.2,
    )

pub returns-else-not-is_front-clause-some : goal.returns-else-not-is_front-clause-some
returns-else-not-is_front-clause-some g c =
    let p = c.lend_from-behind.ensures.parts in
    lent_some c.self.inside.at c.self.inside.waiting c.self.inside.list c.self.invariant.there c.args.name
    (c.is_front.ensures.0 c.if-not-is_front.false) c.lend_from-behind.result.0.now p.0 c.up_to-next.result.0.now
    c.up_to-next.result.1 c.or_waiting-behind.result p.1 c.lend_from-behind.ensures.some c.up_to-next.ensures.items
    (c.up_to-next.ensures.next p.0 (sym p.2)) c.or_waiting-behind.ensures.here c.or_waiting-behind.ensures.elsewhere

pub returns-else-not-is_front-clause-parts : goal.returns-else-not-is_front-clause-parts
returns-else-not-is_front-clause-parts g c =
    let x : ℕ = c.args.name in
    let p = c.lend_from-behind.ensures.parts in
    let r = lent_whole c.self.inside.at c.self.inside.waiting c.self.inside.list c.self.invariant.there x
    (c.is_front.ensures.0 c.if-not-is_front.false) c.lend_from-behind.result.0.now p.0 c.up_to-next.result.0.now
    c.up_to-next.result.1 c.or_waiting-behind.result p.1 c.lend_from-behind.ensures.some c.up_to-next.ensures.items
    (c.up_to-next.ensures.next p.0 (sym p.2)) c.or_waiting-behind.ensures.here
    c.or_waiting-behind.ensures.elsewhere in
    (r.0, ap (items_from x) (sym c.self.view_is) ∙ r.1, r.2)
