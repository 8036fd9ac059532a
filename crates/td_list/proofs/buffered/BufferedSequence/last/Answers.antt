use Rattle.std.proofs.Common.{◌-◌, ◌∙◌, ℕ, List, drop, ap, sym, arith, Option}
use Rattle.std.proofs.lemmas.List.{nil_from_length}
use Rattle.td_list.specs.Items.{Item, put_at, first_name, last_name}
use Rattle.td_list.proofs.Ends.{last_at}
use Rattle.td_list.proofs.Found.{last-behind}
use Rattle.td_list.proofs.Halves.{put_none}
use Rattle.td_list.proofs.Waiting.{last_some}
use Rattle.td_list.proofs.buffered.BufferedSequence.last.Goals as goal

pub returns-then-len-eq0 : goal.returns-then-len-eq0
returns-then-len-eq0 g c =
    let w : List Item = c.self.inside.waiting in
    c.last.ensures
    ∙ ap last_name (sym (put_none c.self.inside.at c.self.inside.list w
    (nil_from_length w (sym c.len-len.ensures.value ∙ c.if-len-eq0.true))) ∙ c.self.view_is)

pub returns-in-Some : goal.returns-in-Some
returns-in-Some g c =
    let w : List Item = c.self.inside.waiting in
    let items : List Item = c.self.inside.list in
    c.last-in-Some.ensures ∙ last_some c.in-Some.field-0 w items (c.self.invariant.there c.in-Some.field-0 c.in-Some.is)
    ∙ ap (λ (o : Option ℕ). last_name (put_at o w items)) (sym c.in-Some.is) ∙ ap last_name c.self.view_is

pub returns-in-None : goal.returns-in-None
returns-in-None g c =
    let w : List Item = c.self.inside.waiting in
    let items : List Item = c.self.inside.list in
    c.name_at.ensures ∙ ap (λ (n : ℕ). first_name (drop (n - 1) w)) c.len-len.ensures.value ∙ last_at w
    ∙ sym (last-behind items w (omega (arith, c.len-len.ensures.value, c.if-len-eq0.false)))
    ∙ ap (λ (o : Option ℕ). last_name (put_at o w items)) (sym c.in-None.is) ∙ ap last_name c.self.view_is
