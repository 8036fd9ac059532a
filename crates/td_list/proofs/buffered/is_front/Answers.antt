use Rattle.std.proofs.Common.{ℕ, List, Bool, sym, subst, Option}
use Rattle.std.specs.Prelude.{IsTrue, ◌↔◌}
use Rattle.td_list.specs.Items.{Item, IsItem, items_before, items_before_end}
use Rattle.td_list.proofs.Waiting.{front_is}
use Rattle.td_list.proofs.buffered.is_front.Goals as goal

pub returns-in-Some : goal.returns-in-Some
returns-in-Some g c =
    let items : List Item = g.S.Sequence.items c.args.list.now in
    let x : ℕ = c.args.name in
    let y : ℕ = c.in-Some.end in
    subst (λ (o : Option ℕ). IsTrue c.is_before.result ↔ IsItem x (items_before_end o items)) (sym c.in-Some.is)
    (subst (λ (b : Bool). IsTrue b ↔ IsItem x (items_before y items)) (sym c.is_before.ensures)
    (front_is x y items c.requires.there))
