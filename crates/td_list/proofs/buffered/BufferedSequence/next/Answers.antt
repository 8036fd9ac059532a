use Rattle.std.proofs.Common.{◌≡◌, ◌∙◌, ◌++◌, ℕ, List, [], ◌∷◌, Some, ap, sym}
use Rattle.td_list.specs.Items.{Item, items_after, items_from_end, first_name}
use Rattle.td_list.proofs.Waiting.{after_waiting}
use Rattle.td_list.proofs.buffered.BufferedSequence.next.Goals as goal

-- the first of some that there are is the first of them and others
first_of : (items more : List Item) (x : ℕ) → first_name items ≡ Some x → Some x ≡ first_name (items ++ more)
first_of [] more x e = absurd cc
first_of (i ∷ items) more x e = sym e

pub returns-in-Some : goal.returns-in-Some
returns-in-Some g c =
    let w : List Item = c.self.inside.waiting in
    let items : List Item = c.self.inside.list in
    let k : List Item = items_from_end c.self.inside.at items in
    first_of (items_after c.args.name w) k c.in-Some.next c.in-Some.ensures.next
    ∙ ap first_name (sym (after_waiting c.self.inside.at w items c.self.invariant.new c.args.name
    c.in-Some.ensures.there))
    ∙ ap (λ (xs : List Item). first_name (items_after c.args.name xs)) c.self.view_is
