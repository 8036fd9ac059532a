use Rattle.std.proofs.Common.{◌∙◌, sym, subst, ap, ℕ}
use Rattle.td_base.proofs.Lists.{In-map}
use Rattle.td_list.specs.Items.{Item, IsItem, items_after, first_marked}
use Rattle.td_brackets.specs.RowNumbers.{first_number}
use Rattle.td_tree.specs.Parts.{Parts}
use Rattle.td_tree.specs.Reading.{shown_at, shown}
use Rattle.td_tree.proofs.RowPlaces.{item_of}
use Rattle.td_tree.proofs.Orders.{known_row, known_result, drop_some, drop_none, next_shown, none_shown, behind_in}
use Rattle.td_tree.proofs.tokens.Tokens.row_from.Goals as goal

pub row_at-requires-in-Some-next_marked-clause-there : goal.row_at-requires-in-Some-next_marked-clause-there
row_at-requires-in-Some-next_marked-clause-there c =
    let p = c.args.self.now in
    let name = c.args.place.name in
    let marked = sym (c.in-Some-next_marked.ensures
    ∙ ap (λ (q : Parts). first_marked (items_after name q.items)) c.self.view_is) in
    let n = next_shown p (items_after name p.items)
    (λ i m. c.requires.tree.each i (behind_in p c.requires.tree name c.requires.there i m))
    c.in-Some-next_marked.name marked in
    subst (λ (x : ℕ). IsItem x p.items) n.named (In-map (λ (i : Item). i.name) n.item p.items
    (behind_in p c.requires.tree name c.requires.there n.item n.there))

pub returns-in-Some-clause-row : goal.returns-in-Some-clause-row
returns-in-Some-clause-row c = λ i m e.
    let p = c.args.self.now in
    sym (drop_some (shown_at p i) (shown p (items_after c.args.place.name p.items)) c.args.place.rest c.in-Some.row
    (sym (c.in-Some.ensures i m e)))

pub returns-in-Some-clause-known : goal.returns-in-Some-clause-known
returns-in-Some-clause-known c =
    let p = c.args.self.now in
    let i = item_of p c.requires.tree c.args.place.name c.requires.there in
    known_row p c.requires.tree i.0 i.1 c.args.place.rest c.in-Some.row (sym (c.in-Some.ensures i.0 i.1 i.2))

pub returns-in-Some-next_marked-clause-row : goal.returns-in-Some-next_marked-clause-row
returns-in-Some-next_marked-clause-row c = λ i m e.
    let p = c.args.self.now in
    let name = c.args.place.name in
    let marked = sym (c.in-Some-next_marked.ensures
    ∙ ap (λ (q : Parts). first_marked (items_after name q.items)) c.self.view_is) in
    let n = next_shown p (items_after name p.items)
    (λ j k. c.requires.tree.each j (behind_in p c.requires.tree name c.requires.there j k))
    c.in-Some-next_marked.name marked in
    c.row_at-in-Some-next_marked.ensures n.item (behind_in p c.requires.tree name c.requires.there n.item n.there)
    n.named
    ∙ sym (ap first_number (drop_none (shown_at p i) (shown p (items_after name p.items)) c.args.place.rest
    (sym (c.in-None.ensures i m e))) ∙ n.is)

pub returns-in-Some-next_marked-clause-known : goal.returns-in-Some-next_marked-clause-known
returns-in-Some-next_marked-clause-known c =
    let p = c.args.self.now in
    let name = c.args.place.name in
    let marked = sym (c.in-Some-next_marked.ensures
    ∙ ap (λ (q : Parts). first_marked (items_after name q.items)) c.self.view_is) in
    let n = next_shown p (items_after name p.items)
    (λ j k. c.requires.tree.each j (behind_in p c.requires.tree name c.requires.there j k))
    c.in-Some-next_marked.name marked in
    known_result p c.requires.tree c.in-Some-next_marked.name
    (subst (λ (x : ℕ). IsItem x p.items) n.named (In-map (λ (i : Item). i.name) n.item p.items
    (behind_in p c.requires.tree name c.requires.there n.item n.there))) 0 c.row_at-in-Some-next_marked.result
    c.row_at-in-Some-next_marked.ensures

pub returns-in-None-next_marked-clause-row : goal.returns-in-None-next_marked-clause-row
returns-in-None-next_marked-clause-row c = λ i m e.
    let p = c.args.self.now in
    let name = c.args.place.name in
    let marked = sym (c.in-None-next_marked.ensures
    ∙ ap (λ (q : Parts). first_marked (items_after name q.items)) c.self.view_is) in
    sym (ap first_number (drop_none (shown_at p i) (shown p (items_after name p.items)) c.args.place.rest
    (sym (c.in-None.ensures i m e))
    ∙ none_shown p (items_after name p.items) (λ j k. c.requires.tree.each j
    (behind_in p c.requires.tree name c.requires.there j k)) marked))
