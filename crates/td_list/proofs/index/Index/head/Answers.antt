use Rattle.std.proofs.Common.{◌<◌, ◌∙◌, List, length, get_or, sym, subst, ap, Some}
use Rattle.std.proofs.lemmas.List.{get_or_default}
use Rattle.td_list.specs.Items.{Item}
use Rattle.td_list.specs.Index.{chunk_at}
use Rattle.td_list.specs.Places.{nothing}
use Rattle.td_list.proofs.Joined.{within, some}
use Rattle.td_list.proofs.Ends.{first_drop}
use Rattle.td_list.proofs.index.Index.head.Goals as goal

pub items_of-requires : goal.items_of-requires
items_of-requires g c = within c.args.self.now c.requires.index c.args.chunk c.requires.chunk

pub bounds-items_of-0 : goal.bounds-items_of-0
bounds-items_of-0 g c = subst (λ (xs : List Item). 0 < length xs) (sym c.items_of.ensures)
    (some c.args.self.now c.requires.index c.args.chunk c.requires.chunk)

pub returns : goal.returns
returns g c =
    let xs = c.items_of.result.now in
    let first : 0 < length xs = subst (λ (xs : List Item). 0 < length xs) (sym c.items_of.ensures)
    (some c.args.self.now c.requires.index c.args.chunk c.requires.chunk) in
    let named = c.name.ensures ∙ ap (λ (i : Item). i.name)
    (c.index-items_of-0.is ∙ get_or_default xs 0 c.index-items_of-0.result nothing first) in
    first_drop (chunk_at c.args.self.now.chunks c.args.chunk) 0
    (some c.args.self.now c.requires.index c.args.chunk c.requires.chunk)
    ∙ ap (λ (xs : List Item). Some (get_or xs 0 nothing).name) (sym c.items_of.ensures)
    ∙ ap Some (sym named)
