use Rattle.std.proofs.Common.{◌<◌, ◌-◌, ◌∙◌, List, length, Some, sym, subst, ap, arith}
use Rattle.std.proofs.lemmas.List.{get_or_default}
use Rattle.td_list.specs.Items.{Item, last_name}
use Rattle.td_list.specs.Places.{nothing}
use Rattle.td_list.proofs.Joined.{within, some}
use Rattle.td_list.proofs.Ends.{first_drop, last_at}
use Rattle.td_list.proofs.index.Index.end.Goals as goal

pub items_of-items-requires : goal.items_of-items-requires
items_of-items-requires g c = within c.args.self.now c.requires.index c.args.chunk c.requires.chunk

pub overflow_sub-items : goal.overflow_sub-items
overflow_sub-items g c = subst (λ (xs : List Item). 0 < length xs) (sym c.items_of-items.ensures)
    (some c.args.self.now c.requires.index c.args.chunk c.requires.chunk)

pub bounds-items-items : goal.bounds-items-items
bounds-items-items g c =
    let s : 0 < length c.items_of-items.result.now =
    subst (λ (xs : List Item). 0 < length xs) (sym c.items_of-items.ensures)
    (some c.args.self.now c.requires.index c.args.chunk c.requires.chunk) in
    omega arith

pub returns : goal.returns
returns g c =
    let xs = c.items_of-items.result.now in
    let s : 0 < length xs = subst (λ (xs : List Item). 0 < length xs) (sym c.items_of-items.ensures)
    (some c.args.self.now c.requires.index c.args.chunk c.requires.chunk) in
    let last : length xs - 1 < length xs = omega arith in
    let named = c.name.ensures ∙ ap (λ (i : Item). i.name)
    (c.index-items-items.is ∙ get_or_default xs (length xs - 1) c.index-items-items.result nothing last) in
    ap last_name (sym c.items_of-items.ensures) ∙ sym (last_at xs) ∙ first_drop xs (length xs - 1) last
    ∙ ap Some (sym named)
