use Rattle.std.proofs.Common.{◌<◌, ◌∙◌, ℕ, List, ap, sym, subst, Option, length, arith}
use Rattle.td_path.specs.declared.slot.Slot.{Slot}
use Rattle.td_list.specs.Items.{Item, items_after, items_from_end, first_name}
use Rattle.td_tree.specs.Parts.{Parts}
use Rattle.td_tree.specs.Places.{IsPlace, IsNewPlace}
use Rattle.td_tree.proofs.Places.{row_known, end_there, over, stops, stops_at_end, place_rest}
use Rattle.td_tree.proofs.tokens.Tokens.over_smaller.Goals as goal

pub smaller_sibling-requires-clause-known : goal.smaller_sibling-requires-clause-known
smaller_sibling-requires-clause-known c =
    let some = c.loop-at.invariant.some in
    row_known c.args.self.now c.requires.tree some.0 c.args.id c.loop-at.at some.1 c.in-Some.name c.in-Some.is

pub next-at-requires : goal.next-at-requires
next-at-requires c =
    let some = c.loop-at.invariant.some in
    end_there c.args.self.now c.requires.tree some.0 c.args.id c.loop-at.at some.1 c.in-Some.name c.in-Some.is
    c.in-Some-smaller_sibling.end c.in-Some-smaller_sibling.ensures.some

pub loop-at-smaller : goal.loop-at-smaller
loop-at-smaller c =
    let p : Parts = c.args.self.now in
    let some = c.loop-at.invariant.some in
    let end = c.in-Some-smaller_sibling.end in
    let next : (q : IsPlace p some.0 c.args.id (first_name (items_after end p.items)))
    × (length q.back < length some.1.back) =
    over p c.requires.tree some.0 c.args.id c.loop-at.at some.1 c.in-Some.name c.in-Some.is end
    c.in-Some-smaller_sibling.ensures.some in
    let was = ap (λ (xs : List Item). length xs) (place_rest p c.requires.tree some.0 c.args.id c.loop-at.at some.1) in
    let now = ap (λ (xs : List Item). length xs) (ap (λ (o : Option ℕ). items_from_end o p.items) c.next-at.ensures
    ∙ place_rest p c.requires.tree some.0 c.args.id (first_name (items_after end p.items)) next.0) in
    let less = next.1 in
    omega arith

pub loop-at-preserved : goal.loop-at-preserved
loop-at-preserved c =
    let p : Parts = c.args.self.now in
    let some = c.loop-at.invariant.some in
    let end = c.in-Some-smaller_sibling.end in
    let next : (slot : Slot) → IsPlace p slot c.args.id c.loop-at.at → IsPlace p slot c.args.id c.next-at.result =
    λ slot q. subst (λ (o : Option ℕ). IsPlace p slot c.args.id o) (sym c.next-at.ensures)
    (over p c.requires.tree slot c.args.id c.loop-at.at q c.in-Some.name c.in-Some.is end
    c.in-Some-smaller_sibling.ensures.some).0 in
    record { some = (some.0, next some.0 some.1); place = λ slot q. next slot (c.loop-at.invariant.place slot q) }

pub returns-in_default-smaller_sibling : goal.returns-in_default-smaller_sibling
returns-in_default-smaller_sibling c = λ slot q.
    subst (λ (o : Option ℕ). IsNewPlace c.args.self.now slot c.args.id o) c.in-Some.is
    (stops c.args.self.now c.requires.tree slot c.args.id c.loop-at.at (c.loop-at.invariant.place slot q)
    c.in-Some.name c.in-Some.is c.requires.new c.in_default-smaller_sibling.ensures.none)

pub returns : goal.returns
returns c = λ slot q.
    subst (λ (o : Option ℕ). IsNewPlace c.args.self.now slot c.args.id o) (sym c.in_default.is)
    (stops_at_end c.args.self.now slot c.args.id (subst (λ (o : Option ℕ). IsPlace c.args.self.now slot c.args.id o)
    c.in_default.is (c.loop-at.invariant.place slot q)))
