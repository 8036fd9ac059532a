use Rattle.std.proofs.Common.{◌∙◌, ◌++◌, ◌∷◌, [], ◌<◌, ℕ, length, Option, refl, sym, subst}
use Rattle.td_path.specs.declared.slot.Slot.TheVariants.{At}
use Rattle.td_brackets.specs.Brackets.{move_all}
use Rattle.td_list.specs.Items.{first_name, items_after, items_from_end}
use Rattle.td_tree.specs.Parts.{tokens_of}
use Rattle.td_tree.proofs.RowPlaces.{known_name}
use Rattle.td_tree.proofs.SlotsAfter.{Over, over_starts, next_there, last_there, goes_over}
use Rattle.td_tree.proofs.SlotsAfter.{gets_shorter, ends_here, ends_root}
use Rattle.td_tree.proofs.tokens.Tokens.slot_after.Goals as goal

pub loop-at-init : goal.loop-at-init
loop-at-init c = record {
  there = λ x e. next_there c.args.self.now c.requires.tree c.args.name c.requires.there x (sym c.next-at.ensures ∙ e);
  goes = λ stack o. subst (Over c.args.self.now stack) (sym c.next-at.ensures) o;
}

pub next-at-requires-in-Some-step_over : goal.next-at-requires-in-Some-step_over
next-at-requires-in-Some-step_over c = last_there c.args.self.now c.requires.tree c.in-Some.name
    c.in-Some-step_over.last (c.loop-at.invariant.there c.in-Some.name c.in-Some.is) c.in-Some-step_over.ensures

pub loop-at-smaller : goal.loop-at-smaller
loop-at-smaller c =
    subst (λ (o : Option ℕ). length (items_from_end c.next-at-in-Some-step_over.result c.args.self.now.items) < length
    (items_from_end o c.args.self.now.items)) (sym c.in-Some.is)
    (gets_shorter c.args.self.now c.requires.tree c.in-Some.name c.in-Some-step_over.last
    (c.loop-at.invariant.there c.in-Some.name c.in-Some.is) c.in-Some-step_over.ensures
    c.next-at-in-Some-step_over.result c.next-at-in-Some-step_over.ensures)

pub loop-at-preserved : goal.loop-at-preserved
loop-at-preserved c = record {
  there = λ x e. next_there c.args.self.now c.requires.tree c.in-Some-step_over.last
      (last_there c.args.self.now c.requires.tree c.in-Some.name c.in-Some-step_over.last
      (c.loop-at.invariant.there c.in-Some.name c.in-Some.is) c.in-Some-step_over.ensures) x
      (sym c.next-at-in-Some-step_over.ensures ∙ e);
  goes = λ stack o. goes_over c.args.self.now c.requires.tree c.in-Some.name c.in-Some-step_over.last
      c.in-Some-step_over.ensures c.next-at-in-Some-step_over.result c.next-at-in-Some-step_over.ensures stack
      (subst (Over c.args.self.now stack) c.in-Some.is (c.loop-at.invariant.goes stack o));
}

pub id-requires : goal.id-requires
id-requires c = known_name c.args.self.now c.requires.tree c.in-Some.name
    (c.loop-at.invariant.there c.in-Some.name c.in-Some.is)

pub returns-in-None : goal.returns-in-None
returns-in-None c = λ front i back e f.
    let p = c.args.self.now in
    let o = c.loop-at.invariant.goes (move_all [] (tokens_of p (front ++ i ∷ [])))
    (over_starts p c.requires.tree front i back c.args.name e f (first_name (items_after c.args.name p.items))
    refl) in
    (λ j. At (c.id.ensures j) (c.ended_side.ensures j))
    ∙ ends_here p c.requires.tree (move_all [] (tokens_of p (front ++ i ∷ []))) c.in-Some.name
    (subst (Over p (move_all [] (tokens_of p (front ++ i ∷ [])))) c.in-Some.is o) c.in-None.ensures

pub returns : goal.returns
returns c = λ front i back e f.
    let p = c.args.self.now in
    let o = c.loop-at.invariant.goes (move_all [] (tokens_of p (front ++ i ∷ [])))
    (over_starts p c.requires.tree front i back c.args.name e f (first_name (items_after c.args.name p.items))
    refl) in
    ends_root p c.requires.tree (move_all [] (tokens_of p (front ++ i ∷ [])))
    (subst (Over p (move_all [] (tokens_of p (front ++ i ∷ [])))) c.in_default.is o)
