use Rattle.std.proofs.Common.{sym, subst}
use Rattle.td_path.specs.declared.slot.Slot.TheVariants.{Root}
use Rattle.td_tree.specs.Places.{IsPlace}
use Rattle.td_tree.proofs.Places.{root_place}
use Rattle.td_tree.proofs.tokens.Tokens.place_in_root.Goals as goal

pub over_smaller-requires-clause-place : goal.over_smaller-requires-clause-place
over_smaller-requires-clause-place c = (
  Root,
  subst (IsPlace c.args.self.now Root c.args.id) (sym c.first.ensures)
      (root_place c.args.self.now c.requires.tree c.args.id),
)

pub returns : goal.returns
returns c = c.over_smaller.ensures Root (subst (IsPlace c.args.self.now Root c.args.id) (sym c.first.ensures)
    (root_place c.args.self.now c.requires.tree c.args.id))
