use Rattle.td_path.specs.declared.slot.Slot.TheVariants.{At}
use Rattle.td_tree.specs.Parts.{table}
use Rattle.td_tree.proofs.tokens.Tokens.place_on.Goals as goal

pub over_smaller-requires-clause-place : goal.over_smaller-requires-clause-place
over_smaller-requires-clause-place c = (
  At (table c.args.self.now c.args.row).id c.args.bit,
  c.first_on.ensures
      c.args.id,
)

pub returns : goal.returns
returns c = c.over_smaller.ensures (At (table c.args.self.now c.args.row).id c.args.bit) (c.first_on.ensures c.args.id)
