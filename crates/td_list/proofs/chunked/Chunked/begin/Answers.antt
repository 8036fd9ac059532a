use Rattle.std.proofs.Common.{subst}
use Rattle.td_list.specs.Items.{IsItem}
use Rattle.td_list.proofs.chunked.Chunked.begin.Goals as goal

pub begin-requires-clause-new : goal.begin-requires-clause-new
begin-requires-clause-new g c = λ x i j. c.requires.new x i (subst (IsItem x) c.self.view_is j)
