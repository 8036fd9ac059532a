use Rattle.std.proofs.Common.{sym}
use Rattle.td_store.proofs.StoredRows.{count_rows}
use Rattle.td_store.proofs.vectors.Vectors.len.Goals as goal

pub returns : goal.returns
returns c = rw (← c.self.view_is) (sym (count_rows c.self.inside.size c.self.inside.len c.self.inside.numbers.items))
