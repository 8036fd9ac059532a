use Rattle.std.proofs.Common.{arith}
use Rattle.td_store.proofs.StoredChains.{count_places}
use Rattle.td_store.proofs.chains.Chains.len.Goals as goal

pub returns : goal.returns
returns c = rw (← c.self.view_is) (omega (arith, count_places c.self.inside.links.items c.self.inside.bases.items))
