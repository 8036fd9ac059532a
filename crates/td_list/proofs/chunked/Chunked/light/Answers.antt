use Rattle.std.proofs.Common.{◌<◌, ◌^◌, List, subst}
use Rattle.td_list.specs.Items.{Item, weight_of}
use Rattle.td_list.proofs.chunked.Chunked.light.Goals as goal

pub returns : goal.returns
returns g c = subst (λ (xs : List Item). weight_of xs < 2 ^ 31) c.self.view_is c.self.invariant.light
