use Rattle.std.proofs.Common.{subst}
use Rattle.td_list.specs.Items.{AreApart}
use Rattle.td_list.specs.Index.{Parts}
use Rattle.td_list.proofs.Joined.{joined_apart}
use Rattle.td_list.proofs.chunked.Chunked.apart.Goals as goal

pub returns : goal.returns
returns g c =
    let p : Parts = c.self.inside.index in
    subst AreApart c.self.view_is (joined_apart p.chunks p.homes p.order c.self.invariant.apart c.self.invariant.each)
