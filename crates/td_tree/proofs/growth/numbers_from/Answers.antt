use Rattle.std.proofs.Common.{◌≡◌, ◌+◌, subst, refl, arith}
use Rattle.std.specs.Prelude.{IfOk}
use Rattle.std.specs.List.{range_with_len}
use Rattle.std.specs.Vec.{vec_items}
use Rattle.std.proofs.lemmas.Iterator.{items_from_collect, YieldsList-from_range}
use Rattle.td_tree.proofs.growth.numbers_from.Goals as goal

pub returns : goal.returns
returns c =
    subst (λ r. IfOk r (λ numbers. vec_items numbers ≡ range_with_len c.args.first c.args.count)) c.in_ok-collect.was
    (items_from_collect c.collect.result c.collect.ensures.ran
    (YieldsList-from_range c.args.first (c.args.first + c.args.count) c.args.count refl (omega arith)))
