use Rattle.std.proofs.Common.{◌∙◌, sym, arith}
use Rattle.td_order.specs.Under.{is_under_any}
use Rattle.td_order.proofs.Splices.{last_here, last_there}
use Rattle.td_order.proofs.place.after_last_under.Goals as goal
use Rattle.td_order.proofs.place.after_last_under.Goals.{then-is_under_any, else-is_under_any}

pub loop-i-preserved : goal.loop-i-preserved
loop-i-preserved c =
    let list = c.args.list.now in
    let n = c.loop-i.i in
    elim c.if-is_under_any.branch [
      | then-is_under_any w ↦ rw w.at-is record {
        bound = omega arith;
        place = last_here (is_under_any c.args.placed.now c.args.tops.now) list c.loop-i.at n c.index-list-i.result
            c.index-list-i.is c.loop-i-test.true (sym c.is_under_any.ensures ∙ w.if-is_under_any.true);
      }
      | else-is_under_any w ↦ rw w.at-is record {
        bound = omega (arith, c.loop-i.invariant.bound);
        place = last_there (is_under_any c.args.placed.now c.args.tops.now) list c.loop-i.at n c.index-list-i.result
            c.index-list-i.is c.loop-i-test.true c.loop-i.invariant.bound c.loop-i.invariant.place
            (sym c.is_under_any.ensures ∙ w.if-is_under_any.false);
      }
    ]
