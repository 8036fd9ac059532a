use Rattle.std.proofs.Common.{◌∙◌, sym, arith}
use Rattle.td_base.specs.Equality.{same_id}
use Rattle.td_order.proofs.Splices.{last_here, last_there}
use Rattle.td_order.proofs.beside.after_atom.Goals as goal
use Rattle.td_order.proofs.beside.after_atom.Goals.{then-eq, else-eq}

pub loop-i-preserved : goal.loop-i-preserved
loop-i-preserved c =
    let list = c.args.list.now in
    let n = c.loop-i.i in
    elim c.if-eq.branch [
      | then-eq w ↦ rw w.at-is record {
        bound = omega arith;
        place = last_here (same_id c.args.atom) list c.loop-i.at n c.index-list-i.result c.index-list-i.is
            c.loop-i-test.true (sym c.eq.ensures ∙ w.if-eq.true);
      }
      | else-eq w ↦ rw w.at-is record {
        bound = omega (arith, c.loop-i.invariant.bound);
        place = last_there (same_id c.args.atom) list c.loop-i.at n c.index-list-i.result c.index-list-i.is
            c.loop-i-test.true c.loop-i.invariant.bound c.loop-i.invariant.place (sym c.eq.ensures ∙ w.if-eq.false);
      }
    ]
