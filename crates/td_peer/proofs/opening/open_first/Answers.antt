use Rattle.td_peer.proofs.Openings.{opens_more}
use Rattle.td_peer.proofs.opening.open_first.Goals as goal

pub loop-alloc-preserved : goal.loop-alloc-preserved
loop-alloc-preserved c = record {
  opens = opens_more c.args.first _ c.loop-alloc.last c.args.loss c.args.rows.items _ _ _ _ _ _
      c.loop-alloc.invariant.opens c.site_of-other.ensures c.in_ok-open_next.ensures;
}
