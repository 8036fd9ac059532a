use Rattle.td_tree.proofs.Ways.{IsGoing}
use Rattle.td_tree.proofs.tokens.Tokens.way_down.Given as goal

abbrev pub invariant-loop-way : goal.invariant-loop-way
invariant-loop-way l = IsGoing l.self l.fn.whole l.leaf l.index l.way.piece.items l.place l.way.tops.items

abbrev pub decreases-loop-way : goal.decreases-loop-way
decreases-loop-way l = l.leaf.len
