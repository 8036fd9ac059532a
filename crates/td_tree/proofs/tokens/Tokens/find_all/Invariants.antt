use Rattle.std.proofs.Common.{take}
use Rattle.td_tree.specs.Parts.{tokens_of}
use Rattle.td_tree.specs.Stretches.{IsFoundAmong}
use Rattle.td_tree.proofs.tokens.Tokens.find_all.Given as goal

abbrev pub invariant-loop-k : goal.invariant-loop-k
invariant-loop-k l = IsFoundAmong l.self (tokens_of l.self (take l.k l.items)) l.fn.found.live.items
    l.fn.found.nodes.items l.fn.found.dead l.found.live.items l.found.nodes.items l.found.dead
