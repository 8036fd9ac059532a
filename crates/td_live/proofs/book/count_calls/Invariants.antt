use Rattle.std.proofs.Common.{◌≡◌, take}
use Rattle.td_live.specs.Books.{calls_done}
use Rattle.td_live.proofs.book.count_calls.Given as goal

abbrev pub invariant-loop-one : goal.invariant-loop-one
invariant-loop-one l = l.count ≡ calls_done (take l.one-index l.did)
