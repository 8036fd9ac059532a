use Rattle.std.proofs.Common.{◌≡◌, ◌<◌, arith, length}
use Rattle.td_store.proofs.StoredChains.{next_letter}
use Rattle.td_store.proofs.chains.Chains.next.Goals as goal

pub returns-clause-next : goal.returns-clause-next
returns-clause-next c =
    let len : c.len.result ≡ length c.self.inside.links.items = omega arith in
    let some : 0 < length c.deref.result.now = c.in_ok-last.ensures.item.3.0 in
    rw (← c.self.view_is) (next_letter c.self.inside.links.items c.self.inside.bases.items c.self.inside.heads
    c.self.inside.room _ _ c.in_ok-last.last.now c.in_ok-behind.behind c.number-head.result c.args.letter
    c.self.invariant (rw c.deref.ensures.value at some)
    (rw c.deref.ensures.value at c.in_ok-last.ensures.item.1) c.in_ok-behind.ensures.1
    (rw (c.deref-2.ensures.value, c.deref-3.ensures.value, c.from.ensures, len) at c.number-head.ensures))
