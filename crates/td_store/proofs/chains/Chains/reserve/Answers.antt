use Rattle.std.proofs.Common.{◌≡◌, arith, length}
use Rattle.td_store.proofs.StoredChains.{count_places, roomier}
use Rattle.td_store.proofs.chains.Chains.reserve.Goals as goal

pub invariant_of-self-2 : goal.invariant_of-self-2
invariant_of-self-2 c =
    let count : length c.args.self.now.places ≡ length c.self.inside.links.items =
    rw (← c.self.view_is) (count_places c.self.inside.links.items c.self.inside.bases.items) in
    rw (c.reserve.ensures.items, c.reserve-2.ensures.items) (roomier c.self.inside.links.items c.self.inside.bases.items
    c.self.inside.heads c.self.inside.room c.max-self-inside.result _ _ _ _ c.self.invariant
    (omega (
      arith,
      c.max-self-inside.ensures,
      c.self.invariant.links_room,
      c.reserve.ensures.capacity,
      c.in_ok-reserve.ensures.ok,
    ))
    (omega (
      arith,
      c.max-self-inside.ensures,
      c.self.invariant.bases_room,
      c.self.invariant.blocks.enough,
      c.reserve-2.ensures.capacity,
      c.in_ok-reserve-2.ensures.ok,
    ))
    (omega (arith, c.max-self-inside.ensures, c.self.invariant.places, count, c.len.ensures, c.if-more-len.false)))
