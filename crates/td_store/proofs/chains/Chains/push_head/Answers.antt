use Rattle.std.proofs.Common.{◌≡◌, ◌-◌, ◌+◌, arith, ap, length, refl}
use Rattle.std.specs.Vec.{vec_capacity}
use Rattle.td_store.specs.declared.place.Place.TheVariants.{Head}
use Rattle.td_store.specs.Lists.{ChainsValue}
use Rattle.td_store.proofs.StoredChains.{IsPushed, pushed_head, read_last}
use Rattle.td_store.proofs.chains.Chains.push_head.Goals as goal

-- what the fields are in the end
all_pushed : (c : goal.After-self-2-1) → IsPushed c.push_reserved.new.self.items c.begin_block.new.bases.items
    (c.self.inside.heads + 1) (c.self.inside.room - 1) (vec_capacity c.push_reserved.new.self)
    (vec_capacity c.begin_block.new.bases) c.args.self.now.places (Head c.self.inside.heads)
all_pushed c =
    let room : c.self.inside.room ≡ c.args.self.now.room = ap (λ (v : ChainsValue). v.room) c.self.view_is in
    let len : c.len.result ≡ length c.self.inside.links.items = omega arith in
    let base = read_last c.begin_block.new.bases.items c.len.result (c.self.inside.heads + 1) c.len-2.result
    c.index-base.result.now c.begin_block.ensures.bases (omega arith) c.index-base.ensures in
    rw (← c.self.view_is) (pushed_head c.self.inside.links.items c.push_reserved.new.self.items
    c.self.inside.bases.items c.begin_block.new.bases.items c.self.inside.heads c.self.inside.room _ _ _ _
    (record { behind = 0; byte = c.self.inside.heads - c.index-base.result.now })
    c.self.invariant (omega (arith, c.requires, room)) (omega (arith, c.push_reserved.ensures.capacity))
    (omega (arith, c.begin_block.ensures.capacity)) c.begin_block.ensures.front c.push_reserved.ensures.items
    (rw len at c.begin_block.ensures.bases) refl (omega (arith, base, c.begin_block.ensures.low)))

pub returns-clause-places : goal.returns-clause-places
returns-clause-places c =
    let heads : c.self.inside.heads ≡ c.args.self.now.heads = ap (λ (v : ChainsValue). v.heads) c.self.view_is in
    rw (← heads) (all_pushed c).places
