use Rattle.std.proofs.Common.{◌≡◌, ◌-◌, arith, ap, length}
use Rattle.std.specs.Vec.{vec_capacity}
use Rattle.td_store.specs.declared.place.Place.TheVariants.{Letter}
use Rattle.td_store.specs.Lists.{ChainsValue}
use Rattle.td_store.proofs.StoredChains.{IsPushed, pushed_letter}
use Rattle.td_store.proofs.chains.Chains.push_letter.Goals as goal

-- what the fields are in the end
all_pushed : (c : goal.After-self-1) → IsPushed c.push_reserved.new.self.items c.begin_block.new.bases.items
    c.self.inside.heads (c.self.inside.room - 1) (vec_capacity c.push_reserved.new.self)
    (vec_capacity c.begin_block.new.bases) c.args.self.now.places (Letter c.args.typed)
all_pushed c =
    let room : c.self.inside.room ≡ c.args.self.now.room = ap (λ (v : ChainsValue). v.room) c.self.view_is in
    let len : c.len.result ≡ length c.self.inside.links.items = omega arith in
    rw (← c.self.view_is) (pushed_letter c.self.inside.links.items c.push_reserved.new.self.items
    c.self.inside.bases.items c.begin_block.new.bases.items c.self.inside.heads c.self.inside.room _ _ _ _ c.args.typed
    c.self.invariant (omega (arith, c.requires.room, room)) (omega (arith, c.push_reserved.ensures.capacity))
    (omega (arith, c.begin_block.ensures.capacity)) c.begin_block.ensures.front c.push_reserved.ensures.items
    (rw len at c.begin_block.ensures.bases) c.begin_block.ensures.low (rw (← c.self.view_is) at c.requires.next))

pub invariant_of-self : goal.invariant_of-self
invariant_of-self c = (all_pushed c).parts

pub returns-clause-places : goal.returns-clause-places
returns-clause-places c = (all_pushed c).places
