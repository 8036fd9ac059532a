use Rattle.std.proofs.Common.{◌<◌, arith, length, ap}
use Rattle.td_store.specs.ChainsParts.{places_of}
use Rattle.td_store.specs.Lists.{ChainsValue}
use Rattle.td_store.proofs.StoredChains.{count_places, read_place, read_head, read_letter}
use Rattle.td_store.proofs.chains.Chains.at.Goals as goal

pub index-requires : goal.index-requires
index-requires c =
    let bound : c.args.k < length c.args.self.now.places = c.requires in
    omega (arith, count_places c.self.inside.links.items c.self.inside.bases.items, rw (← c.self.view_is) at bound)

pub overflow_sub-place : goal.overflow_sub-place
overflow_sub-place c =
    let read = read_place _ _ _ _ _ _ c.args.k c.index.result.now _ c.self.invariant
    (ap (λ (v : ChainsValue). v.places) c.self.view_is) c.requires c.index.ensures in
    omega (arith, read.within, c.from.ensures)

pub number-head-requires-clause-place : goal.number-head-requires-clause-place
number-head-requires-clause-place c =
    let read = read_place _ _ _ _ _ _ c.args.k c.index.result.now _ c.self.invariant
    (ap (λ (v : ChainsValue). v.places) c.self.view_is) c.requires c.index.ensures in
    omega (arith, read.inside, c.from.ensures, c.deref.ensures.len)

pub number-head-requires-clause-small : goal.number-head-requires-clause-small
number-head-requires-clause-small c =
    let read = read_place _ _ _ _ _ _ c.args.k c.index.result.now _ c.self.invariant
    (ap (λ (v : ChainsValue). v.places) c.self.view_is) c.requires c.index.ensures in
    rw (c.from.ensures, c.deref.ensures.value, c.deref-2.ensures.value) read.small

pub returns-then-behind-eq0 : goal.returns-then-behind-eq0
returns-then-behind-eq0 c =
    let read = read_place _ _ _ _ _ _ c.args.k c.index.result.now _ c.self.invariant
    (ap (λ (v : ChainsValue). v.places) c.self.view_is) c.requires c.index.ensures in
    rw (← c.self.view_is) (read_head (places_of c.self.inside.links.items c.self.inside.bases.items) _ _ _
    c.args.k _ read.place
    c.if-behind-eq0.true
    (rw (c.from.ensures, c.deref.ensures.value, c.deref-2.ensures.value) at c.number-head.ensures))

pub returns : goal.returns
returns c =
    let read = read_place _ _ _ _ _ _ c.args.k c.index.result.now _ c.self.invariant
    (ap (λ (v : ChainsValue). v.places) c.self.view_is) c.requires c.index.ensures in
    rw (← c.self.view_is) (read_letter (places_of c.self.inside.links.items c.self.inside.bases.items) _ _ _
    c.args.k _ read.place
    (omega (arith, c.if-behind-eq0.false))
    (rw (c.from.ensures, c.deref.ensures.value, c.deref-2.ensures.value) at c.number-head.ensures))
