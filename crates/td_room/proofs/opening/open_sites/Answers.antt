use Rattle.std.proofs.Common.{◌≡◌, ◌∙◌, ◌∷◌, List, length, refl, ap, rules, arith}
use Rattle.td_peer.specs.Peers.{PeerState}
use Rattle.td_room.proofs.Opens.{sites_first, sites_next, sites_last}
use Rattle.td_room.proofs.opening.open_sites.Goals as goal

pub loop-alloc-init : goal.loop-alloc-init
loop-alloc-init g c =
    record {
      sites = sites_first c.args.homes.now c.args.n c.args.rows.items c.args.workers.now.items _ c.requires.none
          (search rules) c.requires.all;
      opener = refl;
    }

pub open_next-requires-clause-within : goal.open_next-requires-clause-within
open_next-requires-clause-within g c = c.loop-alloc.invariant.sites.many

pub open_next-requires-clause-fresh : goal.open_next-requires-clause-fresh
open_next-requires-clause-fresh g c =
    (c.requires.fresh.0, (c.loop-alloc.invariant.sites.opens_all c.requires.fresh.0 c.requires.fresh.1).0)

pub loop-alloc-preserved : goal.loop-alloc-preserved
loop-alloc-preserved g c =
    let v = c.loop-alloc.invariant in
    let n = c.open_next.new in
    let x = c.in_ok-open_next.ensures.next in
    record {
      sites = sites_next c.args.homes.now c.args.n c.args.rows.items c.loop-alloc.rows.items n.rows.items
          c.loop-alloc.workers.items
          n.workers.items c.loop-alloc.readers.items n.readers.items x.0 x.1 v.sites x.2;
      opener = c.in_ok-open_next.ensures.opened ∙ v.opener;
    }

pub loop-alloc-smaller : goal.loop-alloc-smaller
loop-alloc-smaller g c =
    let x = c.in_ok-open_next.ensures.next in
    let e : length c.loop-alloc.rows.items ≡ length (x.0 ∷ c.open_next.new.rows.items) =
    ap (λ (l : List (List PeerState)). length l) x.1 in
    omega arith

pub returns-clause-opens : goal.returns-clause-opens
returns-clause-opens g c =
    let none : length c.loop-alloc.rows.items ≡ 0 = search rules in
    (sites_last c.args.homes.now c.args.n c.args.rows.items c.loop-alloc.rows.items c.loop-alloc.workers.items
    c.loop-alloc.readers.items
    none c.loop-alloc.invariant.sites).1

pub returns-clause-peers : goal.returns-clause-peers
returns-clause-peers g c =
    let none : length c.loop-alloc.rows.items ≡ 0 = search rules in
    (sites_last c.args.homes.now c.args.n c.args.rows.items c.loop-alloc.rows.items c.loop-alloc.workers.items
    c.loop-alloc.readers.items
    none c.loop-alloc.invariant.sites).0
