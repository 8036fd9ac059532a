use Rattle.std.proofs.Common.{◌≡◌, ◌<◌, ◌≤◌, ◌∙◌, ap, length, arith, rules, List}
use Rattle.td_peer.specs.Peers.{PeerState}
use Rattle.td_room.specs.Workers.{WorkerValue}
use Rattle.td_room.specs.Turns.{GivenPeer}
use Rattle.td_room.proofs.Walks.{so_far_length, so_far_all}
use Rattle.td_room.proofs.Working.{worker_then}
use Rattle.td_room.proofs.worker.Worker.give_all.Goals as goal

pub loop-i-init : goal.loop-i-init
loop-i-init g c =
    let n : c.len-i-end.result ≡ length c.self.inside.peers.items = search rules in
    record {
      later = c.catch_up.ensures.later;
      lines = c.catch_up.ensures.same.0;
      caught_up = c.in_ok-catch_up.ensures.caught_up;
      all = n ∙ ap (λ (w : WorkerValue). length w.peers) c.self.view_is
          ∙ ap (λ (ps : List PeerState). length ps) c.catch_up.ensures.same.1;
      given = c.catch_up.ensures.same.1;
    }

pub give_one-requires-clause-some : goal.give_one-requires-clause-some
give_one-requires-clause-some g c =
    let v = c.loop-i.invariant in
    let n = so_far_length (GivenPeer c.args.self.now.site c.loop-i.self.site) c.loop-i.i c.args.self.now.peers
    c.loop-i.self.peers v.given in
    let a : c.len-i-end.result ≡ length c.args.self.now.peers = v.all in
    let t : c.loop-i.i < c.len-i-end.result = c.loop-i-test.true in
    omega arith

pub returns-in_err-give_one-clause-later : goal.returns-in_err-give_one-clause-later
returns-in_err-give_one-clause-later g c =
    worker_then c.args.self.now c.loop-i.self c.give_one.new.self c.loop-i.invariant.later c.give_one.ensures.later

pub loop-i-preserved : goal.loop-i-preserved
loop-i-preserved g c =
    let v = c.loop-i.invariant in
    record {
      later = worker_then c.args.self.now c.loop-i.self c.give_one.new.self v.later c.give_one.ensures.later;
      lines = c.give_one.ensures.lines ∙ v.lines;
      caught_up = c.in_ok-give_one.ensures.caught_up;
      all = v.all;
      given = c.in_ok-give_one.ensures.given c.args.self.now.site c.args.self.now.peers v.later.site v.given;
    }

pub returns-clause-given : goal.returns-clause-given
returns-clause-given g c =
    let v = c.loop-i.invariant in
    let a : c.len-i-end.result ≡ length c.args.self.now.peers = v.all in
    let t : c.len-i-end.result ≤ c.loop-i.i = c.loop-i-test.false in
    so_far_all (GivenPeer c.args.self.now.site c.loop-i.self.site) c.loop-i.i c.args.self.now.peers c.loop-i.self.peers
    (omega arith) v.given
