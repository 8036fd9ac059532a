use Rattle.std.proofs.Common.{◌≡◌, ◌<◌, ◌≤◌, ◌+◌, ◌∙◌, refl, sym, ap, subst, length, arith, rules}
use Rattle.td_room.specs.Workers.{WorkerValue}
use Rattle.std.specs.List.{AllZip}
use Rattle.td_site.specs.Sites.{SiteValue}
use Rattle.td_room.specs.Walk.{SoFar}
use Rattle.td_room.specs.Turns.{ToldPeer}
use Rattle.td_room.proofs.Walks.{so_far_length, so_far_all}
use Rattle.td_room.proofs.Working.{worker_self, worker_then}
use Rattle.td_room.proofs.worker.Worker.tell_all.Goals as goal

pub loop-i-init : goal.loop-i-init
loop-i-init g c =
    let n : c.len-i-end.result ≡ length c.self.inside.peers.items = search rules in
    record {
      later = worker_self c.args.self.now;
      lines = refl;
      site = refl;
      all = n ∙ ap (λ (w : WorkerValue). length w.peers) c.self.view_is;
      told = refl;
    }

pub tell_one-requires : goal.tell_one-requires
tell_one-requires g c =
    let v = c.loop-i.invariant in
    let n = so_far_length (ToldPeer c.args.self.now.site) c.loop-i.i c.args.self.now.peers c.loop-i.self.peers v.told in
    let a : c.len-i-end.result ≡ length c.args.self.now.peers = v.all in
    let t : c.loop-i.i < c.len-i-end.result = c.loop-i-test.true in
    omega arith

pub loop-i-preserved : goal.loop-i-preserved
loop-i-preserved g c =
    let v = c.loop-i.invariant in
    let old = c.args.self.now.peers in
    let at : SoFar (ToldPeer c.loop-i.self.site) c.loop-i.i old c.loop-i.self.peers =
    subst (λ (x : SiteValue). SoFar (ToldPeer x) c.loop-i.i old c.loop-i.self.peers) (sym v.site) v.told in
    record {
      later = worker_then c.args.self.now c.loop-i.self c.tell_one.new.self v.later c.tell_one.ensures.later;
      lines = c.tell_one.ensures.same.0 ∙ v.lines;
      site = c.tell_one.ensures.same.1 ∙ v.site;
      all = v.all;
      told = subst (λ (x : SiteValue). SoFar (ToldPeer x) (c.loop-i.i + 1) old c.tell_one.new.self.peers) v.site
          (c.tell_one.ensures.told old at);
    }

pub returns-clause-told : goal.returns-clause-told
returns-clause-told g c =
    let v = c.loop-i.invariant in
    let a : c.len-i-end.result ≡ length c.args.self.now.peers = v.all in
    let t : c.len-i-end.result ≤ c.loop-i.i = c.loop-i-test.false in
    subst (λ (x : SiteValue). AllZip (ToldPeer x) c.args.self.now.peers c.loop-i.self.peers) (sym v.site)
    (so_far_all (ToldPeer c.args.self.now.site) c.loop-i.i c.args.self.now.peers c.loop-i.self.peers (omega arith)
    v.told)
