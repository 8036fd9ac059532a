use Rattle.std.proofs.Common.{◌≡◌, ◌<◌, ◌≤◌, ◌∙◌, refl, ap, length, arith, rules}
use Rattle.td_room.specs.Workers.{WorkerValue}
use Rattle.td_room.specs.Turns.{TurnedLine}
use Rattle.td_room.proofs.Walks.{so_far_length, so_far_all}
use Rattle.td_room.proofs.Working.{worker_self, worker_then}
use Rattle.td_room.proofs.worker.Worker.serve_all.Goals as goal

pub loop-i-init : goal.loop-i-init
loop-i-init g c =
    let n : c.len-i-end.result ≡ length c.self.inside.lines.items = search rules in
    record {
      later = worker_self c.args.self.now;
      peers = refl;
      all = n ∙ ap (λ (w : WorkerValue). length w.lines) c.self.view_is;
      turned = refl;
    }

pub serve_one-requires : goal.serve_one-requires
serve_one-requires g c =
    let v = c.loop-i.invariant in
    let n = so_far_length TurnedLine c.loop-i.i c.args.self.now.lines c.loop-i.self.lines v.turned in
    let a : c.len-i-end.result ≡ length c.args.self.now.lines = v.all in
    let t : c.loop-i.i < c.len-i-end.result = c.loop-i-test.true in
    omega arith

pub returns-in_err-serve_one-clause-later : goal.returns-in_err-serve_one-clause-later
returns-in_err-serve_one-clause-later g c =
    worker_then c.args.self.now c.loop-i.self c.serve_one.new.self c.loop-i.invariant.later c.serve_one.ensures.later

pub loop-i-preserved : goal.loop-i-preserved
loop-i-preserved g c =
    let v = c.loop-i.invariant in
    record {
      later = worker_then c.args.self.now c.loop-i.self c.serve_one.new.self v.later c.serve_one.ensures.later;
      peers = c.serve_one.ensures.peers ∙ v.peers;
      all = v.all;
      turned = c.in_ok-serve_one.ensures.turned c.args.self.now.lines v.turned;
    }

pub returns-clause-turned : goal.returns-clause-turned
returns-clause-turned g c =
    let v = c.loop-i.invariant in
    let a : c.len-i-end.result ≡ length c.args.self.now.lines = v.all in
    let t : c.len-i-end.result ≤ c.loop-i.i = c.loop-i-test.false in
    so_far_all TurnedLine c.loop-i.i c.args.self.now.lines c.loop-i.self.lines (omega arith) v.turned
