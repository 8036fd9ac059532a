use Rattle.std.proofs.Common.{List, sym, subst, arith}
use Rattle.td_path.specs.declared.slot.Slot.{Slot}
use Rattle.td_machine.specs.Machine.{Machine}
use Rattle.td_idle.specs.declared.walk.Walk.{Walk}
use Rattle.td_idle.proofs.Replicas.{document}
use Rattle.td_idle.proofs.Walked.{Walked, walked_none, walked_next, walked_all}
use Rattle.td_idle.proofs.top.tops_on.Goals as goal

pub loop-id-init : goal.loop-id-init
loop-id-init g c = λ l.
    let m : Machine = c.args.replica.now.machine in
    subst (λ (w : Walk). Walked m c.args.bit 0 w c.new-tops.result.items) (sym c.new-walk.ensures)
    (subst (λ (ts : List Slot). Walked m c.args.bit 0 (record { passed = 0; inside = 0 }) ts)
    (sym c.new-tops.ensures.items) (walked_none m c.args.bit))

pub loop-id-preserved : goal.loop-id-preserved
loop-id-preserved g c = λ l.
    let m : Machine = c.args.replica.now.machine in
    walked_next m (document c.args.replica.now c.entries.ensures.replica) c.args.bit c.args.ids.now c.args.unknown.now l
    c.loop-id.id-index c.id-item.result c.loop-id-test.true c.id-item.is c.loop-id.walk c.pass.new.walk
    c.loop-id.tops.items c.pass.new.tops.items (c.loop-id.invariant l) c.in_ok-pass.ensures

pub returns : goal.returns
returns g c = λ l.
    walked_all c.args.replica.now.machine c.args.bit c.args.ids.now l.all c.loop-id.id-index c.loop-id.walk
    c.loop-id.tops.items (omega arith) (c.loop-id.invariant l)
