use Rattle.std.proofs.Common.{◌≡◌, ◌<◌, arith}
use Rattle.td_report.specs.Trace.{history_said}
use Rattle.td_trace.specs.Entries.{traced_history, traced_family}
use Rattle.td_world.specs.World.{family_of, replica_from, size}
use Rattle.td_live.proofs.Telling.{behind, history_there}
use Rattle.td_live.proofs.printing.push_sites.Goals as goal

pub loop-place-preserved : goal.loop-place-preserved
loop-place-preserved g c =
    let w = c.args.world.now in
    let k = c.loop-place.place in
    let all : c.args.sites ≡ size c.args.world.now = c.requires.sites in
    let less : c.loop-place.place < size c.args.world.now = omega (arith, c.loop-place-test.true, all) in
    behind history_said c.args.bytes.now c.loop-place.bytes c.push_site.new.bytes (traced_family (family_of w)) k
    (traced_history (replica_from w.replicas k).entries) (history_there w.replicas k less) c.loop-place.invariant
    c.in_ok-push_site.ensures
