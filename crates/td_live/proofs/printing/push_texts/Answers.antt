use Rattle.std.proofs.Common.{◌≡◌, ◌<◌, arith}
use Rattle.td_doc.specs.Document.{text_of}
use Rattle.td_report.specs.Trace.{text_said}
use Rattle.td_world.specs.World.{replica_from, size}
use Rattle.td_live.specs.Printing.{texts_of}
use Rattle.td_live.proofs.Telling.{behind, text_there}
use Rattle.td_live.proofs.printing.push_texts.Goals as goal

pub loop-place-preserved : goal.loop-place-preserved
loop-place-preserved g c =
    let w = c.args.world.now in
    let k = c.loop-place.place in
    let all : c.args.sites ≡ size c.args.world.now = c.requires.sites in
    let less : c.loop-place.place < size c.args.world.now = omega (arith, c.loop-place-test.true, all) in
    behind text_said c.args.bytes.now c.loop-place.bytes c.push_text.new.bytes (texts_of w.replicas) k
    (text_of (replica_from w.replicas k).machine.doc) (text_there w.replicas k less) c.loop-place.invariant
    c.in_ok-push_text.ensures
