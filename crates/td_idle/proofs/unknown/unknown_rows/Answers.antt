use Rattle.std.proofs.Common.{◌∙◌, ap, not, filter, arith}
use Rattle.std.proofs.lemmas.List.{take_all}
use Rattle.td_base.specs.Value.{AtomIdValue}
use Rattle.td_idle.specs.Unknown.{is_known_id}
use Rattle.td_idle.proofs.UnknownRows.{unknown_is, unknown_next}
use Rattle.td_idle.proofs.unknown.unknown_rows.Goals as goal

pub loop-id-preserved : goal.loop-id-preserved
loop-id-preserved g c =
    unknown_next (is_known_id c.args.v.now (g.D.Doc.rows c.args.doc.now)) c.args.ids.now c.loop-id.id-index
    c.id-item.result c.loop-id.unknown.items c.push_unknown.new.unknown.items c.loop-id-test.true c.id-item.is
    c.loop-id.invariant c.in_ok-push_unknown.ensures

pub returns : goal.returns
returns g c = λ d is.
    c.loop-id.invariant
    ∙ (ap (filter (λ (x : AtomIdValue). not (is_known_id c.args.v.now (g.D.Doc.rows c.args.doc.now) x)))
    (take_all c.loop-id.id-index c.args.ids.now (omega arith))
    ∙ unknown_is c.args.v.now (g.D.Doc.rows c.args.doc.now) d c.args.ids.now is)
