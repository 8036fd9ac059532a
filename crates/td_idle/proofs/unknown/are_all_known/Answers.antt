use Rattle.std.proofs.Common.{◌≤◌, ◌<◌, ◌∙◌, List, length, ap, sym, arith}
use Rattle.std.proofs.lemmas.List.{take_all}
use Rattle.std.specs.List.{list_all}
use Rattle.td_base.specs.Value.{DotValue}
use Rattle.td_clock.specs.Vector.{vector_has}
use Rattle.td_doc.specs.Document.{find_row}
use Rattle.td_idle.specs.Unknown.{deletes_of}
use Rattle.td_idle.proofs.Lists.{all_fails, all_next}
use Rattle.td_idle.proofs.unknown.are_all_known.Goals as goal

pub loop-k-preserved : goal.loop-k-preserved
loop-k-preserved g c =
    let dots : List DotValue = deletes_of (find_row c.args.id (g.D.Doc.rows c.args.doc.now)) in
    let below : c.loop-k.k < length dots = omega arith in
    all_next (vector_has c.args.v.now) dots c.loop-k.k c.is_delete_known.result below c.is_delete_known.ensures
    c.if-not-is_delete_known.false c.loop-k.invariant

pub returns-then-not-is_delete_known : goal.returns-then-not-is_delete_known
returns-then-not-is_delete_known g c =
    let dots : List DotValue = deletes_of (find_row c.args.id (g.D.Doc.rows c.args.doc.now)) in
    let below : c.loop-k.k < length dots = omega arith in
    sym (all_fails (vector_has c.args.v.now) dots c.loop-k.k c.is_delete_known.result below c.is_delete_known.ensures
    c.if-not-is_delete_known.true)

pub returns : goal.returns
returns g c =
    let dots : List DotValue = deletes_of (find_row c.args.id (g.D.Doc.rows c.args.doc.now)) in
    let end : length dots ≤ c.loop-k.k = omega arith in
    sym (sym (ap (list_all (vector_has c.args.v.now)) (take_all c.loop-k.k dots end)) ∙ c.loop-k.invariant)
