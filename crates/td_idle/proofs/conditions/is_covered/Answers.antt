use Rattle.std.proofs.Common.{List, ap, sym, ◌∙◌}
use Rattle.td_doc.specs.Answers.{row_told}
use Rattle.td_doc.specs.Document.{DocRow}
use Rattle.td_idle.proofs.Covered.{told_covered}
use Rattle.td_idle.proofs.conditions.is_covered.Goals as goal

pub returns-in-Some : goal.returns-in-Some
returns-in-Some g c =
    told_covered c.args.replica.now.machine c.args.idle.now.tops.items c.args.idle.now.unknown.items c.args.id
    c.in-Some.row c.is_covered_in.result
    (sym (c.find.ensures ∙ ap (λ (rows : List DocRow). row_told rows c.args.id) c.doc.ensures) ∙ c.in-Some.is)
    c.is_covered_in.ensures
