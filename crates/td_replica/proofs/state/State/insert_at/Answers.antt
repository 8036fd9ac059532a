use Rattle.std.proofs.Common.{rules, Option, List, ◌-◌, ◌∙◌, sym, ap, subst}
use Rattle.td_base.specs.Value.{AtomIdValue}
use Rattle.td_doc.specs.Document.{DocRow, live_id_at}
use Rattle.td_machine.specs.Request.{insert_aim}
use Rattle.td_replica.specs.Verdict.{verdict_on}
use Rattle.td_replica.proofs.Verdicts.{aim_within}
use Rattle.td_doc.specs.Answers.{IsRow}
use Rattle.td_machine.proofs.Aims.{live_found}
use Rattle.td_replica.specs.Parts.{StateValue}
use Rattle.td_replica.proofs.state.State.insert_at.Goals as goal

pub place-requires-2-clause-row : goal.place-requires-2-clause-row
place-requires-2-clause-row g c = λ x e.
    subst (λ (rows : List DocRow). IsRow rows x) (ap (λ (s : StateValue). s.machine.doc) c.self.view_is)
    (live_found (g.D.Doc.rows c.self.inside.doc) (c.args.index - 1) x (sym c.live_at.ensures ∙ e))

pub returns : goal.returns
returns g c = λ run.
    c.place-2.ensures run
    ∙ ap (λ (after : Option AtomIdValue). verdict_on (insert_aim run after c.args.self.now.machine)
    c.args.self.now.machine)
    c.live_at.ensures
    ∙ ap (λ (s : StateValue). verdict_on (insert_aim run (live_id_at s.machine.doc (c.args.index - 1))
    c.args.self.now.machine) c.args.self.now.machine)
    c.self.view_is
    ∙ sym (aim_within run c.args.index c.args.self.now.machine (search rules) (search rules))
