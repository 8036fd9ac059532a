use Rattle.std.proofs.Common.{Option, sym, ap, ◌∙◌}
use Rattle.td_base.specs.Value.{AtomIdValue}
use Rattle.td_doc.specs.Answers.{is_live_id}
use Rattle.td_machine.specs.Machine.{Machine}
use Rattle.td_machine.specs.Request.{insert_aim, insert_aim_after}
use Rattle.td_replica.specs.Parts.{StateValue}
use Rattle.td_replica.specs.Verdict.{verdict_on}
use Rattle.td_replica.proofs.Verdicts.{after_live}
use Rattle.td_replica.proofs.state.State.insert_after.Goals.{in_default-via-in-Some+else-not-is_live}
use Rattle.td_replica.proofs.state.State.insert_after.Goals.{in_default-via-in_default}
use Rattle.td_replica.proofs.state.State.insert_after.Goals as goal

pub returns-in_default : goal.returns-in_default
returns-in_default g c = λ run.
    let m : Machine = c.args.self.now.machine in
    let put : Option AtomIdValue → Rattle.td_replica.specs.declared.requests.Verdict.Verdict =
    λ after. verdict_on (insert_aim run after m) m in
    elim c.in_default.branch [
      | in_default-via-in-Some+else-not-is_live w ↦
          c.place.ensures run ∙ ap put w.after-is
          ∙ sym (after_live run w.in-Some.id m
          (ap (λ (s : StateValue). is_live_id s.machine.doc w.in-Some.id) (sym c.self.view_is)
          ∙ sym w.is_live.ensures ∙ w.if-not-is_live.false))
          ∙ sym (ap (λ (after : Option AtomIdValue). verdict_on (insert_aim_after run after m) m) w.in-Some.is)
      | in_default-via-in_default w ↦
          c.place.ensures run ∙ ap put (w.after-is ∙ w.in_default.is)
          ∙ sym (ap (λ (after : Option AtomIdValue). verdict_on (insert_aim_after run after m) m) w.in_default.is)
    ]
