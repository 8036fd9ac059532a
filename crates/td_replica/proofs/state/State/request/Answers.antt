use Rattle.std.proofs.Common.{◌∙◌, sym, subst}
use Rattle.std.specs.Prelude.{IfOk}
use Rattle.td_machine.specs.Taking.{Stepped}
use Rattle.td_replica.specs.Steps.{IsStep}
use Rattle.td_replica.proofs.Kept.{held_apart}
use Rattle.td_replica.proofs.Verdicts.{has_room, site_within, delete_of, delete_done, propose_may, answer_step}
use Rattle.td_replica.proofs.state.State.request.Goals as goal

pub verdict-requires-clause-held : goal.verdict-requires-clause-held
verdict-requires-clause-held g c = held_apart c.args.self.now.machine c.requires.built

pub verdict-requires-clause-room : goal.verdict-requires-clause-room
verdict-requires-clause-room g c = has_room c.args.self.now.machine c.requires.built

pub refuse-requires : goal.refuse-requires
refuse-requires g c = site_within c.args.self.now.machine c.requires.built

pub returns-in-Answer-clause-ok : goal.returns-in-Answer-clause-ok
returns-in-Answer-clause-ok g c =
    subst (λ (s : Stepped). IfOk c.refuse.result (λ done. IsStep s c.args.self.now c.refuse.new.self done))
    (sym (answer_step c.args.request.now c.args.self.now.machine c.in-Answer.reply
    (sym c.verdict.ensures ∙ c.in-Answer.is)))
    c.refuse.ensures.ok

-- ---- the run of the request is put in the slot

pub make_insertion-requires-clause-asked : goal.make_insertion-requires-clause-asked
make_insertion-requires-clause-asked g c = sym c.verdict.ensures ∙ c.in-Put.is

-- ---- the row is deleted

pub make_deletion-requires-clause-may : goal.make_deletion-requires-clause-may
make_deletion-requires-clause-may g c =
    (delete_of c.args.request.now c.args.self.now.machine c.in-Delete.target
    (sym c.verdict.ensures ∙ c.in-Delete.is)).may c.requires.valid

pub returns-in-Delete-clause-ok : goal.returns-in-Delete-clause-ok
returns-in-Delete-clause-ok g c =
    subst (λ (s : Stepped). IfOk c.make_deletion.result
    (λ done. IsStep s c.args.self.now c.make_deletion.new.self done))
    (sym (delete_of c.args.request.now c.args.self.now.machine c.in-Delete.target
    (sym c.verdict.ensures ∙ c.in-Delete.is)).step)
    c.make_deletion.ensures.ok

pub returns-in-Delete-clause-number : goal.returns-in-Delete-clause-number
returns-in-Delete-clause-number g c =
    delete_done
    (delete_of c.args.request.now c.args.self.now.machine c.in-Delete.target (sym c.verdict.ensures ∙ c.in-Delete.is))
    c.make_deletion.new.self.ops c.make_deletion.result

-- ---- the slot is proposed

pub make_proposal-requires-clause-may : goal.make_proposal-requires-clause-may
make_proposal-requires-clause-may g c =
    propose_may c.args.request.now c.args.self.now.machine c.requires.valid c.in-Propose.slot
    (sym c.verdict.ensures ∙ c.in-Propose.is)
