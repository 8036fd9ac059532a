use Rattle.std.proofs.Common.{◌≡◌, ◌++◌, [], ◌∷◌, sym, ap, ◌∙◌, subst}
use Rattle.td_op.specs.declared.entry.Entry.{Entry}
use Rattle.td_machine.specs.Step.{step}
use Rattle.td_machine.specs.Shown.{change_between}
use Rattle.td_replica.specs.LastChange.{change_of, replica_of}
use Rattle.td_replica.specs.Parts.{StateValue}
use Rattle.td_replica.specs.Replica.{ReplicaValue, IsReplica, after_step}
use Rattle.td_replica.proofs.Legal.{built, goes_on}
use Rattle.td_replica.proofs.replica.Replica.step_on.Goals as goal

pub answer_input-requires-clause-built : goal.answer_input-requires-clause-built
answer_input-requires-clause-built g c =
    built (replica_of c.self.inside.state c.self.inside.last) c.self.invariant

pub invariant_of-self-2 : goal.invariant_of-self-2
invariant_of-self-2 g c =
    let r : ReplicaValue = replica_of c.self.inside.state c.self.inside.last in
    let m : c.enter.new.self.machine ≡ (step r.machine c.args.input.now).machine =
    ap (λ (s : StateValue). s.machine) c.enter.ensures ∙ c.in_ok-done.ensures.ok.machine in
    let entry : ◌≡◌ {A = Entry} (record { input = c.args.input.now; reply = c.in_ok-done.done.reply })
    (record { input = c.args.input.now; reply = (step r.machine c.args.input.now).reply }) =
    λ i. record { input = c.args.input.now; reply = c.in_ok-done.ensures.ok.reply i } in
    let entries : c.enter.new.self.entries
    ≡ r.entries ++ record { input = c.args.input.now; reply = (step r.machine c.args.input.now).reply } ∷ [] =
    ap (λ (s : StateValue). s.entries) c.enter.ensures
    ∙ (λ i. c.in_ok-done.ensures.ok.entries i ++ entry i ∷ []) in
    let change : (replica_of c.enter.new.self c.in_ok-done.done.change).change
    ≡ change_between r.machine (step r.machine c.args.input.now).machine =
    ap (λ (s : StateValue). change_of c.in_ok-done.done.change s.ops s.machine.doc) c.enter.ensures
    ∙ c.in_ok-done.ensures.ok.change in
    let same : replica_of c.enter.new.self c.in_ok-done.done.change ≡ after_step c.args.input.now r =
    λ i. record { machine = m i; entries = entries i; change = change i } in
    subst IsReplica (sym same) (goes_on r c.self.invariant c.args.input.now c.is_in_range.ensures)
