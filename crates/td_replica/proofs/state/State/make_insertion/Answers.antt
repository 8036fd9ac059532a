use Rattle.std.proofs.Common.{refl, ◌∙◌, sym, ap, subst, ℕ, List}
use Rattle.std.specs.Prelude.{IfOk, IsSome}
use Rattle.td_op.specs.declared.body.Body.TheVariants.{Insert}
use Rattle.td_op.specs.declared.reply.Reply.TheVariants.{Made}
use Rattle.td_machine.specs.Machine.{Machine, next_dot}
use Rattle.td_machine.specs.Making.{make}
use Rattle.td_machine.specs.Taking.{Stepped, stepped}
use Rattle.td_machine.specs.Parts.{MayMake}
use Rattle.td_replica.specs.Steps.{IsStep}
use Rattle.td_replica.proofs.Verdicts.{put_of, run_is, put_done}
use Rattle.td_replica.proofs.state.State.make_insertion.Goals as goal

pub run_in-requires : goal.run_in-requires
run_in-requires g c =
    let k = put_of c.args.request.now c.args.self.now.machine c.args.slot c.requires.asked in
    subst IsSome (sym k.text) refl

pub put-requires-clause-may : goal.put-requires-clause-may
put-requires-clause-may g c =
    let k = put_of c.args.request.now c.args.self.now.machine c.args.slot c.requires.asked in
    subst (λ (run : List (List ℕ)). MayMake (Insert c.args.slot run) c.args.self.now.machine)
    (sym (run_is k c.run_in.result c.run_in.ensures)) (k.may c.requires.valid)

pub returns-clause-ok : goal.returns-clause-ok
returns-clause-ok g c =
    let m : Machine = c.args.self.now.machine in
    let k = put_of c.args.request.now m c.args.slot c.requires.asked in
    subst (λ (s : Stepped). IfOk c.put.result (λ done. IsStep s c.args.self.now c.put.new.self done))
    (ap (λ (run : List (List ℕ)). stepped (Made (next_dot m)) (make (Insert c.args.slot run) m))
    (run_is k c.run_in.result c.run_in.ensures) ∙ sym k.step)
    c.put.ensures.ok

pub returns-clause-number : goal.returns-clause-number
returns-clause-number g c =
    let k = put_of c.args.request.now c.args.self.now.machine c.args.slot c.requires.asked in
    put_done k c.run_in.result (run_is k c.run_in.result c.run_in.ensures) c.put.new.self.ops c.put.result
    c.put.ensures.number
