-- A refusal leaves the machine as it was.
use Rattle.std.proofs.Common.{◌≡◌, refl}
use Rattle.td_op.specs.declared.input.Input.{Input}
use Rattle.td_machine.specs.Machine.{Machine}
use Rattle.td_machine.specs.Taking.{Stepped}
use Rattle.td_machine.specs.Step.{step, IsRefusal}
use Rattle.td_machine.proofs.StepKinds.{by_kinds}

pub kept : (m : Machine) (input : Input) → IsRefusal (step m input).reply → (step m input).machine ≡ m
kept m input =
    by_kinds m (λ (s : Stepped). IsRefusal s.reply → s.machine ≡ m) input
    (record {
      stays = λ reply refused. refl;
      makes = λ request a e is free room refused. absurd refused;
      cancels = λ request p e is refused. absurd refused;
      delays = λ x e foreign late refused. absurd refused;
      takes = λ x e foreign ready fit refused. absurd refused;
      counts = λ v b e found new within own refused. absurd refused;
      drops = λ x why i ready refused. absurd refused;
      resumes = λ x i ready fit refused. absurd refused;
    })
