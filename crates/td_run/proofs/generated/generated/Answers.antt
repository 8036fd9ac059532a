use Rattle.std.proofs.Common.{◌≡◌, ◌≤◌, ◌+◌, ◌*◌, ℕ, length, ap, sym, subst, ◌∙◌, arith}
use Rattle.std.specs.Prelude.{All}
use Rattle.td_gen.specs.Generator.{generated}
use Rattle.td_script.specs.declared.script.Script.{Script}
use Rattle.td_run.specs.Sites.{MayStand}
use Rattle.td_gen.proofs.Commands.{generated_few}
use Rattle.td_run.proofs.Commands.{generated_stand}
use Rattle.td_run.proofs.Summed.{summed}
use Rattle.td_run.proofs.generated.generated.Goals as goal

pub played-requires-clause-each : goal.played-requires-clause-each
played-requires-clause-each g c =
    subst (λ (s : Script). All (MayStand s.sites) s.commands) (sym c.in_ok-script.ensures)
    (generated_stand c.args.size c.from.result)

pub overflow_cast-commands : goal.overflow_cast-commands
overflow_cast-commands g c =
    let few : length (generated c.args.size c.from.result).commands ≤ 4 * c.args.size + 2 =
    generated_few c.args.size c.from.result in
    let same : length c.as_slice.result.now ≡ length (generated c.args.size c.from.result).commands =
    ap length c.as_slice.ensures ∙ ap (λ (s : Script). length s.commands) c.in_ok-script.ensures in
    omega (arith, few, same, c.requires)

pub returns : goal.returns
returns g c =
    let n : ℕ = c.args.size in
    let same : c.in_ok-script.script ≡ generated n c.args.number =
    c.in_ok-script.ensures ∙ ap (λ (k : ℕ). generated n k) c.from.ensures in
    let count : length c.as_slice.result.now ≡ length (generated n c.args.number).commands =
    ap length c.as_slice.ensures ∙ ap (λ (s : Script). length s.commands) same in
    summed n c.args.number (length c.as_slice.result.now) c.in_ok-script.script c.in_ok-world.world c.sum_up.result same
    count c.in_ok-world.ensures.played c.sum_up.ensures.own c.sum_up.ensures.taken
