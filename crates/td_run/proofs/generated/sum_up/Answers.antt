use Rattle.std.proofs.Common.{◌≡◌, ℕ, List, IfOk, subst, arith, rules}
use Rattle.td_doc.specs.Document.{live_atoms}
use Rattle.td_order.specs.Show.{shown_atoms}
use Rattle.td_report.specs.Numbers.{summary_of}
use Rattle.td_world.specs.World.{WorldValue, machine_of}
use Rattle.td_world.proofs.Promised.{atoms_shown}
use Rattle.td_run.specs.Outputs.{machines}
use Rattle.td_run.proofs.generated.sum_up.Goals as goal

pub returns-clause-taken : goal.returns-clause-taken
returns-clause-taken g c =
    let w : WorldValue = c.args.world.now in
    let same : live_atoms (machine_of w 1).doc ≡ shown_atoms (machine_of w 1).log =
    atoms_shown w c.replica.ensures.world 1 (omega arith) (omega (arith, c.requires)) in
    let own : IfOk c.summary_lines.result (λ lines. lines
    ≡ summary_of c.args.size c.args.number c.args.commands (machines w) (live_atoms (machine_of w 1).doc)) =
    search rules in
    subst (λ (atoms : List (List ℕ)). IfOk c.summary_lines.result (λ lines. lines
    ≡ summary_of c.args.size c.args.number c.args.commands (machines w) atoms)) same own
