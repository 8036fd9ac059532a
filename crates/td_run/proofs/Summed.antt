-- What is summed up of a generated script that was played.
use Rattle.std.proofs.Common.{◌≡◌, ℕ, List, Ok, Err, Result, ◌∙◌, subst}
use Rattle.std.specs.Prelude.{IfOk, length}
use Rattle.td_doc.specs.Document.{live_atoms}
use Rattle.td_gen.specs.Generator.{generated}
use Rattle.td_order.specs.Show.{shown_atoms}
use Rattle.td_report.specs.Numbers.{summary_of}
use Rattle.td_script.specs.declared.script.Script.{Script}
use Rattle.td_world.specs.World.{WorldValue, machine_of}
use Rattle.td_run.specs.Outputs.{IsPlayedBy, IsSummary, machines}
use Rattle.td_run.specs.Printing.{Printed}

pub summed : {E : Type 0} (size number commands : ℕ) (script : Script) (world : WorldValue) (result : Result (List ℕ) E)
    → script ≡ generated size number → commands ≡ length (generated size number).commands
    → (end : Printed) × IsPlayedBy script end × (world ≡ end.world)
    → IfOk result (λ lines. lines
    ≡ summary_of size number commands (machines world) (live_atoms (machine_of world 1).doc))
    → IfOk result (λ lines. lines
    ≡ summary_of size number commands (machines world) (shown_atoms (machine_of world 1).log))
    → IfOk result (IsSummary size number)
summed size number commands script world (Ok lines) same count p own taken = record {
  end = p.0;
  played = subst (λ (s : Script). IsPlayedBy s p.0) same p.1;
  own = own ∙ (λ i. summary_of size number (count i) (machines (p.2 i)) (live_atoms (machine_of (p.2 i) 1).doc));
  taken = taken ∙ (λ i. summary_of size number (count i) (machines (p.2 i)) (shown_atoms (machine_of (p.2 i) 1).log));
}
summed size number commands script world (Err e) same count p own taken = tt
