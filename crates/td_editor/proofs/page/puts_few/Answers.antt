use Rattle.std.proofs.Common.{◌≤◌, sym, subst}
use Rattle.td_base.specs.declared.run.TheConstants.{MAX_RUN_LEN}
use Rattle.td_op.specs.declared.change.Change.{Change}
use Rattle.td_op.specs.Change.{put_count}
use Rattle.td_wire.proofs.Runs.{from_run}
use Rattle.td_editor.proofs.page.puts_few.Goals as goal

pub returns-in-PutRun : goal.returns-in-PutRun
returns-in-PutRun c =
    subst (λ (change : Change). put_count change ≤ MAX_RUN_LEN) (sym c.in-PutRun.is)
    (from_run _ c.len-len.ensures.run).0.most
