use Rattle.td_report.specs.Trace.{history_said, log_said, text_said}
use Rattle.td_report.proofs.Tracing.{numbered_push}
use Rattle.td_report.proofs.laws.traces_grow_at_their_ends.Goals as goal

pub returns-clause-sites : goal.returns-clause-sites
returns-clause-sites c = numbered_push history_said 1

pub returns-clause-editors : goal.returns-clause-editors
returns-clause-editors c = numbered_push log_said 1

pub returns-clause-texts : goal.returns-clause-texts
returns-clause-texts c = numbered_push text_said 1
