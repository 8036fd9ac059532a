use Rattle.td_report.proofs.Tracing.{parts_of_trace}
use Rattle.td_report.proofs.laws.traces_are_their_parts.Goals as goal

pub returns : goal.returns
returns c = parts_of_trace
