use Rattle.td_reader.proofs.Collecting.{no_fault}
use Rattle.td_reader.proofs.laws.written_traces_have_no_fault.Goals as goal

pub returns : goal.returns
returns c = λ bytes t line is fault. no_fault bytes t line is fault
