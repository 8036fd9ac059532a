use Rattle.std.proofs.Common.{◌≡◌, false, take, drop}
use Rattle.td_reader.specs.Arguments.{raw_at}
use Rattle.td_reader.proofs.Texts.{behind_raw}
use Rattle.td_reader.proofs.quoted.split_raw.Given as goal

abbrev pub invariant-loop-at : goal.invariant-loop-at
invariant-loop-at l = raw_at false l.bytes ≡ behind_raw (take l.at l.bytes) (raw_at l.is_escaped (drop l.at l.bytes))
