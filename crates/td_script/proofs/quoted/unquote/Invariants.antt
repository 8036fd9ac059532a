use Rattle.std.proofs.Common.{◌≡◌, false, drop}
use Rattle.td_script.specs.Texts.{unquoted}
use Rattle.td_script.proofs.TextWords.{onto_read}
use Rattle.td_script.proofs.quoted.unquote.Given as goal

abbrev pub invariant-loop-at : goal.invariant-loop-at
invariant-loop-at l = unquoted false l.quoted ≡ onto_read l.text.items (unquoted l.is_escaped (drop l.at l.quoted))
