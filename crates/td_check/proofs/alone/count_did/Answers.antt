use Rattle.std.proofs.Common.{◌+◌, ◌∷◌, [], ℕ, sym, subst}
use Rattle.td_trace.specs.Editors.{calls_at}
use Rattle.td_reader.specs.Said.{did_of}
use Rattle.td_reader.specs.declared.editors.ReadDid.{ReadDid}
use Rattle.td_check.specs.Alone.{AreCounts}
use Rattle.td_check.proofs.AloneCounts.{call_counted}
use Rattle.td_check.proofs.alone.count_did.Goals as goal

pub returns-in-Call : goal.returns-in-Call
returns-in-Call c = λ before a.
    subst (λ (d : ReadDid). AreCounts (λ (i : ℕ). before i + calls_at (i + 1) (did_of d ∷ [])) c.count_entry.new.row)
    (sym c.in-Call.is)
    (call_counted c.in-Call.call c.in-Call.entry before c.count_entry.new.row (c.count_entry.ensures before a))
