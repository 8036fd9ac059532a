use Rattle.std.proofs.Common.{◌∙◌, ◌-◌, sym, refl, length}
use Rattle.std.proofs.lemmas.Bool.{false≢true}
use Rattle.td_journal.proofs.Finding.{bad_here, is_bad, is_found}
use Rattle.td_journal.proofs.opening.read_records.Goals as goal

pub returns-then-not-is_closed-clause-bad : goal.returns-then-not-is_closed-clause-bad
returns-then-not-is_closed-clause-bad g c = λ at e.
    is_bad c.args.site c.args.n c.args.bytes.now c.args.first c.args.records.now c.in_ok-replica.replica
    c.in_ok-replica.check c.in_ok-replica.rest.now c.requires.head c.in_ok-replica.ensures at
    (bad_here (length c.args.bytes.now - length c.in_ok-replica.rest.now) at e)
    (λ gate more shut is.
    false≢true (sym c.if-not-is_closed.true ∙ c.is_closed.ensures.1 (gate, more, shut, is)))

pub returns-clause-found : goal.returns-clause-found
returns-clause-found g c =
    is_found c.args.site c.args.n c.args.bytes.now c.args.first c.args.records.now c.in_ok-replica.replica
    c.in_ok-replica.check c.in_ok-replica.rest.now c.requires.head c.in_ok-replica.ensures
    (length c.args.bytes.now - length c.in_ok-replica.rest.now) refl (c.is_closed.ensures.0 c.if-not-is_closed.false)
