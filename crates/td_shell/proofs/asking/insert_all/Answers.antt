use Rattle.std.proofs.Common.{◌≡◌, ◌∷◌, ℕ, List}
use Rattle.std.proofs.lemmas.Result.{err_from_is_err_and}
use Rattle.td_journal.specs.Seen.{replica_of}
use Rattle.td_op.specs.declared.request.Request.TheVariants.{Insert}
use Rattle.td_report.specs.Asking.{inserts}
use Rattle.td_shell.specs.Asking.{after_request, ask_all}
use Rattle.td_shell.proofs.Wanting.{LeadsTo, insert_leads, wanting_on}
use Rattle.td_shell.proofs.asking.insert_all.Goals as goal

pub returns-in_err-reply-clause-wanting : goal.returns-in_err-reply-clause-wanting
returns-in_err-reply-clause-wanting g c =
    let atom : List ℕ = c.in-Some.atom in
    let left : c.loop-atom.atom-iterator ≡ atom ∷ c.next.new.self = c.in-Some.ensures.steps in
    let all = ask_all (inserts c.args.index c.args.atoms.now) (replica_of c.args.kept.now) in
    let p = err_from_is_err_and c.from_residual.result c.from_residual.ensures.1 in
    let near = after_request (Insert c.loop-atom.index atom) (replica_of c.loop-atom.kept) in
    let leads : LeadsTo near all.replica = insert_leads c.loop-atom.index c.loop-atom.done atom c.next.new.self
    c.loop-atom.atom-iterator (replica_of c.loop-atom.kept) all left c.loop-atom.invariant.asked in
    rw (p.1, p.2) (wanting_on c.ask.new.kept near all.replica c.in_err-reply.field-0.0 leads
    c.in_err-reply.ensures.wanting)
