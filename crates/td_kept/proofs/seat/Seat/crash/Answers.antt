use Rattle.std.proofs.Common.{rules, ◌≡◌, ℕ, Some, Err, refl, sym, ap, ◌∙◌}
use Rattle.td_journal.specs.declared.fault.KeptFault.TheVariants.{Full}
use Rattle.td_journal.specs.Seen.{replica_of}
use Rattle.td_replica.specs.Replica.{ReplicaValue}
use Rattle.std.specs.Prelude.{⊤}
use Rattle.td_kept.proofs.Places.{full_in, replica_in}
use Rattle.td_kept.proofs.Staging.{err_on}
use Rattle.td_kept.proofs.Wholes.{crashed_after}
use Rattle.td_kept.proofs.seat.Seat.crash.Goals as goal

pub returns-in_ok-new-in-Ok-clause-ok : goal.returns-in_ok-new-in-Ok-clause-ok
returns-in_ok-new-in-Ok-clause-ok g c =
    let k = c.unwrap-kept.result in
    let there : c.self.inside.kept ≡ Some c.unwrap-kept.result = search rules in
    let is = replica_in c.self.inside.kept k c.args.self.now c.self.view_is there in
    let e = c.in_ok-new-in-Ok.ensures in
    crashed_after c.ask.new.kept c.in_ok-new-in-Ok.new (replica_of k) c.args.input c.args.k c.args.choice
    c.args.self.now c.args.sent.now.items c.come_back.new.sent.items c.in-Ok.ensures.asked is e.inputs e.place e.replica
    e.sent

pub returns-in-Err-Full-clause-full : goal.returns-in-Err-Full-clause-full
returns-in-Err-Full-clause-full g c = λ len is_full.
    let k = c.unwrap-kept.result in
    let there : c.self.inside.kept ≡ Some c.unwrap-kept.result = search rules in
    let is = replica_in c.self.inside.kept k c.args.self.now c.self.view_is there in
    let told = c.in-Err-Full.ensures.full len
    (err_on ⊤ c.in-Err-Full.field-0 (Full c.in-Err-Full.len) (Full len) c.in-Err-Full.field-0-is
    (ap (λ (n : ℕ). Err (Full n)) (sym c.in-Err-Full.len-is) ∙ is_full)) in
    let full = full_in k c.ask.new.kept c.args.self.now c.args.input len is c.requires.there told.0 told.1 told.2 in
    (full.0, full.1, full.2, refl)
