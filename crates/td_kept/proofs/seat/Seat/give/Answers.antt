use Rattle.std.proofs.Common.{rules, ◌≡◌, Some, refl, sym, ap, ◌∙◌, true}
use Rattle.td_journal.specs.declared.fault.KeptFault.TheVariants.{Full}
use Rattle.td_journal.specs.Seen.{replica_of}
use Rattle.td_replica.specs.Replica.{ReplicaValue}
use Rattle.td_replica.specs.declared.given.Given.{Given}
use Rattle.td_kept.specs.Sites.{all_inputs_fit, given_inputs}
use Rattle.td_kept.proofs.Places.{cut_in, replica_in}
use Rattle.td_kept.proofs.Staging.{err_on}
use Rattle.td_kept.proofs.seat.Seat.give.Goals as goal

pub returns-in-Err-Full-clause-full : goal.returns-in-Err-Full-clause-full
returns-in-Err-Full-clause-full g c = λ len is_full.
    let k = c.unwrap-kept.result in
    let there : c.self.inside.kept ≡ Some c.unwrap-kept.result = search rules in
    let is = replica_in c.self.inside.kept k c.args.self.now c.self.view_is there in
    let told = c.in-Err-Full.ensures.full len
    (err_on Given c.in-Err-Full.field-0 (Full c.in-Err-Full.len) (Full len) c.in-Err-Full.field-0-is is_full) in (
      ap (λ (r : ReplicaValue). all_inputs_fit (given_inputs c.args.message r) r) (sym is) ∙ told.0,
      told.1,
      cut_in k c.give_one.new.kept c.args.self.now c.args.message c.args.sent.now.items c.give_one.new.sent.items is
          told.2,
    )
