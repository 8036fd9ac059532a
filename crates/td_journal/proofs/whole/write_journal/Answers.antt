use Rattle.std.proofs.Common.{rules, ◌≡◌, ◌<◌, ◌+◌, ◌∙◌, sym, length, IsErrOf, Some, slice_get}
use Rattle.td_base.proofs.Places.{kth_next}
use Rattle.td_disk.specs.declared.disk.TheConstants.{MAX_DISK_LEN}
use Rattle.td_journal.specs.declared.fault.SaveFault.TheVariants.{Long}
use Rattle.td_journal.specs.Check.{bytes_of}
use Rattle.td_journal.specs.Journal.{record_bytes}
use Rattle.td_journal.proofs.Wholes.{long_there, written_more}
use Rattle.td_journal.proofs.whole.write_journal.Goals as goal

pub loop-k-preserved : goal.loop-k-preserved
loop-k-preserved g c =
    let r = c.args.replica.now in
    let at : slice_get c.args.replica.now.entries c.loop-k.k ≡ Some c.in-Some.entry =
    sym (kth_next c.args.replica.now.entries c.loop-k.k) ∙ sym c.entry.ensures ∙ c.in-Some.is in
    written_more c.args.format r.machine.site r.machine.size r.entries c.loop-k.k c.in-Some.entry
    c.loop-k.journal.bytes c.loop-k.journal.check c.add.new.self.bytes c.add.new.self.check c.loop-k.invariant at
    c.add.ensures.can c.in_ok-add.ensures.bytes c.in_ok-add.ensures.check c.in_ok-add.ensures.format

pub returns-in_err-add-clause-long : goal.returns-in_err-add-clause-long
returns-in_err-add-clause-long g c = λ (is_long : IsErrOf c.from_residual-in_err-add.result Long).
    let at : slice_get c.args.replica.now.entries c.loop-k.k ≡ Some c.in-Some.entry =
    sym (kth_next c.args.replica.now.entries c.loop-k.k) ∙ sym c.entry.ensures ∙ c.in-Some.is in
    let long : MAX_DISK_LEN < length c.loop-k.journal.bytes
    + length (record_bytes c.loop-k.journal.check.format (bytes_of c.loop-k.journal.check) c.in-Some.entry.input) + 1 =
    search rules in
    long_there c.args.format c.args.replica.now c.loop-k.k c.in-Some.entry c.loop-k.journal.bytes c.loop-k.journal.check
    c.loop-k.invariant at long
