use Rattle.std.proofs.Common.{ap}
use Rattle.td_journal.specs.Journal.{inputs_of}
use Rattle.td_journal.proofs.Finding.{kept_found}
use Rattle.td_journal.proofs.Keeping.{counted_all}
use Rattle.td_journal.proofs.Writable.{indexed_all}
use Rattle.td_journal.proofs.kept.Kept.of.Goals as goal

pub invariant_of-result : goal.invariant_of-result
invariant_of-result g c =
    let r = c.args.found.replica in
    let count = c.entries-acknowledged.result in
    record {
      counted = counted_all r count c.sent-released.result c.entries-acknowledged.ensures.replica
          c.entries-acknowledged.ensures.entries c.sent-released.ensures;
      writable = indexed_all (inputs_of r.entries) c.requires.found.can;
      kept = λ is_open.
          kept_found g.K.Disk r.machine.site r.machine.size (g.K.Disk.reads c.args.disk) r c.args.found.check
          c.args.found.end c.new.result c.args.found.staged count c.requires.found
          (ap g.K.Disk.reads c.new.ensures.disk) c.new.ensures.end c.new.ensures.settled c.requires.short
          c.requires.staged c.entries-acknowledged.ensures.entries;
    }
