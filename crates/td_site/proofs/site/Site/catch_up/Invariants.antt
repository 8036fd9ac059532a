use Rattle.std.proofs.Common.{◌≡◌, false, length}
use Rattle.td_site.specs.Shows.{texts_to}
use Rattle.td_site.specs.Later.{LaterSite, OnlyNexts}
use Rattle.td_site.proofs.site.Site.catch_up.Given as goal

abbrev pub invariant-loop-self : goal.invariant-loop-self
invariant-loop-self g l = record {
  nexts : OnlyNexts l.fn.self.replica.entries l.self.replica.entries;
  late : l.self.late ≡ false;
  texts : l.self.writer.publishes ≡ texts_to l.self.replica (length l.self.replica.entries);
  later : LaterSite l.fn.self l.self;
}

abbrev pub decreases-loop-self : goal.decreases-loop-self
decreases-loop-self g l = length l.self.replica.machine.waiting
