use Rattle.std.proofs.Common.{sym, ap, subst}
use Rattle.td_history.specs.declared.entry.CompactEntry.{CompactEntry}
use Rattle.td_history.specs.Ramps.{RampsValue}
use Rattle.td_history.specs.Standing.{StandFor}
use Rattle.td_history.specs.Entries.{entry_of, entry_among}
use Rattle.td_history.proofs.Standing.{stand_on, stand_push, grown_none}
use Rattle.td_history.proofs.Grown.{entry_grown}
use Rattle.td_history.proofs.entries.Entries.push.Goals as goal

pub returns-clause-entries : goal.returns-clause-entries
returns-clause-entries c =
    λ list done stands.
    let ops = c.args.log.now.ops in
    let kept = c.keep_entry-entry in
    let was = subst (λ v. StandFor (entry_of ops v) v.entries list) (sym c.self.view_is) stands in
    let grown = kept.ensures.grown in
    let still = stand_on _ (entry_among ops kept.new.aside.texts kept.new.aside.offered kept.new.aside.wholes)
    (λ x y e. entry_grown ops ops _ _ _ _ _ _ x y (grown_none ops) grown.texts grown.offered grown.wholes e) _ _ was in
    rw (ap (λ (v : RampsValue CompactEntry). v.items) c.push.ensures)
    (stand_push _ _ _ _ _ still (kept.ensures.entry done))
