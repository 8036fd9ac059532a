use Rattle.std.proofs.Common.{◌<◌, ◌+◌, List, ℕ, sym, subst, take}
use Rattle.td_base.proofs.Places.{take_there}
use Rattle.td_trace.specs.declared.entry.TraceEntry.{TraceEntry}
use Rattle.td_law_replay.specs.Traced.{site_entries}
use Rattle.td_seat.specs.Counted.{AreCounted}
use Rattle.td_seat.specs.declared.counted.Counted.{Counted}
use Rattle.td_check.proofs.Starting.{not_past}
use Rattle.td_check.proofs.opening.counted_of.Goals as goal
use Rattle.td_check.proofs.opening.counted_of.Goals.{in-Some+in_ok-count, in_default}

pub loop-k-preserved : goal.loop-k-preserved
loop-k-preserved c =
    let entries : List TraceEntry = site_entries c.args.trace.now.histories c.args.site in
    elim c.match-entry.branch [
      | in-Some+in_ok-count w ↦ subst
          (λ (d : Counted). AreCounted c.args.site c.args.trace.now.sites (take (c.loop-k.k + 1) entries) d)
          (sym w.counted-is)
          (subst (λ (es : List TraceEntry). AreCounted c.args.site c.args.trace.now.sites es w.count.new.self)
          (sym (take_there entries c.loop-k.k w.in-Some.entry (sym w.in-Some.ensures)))
          (w.in_ok-count.ensures.ok c.args.site c.args.trace.now.sites (take c.loop-k.k entries) c.loop-k.invariant))
      | in_default w ↦ absurd (not_past entries c.loop-k.k (sym w.in_default.ensures)
          (subst (λ (n : ℕ). c.loop-k.k < n) c.entries-k-end.ensures c.loop-k-test.true))
    ]
