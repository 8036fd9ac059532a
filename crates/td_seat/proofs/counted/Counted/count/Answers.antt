use Rattle.std.proofs.Common.{◌≡◌, ℕ, List, ap, ◌∙◌}
use Rattle.std.proofs.lemmas.Result.{on_ok_weaker}
use Rattle.td_base.specs.Value.{DotValue}
use Rattle.td_law_replay.specs.Counting.{Count, makes, raised, more_yes, more_no}
use Rattle.td_trace.specs.declared.entry.TraceEntry.{TraceEntry}
use Rattle.td_seat.specs.Votes.{AreVotes}
use Rattle.td_seat.specs.OwnOps.{with_more}
use Rattle.td_seat.specs.Counted.{count_all, told_deps}
use Rattle.td_seat.proofs.Entries.{entry_counted}
use Rattle.td_seat.proofs.counted.Counted.count.Goals as goal

pub returns : goal.returns
returns c =
    let e : TraceEntry = c.args.entry.now in
    record {
      ok =
          on_ok_weaker c.count.result
          (λ (votes : (yes no : List DotValue) → AreVotes yes no c.args.self.now.votes
          → AreVotes (more_yes e.told e.reply yes) (more_no e.told e.reply no) c.count.new.self).
          λ site n entries h.
          let so_far : Count = count_all site n entries in
          let made : c.makes-made.result ≡ makes n so_far e =
          c.makes-made.ensures so_far h.votes ∙ ap (λ (k : ℕ). makes k so_far e) h.ops.size in
          entry_counted site n entries e c.makes-made.result c.used.result made c.used.ensures c.use_one.ensures.range
          (record { ops = c.use_one.new.self; votes = c.count.new.self })
          (c.use_one.ensures.counted site n (raised site c.makes-made.result so_far.have)
          (with_more site c.makes-made.result so_far.have (told_deps site n entries))
          (c.in_ok-make.ensures.ok site n so_far.have (told_deps site n entries) h.ops))
          (votes so_far.yes so_far.no h.votes))
          c.count.ensures.ok;
    }
