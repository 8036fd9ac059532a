use Rattle.std.proofs.Common.{◌≡◌, ◌||◌, length}
use Rattle.std.specs.List.{AllByRecursion, list_all}
use Rattle.td_clock.specs.Vector.{vector_has}
use Rattle.td_machine.specs.Log.{Committed}
use Rattle.td_machine.specs.Vote.{is_apart}
use Rattle.td_vote.specs.BySite.{all_commits, IsOfItsSite}
use Rattle.td_vote.proofs.by_site.each_apart.Given as goal

abbrev pub invariant-loop-of_site : goal.invariant-loop-of_site
invariant-loop-of_site g l = record {
  own : AllByRecursion IsOfItsSite l.left;
  all : list_all (λ (c : Committed). vector_has l.v c.dot || is_apart (g.D.Doc.rows l.doc) l.slot c)
      (all_commits l.sites)
      ≡ list_all (λ (c : Committed). vector_has l.v c.dot || is_apart (g.D.Doc.rows l.doc) l.slot c)
      (all_commits l.left);
}

abbrev pub decreases-loop-of_site : goal.decreases-loop-of_site
decreases-loop-of_site g l = length l.left
