use Rattle.std.proofs.Common.{◌≡◌, ◌&&◌, ◌||◌, List, Bool, true, sym, ap, subst, ◌∙◌}
use Rattle.std.proofs.lemmas.List.Folds.{list_all-append}
use Rattle.std.specs.List.{AllByRecursion, list_all}
use Rattle.td_clock.specs.Vector.{vector_has}
use Rattle.td_machine.specs.Log.{Committed}
use Rattle.td_machine.specs.Vote.{is_apart}
use Rattle.td_vote.specs.declared.site_commits.SiteCommits.{SiteCommits}
use Rattle.td_vote.specs.BySite.{all_commits, IsOfItsSite}
use Rattle.td_vote.proofs.by_site.each_apart.Goals as goal

pub all_apart-requires : goal.all_apart-requires
all_apart-requires g c =
    (subst (AllByRecursion IsOfItsSite) c.in-Some.ensures.cases.0 c.loop-of_site.invariant.own).0

pub loop-of_site-preserved : goal.loop-of_site-preserved
loop-of_site-preserved g c =
    let passes = λ (d : Committed). vector_has c.args.v.now d.dot
    || is_apart (g.D.Doc.rows c.args.doc.now) c.args.slot.now d in
    let s : SiteCommits = c.in-Some.of_site.now in
    let rest = c.in-Some.rest.now in
    let left = c.in-Some.ensures.cases.0 in
    let apart : list_all passes s.commits.items ≡ true = sym c.all_apart.ensures ∙ c.if-not-all_apart.false in
    record {
      own = (subst (AllByRecursion IsOfItsSite) left c.loop-of_site.invariant.own).1;
      all =
          c.loop-of_site.invariant.all
          ∙ ap (λ (q : List SiteCommits). list_all passes (all_commits q)) left
          ∙ list_all-append passes s.commits.items (all_commits rest)
          ∙ ap (λ (b : Bool). b && list_all passes (all_commits rest)) apart;
    }
