use Rattle.std.proofs.Common.{◌||◌, List, ap, ◌∙◌}
use Rattle.std.specs.List.{list_all}
use Rattle.td_clock.specs.Vector.{vector_has}
use Rattle.td_machine.specs.Log.{Committed}
use Rattle.td_machine.specs.Vote.{is_apart}
use Rattle.td_vote.specs.declared.site_commits.SiteCommits.{SiteCommits}
use Rattle.td_vote.specs.Commits.{CommitsValue}
use Rattle.td_vote.specs.BySite.{all_commits}
use Rattle.td_vote.proofs.by_site.Commits.all_apart.Goals as goal

pub returns : goal.returns
returns g c =
    let passes = λ (d : Committed). vector_has c.args.v.now d.dot
    || is_apart (g.D.Doc.rows c.args.doc.now) c.args.slot.now d in
    c.each_apart.ensures
    ∙ ap (λ (q : List SiteCommits). list_all passes (all_commits q)) c.deref.ensures.value
    ∙ ap (λ (v : CommitsValue). list_all passes v.commits) c.self.view_is
