use Rattle.std.proofs.Common.{◌≡◌, ◌<◌, length, refl, sym, ap, ◌∙◌, arith}
use Rattle.std.proofs.lemmas.Result.{on_ok_weaker, on_err_weaker}
use Rattle.td_machine.specs.Log.{commit_at}
use Rattle.td_vote.specs.declared.site_commits.SiteCommits.{SiteCommits}
use Rattle.td_vote.specs.Commits.{put_commit}
use Rattle.td_vote.specs.BySite.{IsOfItsSite}
use Rattle.td_vote.proofs.BySite.{all_at, by_site_set, own_after, put_there, same_there}
use Rattle.td_vote.proofs.by_site.put_at.Goals as goal

pub returns-clause-sites : goal.returns-clause-sites
returns-clause-sites c =
    let sites = c.args.sites.now.items in
    let e = c.index_mut.result.now in
    let is = c.index_mut.ensures.value in
    let lt : c.args.place < length sites = omega (arith, c.args.sites.now.ok.0) in
    let here : c.args.dot.site ≡ e.site = sym (ap (λ (q : SiteCommits). q.site) is ∙ c.requires.site e) in
    by_site_set sites c.args.place e (record { site = e.site; commits = c.put.new.commits }) c.requires.sites lt is refl
    (own_after c.put.result (commit_at c.args.dot c.args.slot) e.commits.items c.put.new.commits.items e.site here
    (all_at IsOfItsSite sites c.args.place e c.requires.sites.own lt is) c.put.ensures.ok c.put.ensures.err)

pub returns-clause-ok : goal.returns-clause-ok
returns-clause-ok c =
    let sites = c.args.sites.now.items in
    let e = c.index_mut.result.now in
    let is = c.index_mut.ensures.value in
    let commit = commit_at c.args.dot c.args.slot in
    let lt : c.args.place < length sites = omega (arith, c.args.sites.now.ok.0) in
    let here : c.args.dot.site ≡ e.site = sym (ap (λ (q : SiteCommits). q.site) is ∙ c.requires.site e) in
    on_ok_weaker c.put.result
    (λ (new : c.put.new.commits.items ≡ put_commit commit e.commits.items).
    put_there commit sites c.args.place e (record { site = e.site; commits = c.put.new.commits }) c.requires.sites lt is
    here new) c.put.ensures.ok

pub returns-clause-err : goal.returns-clause-err
returns-clause-err c =
    let sites = c.args.sites.now.items in
    let e = c.index_mut.result.now in
    on_err_weaker c.put.result
    (λ (same : c.put.new.commits.items ≡ e.commits.items).
    same_there sites c.args.place e (record { site = e.site; commits = c.put.new.commits }) c.index_mut.ensures.value
    same) c.put.ensures.err
