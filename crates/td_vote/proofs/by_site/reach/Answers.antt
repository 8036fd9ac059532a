use Rattle.std.proofs.Common.{◌≡◌, ◌<◌, ◌≢◌, List, [], length, sym, ap, subst, ◌∙◌}
use Rattle.std.specs.List.{HoldsAt}
use Rattle.std.specs.declared.alloc.Global.{Global}
use Rattle.std.specs.declared.vec.Vec.{Vec}
use Rattle.td_machine.specs.Log.{Committed}
use Rattle.td_vote.specs.declared.site_commits.SiteCommits.{SiteCommits}
use Rattle.td_vote.specs.Commits.{IsOfSite}
use Rattle.td_vote.specs.BySite.{IsOfItsSite, IsPlaceOf}
use Rattle.td_vote.proofs.BySite.{by_site_insert, no_more}
use Rattle.td_vote.proofs.by_site.reach.Goals as goal

pub returns-clause-sites : goal.returns-clause-sites
returns-clause-sites c =
    let site = c.args.site in
    let place = c.place_of_site-place.result in
    let s : SiteCommits = record { site = site; commits = c.replace-commits.result } in
    let none : c.replace-commits.result.items ≡ [] =
    ap (λ (v : Vec Committed Global). v.items) c.replace-commits.ensures.value ∙ c.requires.spare in
    let own : IsOfItsSite s = subst (IsOfSite site) (sym none) (record { one = tt; order = tt }) in
    let there : IsPlaceOf site c.args.sites.now.items place =
    subst (λ (q : List SiteCommits). IsPlaceOf site q place) c.deref.ensures.value c.place_of_site-place.ensures in
    let other : place < length c.args.sites.now.items
    → HoldsAt (λ (t : SiteCommits). t.site ≢ site) c.args.sites.now.items place =
    subst
    (λ (q : List SiteCommits). place < length q → HoldsAt (λ (t : SiteCommits). t.site ≢ site) q place)
    c.deref-2.ensures.value (c.is_at.ensures.no c.if-is_at.false) in
    rw c.in_ok-insert.ensures.items
    (by_site_insert c.args.sites.now.items place s c.requires.sites there other own)

pub returns-clause-same : goal.returns-clause-same
returns-clause-same c =
    let s : SiteCommits = record { site = c.args.site; commits = c.replace-commits.result } in
    rw c.in_ok-insert.ensures.items
    (no_more c.args.sites.now.items c.place_of_site-place.result s
    (ap (λ (v : Vec Committed Global). v.items) c.replace-commits.ensures.value ∙ c.requires.spare))
