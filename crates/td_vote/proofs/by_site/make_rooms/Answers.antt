use Rattle.std.proofs.Common.{◌≡◌, ◌<◌, length, get_or, refl, sym, subst, ◌∙◌, arith}
use Rattle.td_vote.specs.declared.site_commits.SiteCommits.{SiteCommits}
use Rattle.td_vote.specs.Commits.{IsOfSite}
use Rattle.td_vote.specs.BySite.{HasRoom, IsOfItsSite}
use Rattle.td_vote.proofs.BySite.{all_at, kept_set, within_set, by_site_set, same_there}
use Rattle.td_vote.proofs.by_site.make_rooms.Goals as goal

pub loop-i-preserved : goal.loop-i-preserved
loop-i-preserved c =
    let sites = c.loop-i.sites.items in
    let i = c.loop-i.i in
    let e = c.index_mut.result.now in
    let s : SiteCommits = record { site = e.site; commits = c.make_room.new.items } in
    let is : e ≡ get_or sites i e = c.index_mut.ensures.value in
    let lt : i < length sites = omega (arith, c.loop-i.sites.ok.0) in
    let same : s.commits.items ≡ e.commits.items = c.make_room.ensures.items in
    let room : HasRoom s = c.in_ok-make_room.ensures.room in
    let own : IsOfItsSite e = all_at IsOfItsSite sites i e c.loop-i.invariant.by_site.own lt is in
    record {
      by_site =
          by_site_set sites i e s c.loop-i.invariant.by_site lt is refl (subst (IsOfSite e.site) (sym same) own);
      same = same_there sites i e s is same ∙ c.loop-i.invariant.same;
      len = c.loop-i.invariant.len;
      capacity = c.loop-i.invariant.capacity;
      rooms = within_set HasRoom sites i s room c.loop-i.invariant.rooms lt;
      kept = λ h. kept_set HasRoom sites i s room (c.loop-i.invariant.kept h);
    }

pub returns-in_err-make_room-clause-sites : goal.returns-in_err-make_room-clause-sites
returns-in_err-make_room-clause-sites c =
    let sites = c.loop-i.sites.items in
    let i = c.loop-i.i in
    let e = c.index_mut.result.now in
    let is : e ≡ get_or sites i e = c.index_mut.ensures.value in
    let lt : i < length sites = omega (arith, c.loop-i.sites.ok.0) in
    let own : IsOfItsSite e = all_at IsOfItsSite sites i e c.loop-i.invariant.by_site.own lt is in
    by_site_set sites i e (record { site = e.site; commits = c.make_room.new.items }) c.loop-i.invariant.by_site lt is
    refl (subst (IsOfSite e.site) (sym c.make_room.ensures.items) own)

pub returns-in_err-make_room-clause-same : goal.returns-in_err-make_room-clause-same
returns-in_err-make_room-clause-same c =
    let e = c.index_mut.result.now in
    same_there c.loop-i.sites.items c.loop-i.i e (record { site = e.site; commits = c.make_room.new.items })
    c.index_mut.ensures.value c.make_room.ensures.items
    ∙ c.loop-i.invariant.same
