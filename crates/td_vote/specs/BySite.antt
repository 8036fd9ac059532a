-- How the commits are kept: those of each site by themselves, and the sites in the order of their numbers.
use Rattle.std.specs.Prelude.{◌≡◌, ◌<◌, ◌≤◌, ℕ, Bool, true, List, [], length, vec_len, vec_capacity, All}
use Rattle.std.specs.Prelude.{if◌then◌else◌}
use Rattle.std.specs.declared.alloc.Global.{Global}
use Rattle.std.specs.declared.vec.Vec.{Vec}
use Rattle.std.specs.List.{AllByRecursion, AllWithin, flat_map}
use Rattle.td_base.specs.Lists.{Successive}
use Rattle.td_machine.specs.Log.{Committed}
use Rattle.td_vote.specs.declared.site_commits.SiteCommits.{SiteCommits}
use Rattle.td_vote.specs.Commits.{CommitsValue, IsOfSite}

-- the commits of the sites, one list behind the other
abbrev pub all_commits : List SiteCommits → List Committed
all_commits sites = flat_map (λ (s : SiteCommits). s.commits.items) sites

abbrev pub IsOf : ℕ → SiteCommits → Type 0
IsOf site s = s.site ≡ site

abbrev pub IsOfItsSite : SiteCommits → Type 0
IsOfItsSite s = IsOfSite s.site s.commits.items

abbrev pub HasRoom : SiteCommits → Type 0
HasRoom s = vec_len s.commits < vec_capacity s.commits

pub record IsBySite (sites : List SiteCommits) : Type 0 where
  pub rising : Successive (λ (s t : SiteCommits). s.site < t.site) sites
  pub own : AllByRecursion IsOfItsSite sites

-- the smaller sites stand before the place, and the others from it on
pub record IsPlaceOf (site : ℕ) (sites : List SiteCommits) (place : ℕ) : Type 0 where
  pub bound : place ≤ length sites
  pub before : AllWithin (λ (s : SiteCommits). s.site < site) sites 0 place
  pub behind : AllWithin (λ (s : SiteCommits). site ≤ s.site) sites place (length sites)

-- there is room for one commit more of any site, and for a site more
pub record HasPlace (sites : Vec SiteCommits Global) (spare : Vec Committed Global) : Type 0 where
  pub site : vec_len sites < vec_capacity sites
  pub first : vec_len spare < vec_capacity spare
  pub more : All HasRoom sites.items

pub record AreCommitsParts (has_place : Bool) (sites : Vec SiteCommits Global) (spare : Vec Committed Global) : Type 0
  where
    pub by_site : IsBySite sites.items
    pub nothing : spare.items ≡ []
    pub place : has_place ≡ true → HasPlace sites spare

abbrev pub commits_of : Bool → List SiteCommits → CommitsValue
commits_of has_place sites = record { commits = all_commits sites; places = if has_place then 1 else 0 }
