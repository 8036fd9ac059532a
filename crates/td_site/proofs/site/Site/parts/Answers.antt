use Rattle.std.proofs.Common.{◌≡◌, ◌∙◌, ap, false}
use Rattle.td_site.specs.Sites.{SiteValue}
use Rattle.td_site.proofs.Showing.{all_true}
use Rattle.td_site.proofs.site.Site.parts.Goals as goal

pub returns-clause-looks_true : goal.returns-clause-looks_true
returns-clause-looks_true g c =
    let s : SiteValue =
    record { replica = c.self.inside.replica; writer = c.self.inside.writer; late = c.self.inside.late } in
    let late : c.self.inside.late ≡ false = ap (λ (x : SiteValue). x.late) c.self.view_is ∙ c.requires in
    all_true s c.self.invariant late
