use Rattle.std.proofs.Common.{List, ℕ, ◌++◌, ◌∙◌, ap}
use Rattle.td_live.proofs.Telling.{site_told}
use Rattle.td_live.proofs.printing.push_site.Goals as goal

pub returns : goal.returns
returns g c =
    c.in_ok-push.ensures.ok
    ∙ ap (λ (l : List ℕ). c.args.bytes.now ++ l)
    (c.as_slice.ensures
    ∙ site_told c.args.world.now c.replica.ensures.world c.args.place c.at.result c.replica.result.now
    c.in_ok-lines.lines
    c.requires.there c.at.ensures c.replica.ensures.replica c.in_ok-lines.ensures)
