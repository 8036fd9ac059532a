use Rattle.std.proofs.Common.{◌≡◌, ℕ, List, sym, ap, ◌∙◌}
use Rattle.std.specs.List.{list_all}
use Rattle.td_check.specs.AtRest.{is_at_rest}
use Rattle.td_check.proofs.AtRest.{settled_at_rest}
use Rattle.td_check.proofs.settled.is_settled.Goals as goal

pub returns : goal.returns
returns g c =
    λ t last seated each.
    let have : c.have.result.now ≡ c.in-Some.first.now.have = cc in
    let is : c.are_at_rest.result ≡ list_all (is_at_rest c.in-Some.first.now.have) c.args.seats.now =
    c.are_at_rest.ensures ∙ ap (λ (have : List ℕ). list_all (is_at_rest have) c.args.seats.now) have in
    let settled =
    settled_at_rest t last c.args.seats.now c.in-Some.first.now seated each (sym c.in-Some.ensures.value) in
    (λ h. settled.0 (sym is ∙ h), λ s. is ∙ settled.1 s)
