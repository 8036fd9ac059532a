use Rattle.std.proofs.Common.{ℕ, ◌∙◌, ap}
use Rattle.td_replica.specs.Replica.{new_replica}
use Rattle.td_session.proofs.session.Session.open.Goals as goal

pub returns-in-Ok : goal.returns-in-Ok
returns-in-Ok c = record {
  ok = (
    c.in-Some.ensures.0,
    c.of.ensures ∙ c.in-Ok.ensures ∙ ap (λ (s : ℕ). new_replica s c.args.sites) c.in-Some.ensures.1,
  );
  memory = λ is. tt;
  other = λ no. absurd (no c.in-Some.ensures.0);
}
