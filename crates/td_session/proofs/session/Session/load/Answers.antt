use Rattle.std.proofs.Common.{ℕ, Err, inr, refl, subst, sym}
use Rattle.td_session.specs.declared.fault.Fault.TheVariants.{Journal}
use Rattle.td_session.specs.Saved.{IsLoaded}
use Rattle.td_session.proofs.Loading.{not_loaded}
use Rattle.td_session.proofs.session.Session.load.Goals as goal

pub returns-in-Err-Bad : goal.returns-in-Err-Bad
returns-in-Err-Bad c =
    subst (λ (at : ℕ). IsLoaded c.args.site c.args.sites c.args.journal.now (Err (Journal at)))
    (sym c.in-Err-Bad.at-is)
    (not_loaded c.args.site c.args.sites c.in-Some.own c.args.journal.now c.in-Some.ensures.0 c.in-Some.ensures.1
    (Journal c.in-Err-Bad.at)
    (inr (inr (c.in-Err-Bad.at, refl, c.in-Err-Bad.ensures.bad c.in-Err-Bad.at c.in-Err-Bad.field-0-is))))
