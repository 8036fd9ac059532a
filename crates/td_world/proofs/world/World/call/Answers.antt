use Rattle.std.proofs.Common.{◌≡◌, sym, subst}
use Rattle.std.proofs.lemmas.Result.{on_ok_weaker}
use Rattle.td_world.specs.World.{WorldValue, moved}
use Rattle.td_world.specs.Calls.{ask}
use Rattle.td_world.specs.Promises.{NobodyReady}
use Rattle.td_world.proofs.Asking.{asked_nobody}
use Rattle.td_world.proofs.world.World.call.Goals as goal

pub returns-clause-nobody : goal.returns-clause-nobody
returns-clause-nobody g c =
    on_ok_weaker c.step.result
    (λ (e : c.step.new.self ≡ moved (ask c.args.site c.args.request) c.args.self.now) (h : NobodyReady c.args.self.now).
    subst (λ (w : WorldValue). NobodyReady w) (sym e)
    (asked_nobody c.args.self.now c.step.ensures.was h c.args.site c.step.ensures.some c.requires c.args.request))
    c.step.ensures.ok
