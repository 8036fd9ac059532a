use Rattle.std.proofs.Common.{◌≡◌, ◌<◌, ◌∙◌, sym, subst, arith}
use Rattle.std.proofs.lemmas.Result.{on_ok_weaker}
use Rattle.td_world.specs.World.{WorldValue, moved_all}
use Rattle.td_world.specs.Calls.{wanted_moves}
use Rattle.td_world.specs.Promises.{NobodyReady}
use Rattle.td_world.proofs.Kept.{kth_get}
use Rattle.td_world.proofs.Nexts.{wanted_nobody}
use Rattle.td_world.proofs.world.World.offer.Goals as goal

pub overflow_sub-number : goal.overflow_sub-number
overflow_sub-number g c =
    let some : 0 < c.args.number = (kth_get c.args.number c.args.self.now.sent c.in-Some.message
    (sym c.numbered-sent.ensures.message ∙ c.in-Some.is)).0 in
    omega (arith, some)

pub offer_at-requires-clause-sent : goal.offer_at-requires-clause-sent
offer_at-requires-clause-sent g c =
    (kth_get c.args.number c.args.self.now.sent c.in-Some.message
    (sym c.numbered-sent.ensures.message ∙ c.in-Some.is)).1

pub returns-in-Some-clause-nobody : goal.returns-in-Some-clause-nobody
returns-in-Some-clause-nobody g c =
    on_ok_weaker c.offer_at.result
    (λ (e : c.offer_at.new.self ≡ moved_all (wanted_moves c.args.to c.in-Some.message c.args.self.now) c.args.self.now)
    (h : NobodyReady c.args.self.now).
    subst (λ (w : WorldValue). NobodyReady w) (sym e)
    (wanted_nobody c.args.to c.in-Some.message c.args.self.now c.offer_at.ensures.some c.requires h))
    c.offer_at.ensures.ok
