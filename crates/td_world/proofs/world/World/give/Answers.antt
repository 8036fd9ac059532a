use Rattle.std.proofs.Common.{◌≡◌, ◌∙◌, Some, sym, subst}
use Rattle.std.proofs.lemmas.Result.{on_ok_weaker}
use Rattle.td_world.specs.World.{WorldValue, moved_all}
use Rattle.td_world.specs.Calls.{found_moves}
use Rattle.td_world.specs.Promises.{NobodyReady}
use Rattle.td_world.proofs.Kept.{kth_in}
use Rattle.td_world.proofs.Nexts.{found_nobody}
use Rattle.td_world.proofs.world.World.give.Goals as goal

pub give_to-requires-clause-sent : goal.give_to-requires-clause-sent
give_to-requires-clause-sent g c =
    kth_in c.args.number c.args.self.now.sent c.in-Some.message (sym c.numbered-sent.ensures.message ∙ c.in-Some.is)

pub returns-in-Some-clause-nobody : goal.returns-in-Some-clause-nobody
returns-in-Some-clause-nobody g c =
    on_ok_weaker c.give_to.result
    (λ (e : c.give_to.new.self ≡ moved_all (found_moves c.args.to (Some c.in-Some.message) c.args.self.now)
    c.args.self.now)
    (h : NobodyReady c.args.self.now).
    subst (λ (w : WorldValue). NobodyReady w) (sym e)
    (found_nobody c.args.to c.in-Some.message c.args.self.now c.give_to.ensures.some c.requires h))
    c.give_to.ensures.ok
