use Rattle.std.proofs.Common.{◌≡◌, ap, ◌∙◌, arith}
use Rattle.std.specs.List.{slice_get}
use Rattle.td_base.proofs.Elements.{In-slice_get}
use Rattle.td_world.specs.World.{WorldValue, size}
use Rattle.td_world.specs.Calls.{wanted_moves}
use Rattle.td_world.proofs.Moves.{size_after}
use Rattle.td_world.proofs.Posts.{still_at}
use Rattle.td_world.proofs.world.World.offer_at.Goals as goal

pub offer_to-requires-clause-sent : goal.offer_to-requires-clause-sent
offer_to-requires-clause-sent g c = In-slice_get c.args.self.now.sent c.args.k c.args.message.now c.requires.sent

pub pass_by-requires-clause-within : goal.pass_by-requires-clause-within
pass_by-requires-clause-within g c =
    let same : size c.offer_to.new.self ≡ size c.args.self.now =
    ap size c.in_ok-given.ensures.ok
    ∙ size_after (wanted_moves c.args.to c.args.message.now c.args.self.now) c.args.self.now in
    omega (arith, same, c.requires.within)

pub pass_by-requires-clause-sent : goal.pass_by-requires-clause-sent
pass_by-requires-clause-sent g c =
    ap (λ (w : WorldValue). slice_get w.sent c.args.k) c.in_ok-given.ensures.ok
    ∙ still_at (wanted_moves c.args.to c.args.message.now c.args.self.now) c.args.self.now c.args.k c.args.message.now
    c.requires.sent
