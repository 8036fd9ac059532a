use Rattle.std.proofs.Common.{◌≡◌, ◌<◌, ◌+◌, ◌-◌, ◌∙◌, ℕ, length, Some, ap, subst, arith}
use Rattle.std.specs.List.{slice_get}
use Rattle.std.proofs.lemmas.Option.{slice_get_within}
use Rattle.td_base.specs.Lists.{kth}
use Rattle.td_world.specs.World.{WorldValue, moved_all, size}
use Rattle.td_world.specs.Calls.{wanted_moves}
use Rattle.td_world.specs.Parts.{ArePassed}
use Rattle.td_world.proofs.Giving.{some_at}
use Rattle.td_world.proofs.Moves.{size_after}
use Rattle.td_world.proofs.Posts.{kth_is, still_at}
use Rattle.td_run.specs.Printing.{Printed, and_then, give_wanted}
use Rattle.td_run.proofs.Offers.{behind_passed, one_given, world_after}
use Rattle.td_run.proofs.player.Player.give_all.Goals as goal

pub loop-number-init : goal.loop-number-init
loop-number-init g c =
    let w : WorldValue = c.args.self.now.world in
    let passed : ArePassed c.args.site w c.passed-number.result =
    subst (λ (p : Printed). ArePassed c.args.site p.world c.passed-number.result) c.self.view_is
    c.passed-number.ensures in
    record {
      same = λ i. size w;
      still = λ k m e. e;
      printed = ap (and_then c.args.self.now) (behind_passed c.args.site c.passed-number.result w passed);
      within = passed.0;
    }

pub offer-requires-clause-sent : goal.offer-requires-clause-sent
offer-requires-clause-sent g c =
    let sent : c.sent-number-end.result ≡ length c.args.self.now.world.sent =
    c.sent-number-end.ensures.sent ∙ ap (λ (p : Printed). length p.world.sent) c.self.view_is in
    let less : c.loop-number.number < length c.args.self.now.world.sent =
    omega (arith, c.loop-number-test.true, sent) in
    let m = some_at c.args.self.now.world.sent c.loop-number.number less in
    let within : c.loop-number.number < length c.loop-number.self.world.sent =
    slice_get_within c.loop-number.self.world.sent c.loop-number.number m.0
    (c.loop-number.invariant.still c.loop-number.number m.0 m.1) in
    omega (arith, within)

pub loop-number-preserved : goal.loop-number-preserved
loop-number-preserved g c =
    let w : WorldValue = c.loop-number.self.world in
    let n : ℕ = c.loop-number.number in
    let sent : c.sent-number-end.result ≡ length c.args.self.now.world.sent =
    c.sent-number-end.ensures.sent ∙ ap (λ (p : Printed). length p.world.sent) c.self.view_is in
    let less : n < length c.args.self.now.world.sent = omega (arith, c.loop-number-test.true, sent) in
    let m = some_at c.args.self.now.world.sent n less in
    let some : (n + 1 ≡ 0 → ⊥) = λ (e : n + 1 ≡ 0). absurd (omega (arith, e)) in
    let place : n + 1 - 1 ≡ n = omega arith in
    let there : kth (n + 1) w.sent ≡ Some m.0 =
    kth_is (n + 1) w.sent some ∙ ap (slice_get w.sent) place ∙ c.loop-number.invariant.still n m.0 m.1 in
    let is : c.offer.new.self ≡ and_then c.loop-number.self (give_wanted c.args.site (n + 1) m.0 w) =
    c.in_ok-offer.ensures m.0 there in
    let world : c.offer.new.self.world ≡ moved_all (wanted_moves c.args.site m.0 w) w =
    ap (λ (p : Printed). p.world) is ∙ world_after c.args.site (n + 1) m.0 w in
    record {
      same = ap size world ∙ size_after (wanted_moves c.args.site m.0 w) w ∙ c.loop-number.invariant.same;
      still = λ k x e.
          ap (λ (v : WorldValue). slice_get v.sent k) world
          ∙ still_at (wanted_moves c.args.site m.0 w) w k x (c.loop-number.invariant.still k x e);
      printed = one_given c.args.site n m.0 c.args.self.now.world.sent _ c.loop-number.self c.offer.new.self m.1 is
          c.loop-number.invariant.printed;
      within = omega (arith, less);
    }
