use Rattle.std.proofs.Common.{◌≡◌, ◌<◌, ℕ, subst, arith}
use Rattle.td_check.specs.Course.{HasGone}
use Rattle.td_check.specs.declared.stop.Went.{Went}
use Rattle.td_check.proofs.Rounding.{round_begins, round_on, round_ends}
use Rattle.td_check.proofs.replay.Replay.round.Goals as goal

pub loop-place-init : goal.loop-place-init
loop-place-init g c =
    let sites = c.sites-place-end.ensures in
    round_begins c.args.self.now c.args.looks.now (subst (λ (n : ℕ). 0 < n) sites.sites sites.some) c.requires.course
    c.requires.seen

pub loop-place-preserved : goal.loop-place-preserved
loop-place-preserved g c =
    let sites = c.sites-place-end.ensures in
    round_on c.args.self.now c.loop-place.self c.go.new.self c.loop-place.looks c.go.new.looks c.loop-place.place
    c.at.result c.loop-place.moved c.in-Rests.more sites.value c.loop-place.invariant.0 c.loop-place.invariant.1
    (subst (λ (n : ℕ). c.loop-place.place < n) sites.sites c.loop-place-test.true) c.at.ensures
    (subst (λ (w : Went). HasGone c.at.result c.loop-place.self c.go.new.self c.go.new.looks w) c.in-Rests.is
    c.in_ok-stop.ensures)

pub returns : goal.returns
returns g c =
    let sites = c.sites-place-end.ensures in
    let past = c.loop-place-test.false in
    let most = c.loop-place.auto.place-end in
    let all : c.loop-place.place ≡ c.args.self.now.trace.sites = omega (arith, past, most, sites.sites) in
    round_ends c.args.self.now c.loop-place.self c.loop-place.looks c.loop-place.place c.loop-place.moved all
    c.loop-place.invariant.0 c.loop-place.invariant.1
