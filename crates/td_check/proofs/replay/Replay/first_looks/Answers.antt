use Rattle.std.proofs.Common.{ℕ, List, ap, subst, arith}
use Rattle.td_reader.specs.Values.{TraceValue}
use Rattle.td_check.specs.Looks.{AreLooks}
use Rattle.td_check.specs.Sites.{ReplayValue}
use Rattle.td_check.proofs.Beginnings.{none_seen, first_on, first_seen}
use Rattle.td_check.proofs.replay.Replay.first_looks.Goals as goal

pub loop-place-init : goal.loop-place-init
loop-place-init g c =
    none_seen c.args.self.now c.in_ok-looks.looks c.sites-place-end.ensures.value c.requires.none
    (subst (λ (t : TraceValue). (text_at : ℕ → ℕ → List ℕ) → AreLooks t (λ site. 0) text_at c.in_ok-looks.looks)
    (ap (λ (r : ReplayValue). r.trace) c.self.view_is) c.in_ok-looks.ensures)

pub loop-place-preserved : goal.loop-place-preserved
loop-place-preserved g c =
    let sites = c.sites-place-end.ensures in
    let less = c.loop-place-test.true in
    let number = c.at.ensures in
    let told = c.look.ensures in
    first_on c.args.self.now c.loop-place.place c.at.result c.loop-place.looks c.look.new.looks sites.value
    c.requires.begun told.some number (omega (arith, less, number, sites.sites)) told.most c.loop-place.invariant
    c.in_ok-look.ensures.ok

pub returns : goal.returns
returns g c =
    let sites = c.sites-place-end.ensures in
    let past = c.loop-place-test.false in
    let most = c.loop-place.auto.place-end in
    first_seen c.args.self.now c.loop-place.place c.loop-place.looks sites.value (omega
    (arith, past, most, sites.sites))
    c.loop-place.invariant
