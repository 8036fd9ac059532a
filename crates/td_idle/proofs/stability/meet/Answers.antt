use Rattle.std.proofs.Common.{◌≡◌, ◌<◌, ℕ, length, min, ap, ◌∙◌, arith}
use Rattle.td_clock.specs.Vector.{vector_set}
use Rattle.td_idle.proofs.Meets.{met_to, met_length, met_step, met_all}
use Rattle.td_idle.proofs.stability.meet.Goals as goal

pub get-requires : goal.get-requires
get-requires c =
    let m : length c.loop-place.all ≡ length c.args.all.now = ap length c.loop-place.invariant.met
    ∙ met_length c.loop-place.place c.args.all.now c.args.other.now in
    omega arith

pub set-requires-clause-site : goal.set-requires-clause-site
set-requires-clause-site c =
    let m : length c.loop-place.all ≡ length c.args.all.now = ap length c.loop-place.invariant.met
    ∙ met_length c.loop-place.place c.args.all.now c.args.other.now in
    omega arith

pub loop-place-preserved : goal.loop-place-preserved
loop-place-preserved c =
    let below : c.loop-place.place < length c.args.all.now = omega arith in
    let below_too : c.loop-place.place < length c.args.other.now = omega arith in
    record {
      end = c.loop-place.invariant.end;
      met =
          c.set.ensures
          ∙ (ap (λ (n : ℕ). vector_set c.loop-place.all c.at-site.result n)
          (c.min.ensures ∙ (λ i. min (c.get.ensures.number i) (c.get-in-loop-place.ensures.number i)))
          ∙ met_step c.loop-place.place c.at-site.result c.loop-place.all c.args.all.now c.args.other.now
          c.loop-place.invariant.met c.at-site.ensures below below_too);
    }

pub returns : goal.returns
returns c =
    let done : c.loop-place.place ≡ length c.args.all.now = omega arith in
    c.loop-place.invariant.met ∙ (ap (λ (k : ℕ). met_to k c.args.all.now c.args.other.now) done
    ∙ met_all c.args.all.now c.args.other.now c.requires)
