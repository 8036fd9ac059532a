use Rattle.std.proofs.Common.{◌≡◌, ◌+◌, suc, length, sym, ap, ◌∙◌, arith}
use Rattle.td_idle.specs.Stable.{vector_meet, known_of, stable_upto}
use Rattle.td_idle.proofs.Replicas.{have_sized}
use Rattle.td_idle.proofs.Meets.{meet_length}
use Rattle.td_idle.proofs.stability.stable.Goals as goal

pub loop-place-init : goal.loop-place-init
loop-place-init g c =
    let size = ap length c.have.ensures ∙ have_sized c.args.replica.now c.entries.ensures.replica in
    record { end = c.size-place-end.ensures.size ∙ size; met = c.have.ensures; size = size }

pub loop-place-preserved : goal.loop-place-preserved
loop-place-preserved g c =
    let m = c.args.replica.now.machine in
    let next : c.loop-place.place + 1 ≡ suc c.loop-place.place = omega arith in
    let site : c.at.result ≡ suc c.loop-place.place = c.at.ensures ∙ next in
    let known = c.known_of.ensures.value ∙ ap (known_of m) site in
    record {
      end = c.loop-place.invariant.end;
      met = c.meet.ensures ∙ ((λ i. vector_meet (c.loop-place.invariant.met i) (known i))
          ∙ ap (stable_upto m) (sym next));
      size = ap length c.meet.ensures
          ∙ (meet_length c.loop-place.all c.known_of.result
          (c.loop-place.invariant.size ∙ sym c.known_of.ensures.size) ∙ c.loop-place.invariant.size);
    }

pub returns : goal.returns
returns g c =
    let done : c.loop-place.place ≡ c.args.replica.now.machine.size = omega arith in
    c.loop-place.invariant.met ∙ ap (stable_upto c.args.replica.now.machine) done
