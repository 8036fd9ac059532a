use Rattle.std.proofs.Common.{◌≡◌, ◌+◌, ◌++◌, ℕ, List, [], ◌∷◌, map, sym, ap, ◌∙◌, subst, arith, false}
use Rattle.std.specs.List.{AllByRecursion}
use Rattle.std.proofs.lemmas.List.{map-append}
use Rattle.td_replica.specs.Replica.{ReplicaValue, new_replica}
use Rattle.td_world.specs.World.{WorldValue, IsWorld, new_replicas, new_world, size}
use Rattle.td_world.proofs.Beginnings.{new_is_world, new_more}
use Rattle.td_world.proofs.Replicas.{new_length}
use Rattle.td_kept.specs.Seats.{SeatValue, IsThere, world_value}
use Rattle.td_kept.proofs.Seating.{there_more}
use Rattle.td_kept.proofs.world.KeptWorld.new.Given.{Over}
use Rattle.td_kept.proofs.world.KeptWorld.new.Goals as goal

pub loop-place-preserved : goal.loop-place-preserved
loop-place-preserved g c =
    let k = c.loop-place.place in
    let old = c.loop-place.seats.items in
    let same : c.at.result ≡ 1 + k = omega (arith, c.at.ensures) in (
      ap (map (λ (s : SeatValue). s.replica)) c.in_ok-push.ensures.items
          ∙ map-append (λ (s : SeatValue). s.replica) old (_ ∷ [])
          ∙ (λ i. c.loop-place.invariant.0 i
          ++ (ap (λ (s : SeatValue). s.replica) c.in_ok-new.ensures
          ∙ ap (λ (s : ℕ). new_replica s c.args.n) same) i ∷ [])
          ∙ sym (new_more c.args.n k 1),
      subst (λ (l : List SeatValue). AllByRecursion IsThere l) (sym c.in_ok-push.ensures.items)
          (there_more old _ c.loop-place.invariant.1 (ap (λ (s : SeatValue). s.there) c.in_ok-new.ensures)),
    )

last : (g : Over) (c : goal.After-new-2 g) → c.loop-place.place ≡ c.args.n
last g c = omega (arith, c.loop-place-test.false, c.loop-place.auto.place-end)

value : (g : Over) (c : goal.After-new-2 g)
    → world_value c.loop-place.seats.items c.new-2.result.items ≡ new_world c.args.n
value g c = λ i. record {
  replicas = (c.loop-place.invariant.0 ∙ ap (λ (k : ℕ). new_replicas c.args.n k 1) (last g c)) i;
  sent = c.new-2.ensures.items i;
}

world : (g : Over) (c : goal.After-new-2 g) → IsWorld (world_value c.loop-place.seats.items c.new-2.result.items)
world g c = subst IsWorld (sym (value g c)) (new_is_world c.args.n c.requires.some c.requires.few)

pub invariant_of-result : goal.invariant_of-result
invariant_of-result g c = record {
  world = λ open_. world g c;
  there = λ open_. c.loop-place.invariant.1;
}

pub returns-clause-new : goal.returns-clause-new
returns-clause-new g c = λ i. record { world = value g c i; spent = false }

pub returns-clause-world : goal.returns-clause-world
returns-clause-world g c = world g c

pub returns-clause-size : goal.returns-clause-size
returns-clause-size g c = ap size (value g c) ∙ new_length c.args.n c.args.n 1
