use Rattle.std.proofs.Common.{◌≡◌, ◌+◌, ◌++◌, ℕ, List, [], ◌∷◌, replicate, sym, ap, ◌∙◌, subst, arith}
use Rattle.td_replica.specs.Replica.{ReplicaValue, new_replica}
use Rattle.td_world.specs.declared.post.Post.{Post}
use Rattle.td_world.specs.Parts.{IsWorldParts, world_value}
use Rattle.td_world.specs.World.{WorldValue, new_replicas, new_world}
use Rattle.td_world.specs.Promises.{NobodyReady}
use Rattle.td_world.proofs.Beginnings.{new_nobody, new_parts, new_more, zeros_more}
use Rattle.td_world.proofs.Promised.{promised}
use Rattle.td_world.proofs.world.World.new.Given.{Over}
use Rattle.td_world.proofs.world.World.new.Goals as goal

pub loop-place-preserved : goal.loop-place-preserved
loop-place-preserved g c =
    let k = c.loop-place.place in
    let same : c.at.result ≡ 1 + k = omega (arith, c.at.ensures) in (
      c.in_ok-push.ensures.items
          ∙ (λ i. c.loop-place.invariant.0 i
          ++ (c.in_ok-new.ensures ∙ ap (λ (s : ℕ). new_replica s c.args.n) same) i ∷ [])
          ∙ sym (new_more c.args.n k 1),
      c.in_ok-push-2.ensures.items ∙ ap (λ (l : List ℕ). l ++ 0 ∷ []) c.loop-place.invariant.1 ∙ sym (zeros_more k),
    )

last : (g : Over) (c : goal.After-new-2 g) → c.loop-place.place ≡ c.args.n
last g c = omega (arith, c.loop-place-test.false, c.loop-place.auto.place-end)

parts : (g : Over) (c : goal.After-new-2 g)
    → IsWorldParts c.loop-place.replicas.items c.new-2.result.items c.loop-place.passed.items
parts g c =
    subst (λ (l : List Post). IsWorldParts c.loop-place.replicas.items l c.loop-place.passed.items)
    (sym c.new-2.ensures.items)
    (subst (λ (l : List ℕ). IsWorldParts c.loop-place.replicas.items [] l)
    (sym (c.loop-place.invariant.1 ∙ ap (λ (k : ℕ). replicate k 0) (last g c)))
    (subst (λ (l : List ReplicaValue). IsWorldParts l [] (replicate c.args.n 0))
    (sym (c.loop-place.invariant.0 ∙ ap (λ (k : ℕ). new_replicas c.args.n k 1) (last g c)))
    (new_parts c.args.n c.requires.some c.requires.few)))

value : (g : Over) (c : goal.After-new-2 g)
    → world_value c.loop-place.replicas.items c.new-2.result.items ≡ new_world c.args.n
value g c =
    ap (λ (l : List Post). world_value c.loop-place.replicas.items l) c.new-2.ensures.items
    ∙ ap (λ (l : List ReplicaValue). world_value l [])
    (c.loop-place.invariant.0 ∙ ap (λ (k : ℕ). new_replicas c.args.n k 1) (last g c))

pub invariant_of-result : goal.invariant_of-result
invariant_of-result g c = parts g c

pub returns-clause-new : goal.returns-clause-new
returns-clause-new g c = value g c

pub returns-clause-world : goal.returns-clause-world
returns-clause-world g c = (parts g c).world

pub returns-clause-nobody : goal.returns-clause-nobody
returns-clause-nobody g c = subst (λ (w : WorldValue). NobodyReady w) (sym (value g c)) (new_nobody c.args.n)

pub returns-clause-promises : goal.returns-clause-promises
returns-clause-promises g c =
    promised (world_value c.loop-place.replicas.items c.new-2.result.items) (parts g c).world
