use Rattle.std.proofs.Common.{◌≤◌, ◌+◌, ◌-◌, ◌++◌, List, length, sym, ap, ◌∙◌, subst, arith}
use Rattle.td_machine.specs.Step.{step}
use Rattle.td_world.specs.declared.post.Post.{Post}
use Rattle.td_world.specs.Parts.{new_posts, world_value}
use Rattle.td_world.specs.World.{WorldValue, replica_from, moved, size, MayTake}
use Rattle.td_world.proofs.Few.{few_from}
use Rattle.td_world.proofs.Kept.{IsKept, kept_after}
use Rattle.td_world.proofs.Steps.{step_few, step_order}
use Rattle.td_world.proofs.world.World.step.Given.{Over}
use Rattle.td_world.proofs.world.World.step.Goals as goal

pub post-requires-clause-order : goal.post-requires-clause-order
post-requires-clause-order g c =
    let m = (replica_from c.self.inside.replicas.items (c.args.site - 1)).machine in
    let d = c.in_ok-done.ensures.done in
    let less : length m.sent ≤ length (step m c.args.input.now).machine.sent = step_order m c.args.input.now in
    omega (arith, d.before, d.after, less)

pub post-requires-clause-room : goal.post-requires-clause-room
post-requires-clause-room g c =
    let m = (replica_from c.self.inside.replicas.items (c.args.site - 1)).machine in
    let d = c.in_ok-done.ensures.done in
    let few : length (step m c.args.input.now).machine.sent ≤ length m.sent + 2 = step_few m c.args.input.now in
    omega (arith, d.before, d.after, few, c.in_ok-reserve.ensures.ok)

pub post-requires-clause-few : goal.post-requires-clause-few
post-requires-clause-few g c =
    let w = world_value c.self.inside.replicas.items c.self.inside.posts.items in
    let m = (replica_from c.self.inside.replicas.items (c.args.site - 1)).machine in
    let d = c.in_ok-done.ensures.done in
    let few : length (step m c.args.input.now).machine.sent ≤ length m.sent + 2 = step_few m c.args.input.now in
    let sent : length m.sent ≤ 4194240 =
    few_from w c.self.invariant.world c.args.site c.step_of.ensures.some
    (subst (λ (v : WorldValue). c.args.site ≤ size v) (sym c.self.view_is) c.requires.within) in
    omega (arith, d.before, d.after, few, sent)

kept : (g : Over) (c : goal.After-look_again g)
    → IsKept (world_value c.self.inside.replicas.items c.self.inside.posts.items)
    (record { site = c.args.site; input = c.args.input.now }) c.step_of.new.replicas.items c.post.new.posts.items
    c.look_again.new.passed.items
kept g c =
    kept_after c.self.inside.replicas.items c.self.inside.posts.items c.self.inside.passed.items c.self.invariant
    c.args.site c.place.ensures.least
    (subst (λ (w : WorldValue). c.args.site ≤ size w) (sym c.self.view_is) c.requires.within) c.args.input.now
    c.is_in_range.ensures
    (subst (λ (w : WorldValue). MayTake c.args.site c.args.input.now w) (sym c.self.view_is) c.requires.came)
    c.in_ok-done.done c.in_ok-done.ensures.done c.step_of.new.replicas.items c.in_ok-done.ensures.ok
    c.post.new.posts.items
    (c.post.ensures
    ∙ ap (λ (l : List Post). l ++ new_posts c.args.site (c.in_ok-done.done.after - c.in_ok-done.done.before)
    c.in_ok-done.done.before)
    c.in_ok-reserve.ensures.items)
    c.place.result c.place.ensures.place c.look_again.new.passed.items c.look_again.ensures

pub invariant_of-self-2 : goal.invariant_of-self-2
invariant_of-self-2 g c = (kept g c).parts

pub returns-clause-ok : goal.returns-clause-ok
returns-clause-ok g c =
    (kept g c).value ∙ ap (λ (w : WorldValue). moved (record { site = c.args.site; input = c.args.input.now }) w)
    c.self.view_is

pub returns-clause-world : goal.returns-clause-world
returns-clause-world g c = (kept g c).parts.world
