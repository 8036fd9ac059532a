use Rattle.std.proofs.Common.{◌≡◌, ◌<◌, ◌+◌, ℕ, Bool, if◌then◌else◌, length, sym, ap, ◌∙◌, subst, vec_len, arith}
use Rattle.std.proofs.lemmas.Option.{slice_get_within}
use Rattle.td_world.specs.World.{WorldValue, IsWorld, size}
use Rattle.td_world.proofs.Cuts.{err_always}
use Rattle.td_world.proofs.Giving.{giving_size, giving_stopped, some_at, still_numbered, counting_none, counting_next}
use Rattle.td_world.proofs.Kept.{as_many_posts}
use Rattle.td_world.proofs.world.World.give_each.Goals as goal
use Rattle.td_world.proofs.world.World.give_each.Goals.{then-is_some, else-is_some}

pub loop-k-init : goal.loop-k-init
loop-k-init g c =
    let long : vec_len c.self.inside.posts ≡ length c.self.inside.posts.items =
    omega (arith, c.self.inside.posts.ok.0) in (
      counting_none c.args.to c.passed_by-k.result c.args.self.now c.passed_by-k.ensures.passed,
      subst (λ (w : WorldValue). IsWorld w) c.self.view_is c.self.invariant.world,
      c.len-k-end.ensures ∙ long
          ∙ as_many_posts c.self.inside.replicas.items c.self.inside.posts.items c.self.inside.passed.items
          c.self.invariant
          ∙ ap (λ (w : WorldValue). length w.sent) c.self.view_is,
    )

pub give_at-requires-clause-within : goal.give_at-requires-clause-within
give_at-requires-clause-within g c =
    let same : size c.loop-k.self ≡ size c.args.self.now =
    giving_size c.args.to c.loop-k.k c.args.self.now c.loop-k.self c.loop-k.invariant.0.given
    c.loop-k.invariant.0.giving in
    omega (arith, same, c.requires)

pub give_at-requires-clause-sent : goal.give_at-requires-clause-sent
give_at-requires-clause-sent g c =
    let less : c.loop-k.k < length c.args.self.now.sent = omega (arith, c.loop-k-test.true, c.loop-k.invariant.2) in
    let m = some_at c.args.self.now.sent c.loop-k.k less in
    slice_get_within c.loop-k.self.sent c.loop-k.k m.0
    (still_numbered c.args.to c.loop-k.k c.args.self.now c.loop-k.self c.loop-k.invariant.0.given
    c.loop-k.invariant.0.giving c.loop-k.k m.0 m.1)

pub returns-in_err-give_at-clause-err : goal.returns-in_err-give_at-clause-err
returns-in_err-give_at-clause-err g c =
    let less : c.loop-k.k < length c.args.self.now.sent = omega (arith, c.loop-k-test.true, c.loop-k.invariant.2) in
    let m = some_at c.args.self.now.sent c.loop-k.k less in
    err_always c.from_residual.result
    (giving_stopped c.args.to c.loop-k.k c.args.self.now c.loop-k.self c.give_at.new.self c.loop-k.invariant.0.given
    c.loop-k.invariant.0.given c.loop-k.invariant.0.giving m.0 m.1
    (c.in_err-give_at.ensures.err m.0
    (still_numbered c.args.to c.loop-k.k c.args.self.now c.loop-k.self c.loop-k.invariant.0.given
    c.loop-k.invariant.0.giving c.loop-k.k m.0 m.1)))

pub loop-k-preserved : goal.loop-k-preserved
loop-k-preserved g c =
    let less : c.loop-k.k < length c.args.self.now.sent = omega (arith, c.loop-k-test.true, c.loop-k.invariant.2) in
    let m = some_at c.args.self.now.sent c.loop-k.k less in
    let here =
    still_numbered c.args.to c.loop-k.k c.args.self.now c.loop-k.self c.loop-k.invariant.0.given
    c.loop-k.invariant.0.giving c.loop-k.k m.0 m.1 in
    let count : ℕ = c.loop-k.count in (
      counting_next c.args.to c.loop-k.k c.args.self.now c.loop-k.self c.give_at.new.self c.loop-k.count
          c.loop-k.invariant.0
          m.0 m.1 (c.in_ok-give_at.ensures.ok m.0 here) c.in_ok-give_at.field-0 (c.in_ok-give_at.ensures.given m.0 here)
          c.if-is_some.count
          (elim c.if-is_some.branch [
            | then-is_some w ↦
                w.count-is ∙ sym (ap (λ (b : Bool). if b then count + 1 else count)
                (sym c.is_some.ensures ∙ w.if-is_some.true))
            | else-is_some w ↦
                w.count-is ∙ sym (ap (λ (b : Bool). if b then count + 1 else count)
                (sym c.is_some.ensures ∙ w.if-is_some.false))
          ]),
      c.in_ok-give_at.ensures.world,
      c.loop-k.invariant.2,
    )
