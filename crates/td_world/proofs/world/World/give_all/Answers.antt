use Rattle.std.proofs.Common.{◌≡◌, ◌≤◌, ◌<◌, ℕ, List, length, sym, ap, ◌∙◌, subst, vec_len, arith}
use Rattle.std.proofs.lemmas.Option.{slice_get_within}
use Rattle.td_replica.specs.declared.given.Given.{Given}
use Rattle.td_world.specs.World.{WorldValue, IsWorld, size}
use Rattle.td_world.specs.Promises.{NobodyReady}
use Rattle.td_world.proofs.Cuts.{err_always}
use Rattle.td_world.proofs.Giving.{IsGiving, giving_none, giving_size, giving_more}
use Rattle.td_world.proofs.Giving.{giving_cut, giving_all, some_at, still_numbered}
use Rattle.td_world.proofs.Kept.{as_many_posts}
use Rattle.td_world.proofs.Nexts.{all_nobody}
use Rattle.td_world.proofs.world.World.give_all.Goals as goal

pub loop-k-init : goal.loop-k-init
loop-k-init g c =
    let long : vec_len c.self.inside.posts ≡ length c.self.inside.posts.items =
    omega (arith, c.self.inside.posts.ok.0) in (
      subst (λ (l : List (ℕ × Given)). IsGiving c.args.to c.passed_by-k.result c.args.self.now c.args.self.now l)
          (sym c.new-given.ensures.items)
          (giving_none c.args.to c.passed_by-k.result c.args.self.now c.passed_by-k.ensures.passed),
      subst (λ (w : WorldValue). IsWorld w) c.self.view_is c.self.invariant.world,
      c.len-k-end.ensures ∙ long
          ∙ as_many_posts c.self.inside.replicas.items c.self.inside.posts.items c.self.inside.passed.items
          c.self.invariant
          ∙ ap (λ (w : WorldValue). length w.sent) c.self.view_is,
    )

pub note_given-requires-clause-within : goal.note_given-requires-clause-within
note_given-requires-clause-within g c =
    let same : size c.loop-k.self ≡ size c.args.self.now =
    giving_size c.args.to c.loop-k.k c.args.self.now c.loop-k.self c.loop-k.given.items c.loop-k.invariant.0 in
    omega (arith, same, c.requires)

pub note_given-requires-clause-sent : goal.note_given-requires-clause-sent
note_given-requires-clause-sent g c =
    let less : c.loop-k.k < length c.args.self.now.sent = omega (arith, c.loop-k-test.true, c.loop-k.invariant.2) in
    let m = some_at c.args.self.now.sent c.loop-k.k less in
    slice_get_within c.loop-k.self.sent c.loop-k.k m.0
    (still_numbered c.args.to c.loop-k.k c.args.self.now c.loop-k.self c.loop-k.given.items c.loop-k.invariant.0
    c.loop-k.k m.0 m.1)

pub returns-in_err-note_given-clause-err : goal.returns-in_err-note_given-clause-err
returns-in_err-note_given-clause-err g c =
    let less : c.loop-k.k < length c.args.self.now.sent = omega (arith, c.loop-k-test.true, c.loop-k.invariant.2) in
    let m = some_at c.args.self.now.sent c.loop-k.k less in
    err_always c.from_residual.result
    (giving_cut c.args.to c.loop-k.k c.args.self.now c.loop-k.self c.note_given.new.self c.loop-k.given.items
    c.loop-k.given.items c.loop-k.invariant.0 m.0 m.1
    (c.in_err-note_given.ensures.err m.0
    (still_numbered c.args.to c.loop-k.k c.args.self.now c.loop-k.self c.loop-k.given.items c.loop-k.invariant.0
    c.loop-k.k m.0 m.1)))

pub loop-k-preserved : goal.loop-k-preserved
loop-k-preserved g c =
    let less : c.loop-k.k < length c.args.self.now.sent = omega (arith, c.loop-k-test.true, c.loop-k.invariant.2) in
    let m = some_at c.args.self.now.sent c.loop-k.k less in
    let here =
    still_numbered c.args.to c.loop-k.k c.args.self.now c.loop-k.self c.loop-k.given.items c.loop-k.invariant.0
    c.loop-k.k m.0 m.1 in (
      giving_more c.args.to c.loop-k.k c.args.self.now c.loop-k.self c.note_given.new.self c.loop-k.given.items
          c.note_given.new.given.items c.loop-k.invariant.0 m.0 m.1 (c.in_ok-note_given.ensures.ok m.0 here)
          (c.in_ok-note_given.ensures.given m.0 here),
      c.in_ok-note_given.ensures.world,
      c.loop-k.invariant.2,
    )

pub returns-clause-nobody : goal.returns-clause-nobody
returns-clause-nobody g c =
    let past : length c.args.self.now.sent ≤ c.loop-k.k = omega (arith, c.loop-k-test.false, c.loop-k.invariant.2) in
    let all = giving_all c.args.to c.loop-k.k c.args.self.now c.loop-k.self c.loop-k.given.items c.loop-k.invariant.0
    past in
    λ (h : NobodyReady c.args.self.now).
    subst (λ (w : WorldValue). NobodyReady w) (sym all.0)
    (all_nobody c.args.to c.args.self.now.sent c.args.self.now c.passed_by-k.ensures.some c.requires h)
