use Rattle.std.proofs.Common.{◌≡◌, ◌<◌, ◌+◌, ℕ, List, length, find, Option, Some, None, is_some, false}
use Rattle.std.proofs.Common.{refl, sym, ap, ◌∙◌, subst, arith}
use Rattle.td_op.specs.Op.{OpValue}
use Rattle.td_causal.specs.Waiting.{ops_waiting, is_ready_of}
use Rattle.td_causal.specs.BufferParts.{AreEntries}
use Rattle.td_causal.proofs.Least.{NoneBelow, AreWaiting, waiting_stored, least_of, none_ready, none_more, some_as}
use Rattle.td_causal.proofs.buffer.Buffer.least_ready.Goals as goal

pub returns-then-is_some-clause-least : goal.returns-then-is_some-clause-least
returns-then-is_some-clause-least c =
    let have = c.args.have.now in
    let ws : List OpValue = ops_waiting c.args.ops.now.ops c.args.self.now in
    let site = c.in_ok-site.site in
    let entries : AreEntries c.args.self.now = subst AreEntries c.self.view_is c.self.invariant in
    let waiting : AreWaiting (length have) ws =
    waiting_stored (length have) c.args.ops.now.ops c.args.self.now entries c.requires in
    let none : NoneBelow site have ws =
    subst (λ (n : ℕ). NoneBelow n have ws) (sym c.in_ok-site.ensures.1) c.loop-n.invariant in
    c.ready_of-number.ensures.ready
    ∙ least_of have ws waiting site none (find (is_ready_of site have) ws) refl
    (sym (some_as c.args.ops.now.ops c.ready_of-number.result (find (is_ready_of site have) ws)
    c.ready_of-number.ensures.ready c.ready_of-number.ensures.within) ∙ sym c.is_some.ensures ∙ c.if-is_some.true)

pub returns-else-is_some-clause-least : goal.returns-else-is_some-clause-least
returns-else-is_some-clause-least c =
    let have = c.args.have.now in
    let ws : List OpValue = ops_waiting c.args.ops.now.ops c.args.self.now in
    let site = c.in_ok-site.site in
    let entries : AreEntries c.args.self.now = subst AreEntries c.self.view_is c.self.invariant in
    let waiting : AreWaiting (length have) ws =
    waiting_stored (length have) c.args.ops.now.ops c.args.self.now entries c.requires in
    let found : Option OpValue = find (is_ready_of site have) ws in
    let none : is_some found ≡ false =
    sym (some_as c.args.ops.now.ops c.ready_of-number.result found c.ready_of-number.ensures.ready
    c.ready_of-number.ensures.within) ∙ sym c.is_some.ensures ∙ c.if-is_some.false in
    let here : find (is_ready_of c.loop-n.n have) ws ≡ None =
    ap (λ (n : ℕ). find (is_ready_of n have) ws) (sym c.in_ok-site.ensures.1) ∙ none_is found none in
    let past : length have < c.loop-n.n + 1 = omega (arith, c.size-n-end.ensures.size) in
    sym (none_ready have ws waiting (c.loop-n.n + 1) past (none_more c.loop-n.n have ws c.loop-n.invariant here))
  where
    none_is : (o : Option OpValue) → is_some o ≡ false → o ≡ None
    none_is None e = refl
    none_is (Some w) e = absurd cc
