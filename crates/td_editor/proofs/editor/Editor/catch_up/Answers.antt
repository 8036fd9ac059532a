use Rattle.std.proofs.Common.{◌≡◌, ◌∙◌, ℕ, true, false, length, sym, ap, subst, arith}
use Rattle.td_replica.specs.Replica.{ReplicaValue, has_ready}
use Rattle.td_editor.specs.Editors.{EditorValue, nexts, all_nexts, after_inputs, IsStopped}
use Rattle.td_editor.proofs.Nexts.{all_drained}
use Rattle.td_editor.proofs.Going.{begins, more, off, all_done, stopped, err_always}
use Rattle.td_editor.proofs.editor.Editor.catch_up.Goals as goal

pub loop-count-init : goal.loop-count-init
loop-count-init g c = (
  begins g.S.Screen.heard c.waiting-waiting.result c.args.self.now,
  c.waiting-waiting.ensures ∙ ap (λ (r : ReplicaValue). length r.machine.waiting) c.replica.ensures,
)

pub loop-count-preserved : goal.loop-count-preserved
loop-count-preserved g c =
    let on : has_ready c.loop-count.self.replica.machine ≡ true =
    ap (λ (r : ReplicaValue). has_ready r.machine) (sym c.replica-in-loop-count.ensures) ∙ sym c.ready.ensures
    ∙ c.if-not-ready.false in (
      more g.S.Screen.heard c.waiting-waiting.result c.args.self.now c.loop-count.count c.loop-count.self
          c.step.new.self
          c.loop-count-test.true c.loop-count.invariant.0 on c.in_ok-step.ensures.ok,
      c.loop-count.invariant.1,
    )

pub returns-then-not-ready-clause-count : goal.returns-then-not-ready-clause-count
returns-then-not-ready-clause-count g c =
    let idle : has_ready c.loop-count.self.replica.machine ≡ false =
    ap (λ (r : ReplicaValue). has_ready r.machine) (sym c.replica-in-loop-count.ensures) ∙ sym c.ready.ensures
    ∙ c.if-not-ready.true in
    (off g.S.Screen.heard c.waiting-waiting.result c.args.self.now c.loop-count.count c.loop-count.self
    c.loop-count.invariant.0 idle).count
    ∙ ap (λ (k : ℕ). length (nexts k c.args.self.now.replica.machine)) c.loop-count.invariant.1

pub returns-then-not-ready-clause-ok : goal.returns-then-not-ready-clause-ok
returns-then-not-ready-clause-ok g c =
    let idle : has_ready c.loop-count.self.replica.machine ≡ false =
    ap (λ (r : ReplicaValue). has_ready r.machine) (sym c.replica-in-loop-count.ensures) ∙ sym c.ready.ensures
    ∙ c.if-not-ready.true in
    (off g.S.Screen.heard c.waiting-waiting.result c.args.self.now c.loop-count.count c.loop-count.self
    c.loop-count.invariant.0 idle).after
    ∙ ap (λ (k : ℕ). after_inputs g.S.Screen.heard (nexts k c.args.self.now.replica.machine) c.args.self.now)
    c.loop-count.invariant.1

pub returns-in_err-step-clause-err : goal.returns-in_err-step-clause-err
returns-in_err-step-clause-err g c =
    let on : has_ready c.loop-count.self.replica.machine ≡ true =
    ap (λ (r : ReplicaValue). has_ready r.machine) (sym c.replica-in-loop-count.ensures) ∙ sym c.ready.ensures
    ∙ c.if-not-ready.false in
    err_always c.from_residual.result
    (subst (λ (k : ℕ). IsStopped g.S.Screen.heard (nexts k c.args.self.now.replica.machine) c.args.self.now
    c.step.new.self)
    c.loop-count.invariant.1
    (stopped g.S.Screen.heard c.waiting-waiting.result c.args.self.now c.loop-count.count c.loop-count.self
    c.step.new.self
    c.loop-count-test.true c.loop-count.invariant.0 on c.in_err-step.ensures.err))

pub returns-clause-count : goal.returns-clause-count
returns-clause-count g c =
    let end : c.waiting-waiting.result ≡ c.loop-count.count =
    omega (arith, c.loop-count-test.false, c.loop-count.auto.count-end) in
    end
    ∙ (all_done g.S.Screen.heard c.waiting-waiting.result c.args.self.now c.loop-count.count c.loop-count.self
    c.loop-count.invariant.0 c.loop-count-test.false).count
    ∙ ap (λ (k : ℕ). length (nexts k c.args.self.now.replica.machine)) c.loop-count.invariant.1

pub returns-clause-ok : goal.returns-clause-ok
returns-clause-ok g c =
    (all_done g.S.Screen.heard c.waiting-waiting.result c.args.self.now c.loop-count.count c.loop-count.self
    c.loop-count.invariant.0 c.loop-count-test.false).after
    ∙ ap (λ (k : ℕ). after_inputs g.S.Screen.heard (nexts k c.args.self.now.replica.machine) c.args.self.now)
    c.loop-count.invariant.1

pub returns-clause-ready : goal.returns-clause-ready
returns-clause-ready g c =
    let after : c.loop-count.self ≡ after_inputs g.S.Screen.heard (all_nexts c.args.self.now.replica.machine)
    c.args.self.now =
    (all_done g.S.Screen.heard c.waiting-waiting.result c.args.self.now c.loop-count.count c.loop-count.self
    c.loop-count.invariant.0 c.loop-count-test.false).after
    ∙ ap (λ (k : ℕ). after_inputs g.S.Screen.heard (nexts k c.args.self.now.replica.machine) c.args.self.now)
    c.loop-count.invariant.1 in
    subst (λ (e : EditorValue g.row.S-State.Denot). has_ready e.replica.machine ≡ false) (sym after)
    (all_drained c.args.self.now.replica)
