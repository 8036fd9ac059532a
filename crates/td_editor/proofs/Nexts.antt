-- What waits is taken until nothing is ready.
use Rattle.std.proofs.Common.{◌≡◌, ◌<◌, ◌≤◌, ℕ, zero, suc, List, [], ◌∷◌, Bool, true, false, not, if◌then◌else◌}
use Rattle.std.proofs.Common.{length, filter, Option, Some, None, refl, sym, ap, ◌∙◌, subst, inl, inr, true≢false}
use Rattle.std.proofs.Common.{arith}
use Rattle.td_base.proofs.Equals.{same_dot_refl}
use Rattle.td_base.specs.Lists.{In}
use Rattle.td_base.proofs.Lists.{In-filter}
use Rattle.td_path.specs.declared.slot.Slot.{Slot}
use Rattle.td_op.specs.declared.input.Input.TheVariants.{Next}
use Rattle.td_op.specs.declared.reply.Why.{Why}
use Rattle.td_op.specs.Op.{OpValue}
use Rattle.td_machine.specs.Log.{proposed}
use Rattle.td_machine.specs.Machine.{Machine}
use Rattle.td_machine.specs.Making.{done}
use Rattle.td_machine.specs.Ready.{is_ready, next_ready, is_dot_of}
use Rattle.td_machine.specs.Step.{step}
use Rattle.td_machine.specs.Taking.{misfit, forget, waited, next_of, take_as, answer, vote_on}
use Rattle.td_machine.proofs.StepKinds.{least_in}
use Rattle.td_replica.specs.Replica.{ReplicaValue, is_idle, after_step, has_ready}
use Rattle.td_editor.specs.Editors.{nexts, all_nexts, after_steps}

-- ---- one fewer waits

-- what does not pass is not counted
filter_few : {X : Type 0} (test : X → Bool) (xs : List X) → length (filter test xs) ≤ length xs
filter_few test [] = omega arith
filter_few test (x ∷ xs) = at (test x) (filter_few test xs)
  where
    at : (b : Bool) → length (filter test xs) ≤ length xs
        → length (if b then x ∷ filter test xs else filter test xs) ≤ suc (length xs)
    at true h = omega (arith, h)
    at false h = omega (arith, h)

filter_fewer : {X : Type 0} (test : X → Bool) (x : X) (xs : List X) → In x xs → test x ≡ false
    → length (filter test xs) < length xs
filter_fewer test x [] i e = absurd i
filter_fewer {X = X} test x (y ∷ xs) (inl k) e = at (test y) (sym (ap test k) ∙ e)
  where
    at : (b : Bool) → b ≡ false → length (if b then y ∷ filter test xs else filter test xs) < suc (length xs)
    at true f = absurd (true≢false f)
    at false f = let h : length (filter test xs) ≤ length xs = filter_few test xs in omega (arith, h)
filter_fewer test x (y ∷ xs) (inr i) e = at (test y) (filter_fewer test x xs i e)
  where
    at : (b : Bool) → length (filter test xs) < length xs
        → length (if b then y ∷ filter test xs else filter test xs) < suc (length xs)
    at true h = omega (arith, h)
    at false h = omega (arith, h)

take_waiting : (slot : Option Slot) (x : OpValue) (m : Machine) → (take_as slot x m).waiting ≡ m.waiting
take_waiting None x m = refl
take_waiting (Some slot) x m = at (vote_on x slot m)
  where
    at : (says : Bool) → (answer x.dot slot says (done x m)).waiting ≡ m.waiting
    at true = refl
    at false = refl

next_fewer : (m : Machine) → has_ready m ≡ true → length (step m Next).machine.waiting < length m.waiting
next_fewer m e = at (next_ready m.have m.waiting) refl e
  where
    fewer : (x : OpValue) → In x m.waiting → length (forget x m).waiting < length m.waiting
    fewer x i =
        filter_fewer (λ (y : OpValue). not (is_dot_of x.dot y)) x m.waiting i
        (ap (λ (b : Bool). not b) (same_dot_refl x.dot))

    at : (o : Option OpValue) → next_ready m.have m.waiting ≡ o → not (is_idle (next_of o m).reply) ≡ true
        → length (next_of o m).machine.waiting < length m.waiting
    at None f k = absurd (true≢false (sym k))
    at (Some x) f k =
        cases (misfit x m)
        (fewer x
        (In-filter (is_ready m.have) x m.waiting (least_in (filter (is_ready m.have) m.waiting) x f)).0)
      where
        cases : (why : Option Why) → length (forget x m).waiting < length m.waiting
            → length (waited why x (forget x m)).machine.waiting < length m.waiting
        cases (Some why) h = h
        cases None h =
            subst (λ (l : List OpValue). length l < length m.waiting)
            (sym (take_waiting (proposed x.body) x (forget x m))) h

nobody_waits : (m : Machine) → length m.waiting ≤ 0 → has_ready m ≡ false
nobody_waits m few =
    ap (λ (l : List OpValue). not (is_idle (next_of (next_ready m.have l) m).reply)) (none m.waiting few)
  where
    none : (l : List OpValue) → length l ≤ 0 → l ≡ []
    none [] h = refl
    none (x ∷ l) h = absurd (omega (arith, h))

-- ---- so often is enough

drained : (k : ℕ) (r : ReplicaValue) → length r.machine.waiting ≤ k
    → has_ready (after_steps (nexts k r.machine) r).machine ≡ false
drained zero r few = nobody_waits r.machine few
drained (suc k) r few =
    at (has_ready r.machine) refl
    (λ (less : length (step r.machine Next).machine.waiting < length r.machine.waiting).
    drained k (after_step Next r) (omega (arith, less, few)))
  where
    at : (b : Bool) → has_ready r.machine ≡ b
        → (length (step r.machine Next).machine.waiting < length r.machine.waiting
        → has_ready (after_steps (nexts k (step r.machine Next).machine) (after_step Next r)).machine ≡ false)
        → has_ready (after_steps (if b then Next ∷ nexts k (step r.machine Next).machine else []) r).machine ≡ false
    at true e on = on (next_fewer r.machine e)
    at false e on = e

pub all_drained : (r : ReplicaValue) → has_ready (after_steps (all_nexts r.machine) r).machine ≡ false
all_drained r = drained (length r.machine.waiting) r (omega arith)
