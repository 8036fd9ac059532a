-- An operation that is taken beside what waits.
use Rattle.std.proofs.Common.{◌≡◌, ◌||◌, ◌&&◌, List, [], Bool, true, false, not, nat_eq, nat_lt, length, Option, Some}
use Rattle.std.proofs.Common.{None, refl, sym, ap, ◌∙◌, true≢false}
use Rattle.td_clock.specs.Vector.{vector_get, vector_covers}
use Rattle.td_op.specs.declared.input.Input.TheVariants.{Take}
use Rattle.td_op.specs.declared.message.Message.TheVariants.{Op as AnOp}
use Rattle.td_op.specs.declared.reply.Reply.TheVariants.{New}
use Rattle.td_op.specs.declared.reply.Why.{Why}
use Rattle.td_op.specs.Op.{OpValue}
use Rattle.td_machine.specs.Machine.{Machine, made}
use Rattle.td_machine.specs.Ready.{is_had, waits}
use Rattle.td_machine.specs.Taking.{Stepped, stepped, misfit}
use Rattle.td_machine.specs.Step.{step}
use Rattle.td_law_replay.specs.Replies.{is_new}
use Rattle.td_law_replay.proofs.Outlined.{with, with_step, take_with, take_keeps, misfit_with, offered_to}

abbrev own_of : OpValue → Machine → Bool
own_of x m = nat_eq x.dot.site m.site || nat_lt (made m) (vector_get x.deps m.site)

-- where the operation does not wait, and all that it depends on is had, what waits makes no difference
beside : (x : OpValue) (w : List OpValue) (m : Machine) → m.waiting ≡ [] → waits x.dot w ≡ false
    → vector_covers m.have x.deps ≡ true
    → step (record m { waiting = w }) (Take (AnOp x)) ≡ with_step w (step m (Take (AnOp x)))
beside x w m none quiet covers =
    ap
    (λ (o : Option Why).
    offered_to (nat_eq (length x.deps) m.size) (is_had m.have x || waits x.dot w) (own_of x m)
    (not (is_had m.have x) && vector_covers m.have x.deps) o x (with w m)) (misfit_with x w m)
    ∙ at (nat_eq (length x.deps) m.size) (is_had m.have x) (waits x.dot w) (waits x.dot m.waiting) (own_of x m)
    (vector_covers m.have x.deps) (misfit x m) quiet (ap (λ (l : List OpValue). waits x.dot l) none) covers
  where
    at : (sized had there here own covered : Bool) (why : Option Why) → there ≡ false → here ≡ false → covered ≡ true
        → offered_to sized (had || there) own (not had && covered) why x (with w m)
        ≡ with_step w (offered_to sized (had || here) own (not had && covered) why x m)
    at sized had true here own covered why a b c = absurd (true≢false a)
    at sized had false true own covered why a b c = absurd (true≢false b)
    at sized had false false own false why a b c = absurd (true≢false (sym c))
    at false had false false own true why a b c = refl
    at true true false false own true why a b c = refl
    at true false false false true true why a b c = refl
    at true false false false false true (Some y) a b c = refl
    at true false false false false true None a b c = ap (λ (n : Machine). stepped New n) (take_with x w m)

-- and the step takes it, or leaves the machine
settles : (x : OpValue) (m : Machine) → m.waiting ≡ [] → vector_covers m.have x.deps ≡ true
    → (is_new (step m (Take (AnOp x))).reply ≡ false → (step m (Take (AnOp x))).machine ≡ m)
    × ((step m (Take (AnOp x))).machine.waiting ≡ [])
settles x m none covers =
    at (nat_eq (length x.deps) m.size) (is_had m.have x) (waits x.dot m.waiting) (own_of x m)
    (vector_covers m.have x.deps) (misfit x m) (ap (λ (l : List OpValue). waits x.dot l) none) covers
  where
    at : (sized had here own covered : Bool) (why : Option Why) → here ≡ false → covered ≡ true
        → (is_new (offered_to sized (had || here) own (not had && covered) why x m).reply ≡ false
        → (offered_to sized (had || here) own (not had && covered) why x m).machine ≡ m)
        × ((offered_to sized (had || here) own (not had && covered) why x m).machine.waiting ≡ [])
    at sized had true own covered why b c = absurd (true≢false b)
    at sized had false own false why b c = absurd (true≢false (sym c))
    at false had false own true why b c = ((λ e. refl), none)
    at true true false own true why b c = ((λ e. refl), none)
    at true false false true true why b c = ((λ e. refl), none)
    at true false false false true (Some y) b c = ((λ e. refl), none)
    at true false false false true None b c = ((λ e. absurd (true≢false e)), take_keeps x m ∙ none)

pub taken_is : (x : OpValue) (w : List OpValue) (m : Machine) → m.waiting ≡ [] → waits x.dot w ≡ false
    → vector_covers m.have x.deps ≡ true
    → (step (record m { waiting = w }) (Take (AnOp x))).reply ≡ (step m (Take (AnOp x))).reply
taken_is x w m none quiet covers = ap (λ (s : Stepped). s.reply) (beside x w m none quiet covers)

pub taken_machine : (x : OpValue) (w : List OpValue) (m : Machine) → m.waiting ≡ [] → waits x.dot w ≡ false
    → vector_covers m.have x.deps ≡ true
    → (step (record m { waiting = w }) (Take (AnOp x))).machine
    ≡ record (step m (Take (AnOp x))).machine { waiting = w }
taken_machine x w m none quiet covers = ap (λ (s : Stepped). s.machine) (beside x w m none quiet covers)

pub taken_keeps : (x : OpValue) (m : Machine) → m.waiting ≡ [] → vector_covers m.have x.deps ≡ true
    → (step m (Take (AnOp x))).machine.waiting ≡ []
taken_keeps x m none covers = (settles x m none covers).1

pub refused_same : (x : OpValue) (m : Machine) → m.waiting ≡ [] → vector_covers m.have x.deps ≡ true
    → is_new (step m (Take (AnOp x))).reply ≡ false → (step m (Take (AnOp x))).machine ≡ m
refused_same x m none covers e = (settles x m none covers).0 e

-- what waits, and what depends on others, is not new
not_new : (x : OpValue) (m : Machine) (sized had waiting own covered : Bool) (why : Option Why)
    → (waiting || not covered) ≡ true
    → is_new (offered_to sized (had || waiting) own (not had && covered) why x m).reply ≡ false
not_new x m false had waiting own covered why e = refl
not_new x m true true waiting own covered why e = refl
not_new x m true false true own covered why e = refl
not_new x m true false false true covered why e = refl
not_new x m true false false false false why e = refl
not_new x m true false false false true why e = absurd (true≢false (sym e))

pub waiting_not_new : (x : OpValue) (m : Machine) → waits x.dot m.waiting ≡ true
    → is_new (step m (Take (AnOp x))).reply ≡ false
waiting_not_new x m e =
    not_new x m (nat_eq (length x.deps) m.size) (is_had m.have x) (waits x.dot m.waiting) (own_of x m)
    (vector_covers m.have x.deps) (misfit x m) (ap (λ (b : Bool). b || not (vector_covers m.have x.deps)) e)

pub late_not_new : (x : OpValue) (m : Machine) → vector_covers m.have x.deps ≡ false
    → is_new (step m (Take (AnOp x))).reply ≡ false
late_not_new x m e =
    not_new x m (nat_eq (length x.deps) m.size) (is_had m.have x) (waits x.dot m.waiting) (own_of x m)
    (vector_covers m.have x.deps) (misfit x m)
    (ap (λ (b : Bool). waits x.dot m.waiting || not b) e ∙ either_true (waits x.dot m.waiting))
  where
    either_true : (b : Bool) → (b || true) ≡ true
    either_true true = refl
    either_true false = refl
