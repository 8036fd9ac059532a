-- A machine in which nothing waits: what each step of the replay is for it.
use Rattle.std.proofs.Common.{◌≡◌, ◌≢◌, ◌⊎◌, ◌<◌, ◌≤◌, ◌||◌, ◌&&◌, List, [], ℕ, Bool, true, false}
use Rattle.std.proofs.Common.{not, if◌then◌else◌, nat_eq, nat_lt, length, filter, Option, Some, None}
use Rattle.std.proofs.Common.{refl, sym, ap, ◌∙◌, inr, true≢false, arith}
use Rattle.std.proofs.lemmas.Bool.{eqb-true, eq-eqb, ltb-true, and_parts, not-true, false_from_ne_true}
use Rattle.td_base.specs.Value.{DotValue}
use Rattle.td_base.specs.Equality.{same_dot}
use Rattle.td_base.specs.Lists.{In}
use Rattle.td_base.proofs.Lists.{In-filter}
use Rattle.td_base.proofs.Equals.{same_dot_refl, same_dot_true}
use Rattle.td_clock.specs.Vector.{vector_get, vector_has, vector_covers}
use Rattle.td_op.specs.declared.input.Input.TheVariants.{Take, Next}
use Rattle.td_op.specs.declared.message.Message.TheVariants.{Op as AnOp}
use Rattle.td_op.specs.declared.reply.Reply.TheVariants.{New, Taken, Idle}
use Rattle.td_op.specs.declared.reply.Why.{Why}
use Rattle.td_op.specs.Op.{OpValue}
use Rattle.td_machine.specs.Ready.{is_had, is_ready, next_ready, waits, without}
use Rattle.td_machine.specs.Machine.{Machine, made}
use Rattle.td_machine.specs.Taking.{Stepped, stepped, misfit, take, forget, waited, next_of}
use Rattle.td_machine.specs.Step.{step}
use Rattle.td_machine.proofs.Waiting.{In-put_waiting}
use Rattle.td_machine.proofs.StepKinds.{least_in}
use Rattle.td_law_replay.specs.Judging.{take_waiting, take_waiting_as}
use Rattle.td_law_replay.specs.Replies.{is_new, taken_of, NotUnfit}
use Rattle.td_law_replay.proofs.Outlined.{with, with_step, take_with, misfit_with, offered_to}
use Rattle.td_law_replay.proofs.Counts.{is_made}

abbrev pub bare : Machine → Machine
bare m = with [] m

-- ---- an operation that is taken when it comes

pub new_bare : (x : OpValue) (m : Machine) → (step m (Take (AnOp x))).reply ≡ New
    → step (bare m) (Take (AnOp x)) ≡ with_step [] (step m (Take (AnOp x)))
new_bare x m e =
    ap
    (λ (o : Option Why).
    offered_to (nat_eq (length x.deps) m.size) (is_had m.have x || false)
    (nat_eq x.dot.site m.site || nat_lt (made m) (vector_get x.deps m.site)) (is_ready m.have x) o x (bare m))
    (misfit_with x [] m)
    ∙ at (nat_eq (length x.deps) m.size) (is_had m.have x) (waits x.dot m.waiting)
    (nat_eq x.dot.site m.site || nat_lt (made m) (vector_get x.deps m.site)) (is_ready m.have x) (misfit x m) e
  where
    at : (sized had waiting own ready : Bool) (why : Option Why)
        → (offered_to sized (had || waiting) own ready why x m).reply ≡ New
        → offered_to sized (had || false) own ready why x (bare m)
        ≡ with_step [] (offered_to sized (had || waiting) own ready why x m)
    at false had waiting own ready why k = absurd cc
    at true true waiting own ready why k = absurd cc
    at true false true own ready why k = absurd cc
    at true false false true ready why k = absurd cc
    at true false false false false why k = absurd cc
    at true false false false true (Some y) k = absurd cc
    at true false false false true None k = ap (λ (n : Machine). stepped New n) (take_with x [] m)

-- what is known of one that is taken: it is of another site, and all that it depends on is had
pub record IsTaken (x : OpValue) (m : Machine) : Type 0 where
  pub had : is_had m.have x ≡ false
  pub covers : vector_covers m.have x.deps ≡ true

-- ---- one that waits or is known

pub record IsKept (x : OpValue) (m : Machine) (to : Stepped) : Type 0 where
  pub bare_is : bare to.machine ≡ bare m
  pub log_is : to.machine.log ≡ m.log
  pub waiting : (y : OpValue) → In y to.machine.waiting → (y ≡ x) ⊎ In y m.waiting
  pub quiet : (is_made to.reply ≡ false) × (is_new to.reply ≡ false) × (taken_of to.reply ≡ None)

pub known_kept : (x : OpValue) (m : Machine) → is_new (step m (Take (AnOp x))).reply ≡ false
    → NotUnfit (step m (Take (AnOp x))).reply
    → IsKept x m (step m (Take (AnOp x)))
known_kept x m =
    at (nat_eq (length x.deps) m.size) (is_had m.have x || waits x.dot m.waiting)
    (nat_eq x.dot.site m.site || nat_lt (made m) (vector_get x.deps m.site)) (is_ready m.have x) (misfit x m)
  where
    at : (sized again own ready : Bool) (why : Option Why)
        → is_new (offered_to sized again own ready why x m).reply ≡ false
        → NotUnfit (offered_to sized again own ready why x m).reply
        → IsKept x m (offered_to sized again own ready why x m)
    at false again own ready why k fit = absurd fit
    at true true own ready why k fit =
        record { bare_is = refl; log_is = refl; waiting = λ y i. inr i; quiet = (refl, refl, refl) }
    at true false true ready why k fit = absurd fit
    at true false false false why k fit =
        record {
          bare_is = refl;
          log_is = refl;
          waiting = λ y i. In-put_waiting x m.waiting y i;
          quiet = (refl, refl, refl);
        }
    at true false false true (Some y) k fit = absurd fit
    at true false false true None k fit = absurd (true≢false k)

-- ---- one that waited

pub record IsTakenUp (x : OpValue) (m : Machine) : Type 0 where
  pub outline_is : OpValue
  pub least : next_ready m.have m.waiting ≡ Some outline_is
  pub same : outline_is.dot ≡ x.dot
  pub fits : misfit x m ≡ None
  pub is : take_waiting x m ≡ stepped (Taken x.dot) (take x (forget x m))

pub taken_up : (x : OpValue) (m : Machine) → (take_waiting x m).reply ≡ Taken x.dot → IsTakenUp x m
taken_up x m e = found (next_ready m.have m.waiting) refl e
  where
    same_taken : (c d : DotValue) → Taken c ≡ Taken d → c ≡ d
    same_taken c d k = cc

    found : (o : Option OpValue) → next_ready m.have m.waiting ≡ o → (take_waiting_as o x m).reply ≡ Taken x.dot
        → IsTakenUp x m
    found None k f = absurd cc
    found (Some y) k f = dots (same_dot y.dot x.dot) refl f
      where
        dots : (b : Bool) → same_dot y.dot x.dot ≡ b
            → (if b then waited (misfit x m) x (forget x m) else stepped (Taken y.dot) m).reply ≡ Taken x.dot
            → IsTakenUp x m
        dots false g h =
            absurd (true≢false (sym (ap (λ (d : DotValue). same_dot d x.dot) (same_taken y.dot x.dot h)
            ∙ same_dot_refl x.dot) ∙ g))
        dots true g h = fitted (misfit x m) refl h
          where
            fitted : (why : Option Why) → misfit x m ≡ why → (waited why x (forget x m)).reply ≡ Taken x.dot
                → IsTakenUp x m
            fitted (Some why) u v = absurd cc
            fitted None u v =
                record {
                  outline_is = y;
                  least = k;
                  same = same_dot_true y.dot x.dot g;
                  fits = u;
                  is =
                      ap (λ (o : Option OpValue). take_waiting_as o x m) k
                      ∙ ap (λ (b : Bool). if b then waited (misfit x m) x (forget x m) else stepped (Taken y.dot) m) g
                      ∙ ap (λ (why : Option Why). waited why x (forget x m)) u;
                }

-- a ready outline with the dependencies of the operation
pub resumed_bare : (x : OpValue) (m : Machine) (u : IsTakenUp x m) → x.deps ≡ u.outline_is.deps
    → length x.deps ≡ m.size
    → x.dot.site ≢ m.site → vector_get x.deps m.site ≤ made m
    → step (bare m) (Take (AnOp x)) ≡ stepped New (bare (take x (forget x m)))
resumed_bare x m u deps sized apart low =
    let y : OpValue = u.outline_is in
    let ready : is_ready m.have y ≡ true =
    (In-filter (is_ready m.have) y m.waiting (least_in (filter (is_ready m.have) m.waiting) y u.least)).1 in
    let parts = and_parts (not (is_had m.have y)) (vector_covers m.have y.deps) ready in
    let new : is_had m.have x ≡ false =
    ap (λ (d : DotValue). vector_has m.have d) (sym u.same) ∙ not-true (is_had m.have y) parts.0 in
    let covered : vector_covers m.have x.deps ≡ true = ap (λ (v : List ℕ). vector_covers m.have v) deps ∙ parts.1 in
    all_pass (nat_eq (length x.deps) m.size) (is_had m.have x) (nat_eq x.dot.site m.site)
    (nat_lt (made m) (vector_get x.deps m.site)) (vector_covers m.have x.deps) (misfit x (bare m))
    (eq-eqb (length x.deps) m.size sized) new
    (false_from_ne_true (nat_eq x.dot.site m.site) (λ h. apart (eqb-true x.dot.site m.site h)))
    (false_from_ne_true (nat_lt (made m) (vector_get x.deps m.site))
    (λ h. let high : made m < vector_get x.deps m.site = ltb-true (made m) (vector_get x.deps m.site) h in
    absurd (omega (arith, low, high)))) covered
    (misfit_with x [] m ∙ u.fits)
    ∙ ap (λ (n : Machine). stepped New n)
    (take_with x [] m ∙ sym (ap (λ (n : Machine). with [] n) (take_with x (without x.dot m.waiting) m)))
  where
    all_pass : (sized had own early covered : Bool) (why : Option Why) → sized ≡ true → had ≡ false → own ≡ false
        → early ≡ false → covered ≡ true → why ≡ None
        → offered_to sized (had || false) (own || early) (not had && covered) why x (bare m)
        ≡ stepped New (take x (bare m))
    all_pass true false false false true None a b c d e f = refl
    all_pass false had own early covered why a b c d e f = absurd (true≢false (sym a))
    all_pass true true own early covered why a b c d e f = absurd (true≢false b)
    all_pass true false true early covered why a b c d e f = absurd (true≢false c)
    all_pass true false false true covered why a b c d e f = absurd (true≢false d)
    all_pass true false false false false why a b c d e f = absurd (true≢false (sym e))
    all_pass true false false false true (Some why) a b c d e f = absurd cc

-- ---- nothing

pub idle_kept : (m : Machine) → NotUnfit (step m Next).reply → taken_of (step m Next).reply ≡ None
    → ((step m Next).machine ≡ m) × ((step m Next).reply ≡ Idle) × (next_ready m.have m.waiting ≡ None)
idle_kept m = found (next_ready m.have m.waiting) refl
  where
    found : (o : Option OpValue) → next_ready m.have m.waiting ≡ o → NotUnfit (next_of o m).reply
        → taken_of (next_of o m).reply ≡ None
        → ((next_of o m).machine ≡ m) × ((next_of o m).reply ≡ Idle) × (next_ready m.have m.waiting ≡ None)
    found None k f e = (refl, refl, k)
    found (Some x) k f e = fitted (misfit x m) f e
      where
        fitted : (why : Option Why) → NotUnfit (waited why x (forget x m)).reply
            → taken_of (waited why x (forget x m)).reply ≡ None
            → ((waited why x (forget x m)).machine ≡ m) × ((waited why x (forget x m)).reply ≡ Idle)
            × (next_ready m.have m.waiting ≡ None)
        fitted (Some why) f e = absurd f
        fitted None f e = absurd cc
