-- Inputs that are done one after another, as far as they fit.
use Rattle.std.proofs.Common.{◌≡◌, ◌<◌, ◌+◌, ◌-◌, ◌++◌, ℕ, zero, suc, List, [], ◌∷◌, Bool, true, false}
use Rattle.std.proofs.Common.{if◌then◌else◌, length, drop, refl, sym, ap, ◌∙◌, subst, append-nil, append_assoc, arith}
use Rattle.std.proofs.Common.{length-append}
use Rattle.std.proofs.lemmas.Bool.{false≢true}
use Rattle.std.proofs.lemmas.List.{drop_all, drop_at}
use Rattle.td_op.specs.declared.input.Input.{Input}
use Rattle.td_op.specs.declared.input.Input.TheVariants.{Next}
use Rattle.td_op.specs.declared.message.Message.{Message}
use Rattle.td_machine.proofs.Growing.{step_sends}
use Rattle.td_replica.specs.Replica.{ReplicaValue, after_step, has_ready}
use Rattle.td_kept.specs.KeptWorld.{fits}
use Rattle.td_kept.specs.Sites.{after_steps, leaves_to_take, fitting_inputs, all_inputs_fit, sent_since}

pub steps_both : (front back : List Input) (r : ReplicaValue)
    → after_steps (front ++ back) r ≡ after_steps back (after_steps front r)
steps_both [] back r = refl
steps_both (i ∷ front) back r = steps_both front back (after_step i r)

-- ---- what fits

one_fits : (b x y z : Bool) → (if b then x else false) ≡ true → (x ≡ true → y ≡ z) → (if b then y else false) ≡ z
one_fits true x y z h f = f h
one_fits false x y z h f = absurd (false≢true h)

pub fit_both : (front back : List Input) (r : ReplicaValue) → all_inputs_fit front r ≡ true
    → all_inputs_fit (front ++ back) r ≡ all_inputs_fit back (after_steps front r)
fit_both [] back r h = refl
fit_both (i ∷ front) back r h =
    one_fits (fits i r) (all_inputs_fit front (after_step i r)) (all_inputs_fit (front ++ back) (after_step i r))
    (all_inputs_fit back (after_steps front (after_step i r))) h (fit_both front back (after_step i r))

pub fits_more : (front : List Input) (i : Input) (r : ReplicaValue) → all_inputs_fit front r ≡ true
    → fits i (after_steps front r) ≡ true → all_inputs_fit (front ++ i ∷ []) r ≡ true
fits_more front i r h e = fit_both front (i ∷ []) r h ∙ ap (λ (b : Bool). if b then true else false) e

pub fits_no_more : (front : List Input) (i : Input) (back : List Input) (r : ReplicaValue)
    → all_inputs_fit front r ≡ true → fits i (after_steps front r) ≡ false
    → all_inputs_fit (front ++ i ∷ back) r ≡ false
fits_no_more front i back r h e =
    fit_both front (i ∷ back) r h
    ∙ ap (λ (b : Bool). if b then all_inputs_fit back (after_step i (after_steps front r)) else false) e

one_stops : (b x : Bool) (i : Input) (inputs front : List Input) → (if b then x else false) ≡ true
    → (x ≡ true → inputs ≡ front) → (if b then i ∷ inputs else []) ≡ i ∷ front
one_stops true x i inputs front h f = ap (λ (l : List Input). i ∷ l) (f h)
one_stops false x i inputs front h f = absurd (false≢true h)

pub stops : (front : List Input) (i : Input) (back : List Input) (r : ReplicaValue) → all_inputs_fit front r ≡ true
    → fits i (after_steps front r) ≡ false → fitting_inputs (front ++ i ∷ back) r ≡ front
stops [] i back r h e = ap (λ (b : Bool). if b then i ∷ fitting_inputs back (after_step i r) else []) e
stops (j ∷ front) i back r h e =
    one_stops (fits j r) (all_inputs_fit front (after_step j r)) j (fitting_inputs (front ++ i ∷ back) (after_step j r))
    front h (λ g. stops front i back (after_step j r) g e)

-- ---- what waits

leaves_on : (count : ℕ) (r : ReplicaValue) → has_ready r.machine ≡ true → 0 < count
    → leaves_to_take count r ≡ Next ∷ leaves_to_take (count - 1) (after_step Next r)
leaves_on zero r e some = absurd (omega (arith, some))
leaves_on (suc count) r e some =
    let same : suc count - 1 ≡ count = omega arith in
    ap (λ (b : Bool). if b then Next ∷ leaves_to_take count (after_step Next r) else []) e
    ∙ ap (λ (n : ℕ). Next ∷ leaves_to_take n (after_step Next r)) (sym same)

leaves_off : (count : ℕ) (r : ReplicaValue) → has_ready r.machine ≡ false → leaves_to_take count r ≡ []
leaves_off zero r e = refl
leaves_off (suc count) r e =
    ap (λ (b : Bool). if b then Next ∷ leaves_to_take count (after_step Next r) else []) e

-- so many of at most as many are done, all of which fitted
pub record IsGoing (count k : ℕ) (old now : ReplicaValue) : Type 0 where
  pub front : List Input
  pub splits : leaves_to_take count old ≡ front ++ leaves_to_take (count - k) now
  pub after : now ≡ after_steps front old
  pub many : length front ≡ k
  pub fit : all_inputs_fit front old ≡ true

pub going_none : (count : ℕ) (old now : ReplicaValue) → now ≡ old → IsGoing count 0 old now
going_none count old now is =
    let same : count - 0 ≡ count = omega arith in
    subst (λ (r : ReplicaValue). IsGoing count 0 old r) (sym is) (record {
      front = [];
      splits = ap (λ (n : ℕ). leaves_to_take n old) (sym same);
      after = refl;
      many = refl;
      fit = refl;
    })

pub going_more : (count k : ℕ) (old now new : ReplicaValue) → k < count → IsGoing count k old now
    → has_ready now.machine ≡ true → fits Next now ≡ true → new ≡ after_step Next now
    → IsGoing count (k + 1) old new
going_more count k old now new less g e fit is =
    let rest : count - k - 1 ≡ count - (k + 1) = omega (arith, less) in
    let some : 0 < count - k = omega (arith, less) in
    let on : leaves_to_take (count - k) now ≡ Next ∷ leaves_to_take (count - (k + 1)) (after_step Next now) =
    leaves_on (count - k) now e some ∙ ap (λ (n : ℕ). Next ∷ leaves_to_take n (after_step Next now)) rest in
    subst (λ (r : ReplicaValue). IsGoing count (k + 1) old r) (sym is) (record {
      front = g.front ++ Next ∷ [];
      splits = g.splits ∙ ap (λ (l : List Input). g.front ++ l) on
          ∙ sym (append_assoc g.front (Next ∷ []) (leaves_to_take (count - (k + 1)) (after_step Next now)));
      after = ap (after_step Next) g.after ∙ sym (steps_both g.front (Next ∷ []) old);
      many = omega (arith, g.many, length-append g.front (Next ∷ []));
      fit = fits_more g.front Next old g.fit (ap (fits Next) (sym g.after) ∙ fit);
    })

-- all are done
pub record IsGone (count : ℕ) (old now : ReplicaValue) (k : ℕ) : Type 0 where
  pub many : k ≡ length (leaves_to_take count old)
  pub fit : all_inputs_fit (leaves_to_take count old) old ≡ true
  pub after : now ≡ after_steps (leaves_to_take count old) old

gone : (count k : ℕ) (old now : ReplicaValue) → IsGoing count k old now → leaves_to_take (count - k) now ≡ []
    → IsGone count old now k
gone count k old now g none =
    let all : leaves_to_take count old ≡ g.front =
    g.splits ∙ ap (λ (l : List Input). g.front ++ l) none ∙ append-nil g.front in
    record {
      many = sym g.many ∙ ap length (sym all);
      fit = subst (λ (l : List Input). all_inputs_fit l old ≡ true) (sym all) g.fit;
      after = g.after ∙ ap (λ (l : List Input). after_steps l old) (sym all);
    }

-- as nothing is ready any more, or nothing waits any more
pub going_off : (count k : ℕ) (old now : ReplicaValue) → IsGoing count k old now → has_ready now.machine ≡ false
    → IsGone count old now k
going_off count k old now g e = gone count k old now g (leaves_off (count - k) now e)

pub going_end : (count k : ℕ) (old now : ReplicaValue) → k ≡ count → IsGoing count k old now → IsGone count old now k
going_end count k old now all g =
    let none : count - k ≡ 0 = omega (arith, all) in
    gone count k old now g (ap (λ (n : ℕ). leaves_to_take n now) none)

-- the next one does not fit
pub record IsCutOff (inputs : List Input) (old now : ReplicaValue) : Type 0 where
  pub full : all_inputs_fit inputs old ≡ false
  pub after : now ≡ after_steps (fitting_inputs inputs old) old

pub going_full : (count k : ℕ) (old now : ReplicaValue) → k < count → IsGoing count k old now
    → has_ready now.machine ≡ true → fits Next now ≡ false → IsCutOff (leaves_to_take count old) old now
going_full count k old now less g e full =
    let some : 0 < count - k = omega (arith, less) in
    let back : List Input = leaves_to_take (count - k - 1) (after_step Next now) in
    let all : leaves_to_take count old ≡ g.front ++ Next ∷ leaves_to_take (count - k - 1) (after_step Next now) =
    g.splits ∙ ap (λ (l : List Input). g.front ++ l) (leaves_on (count - k) now e some) in
    let here : fits Next (after_steps g.front old) ≡ false = ap (fits Next) (sym g.after) ∙ full in
    subst (λ (l : List Input). IsCutOff l old now) (sym all) (record {
      full = fits_no_more g.front Next back old g.fit here;
      after = g.after ∙ ap (λ (l : List Input). after_steps l old) (sym (stops g.front Next back old g.fit here));
    })

-- ---- the first one and what waits

one_on : (b x : Bool) → b ≡ true → (if b then x else false) ≡ x
one_on true x e = refl
one_on false x e = absurd (false≢true e)

pub first_fits : (i : Input) (inputs : List Input) (r : ReplicaValue) → fits i r ≡ true
    → all_inputs_fit (i ∷ inputs) r ≡ all_inputs_fit inputs (after_step i r)
first_fits i inputs r e = one_on (fits i r) (all_inputs_fit inputs (after_step i r)) e

pub first_full : (i : Input) (inputs : List Input) (r now : ReplicaValue) → fits i r ≡ false → now ≡ r
    → IsCutOff (i ∷ inputs) r now
first_full i inputs r now e is = record {
  full = ap (λ (b : Bool). if b then all_inputs_fit inputs (after_step i r) else false) e;
  after = is ∙ ap (λ (l : List Input). after_steps l r)
      (sym (ap (λ (b : Bool). if b then i ∷ fitting_inputs inputs (after_step i r) else []) e));
}

pub rest_full : (i : Input) (inputs : List Input) (r mid now : ReplicaValue) → fits i r ≡ true
    → mid ≡ after_step i r → IsCutOff inputs mid now → IsCutOff (i ∷ inputs) r now
rest_full i inputs r mid now e is cut =
    let here : IsCutOff inputs (after_step i r) now =
    subst (λ (m : ReplicaValue). IsCutOff inputs m now) is cut in
    record {
      full = first_fits i inputs r e ∙ here.full;
      after = here.after ∙ ap (λ (l : List Input). after_steps l r)
          (sym (ap (λ (b : Bool). if b then i ∷ fitting_inputs inputs (after_step i r) else []) e));
    }

-- ---- what was sent

pub sent_none : (r : ReplicaValue) → sent_since r r ≡ []
sent_none r = drop_all (length r.machine.sent) r.machine.sent (omega arith)

pub sends : (inputs : List Input) (r : ReplicaValue)
    → (more : List Message) × ((after_steps inputs r).machine.sent ≡ r.machine.sent ++ more)
sends [] r = ([], sym (append-nil r.machine.sent))
sends (i ∷ inputs) r =
    let one = step_sends r.machine i in
    let rest = sends inputs (after_step i r) in (
      one.0 ++ rest.0,
      rest.1 ∙ ap (λ (l : List Message). l ++ rest.0) one.1
          ∙ append_assoc r.machine.sent one.0 rest.0,
    )

-- by the first of some steps, and then by the others
pub sent_both : (i : Input) (inputs : List Input) (r : ReplicaValue)
    → sent_since r (after_step i r) ++ sent_since (after_step i r) (after_steps inputs (after_step i r))
    ≡ sent_since r (after_steps (i ∷ inputs) r)
sent_both i inputs r =
    let old : List Message = r.machine.sent in
    let one = step_sends r.machine i in
    let rest = sends inputs (after_step i r) in
    let all : (after_steps (i ∷ inputs) r).machine.sent ≡ old ++ (one.0 ++ rest.0) =
    rest.1 ∙ ap (λ (l : List Message). l ++ rest.0) one.1 ∙ append_assoc old one.0 rest.0 in
    let first : sent_since r (after_step i r) ≡ one.0 =
    ap (λ (l : List Message). drop (length old) l) one.1 ∙ drop_at old one.0 (length old) refl in
    let second : sent_since (after_step i r) (after_steps inputs (after_step i r)) ≡ rest.0 =
    ap (λ (l : List Message). drop (length (after_step i r).machine.sent) l) rest.1
    ∙ drop_at (after_step i r).machine.sent rest.0 (length (after_step i r).machine.sent) refl in
    (λ k. first k ++ second k)
    ∙ sym (ap (λ (l : List Message). drop (length old) l) all ∙ drop_at old (one.0 ++ rest.0) (length old) refl)
