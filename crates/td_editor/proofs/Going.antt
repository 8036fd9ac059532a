-- An editor that takes what waits, after so many steps.
use Rattle.std.proofs.Common.{◌≡◌, ◌<◌, ◌≤◌, ◌+◌, ◌-◌, ◌++◌, ℕ, zero, suc, List, [], ◌∷◌, Bool, true, false}
use Rattle.std.proofs.Common.{if◌then◌else◌, length, refl, sym, ap, ◌∙◌, append-nil, append_assoc, length-append}
use Rattle.std.proofs.Common.{arith}
use Rattle.std.specs.Prelude.{Result, Ok, Err, OnErr}
use Rattle.td_op.specs.declared.change.Change.{Change}
use Rattle.td_op.specs.declared.input.Input.{Input}
use Rattle.td_op.specs.declared.input.Input.TheVariants.{Next}
use Rattle.td_machine.specs.Machine.{Machine}
use Rattle.td_machine.specs.Step.{step}
use Rattle.td_replica.specs.Replica.{has_ready}
use Rattle.td_editor.specs.Editors.{EditorValue, after_input, after_inputs, nexts, IsStopped}
use Rattle.td_editor.proofs.Steps.{after_more, after_first}

-- so many steps are done, and of those that are to be done these are left
pub record IsGoing {T : Type 0} (heard : T → Change → T) (most done : ℕ) (old now : EditorValue T) : Type 0 where
  pub front : List Input
  pub count : length front ≡ done
  pub after : now ≡ after_inputs heard front old
  pub all : nexts most old.replica.machine ≡ front ++ nexts (most - done) now.replica.machine

abbrev on_or_off : ℕ → Machine → Bool → List Input
on_or_off k m b = if b then Next ∷ nexts k (step m Next).machine else []

nexts_on : (n k : ℕ) (m : Machine) → n ≡ suc k → has_ready m ≡ true → nexts n m ≡ Next ∷ nexts k (step m Next).machine
nexts_on n k m e on = ap (λ (j : ℕ). nexts j m) e ∙ ap (on_or_off k m) on

nexts_off : (n : ℕ) (m : Machine) → has_ready m ≡ false → nexts n m ≡ []
nexts_off zero m off = refl
nexts_off (suc k) m off = ap (on_or_off k m) off

module _ {T : Type 0} (heard : T → Change → T) (most : ℕ) (old : EditorValue T) where
  pub begins : IsGoing heard most 0 old old
  begins =
      let all : most ≡ most - 0 = omega arith in
      record {
        front = [];
        count = refl;
        after = refl;
        all = ap (λ (k : ℕ). nexts k old.replica.machine) all;
      }

  left : (done : ℕ) (now : EditorValue T) → done < most → has_ready now.replica.machine ≡ true
      → nexts (most - done) now.replica.machine ≡ Next ∷ nexts (most - (done + 1))
      (step now.replica.machine Next).machine
  left done now few on =
      let n : most - done ≡ suc (most - (done + 1)) = omega (arith, few) in
      nexts_on (most - done) (most - (done + 1)) now.replica.machine n on

  pub more : (done : ℕ) (now new : EditorValue T) → done < most → IsGoing heard most done old now
      → has_ready now.replica.machine ≡ true → new ≡ after_input heard Next now → IsGoing heard most (done + 1) old new
  more done now new few g on is =
      record {
        front = g.front ++ Next ∷ [];
        count = length-append g.front (Next ∷ []) ∙ ap (λ (n : ℕ). n + 1) g.count;
        after = is ∙ ap (after_input heard Next) g.after ∙ sym (after_more heard g.front Next old);
        all = g.all
            ∙ ap (λ (l : List Input). g.front ++ l) (left done now few on)
            ∙ sym (append_assoc g.front (Next ∷ []) (nexts (most - (done + 1)) (step now.replica.machine Next).machine))
            ∙ ap (λ (e : EditorValue T). (g.front ++ Next ∷ []) ++ nexts (most - (done + 1)) e.replica.machine)
            (sym is);
      }

  ends : (done : ℕ) (now : EditorValue T) (g : IsGoing heard most done old now)
      → nexts (most - done) now.replica.machine ≡ [] → nexts most old.replica.machine ≡ g.front
  ends done now g none = g.all ∙ ap (λ (l : List Input). g.front ++ l) none ∙ append-nil g.front

  -- nothing is left to do
  pub record IsThrough (done : ℕ) (now : EditorValue T) : Type 0 where
    pub after : now ≡ after_inputs heard (nexts most old.replica.machine) old
    pub count : done ≡ length (nexts most old.replica.machine)

  through : (done : ℕ) (now : EditorValue T) → IsGoing heard most done old now
      → nexts (most - done) now.replica.machine ≡ [] → IsThrough done now
  through done now g none =
      let e : nexts most old.replica.machine ≡ g.front = ends done now g none in
      record {
        after = g.after ∙ ap (λ (l : List Input). after_inputs heard l old) (sym e);
        count = sym g.count ∙ ap (λ (l : List Input). length l) (sym e);
      }

  pub off : (done : ℕ) (now : EditorValue T) → IsGoing heard most done old now → has_ready now.replica.machine ≡ false
      → IsThrough done now
  off done now g idle = through done now g (nexts_off (most - done) now.replica.machine idle)

  pub all_done : (done : ℕ) (now : EditorValue T) → IsGoing heard most done old now → most ≤ done → IsThrough done now
  all_done done now g enough =
      let n : most - done ≡ 0 = omega (arith, enough) in
      through done now g (ap (λ (k : ℕ). nexts k now.replica.machine) n)

  pub stopped : (done : ℕ) (now new : EditorValue T) → done < most → IsGoing heard most done old now
      → has_ready now.replica.machine ≡ true → new ≡ now → IsStopped heard (nexts most old.replica.machine) old new
  stopped done now new few g on is =
      record {
        front = g.front;
        wanting = Next;
        back = nexts (most - (done + 1)) (step now.replica.machine Next).machine;
        splits = g.all ∙ ap (λ (l : List Input). g.front ++ l) (left done now few on);
        after = is ∙ g.after;
      }

pub err_always : {T E P : Type 0} (r : Result T E) → P → OnErr r P
err_always (Ok x) p = tt
err_always (Err e) p = p

-- ---- behind a first step

module _ {T : Type 0} (heard : T → Change → T) (input : Input) (old : EditorValue T) where
  pub stopped_first : (rest : List Input) (new : EditorValue T) → new ≡ old → IsStopped heard (input ∷ rest) old new
  stopped_first rest new is = record { front = []; wanting = input; back = rest; splits = refl; after = is }

  pub stopped_later : (rest : Machine → List Input) (middle new : EditorValue T) → middle ≡ after_input heard input old
      → IsStopped heard (rest middle.replica.machine) middle new
      → IsStopped heard (input ∷ rest (step old.replica.machine input).machine) old new
  stopped_later rest middle new is k =
      record {
        front = input ∷ k.front;
        wanting = k.wanting;
        back = k.back;
        splits = ap (λ (l : List Input). input ∷ l)
            (ap (λ (e : EditorValue T). rest e.replica.machine) (sym is) ∙ k.splits);
        after = k.after ∙ ap (after_inputs heard k.front) is ∙ sym (after_first heard input k.front old);
      }

  pub done_later : (rest : Machine → List Input) (middle new : EditorValue T) → middle ≡ after_input heard input old
      → new ≡ after_inputs heard (rest middle.replica.machine) middle
      → new ≡ after_inputs heard (input ∷ rest (step old.replica.machine input).machine) old
  done_later rest middle new is e =
      e
      ∙ ap (λ (m : EditorValue T). after_inputs heard (rest m.replica.machine) m) is
      ∙ sym (after_first heard input (rest (step old.replica.machine input).machine) old)
