-- Histories of which a front is left: they are told by their inputs, and what was sent stays sent.
use Rattle.std.proofs.Common.{◌≡◌, ◌≤◌, ℕ, zero, suc, List, [], ◌∷◌, ◌++◌, length, take, drop, refl, sym, ◌∙◌}
use Rattle.std.proofs.Common.{ap, subst, arith, append-nil, append_assoc, take-append-drop, length-append}
use Rattle.std.proofs.lemmas.List.{take_at}
use Rattle.td_base.proofs.Elements.{same_head, same_tail}
use Rattle.td_op.specs.declared.input.Input.{Input}
use Rattle.td_op.specs.declared.message.Message.{Message}
use Rattle.td_machine.specs.Machine.{Machine}
use Rattle.td_machine.specs.History.{History, after, IsLegalFrom}
use Rattle.td_machine.specs.Step.{step}
use Rattle.td_machine.proofs.Growing.{step_sends}
use Rattle.td_machine.proofs.Induction.{after_both}
use Rattle.td_journal.specs.Journal.{inputs_of}

-- legal histories with the same inputs are the same
pub same_history : (m : Machine) (a b : History) → IsLegalFrom m a → IsLegalFrom m b → inputs_of a ≡ inputs_of b → a ≡ b
same_history m [] [] p q e = refl
same_history m [] (y ∷ b) p q e = absurd (nothing y.input (inputs_of b) e)
  where
    nothing : (i : Input) (l : List Input) → [] ≡ i ∷ l → ⊥
    nothing i l e = cc
same_history m (x ∷ a) [] p q e = absurd (nothing x.input (inputs_of a) e)
  where
    nothing : (i : Input) (l : List Input) → i ∷ l ≡ [] → ⊥
    nothing i l e = cc
same_history m (x ∷ a) (y ∷ b) p q e =
    let input : x.input ≡ y.input = same_head x.input (inputs_of a) y.input (inputs_of b) e in
    let reply : x.reply ≡ y.reply = sym p.1 ∙ ap (λ (i : Input). (step m i).reply) input ∙ q.1 in
    let legal : IsLegalFrom (step m x.input).machine b =
    subst (λ (i : Input). IsLegalFrom (step m i).machine b) (sym input) q.2 in
    let rest : a ≡ b =
    same_history (step m x.input).machine a b p.2 legal (same_tail x.input (inputs_of a) y.input (inputs_of b) e) in
    λ i. record { input = input i; reply = reply i } ∷ rest i

-- a front of a legal history is one
pub legal_first : (m : Machine) (n : ℕ) (entries : History) → IsLegalFrom m entries → IsLegalFrom m (take n entries)
legal_first m zero entries l = tt
legal_first m (suc n) [] l = tt
legal_first m (suc n) (e ∷ entries) l = (l.0, l.1, legal_first (step m e.input).machine n entries l.2)

-- and what stands behind it is one from there on
pub legal_behind : (m : Machine) (front back : History) → IsLegalFrom m (front ++ back)
    → IsLegalFrom (after m front) back
legal_behind m [] back l = l
legal_behind m (e ∷ front) back l = legal_behind (step m e.input).machine front back l.2

-- ---- what was sent

pub onward : (m : Machine) (entries : History) → (more : List Message) × ((after m entries).sent ≡ m.sent ++ more)
onward m [] = ([], sym (append-nil m.sent))
onward m (e ∷ entries) =
    let one = step_sends m e.input in
    let rest = onward (step m e.input).machine entries in
    (one.0 ++ rest.0, rest.1 ∙ ap (λ (l : List Message). l ++ rest.0) one.1 ∙ append_assoc m.sent one.0 rest.0)

-- more entries are these first ones, and others behind them
longer : {A : Type 0} (n k : ℕ) (xs : List A) → n ≤ k → (rest : List A) × (take k xs ≡ take n xs ++ rest)
longer zero k xs h = (take k xs, refl)
longer (suc n) zero xs h = absurd (omega (arith, h))
longer (suc n) (suc k) [] h = ([], refl)
longer {A} (suc n) (suc k) (x ∷ xs) h =
    let shorter = longer n k xs (omega (arith, h)) in
    (shorter.0, ap (λ (l : List A). x ∷ l) shorter.1)

pub sent_longer : (m : Machine) (n k : ℕ) (entries : History) → n ≤ k
    → (more : List Message) × ((after m (take k entries)).sent ≡ (after m (take n entries)).sent ++ more)
sent_longer m n k entries h =
    let rest = longer n k entries h in
    let behind = onward (after m (take n entries)) rest.0 in (
      behind.0,
      ap (λ (l : History). (after m l).sent) rest.1
          ∙ ap (λ (n : Machine). n.sent) (after_both m (take n entries) rest.0) ∙ behind.1,
    )

pub sent_whole : (m : Machine) (n : ℕ) (entries : History)
    → (more : List Message) × ((after m entries).sent ≡ (after m (take n entries)).sent ++ more)
sent_whole m n entries =
    let behind = onward (after m (take n entries)) (drop n entries) in (
      behind.0,
      ap (λ (l : History). (after m l).sent) (sym (take-append-drop n entries))
          ∙ ap (λ (n : Machine). n.sent) (after_both m (take n entries) (drop n entries)) ∙ behind.1,
    )

-- the first messages of lists that have a front in common
pub same_front : (front more others all list : List Message) (n : ℕ) → n ≡ length front → all ≡ front ++ more
    → list ≡ front ++ others → (n ≤ length all) × (take n all ≡ take n list)
same_front front more others all list n size is list_is = (
  omega (arith, size, ap length is, length-append front more),
  ap (take n) is ∙ take_at front more n (sym size) ∙ sym (ap (take n) list_is ∙ take_at front others n (sym size)),
)
