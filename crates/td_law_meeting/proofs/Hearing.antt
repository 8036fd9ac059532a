-- What a history takes, as it grows.
use Rattle.std.proofs.Common.{◌≡◌, ◌≢◌, ◌++◌, ℕ, List, [], ◌∷◌, Bool, true, false, cond, nat_eq}
use Rattle.std.proofs.Common.{refl, sym, ap, ◌∙◌, append_assoc, append-nil, arith}
use Rattle.std.specs.List.{AllZip}
use Rattle.std.proofs.lemmas.Bool.Decides.{nat_tests}
use Rattle.td_op.specs.declared.entry.Entry.{Entry}
use Rattle.td_op.specs.declared.input.Input.{Input}
use Rattle.td_op.specs.declared.input.Input.TheVariants.{Take}
use Rattle.td_op.specs.declared.message.Message.{Message}
use Rattle.td_machine.specs.Machine.{Machine}
use Rattle.td_machine.specs.Step.{step}
use Rattle.td_machine.specs.History.{History, after}
use Rattle.td_op.specs.Message.{sender}
use Rattle.td_law_meeting.specs.Takes.{taken_in, takes_from, IsWelcome, TakesWelcome}

pub takes_append : (number : ℕ) (entries more : History)
    → takes_from number (entries ++ more) ≡ takes_from number entries ++ takes_from number more
takes_append number [] more = refl
takes_append number (e ∷ entries) more =
    ap (λ (w : List Message). taken_in number e.input ++ w) (takes_append number entries more)
    ∙ sym (append_assoc (taken_in number e.input) (takes_from number entries) (takes_from number more))

takes_next : (number : ℕ) (entries : History) (e : Entry) (input : Input) → e.input ≡ input
    → takes_from number (entries ++ e ∷ []) ≡ takes_from number entries ++ taken_in number input
takes_next number entries e input is =
    takes_append number entries (e ∷ [])
    ∙ ap (λ (w : List Message). takes_from number entries ++ w)
    (append-nil (taken_in number e.input) ∙ ap (taken_in number) is)

-- a message of this site is taken
pub takes_own : (number : ℕ) (entries : History) (e : Entry) (message : Message) → e.input ≡ Take message
    → sender message ≡ number → takes_from number (entries ++ e ∷ []) ≡ takes_from number entries ++ message ∷ []
takes_own number entries e message is from =
    takes_next number entries e (Take message) is
    ∙ ap (λ (b : Bool). takes_from number entries ++ cond b (message ∷ []) []) (same (sender message) number from)
  where
    same : (a b : ℕ) → a ≡ b → nat_eq a b ≡ true
    same a b h = grind (arith, nat_tests)

pub takes_other : (number : ℕ) (entries : History) (e : Entry) (message : Message) → e.input ≡ Take message
    → sender message ≢ number → takes_from number (entries ++ e ∷ []) ≡ takes_from number entries
takes_other number entries e message is from =
    takes_next number entries e (Take message) is
    ∙ ap (λ (b : Bool). takes_from number entries ++ cond b (message ∷ []) []) (differs (sender message) number from)
    ∙ append-nil (takes_from number entries)
  where
    differs : (a b : ℕ) → a ≢ b → nat_eq a b ≡ false
    differs a b h = grind (arith, nat_tests)

pub takes_same : (number : ℕ) (entries : History) (e : Entry) → taken_in number e.input ≡ []
    → takes_from number (entries ++ e ∷ []) ≡ takes_from number entries
takes_same number entries e none =
    takes_next number entries e e.input refl
    ∙ ap (λ (w : List Message). takes_from number entries ++ w) none
    ∙ append-nil (takes_from number entries)

pub welcome_more : (site size : ℕ) (m : Machine) (entries : History) (e : Entry) → TakesWelcome site size m entries
    → ((message : Message) → e.input ≡ Take message → IsWelcome site size (after m entries) message)
    → TakesWelcome site size m (entries ++ e ∷ [])
welcome_more site size m [] e h new = (new, record {})
welcome_more site size m (f ∷ entries) e h new =
    (h.0, welcome_more site size (step m f.input).machine entries e h.1 new)

-- ---- lists side by side

pub zip_append : {X Y : Type 0} (R : X → Y → Type 0) (xs us : List X) (ys vs : List Y) → AllZip R xs ys → AllZip R us vs
    → AllZip R (xs ++ us) (ys ++ vs)
zip_append R [] us [] vs h k = k
zip_append R [] us (y ∷ ys) vs h k = absurd h
zip_append R (x ∷ xs) us [] vs h k = absurd h
zip_append R (x ∷ xs) us (y ∷ ys) vs h k = (h.0, zip_append R xs us ys vs h.1 k)
