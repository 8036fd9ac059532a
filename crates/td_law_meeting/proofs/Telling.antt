-- What is sent of a list of messages, as it grows and as one more is dealt with.
use Rattle.std.proofs.Common.{◌≡◌, ◌<◌, ◌≤◌, ◌+◌, ◌++◌, ℕ, zero, suc, List, [], ◌∷◌, Bool, true, false}
use Rattle.std.proofs.Common.{cond, length, take, replicate, slice_get, Option, Some, refl, sym, ap, ◌∙◌}
use Rattle.std.proofs.Common.{append_assoc, append-nil, length-append, arith}
use Rattle.std.specs.Option.{option_to_list}
use Rattle.std.proofs.lemmas.Option.{same_Some}
use Rattle.std.proofs.lemmas.List.{take-append-le}
use Rattle.std.proofs.lemmas.List.Elements.{filter-append}
use Rattle.td_op.specs.declared.message.Message.{Message}
use Rattle.td_law_meeting.specs.Thin.{is_addressed, messages_to, Loss, copies, thin}
use Rattle.td_law_meeting.specs.Peers.{sent_once, sent_to}

-- ---- beginnings of a longer list

pub get_more : {X : Type 0} (k : ℕ) (xs more : List X) → k < length xs → slice_get (xs ++ more) k ≡ slice_get xs k
get_more k [] more h = absurd (omega (arith, h))
get_more zero (x ∷ xs) more h = refl
get_more (suc k) (x ∷ xs) more h = get_more k xs more (omega (arith, h))

pub take_next : {X : Type 0} (k : ℕ) (xs : List X) (x : X) → slice_get xs k ≡ Some x
    → take (suc k) xs ≡ take k xs ++ x ∷ []
take_next k [] x e = absurd cc
take_next zero (y ∷ xs) x e = ap (λ w. w ∷ []) (same_Some y x e)
take_next (suc k) (y ∷ xs) x e = ap (λ w. y ∷ w) (take_next k xs x e)

once_more : (again : Bool) (k : ℕ) (xs more : List Message) → (again ≡ true → k < length xs)
    → sent_once again k (xs ++ more) ≡ sent_once again k xs
once_more false k xs more h = refl
once_more true k xs more h = ap option_to_list (get_more k xs more (h refl))

-- what is sent stays right as more is to be sent
pub tell_more : (loss : Loss) (number dealt : ℕ) (again : Bool) (sent more : List Message) → dealt ≤ length sent
    → (again ≡ true → dealt < length sent)
    → sent_to loss number dealt again (sent ++ more) ≡ sent_to loss number dealt again sent
tell_more loss number dealt again sent more h k =
    λ i. thin loss 1 (messages_to number (take-append-le dealt sent more h i))
    ++ messages_to number (once_more again dealt sent more k i)

-- ---- one message dealt with

to_one : (number : ℕ) (message : Message) (b : Bool) → is_addressed number message ≡ b
    → messages_to number (message ∷ []) ≡ cond b (message ∷ []) []
to_one number message b e = ap (λ (c : Bool). cond c (message ∷ []) []) e

thin_append : (loss : Loss) (j : ℕ) (xs : List Message) (message : Message)
    → thin loss j (xs ++ message ∷ []) ≡ thin loss j xs ++ replicate (copies loss (j + length xs)) message
thin_append loss j [] message =
    append-nil (replicate (copies loss j) message) ∙ ap (λ (k : ℕ). replicate (copies loss k) message) (same j)
  where
    same : (k : ℕ) → k ≡ k + 0
    same k = omega arith
thin_append loss j (x ∷ xs) message =
    let e : suc j + length xs ≡ j + suc (length xs) = omega arith in
    ap (λ (w : List Message). replicate (copies loss j) x ++ w)
    (thin_append loss (suc j) xs message
    ∙ ap (λ (k : ℕ). thin loss (suc j) xs ++ replicate (copies loss k) message) e)
    ∙ sym (append_assoc (replicate (copies loss j) x) (thin loss (suc j) xs)
    (replicate (copies loss (j + suc (length xs))) message))

-- so many messages before were for the site
abbrev pub told_count : ℕ → ℕ → List Message → ℕ
told_count number dealt sent = length (messages_to number (take dealt sent))

module _ (loss : Loss) (number dealt : ℕ) (sent : List Message) (message : Message)
    (at : slice_get sent dealt ≡ Some message) where
  before : List Message
  before = messages_to number (take dealt sent)

  dealt_next : (b : Bool) → is_addressed number message ≡ b
      → messages_to number (take (suc dealt) sent) ≡ messages_to number (take dealt sent) ++ cond b (message ∷ []) []
  dealt_next b e =
      ap (messages_to number) (take_next dealt sent message at)
      ∙ filter-append (is_addressed number) (take dealt sent) (message ∷ [])
      ∙ ap (λ (w : List Message). messages_to number (take dealt sent) ++ w) (to_one number message b e)

  -- of a message that is not for the site nothing is sent
  pub tell_other : is_addressed number message ≡ false
      → sent_to loss number (suc dealt) false sent ≡ sent_to loss number dealt false sent
  tell_other e =
      ap (λ (w : List Message). thin loss 1 w ++ [])
      (dealt_next false e ∙ append-nil (messages_to number (take dealt sent)))

  pub count_other : is_addressed number message ≡ false
      → told_count number (suc dealt) sent ≡ told_count number dealt sent
  count_other e = ap length (dealt_next false e ∙ append-nil (messages_to number (take dealt sent)))

  pub count_next : is_addressed number message ≡ true
      → told_count number (suc dealt) sent ≡ told_count number dealt sent + 1
  count_next e = ap length (dealt_next true e) ∙ length-append (messages_to number (take dealt sent)) (message ∷ [])

  -- of one that is, as many as its number says
  tell_next : is_addressed number message ≡ true → sent_to loss number (suc dealt) false sent
      ≡ thin loss 1 (messages_to number (take dealt sent))
      ++ replicate (copies loss (1 + told_count number dealt sent)) message
  tell_next e =
      append-nil (thin loss 1 (messages_to number (take (suc dealt) sent)))
      ∙ ap (thin loss 1) (dealt_next true e)
      ∙ thin_append loss 1 (messages_to number (take dealt sent)) message

  abbrev told : List Message
  told = thin loss 1 (messages_to number (take dealt sent))

  pub tell_none : is_addressed number message ≡ true → copies loss (1 + told_count number dealt sent) ≡ 0
      → sent_to loss number (suc dealt) false sent ≡ sent_to loss number dealt false sent
  tell_none e c = tell_next e ∙ ap (λ (k : ℕ). told ++ replicate k message) c

  pub tell_one : is_addressed number message ≡ true → copies loss (1 + told_count number dealt sent) ≡ 1
      → sent_to loss number (suc dealt) false sent ≡ sent_to loss number dealt false sent ++ message ∷ []
  tell_one e c =
      tell_next e
      ∙ ap (λ (k : ℕ). told ++ replicate k message) c
      ∙ ap (λ (w : List Message). w ++ message ∷ []) (sym (append-nil told))

  once : is_addressed number message ≡ true → messages_to number (sent_once true dealt sent) ≡ message ∷ []
  once e = ap (λ (o : Option Message). messages_to number (option_to_list o)) at ∙ to_one number message true e

  pub tell_first : is_addressed number message ≡ true
      → sent_to loss number dealt true sent ≡ sent_to loss number dealt false sent ++ message ∷ []
  tell_first e =
      ap (λ (w : List Message). told ++ w) (once e)
      ∙ ap (λ (w : List Message). w ++ message ∷ []) (sym (append-nil told))

  pub tell_second : is_addressed number message ≡ true → copies loss (1 + told_count number dealt sent) ≡ 2
      → sent_to loss number (suc dealt) false sent ≡ sent_to loss number dealt true sent ++ message ∷ []
  tell_second e c =
      tell_next e
      ∙ ap (λ (k : ℕ). told ++ replicate k message) c
      ∙ sym (append_assoc told (message ∷ []) (message ∷ []))
      ∙ ap (λ (w : List Message). (told ++ w) ++ message ∷ []) (sym (once e))
