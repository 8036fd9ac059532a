-- What a machine sent is its own: its operations, and its votes.
use Rattle.std.proofs.Common.{◌≡◌, ◌++◌, ℕ, List, [], ◌∷◌, true, false, refl, ap, ◌∙◌, ⊎_elim}
use Rattle.td_base.specs.Lists.{In}
use Rattle.td_base.proofs.Lists.{In-append}
use Rattle.td_op.specs.declared.message.Message.{Message}
use Rattle.td_op.specs.declared.message.Message.TheVariants.{Op, Vote}
use Rattle.td_op.specs.declared.body.Body.TheVariants.{Propose}
use Rattle.td_machine.specs.Machine.{Machine, next_op}
use Rattle.td_op.specs.Message.{sender}
use Rattle.td_machine.specs.Parts.{IsBuilt, Part, Makes, Proposes, Counts, Takes, Agrees, Declines, Delays, Forgets}
use Rattle.td_machine.specs.Parts.{vote_here}
use Rattle.td_machine.proofs.Parts.{by_parts}

abbrev pub SendsOwn : Machine → Type 0
SendsOwn m = (message : Message) → In message m.sent → sender message ≡ m.site

one_more : (site : ℕ) (sent : List Message) (own : Message) → sender own ≡ site
    → ((message : Message) → In message sent → sender message ≡ site)
    → (message : Message) → In message (sent ++ own ∷ []) → sender message ≡ site
one_more site sent own e h message i =
    ⊎_elim (λ (j : In message sent). h message j)
    (λ (j : In message (own ∷ [])).
    ⊎_elim (λ (k : message ≡ own). ap sender k ∙ e) (λ (k : In message []). absurd k) j)
    (In-append message sent (own ∷ []) i)

module _ {Came : Message → Type 0} {site size : ℕ} where
  keeps : (m n : Machine) → IsBuilt Came site size m → Part Came m n → SendsOwn m → SendsOwn n
  keeps m n b (Makes body e may) s = one_more m.site m.sent (Op (next_op m body)) refl s
  keeps m n b (Proposes slot may) s = one_more m.site m.sent (Op (next_op m (Propose slot))) refl s
  keeps m n b (Counts v k) s = s
  keeps m n b (Takes x e fit) s = s
  keeps m n b (Agrees x slot e fit says) s = one_more m.site m.sent (Vote (vote_here x true m)) refl s
  keeps m n b (Declines x slot e fit says) s = one_more m.site m.sent (Vote (vote_here x false m)) refl s
  keeps m n b (Delays x o new late) s = s
  keeps m n b (Forgets x i ready) s = s

  pub sends_own : (m : Machine) → IsBuilt Came site size m → SendsOwn m
  sends_own = by_parts SendsOwn (λ some within message i. absurd i) keeps
