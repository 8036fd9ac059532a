-- Which messages stand in what was taken and in what was sent.
use Rattle.std.proofs.Common.{◌≡◌, ◌++◌, ℕ, zero, suc, List, [], ◌∷◌, Bool, true, false, cond, nat_eq, take}
use Rattle.std.proofs.Common.{replicate, slice_get, refl, sym, subst, inl, inr, ⊎_elim, arith}
use Rattle.std.specs.Option.{option_to_list}
use Rattle.std.proofs.lemmas.Bool.Decides.{nat_tests}
use Rattle.td_base.specs.Lists.{In}
use Rattle.td_base.proofs.Lists.{In-append, In-front, In-back, In-filter}
use Rattle.td_base.proofs.Searches.{In-take}
use Rattle.td_op.specs.declared.entry.Entry.{Entry}
use Rattle.td_op.specs.declared.input.Input.{Input}
use Rattle.td_op.specs.declared.input.Input.TheVariants.{Take}
use Rattle.td_op.specs.declared.message.Message.{Message}
use Rattle.td_op.specs.declared.message.Message.TheVariants.{Op, Vote}
use Rattle.td_machine.specs.Machine.{Machine}
use Rattle.td_machine.specs.Step.{step}
use Rattle.td_machine.specs.History.{History, after, IsAddressed}
use Rattle.td_op.specs.Message.{sender}
use Rattle.td_law_meeting.specs.Thin.{is_addressed, messages_to, Loss, copies, thin}
use Rattle.td_law_meeting.specs.Takes.{taken_in, takes_from, IsWelcome, TakesWelcome}
use Rattle.td_law_meeting.specs.Peers.{sent_once, sent_to}

-- an own entry is among the takes
own_in : (number : ℕ) (message : Message) → sender message ≡ number → In message (taken_in number (Take message))
own_in number message e = at (nat_eq (sender message) number) (same (sender message) number e)
  where
    same : (a b : ℕ) → a ≡ b → nat_eq a b ≡ true
    same a b h = grind (arith, nat_tests)

    at : (b : Bool) → b ≡ true → In message (cond b (message ∷ []) [])
    at true h = inl refl
    at false h = absurd (cc h)

pub takes_in : (number : ℕ) (front : History) (e : Entry) (back : History) (message : Message) → e.input ≡ Take message
    → sender message ≡ number → In message (takes_from number (front ++ e ∷ back))
takes_in number [] e back message is from =
    In-front message (taken_in number e.input) (takes_from number back)
    (subst (λ (i : Input). In message (taken_in number i)) (sym is) (own_in number message from))
takes_in number (f ∷ front) e back message is from =
    In-back message (taken_in number f.input) (takes_from number (front ++ e ∷ back))
    (takes_in number front e back message is from)

pub welcome_at : (site size : ℕ) (m : Machine) (front : History) (e : Entry) (back : History) (message : Message)
    → TakesWelcome site size m (front ++ e ∷ back) → e.input ≡ Take message
    → IsWelcome site size (after m front) message
welcome_at site size m [] e back message h is = h.0 message is
welcome_at site size m (f ∷ front) e back message h is =
    welcome_at site size (step m f.input).machine front e back message h.1 is

in_replicate : (n : ℕ) (m n' : Message) → In m (replicate n n') → m ≡ n'
in_replicate zero m n' i = absurd i
in_replicate (suc n) m n' (inl e) = e
in_replicate (suc n) m n' (inr i) = in_replicate n m n' i

in_thin : (loss : Loss) (j : ℕ) (message : Message) (messages : List Message) → In message (thin loss j messages)
    → In message messages
in_thin loss j message [] i = absurd i
in_thin loss j message (x ∷ messages) i =
    ⊎_elim (λ (k : In message (replicate (copies loss j) x)). inl (in_replicate (copies loss j) message x k))
    (λ (k : In message (thin loss (suc j) messages)). inr (in_thin loss (suc j) message messages k))
    (In-append message (replicate (copies loss j) x) (thin loss (suc j) messages) i)

in_got : (k : ℕ) (message : Message) (messages : List Message) → In message (option_to_list (slice_get messages k))
    → In message messages
in_got k message [] i = absurd i
in_got zero message (x ∷ messages) (inl e) = inl e
in_got zero message (x ∷ messages) (inr i) = absurd i
in_got (suc k) message (x ∷ messages) i = inr (in_got k message messages i)

in_once : (again : Bool) (k : ℕ) (message : Message) (messages : List Message) → In message (sent_once again k messages)
    → In message messages
in_once false k message messages i = absurd i
in_once true k message messages i = in_got k message messages i

-- what is sent to a site is one of the replica's messages, for this site
pub told_in : (loss : Loss) (number dealt : ℕ) (again : Bool) (sent : List Message) (message : Message)
    → In message (sent_to loss number dealt again sent) → In message sent × (is_addressed number message ≡ true)
told_in loss number dealt again sent message i =
    ⊎_elim
    (λ (k : In message (thin loss 1 (messages_to number (take dealt sent)))).
    let f = In-filter (is_addressed number) message (take dealt sent)
    (in_thin loss 1 message (messages_to number (take dealt sent)) k) in
    (In-take message dealt sent f.0, f.1))
    (λ (k : In message (messages_to number (sent_once again dealt sent))).
    let f = In-filter (is_addressed number) message (sent_once again dealt sent) k in
    (in_once again dealt message sent f.0, f.1))
    (In-append message (thin loss 1 (messages_to number (take dealt sent)))
    (messages_to number (sent_once again dealt sent)) i)

pub addressed : (site : ℕ) (message : Message) → is_addressed site message ≡ true → IsAddressed site message
addressed site (Op x) h = record {}
addressed site (Vote v) h = same v.proposal.site site h
  where
    same : (a b : ℕ) → nat_eq a b ≡ true → a ≡ b
    same a b k = grind (arith, nat_tests)
