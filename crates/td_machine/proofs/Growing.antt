-- A consistent family with one more entry, of an input that may come to its site then, is consistent.
use Rattle.std.proofs.Common.{◌≡◌, ◌≢◌, ◌⊎◌, ◌<◌, ◌≤◌, ◌-◌, ◌++◌, ℕ, zero, suc, List, [], ◌∷◌, Bool, true}
use Rattle.std.proofs.Common.{false, nat_eq, length, replicate, Option, Some, None, refl, sym, ap, ◌∙◌}
use Rattle.std.proofs.Common.{subst, inl, inr, ⊎_elim, append-nil, append_assoc, arith}
use Rattle.std.proofs.lemmas.Bool.{eqb-true, eqb-false}
use Rattle.std.proofs.lemmas.List.{length-replicate}
use Rattle.td_base.specs.Value.{DotValue}
use Rattle.td_base.specs.declared.site.TheConstants.{MAX_SITE}
use Rattle.td_base.specs.Lists.{In}
use Rattle.td_base.proofs.Lists.{In-front}
use Rattle.td_path.specs.declared.slot.Slot.{Slot}
use Rattle.td_op.specs.declared.body.Body.{Body}
use Rattle.td_op.specs.declared.body.Body.TheVariants.{Insert, Delete, Propose, Commit, Abort}
use Rattle.td_op.specs.declared.entry.Entry.{Entry}
use Rattle.td_op.specs.declared.input.Input.{Input}
use Rattle.td_op.specs.declared.input.Input.TheVariants.{Take}
use Rattle.td_op.specs.declared.message.Message.{Message}
use Rattle.td_op.specs.declared.message.Message.TheVariants.{Op as AnOp, Vote as AVote}
use Rattle.td_op.specs.Op.{OpValue}
use Rattle.td_op.specs.Input.{IsInput}
use Rattle.td_machine.specs.Log.{proposed}
use Rattle.td_machine.specs.Decision.{counted, outcome, revise, new_ballot}
use Rattle.td_machine.specs.Machine.{Machine, start, next_dot, next_op}
use Rattle.td_machine.specs.Making.{done, make, decide}
use Rattle.td_machine.specs.Taking.{Stepped, answer, vote_on, take_as}
use Rattle.td_machine.specs.Request.{perform}
use Rattle.td_machine.specs.Step.{step}
use Rattle.td_machine.specs.History.{History, Family, after, history, history_at, machine, machine_after}
use Rattle.td_machine.specs.History.{with_entry, with_entry_at, IsLegal, IsConsistent, MayCome}
use Rattle.td_op.specs.Message.{sender}
use Rattle.td_base.proofs.Elements.{same_head, same_tail}
use Rattle.td_machine.proofs.StepKinds.{by_kinds}
use Rattle.td_machine.specs.Parts.{proposed_here}
use Rattle.td_machine.proofs.Induction.{after_both, legal_both}

-- ---- a step only adds to what was sent

abbrev Sends : List Message → Machine → Type 0
Sends sent n = (more : List Message) × (n.sent ≡ sent ++ more)

onward : (sent : List Message) (m n : Machine) → Sends sent m → Sends m.sent n → Sends sent n
onward sent m n h k = (h.0 ++ k.0, k.1 ∙ (ap (λ (l : List Message). l ++ k.0) h.1 ∙ append_assoc sent h.0 k.0))

nothing : (m : Machine) → Sends m.sent m
nothing m = ([], sym (append-nil m.sent))

made_sends : (body : Body) (m : Machine) → Sends m.sent (make body m)
made_sends body m = (AnOp (next_op m body) ∷ [], refl)

decide_sends : (p : DotValue) (o : Option Bool) (m : Machine) → Sends m.sent (decide p o m)
decide_sends p None m = nothing m
decide_sends p (Some true) m = made_sends (Commit p) m
decide_sends p (Some false) m = made_sends (Abort p) m

perform_sends : (body : Body) (m : Machine) → Sends m.sent (perform body m)
perform_sends (Insert slot run) m = made_sends (Insert slot run) m
perform_sends (Delete target) m = made_sends (Delete target) m
perform_sends (Commit p) m = made_sends (Commit p) m
perform_sends (Abort p) m = made_sends (Abort p) m
perform_sends (Propose slot) m =
    onward m.sent (proposed_here slot m) (perform (Propose slot) m) (made_sends (Propose slot) m)
    (decide_sends (next_dot m) (outcome m.size true (new_ballot (next_dot m))) (proposed_here slot m))

take_sends : (o : Option Slot) (x : OpValue) (m : Machine) → Sends m.sent (take_as o x m)
take_sends None x m = nothing m
take_sends (Some slot) x m = at (vote_on x slot m)
  where
    at : (says : Bool) → Sends m.sent (answer x.dot slot says (done x m))
    at true = (AVote _ ∷ [], refl)
    at false = (AVote _ ∷ [], refl)

pub step_sends : (m : Machine) (input : Input) → Sends m.sent (step m input).machine
step_sends m input =
    by_kinds m (λ (s : Stepped). Sends m.sent s.machine) input
    (record {
      stays = λ reply. nothing m;
      makes = λ request a e is free room. perform_sends a.body m;
      cancels = λ request p e is. decide_sends p (Some false) m;
      delays = λ x e foreign late. nothing m;
      takes = λ x e foreign ready fit. take_sends (proposed x.body) x m;
      counts = λ v b e found new within own.
          decide_sends v.proposal (outcome m.size v.yes (counted v.voter v.yes b))
          (record m { ballots = revise v.proposal (counted v.voter v.yes) m.ballots });
      drops = λ x why i ready. nothing m;
      resumes = λ x i ready fit. take_sends (proposed x.body) x (record m { waiting = _ });
    })

-- ---- the histories of the longer family

length_more : (k : ℕ) (e : Entry) (family : Family) → length (with_entry_at k e family) ≡ length family
length_more k e [] = refl
length_more zero e (h ∷ family) = refl
length_more (suc k) e (h ∷ family) = ap suc (length_more k e family)

history_here : (k : ℕ) (e : Entry) (family : Family) → k < length family
    → history_at (with_entry_at k e family) k ≡ history_at family k ++ e ∷ []
history_here k e [] few = absurd (omega (arith, few))
history_here zero e (h ∷ family) few = refl
history_here (suc k) e (h ∷ family) few = history_here k e family (omega (arith, few))

history_there : (k j : ℕ) (e : Entry) (family : Family) → k ≢ j
    → history_at (with_entry_at k e family) j ≡ history_at family j
history_there k j e [] other = refl
history_there zero zero e (h ∷ family) other = absurd (other refl)
history_there zero (suc j) e (h ∷ family) other = refl
history_there (suc k) zero e (h ∷ family) other = refl
history_there (suc k) (suc j) e (h ∷ family) other = history_there k j e family (λ f. other (ap suc f))

-- where an entry of the longer history stands
last_or_before : (h front : History) (e f : Entry) (back : History) → h ++ e ∷ [] ≡ front ++ f ∷ back
    → ((rest : History) × (h ≡ front ++ f ∷ rest)) ⊎ ((h ≡ front) × (e ≡ f))
last_or_before [] [] e f back is = inr (refl, same_head e [] f back is)
last_or_before [] (g ∷ front) e f back is = absurd (nobody front (same_tail e [] g (front ++ f ∷ back) is))
  where
    nobody : (front : History) → [] ≡ front ++ f ∷ back → ⊥
    nobody [] k = cc
    nobody (x ∷ front) k = cc
last_or_before (g ∷ h) [] e f back is = inl (h, λ i. same_head g (h ++ e ∷ []) f back is i ∷ h)
last_or_before (g ∷ h) (d ∷ front) e f back is =
    let head : g ≡ d = same_head g (h ++ e ∷ []) d (front ++ f ∷ back) is in
    ⊎_elim
    (λ (k : (rest : History) × (h ≡ front ++ f ∷ rest)). inl (k.0, λ i. head i ∷ k.1 i))
    (λ (k : (h ≡ front) × (e ≡ f)). inr ((λ i. head i ∷ k.0 i), k.1))
    (last_or_before h front e f back (same_tail g (h ++ e ∷ []) d (front ++ f ∷ back) is))

-- ---- the longer family

module _ (family : Family) (c : IsConsistent family) (site : ℕ) (some : 0 < site) (within : site ≤ length family)
    (input : Input) (valid : IsInput input)
    (may : (message : Message) → input ≡ Take message → MayCome family site (machine family site) message) where
  abbrev entry : Entry
  entry = record { input = input; reply = (step (machine family site) input).reply }

  abbrev longer : Family
  longer = with_entry family site entry

  size : length longer ≡ length family
  size = length_more (site - 1) entry family

  same_then : (s : ℕ) (front : History) → machine_after longer s front ≡ machine_after family s front
  same_then s front = ap (λ (n : ℕ). after (start s n) front) size

  still_sent : (s : ℕ) (message : Message) → In message (machine family s).sent → In message (machine longer s).sent
  still_sent s message i = at (nat_eq (site - 1) (s - 1)) refl
    where
      at : (b : Bool) → nat_eq (site - 1) (s - 1) ≡ b → In message (machine longer s).sent
      at true e =
          let here : history longer s ≡ history family s ++ entry ∷ [] =
          subst (λ (k : ℕ). history_at longer k ≡ history_at family k ++ entry ∷ []) (eqb-true (site - 1) (s - 1) e)
          (history_here (site - 1) entry family (omega (arith, some, within))) in
          let now : machine longer s ≡ (step (machine family s) input).machine =
          same_then s (history longer s)
          ∙ (ap (λ (h : History). machine_after family s h) here
          ∙ after_both (start s (length family)) (history family s) (entry ∷ [])) in
          let more = step_sends (machine family s) input in
          subst (λ (n : Machine). In message n.sent) (sym now)
          (subst (λ (l : List Message). In message l) (sym more.1) (In-front message (machine family s).sent more.0 i))
      at false e =
          let there : history longer s ≡ history family s =
          history_there (site - 1) (s - 1) entry family (eqb-false (site - 1) (s - 1) e) in
          subst (λ (n : Machine). In message n.sent)
          (sym (same_then s (history longer s) ∙ ap (λ (h : History). machine_after family s h) there)) i

  still_may : (s : ℕ) (front : History) (message : Message) → MayCome family s (machine_after family s front) message
      → MayCome longer s (machine_after longer s front) message
  still_may s front message m =
      subst (λ (n : Machine). MayCome longer s n message) (sym (same_then s front))
      (record {
        another = m.another;
        sent = still_sent (sender message) message m.sent;
        addressed = m.addressed;
        own_made = m.own_made;
      })

  -- each site's history is as it was, or longer by the entry
  cases : (s : ℕ) → 0 < s
      → (history longer s ≡ history family s) ⊎ ((s ≡ site) × (history longer s ≡ history family s ++ entry ∷ []))
  cases s up = at (nat_eq (site - 1) (s - 1)) refl
    where
      at : (b : Bool) → nat_eq (site - 1) (s - 1) ≡ b
          → (history longer s ≡ history family s) ⊎ ((s ≡ site) × (history longer s ≡ history family s ++ entry ∷ []))
      at true e =
          let same : site - 1 ≡ s - 1 = eqb-true (site - 1) (s - 1) e in
          inr (
            omega (arith, same, some, up),
            subst (λ (k : ℕ). history_at longer k ≡ history_at family k ++ entry ∷ []) same
                (history_here (site - 1) entry family (omega (arith, some, within))),
          )
      at false e = inl (history_there (site - 1) (s - 1) entry family (eqb-false (site - 1) (s - 1) e))

  legal_more : (s : ℕ) → 0 < s → s ≤ length longer → IsLegal s (length longer) (history longer s)
  legal_more s up low =
      subst (λ (n : ℕ). IsLegal s n (history longer s)) (sym size)
      (⊎_elim
      (λ (k : history longer s ≡ history family s). subst (λ (h : History). IsLegal s (length family) h) (sym k) old)
      (λ (k : (s ≡ site) × (history longer s ≡ history family s ++ entry ∷ [])).
      subst (λ (h : History). IsLegal s (length family) h) (sym k.1)
      (legal_both (start s (length family)) (history family s) (entry ∷ []) old
      (valid, ap (λ (t : ℕ). (step (machine family t) input).reply) k.0, tt)))
      (cases s up))
    where
      old : IsLegal s (length family) (history family s)
      old = c.legal.legal s up (omega (arith, low, size))

  takes_more : (s : ℕ) (front : History) (f : Entry) (back : History) (message : Message) → 0 < s → s ≤ length longer
      → history longer s ≡ front ++ f ∷ back → f.input ≡ Take message
      → MayCome longer s (machine_after longer s front) message
  takes_more s front f back message up low is take =
      still_may s front message
      (⊎_elim
      (λ (k : history longer s ≡ history family s). c.takes s front f back message up few (sym k ∙ is) take)
      (λ (k : (s ≡ site) × (history longer s ≡ history family s ++ entry ∷ [])).
      ⊎_elim
      (λ (q : (rest : History) × (history family s ≡ front ++ f ∷ rest)). c.takes s front f q.0 message up few q.1 take)
      (λ (q : (history family s ≡ front) × (entry ≡ f)).
      subst (λ (h : History). MayCome family s (machine_after family s h) message) q.0
      (subst (λ (t : ℕ). MayCome family t (machine family t) message) (sym k.0)
      (may message (ap (λ (g : Entry). g.input) q.1 ∙ take))))
      (last_or_before (history family s) front entry f back (sym k.1 ∙ is)))
      (cases s up))
    where
      few : s ≤ length family
      few = omega (arith, low, size)

  pub consistent_more : IsConsistent longer
  consistent_more =
      record {
        legal = record {
          some = subst (λ (n : ℕ). 0 < n) (sym size) c.legal.some;
          few = subst (λ (n : ℕ). n ≤ MAX_SITE) (sym size) c.legal.few;
          legal = legal_more;
        };
        takes = takes_more;
      }

-- ---- the beginning

no_history : (n k : ℕ) → history_at (replicate n []) k ≡ []
no_history zero k = refl
no_history (suc n) zero = refl
no_history (suc n) (suc k) = no_history n k

pub consistent_start : (n : ℕ) → 0 < n → n ≤ MAX_SITE → IsConsistent (replicate n [])
consistent_start n some few =
    let size : length {A = History} (replicate n []) ≡ n = length-replicate n [] in
    record {
      legal = record {
        some = subst (λ (k : ℕ). 0 < k) (sym size) some;
        few = subst (λ (k : ℕ). k ≤ MAX_SITE) (sym size) few;
        legal = λ site up low.
            subst (λ (h : History). IsLegal site (length {A = History} (replicate n [])) h)
            (sym (no_history n (site - 1))) tt;
      };
      takes = λ site front e back message up low is take.
          absurd (nobody front e back (sym (no_history n (site - 1)) ∙ is));
    }
  where
    nobody : (front : History) (e : Entry) (back : History) → [] ≡ front ++ e ∷ back → ⊥
    nobody [] e back k = cc
    nobody (x ∷ front) e back k = cc
