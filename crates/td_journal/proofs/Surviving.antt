-- What a crash leaves of a replica has its released messages, and its family stays consistent.
use Rattle.std.proofs.Common.{◌≡◌, ◌≢◌, ◌<◌, ◌≤◌, ◌+◌, ◌-◌, ◌++◌, ℕ, zero, suc, List, [], ◌∷◌, Bool, true, false}
use Rattle.std.proofs.Common.{nat_eq, length, take, drop, refl, sym, ap, ◌∙◌, subst, ⊎_elim, arith}
use Rattle.std.proofs.Common.{append_assoc, take-append-drop}
use Rattle.std.proofs.lemmas.Bool.{eqb-true, eqb-false}
use Rattle.std.proofs.lemmas.List.{take_all}
use Rattle.std.specs.List.{AllByRecursion}
use Rattle.td_base.specs.declared.site.TheConstants.{MAX_SITE}
use Rattle.td_base.specs.Lists.{In}
use Rattle.td_base.proofs.Lists.{In-front}
use Rattle.td_op.specs.declared.entry.Entry.{Entry}
use Rattle.td_op.specs.declared.input.Input.{Input}
use Rattle.td_op.specs.declared.input.Input.TheVariants.{Take}
use Rattle.td_op.specs.declared.message.Message.{Message}
use Rattle.td_op.specs.declared.message.Message.TheVariants.{Op, Vote}
use Rattle.td_op.specs.Input.{IsInput}
use Rattle.td_op.specs.Message.{sender, IsMessage}
use Rattle.td_machine.specs.Machine.{Machine, start}
use Rattle.td_machine.specs.History.{History, Family, after, history, history_at, machine, machine_after}
use Rattle.td_machine.specs.History.{IsLegal, IsLegalFrom, IsConsistent, MayCome}
use Rattle.td_replica.specs.Replica.{ReplicaValue, IsReplica}
use Rattle.td_input.specs.Spelling.{CanWrite}
use Rattle.td_journal.specs.declared.format.Format.{Format}
use Rattle.td_journal.specs.Journal.{inputs_of, IsJournal, IsJournalOfEither}
use Rattle.td_journal.specs.Kept.{acknowledged_of, IsCounted}
use Rattle.td_journal.specs.Reopened.{IsReopened, AreReleased, with_history, with_history_at}
use Rattle.td_journal.proofs.Unique.{one_journal}
use Rattle.td_journal.proofs.Histories.{same_history, legal_first, legal_behind}
use Rattle.td_journal.proofs.Histories.{sent_longer, sent_whole, same_front}

-- what is read of what a crash leaves
pub reopened : (f g : Format) (count : ℕ) (old new : ReplicaValue) (file : List ℕ)
    → AllByRecursion CanWrite (inputs_of old.entries) → AllByRecursion CanWrite (inputs_of new.entries)
    → new.machine.site ≡ old.machine.site → new.machine.size ≡ old.machine.size
    → IsJournalOfEither f old.machine.site old.machine.size (acknowledged_of count old) (inputs_of old.entries) file
    → IsJournal g new.machine.site new.machine.size (inputs_of new.entries) file → IsReopened count old new
reopened f g count old new file p q site size either j =
    let here : IsJournal g old.machine.site old.machine.size (inputs_of new.entries) file =
    subst (λ (n : ℕ). IsJournal g old.machine.site n (inputs_of new.entries) file) size
    (subst (λ (s : ℕ). IsJournal g s new.machine.size (inputs_of new.entries) file) site j) in
    let all : ℕ = count + length old.entries in
    ⊎_elim
    (λ (k : IsJournal f old.machine.site old.machine.size (acknowledged_of count old) file).
    record {
      site = site;
      size = size;
      kept = count;
      enough = omega arith;
      inputs = (one_journal g f old.machine.site old.machine.size (inputs_of new.entries) (acknowledged_of count old)
          file q (first_can count old.entries p) here k).1;
    })
    (λ (k : IsJournal f old.machine.site old.machine.size (inputs_of old.entries) file).
    record {
      site = site;
      size = size;
      kept = all;
      enough = omega arith;
      inputs = (one_journal g f old.machine.site old.machine.size (inputs_of new.entries) (inputs_of old.entries)
          file q p here k).1 ∙ ap inputs_of (sym (take_all all old.entries (omega arith)));
    })
    either
  where
    first_can : (n : ℕ) (es : List Entry) → AllByRecursion CanWrite (inputs_of es)
        → AllByRecursion CanWrite (inputs_of (take n es))
    first_can zero es h = tt
    first_can (suc n) [] h = tt
    first_can (suc n) (e ∷ es) h = (h.0, first_can n es h.1)

-- ---- one replica

module _ (count : ℕ) (old new : ReplicaValue) (h : IsReplica old) (k : IsReplica new)
    (o : IsReopened count old new) where
  begin : Machine
  begin = start old.machine.site old.machine.size

  same_begin : start new.machine.site new.machine.size ≡ begin
  unfolding begin
  same_begin = λ i. start (o.site i) (o.size i)

  legal : IsLegalFrom begin new.entries
  legal = subst (λ (m : Machine). IsLegalFrom m new.entries) same_begin k.legal

  -- it has the first entries
  pub restored : new.entries ≡ take o.kept old.entries
  unfolding begin
  restored =
      same_history begin new.entries (take o.kept old.entries) legal (legal_first begin o.kept old.entries h.legal)
      o.inputs

  machine_is : new.machine ≡ after begin (take o.kept old.entries)
  machine_is =
      k.is ∙ ap (λ (m : Machine). after m new.entries) same_begin ∙ ap (λ (l : History). after begin l) restored

  pub survive : (released : ℕ) → IsCounted old count released
      → (released ≤ length new.machine.sent) × (take released new.machine.sent ≡ take released old.machine.sent)
  unfolding begin
  survive released c =
      let more = sent_longer begin count o.kept old.entries o.enough in
      let others = sent_whole begin count old.entries in
      same_front (after begin (take count old.entries)).sent more.0 others.0 new.machine.sent old.machine.sent released
      c.released_is (ap (λ (m : Machine). m.sent) machine_is ∙ more.1) (ap (λ (m : Machine). m.sent) h.is ∙ others.1)

-- ---- its family

length_with : (k : ℕ) (new : History) (family : Family) → length (with_history_at k new family) ≡ length family
length_with k new [] = refl
length_with zero new (h ∷ family) = refl
length_with (suc k) new (h ∷ family) = ap suc (length_with k new family)

history_here : (k : ℕ) (new : History) (family : Family) → k < length family
    → history_at (with_history_at k new family) k ≡ new
history_here k new [] few = absurd (omega (arith, few))
history_here zero new (h ∷ family) few = refl
history_here (suc k) new (h ∷ family) few = history_here k new family (omega (arith, few))

history_there : (k j : ℕ) (new : History) (family : Family) → k ≢ j
    → history_at (with_history_at k new family) j ≡ history_at family j
history_there k j new [] other = refl
history_there zero zero new (h ∷ family) other = absurd (other refl)
history_there zero (suc j) new (h ∷ family) other = refl
history_there (suc k) zero new (h ∷ family) other = refl
history_there (suc k) (suc j) new (h ∷ family) other = history_there k j new family (λ f. other (ap suc f))

-- a message has a sender
some_sender : (message : Message) → IsMessage message → 0 < sender message
some_sender (Op x) valid = omega (arith, valid.dot.site.least)
some_sender (Vote v) valid = omega (arith, valid.voter.least)

in_take : (n : ℕ) (message : Message) (sent : List Message) → In message (take n sent) → In message sent
in_take n message sent i =
    subst (λ (l : List Message). In message l) (take-append-drop n sent)
    (In-front message (take n sent) (drop n sent) i)

-- a site of a consistent family goes back to a front of its history, in which it has sent what others took
module _ (family : Family) (c : IsConsistent family) (site : ℕ) (some : 0 < site) (within : site ≤ length family)
    (new back : History) (is : history family site ≡ new ++ back) (legal_new : IsLegal site (length family) new)
    (still : (other : ℕ) (front : History) (e : Entry) (rest : History) (message : Message) → 0 < other
    → other ≤ length family → history family other ≡ front ++ e ∷ rest → e.input ≡ Take message
    → sender message ≡ site → In message (machine_after family site new).sent) where
  abbrev other_family : Family
  other_family = with_history family site new

  size : length other_family ≡ length family
  size = length_with (site - 1) new family

  same_then : (s : ℕ) (front : History) → machine_after other_family s front ≡ machine_after family s front
  same_then s front = ap (λ (n : ℕ). after (start s n) front) size

  here : history other_family site ≡ new
  here = history_here (site - 1) new family (omega (arith, some, within))

  there : (s : ℕ) → 0 < s → s ≢ site → history other_family s ≡ history family s
  there s up other = history_there (site - 1) (s - 1) new family (λ e. other (omega (arith, e, up, some)))

  -- what stands where in the history of a site stood there before
  stood : (s : ℕ) → 0 < s → (front : History) (e : Entry) (rest : History) → history other_family s ≡ front ++ e ∷ rest
      → (all : History) × (history family s ≡ front ++ e ∷ all)
  stood s up front e rest at = by_site (nat_eq s site) refl
    where
      by_site : (b : Bool) → nat_eq s site ≡ b → (all : History) × (history family s ≡ front ++ e ∷ all)
      by_site true q =
          let same : s ≡ site = eqb-true s site q in
          let new_is : new ≡ front ++ e ∷ rest =
          sym here ∙ ap (λ (t : ℕ). history other_family t) (sym same) ∙ at in (
            rest ++ back,
            ap (λ (t : ℕ). history family t) same ∙ is ∙ ap (λ (l : History). l ++ back) new_is
                ∙ append_assoc front (e ∷ rest) back,
          )
      by_site false q = (rest, sym (there s up (eqb-false s site q)) ∙ at)

  -- a message that a site takes was sent, and is so still
  still_sent : (s : ℕ) (front : History) (e : Entry) (rest : History) (message : Message) → 0 < s → s ≤ length family
      → history family s ≡ front ++ e ∷ rest → e.input ≡ Take message → 0 < sender message
      → In message (machine family (sender message)).sent → In message (machine other_family (sender message)).sent
  still_sent s front e rest message up low at take_it from sent = by_sender (nat_eq (sender message) site) refl
    where
      by_sender : (b : Bool) → nat_eq (sender message) site ≡ b
          → In message (machine other_family (sender message)).sent
      by_sender true q =
          let same : sender message ≡ site = eqb-true (sender message) site q in
          let now : machine other_family (sender message) ≡ machine_after family site new =
          ap (λ (t : ℕ). machine other_family t) same ∙ same_then site (history other_family site)
          ∙ ap (λ (l : History). machine_after family site l) here in
          subst (λ (m : Machine). In message m.sent) (sym now) (still s front e rest message up low at take_it same)
      by_sender false q =
          let now : machine other_family (sender message) ≡ machine family (sender message) =
          same_then (sender message) (history other_family (sender message))
          ∙ ap (λ (l : History). machine_after family (sender message) l)
          (there (sender message) from (eqb-false (sender message) site q)) in
          subst (λ (m : Machine). In message m.sent) (sym now) sent

  legal_other : (s : ℕ) → 0 < s → s ≤ length other_family → IsLegal s (length other_family) (history other_family s)
  legal_other s up low =
      subst (λ (n : ℕ). IsLegal s n (history other_family s)) (sym size) (by_site (nat_eq s site) refl)
    where
      by_site : (b : Bool) → nat_eq s site ≡ b → IsLegal s (length family) (history other_family s)
      by_site true q =
          let same : s ≡ site = eqb-true s site q in
          subst (λ (t : ℕ). IsLegal t (length family) (history other_family t)) (sym same)
          (subst (λ (l : History). IsLegal site (length family) l) (sym here) legal_new)
      by_site false q =
          subst (λ (l : History). IsLegal s (length family) l) (sym (there s up (eqb-false s site q)))
          (c.legal.legal s up (omega (arith, low, size)))

  takes_other : (s : ℕ) (front : History) (e : Entry) (rest : History) (message : Message) → 0 < s
      → s ≤ length other_family → history other_family s ≡ front ++ e ∷ rest → e.input ≡ Take message
      → MayCome other_family s (machine_after other_family s front) message
  takes_other s front e rest message up low at take_it =
      let few : s ≤ length family = omega (arith, low, size) in
      let was = stood s up front e rest at in
      let may = c.takes s front e was.0 message up few was.1 take_it in
      let legal = subst (λ (l : History). IsLegal s (length family) l) was.1 (c.legal.legal s up few) in
      let valid : IsInput e.input = (legal_behind (start s (length family)) front (e ∷ was.0) legal).0 in
      let from : 0 < sender message = some_sender message (subst (λ (i : Input). IsInput i) take_it valid) in
      subst (λ (m : Machine). MayCome other_family s m message) (sym (same_then s front))
      (record {
        another = may.another;
        sent = still_sent s front e was.0 message up few was.1 take_it from may.sent;
        addressed = may.addressed;
        own_made = may.own_made;
      })

  pub consistent_back : IsConsistent other_family
  consistent_back =
      record {
        legal = record {
          some = subst (λ (n : ℕ). 0 < n) (sym size) c.legal.some;
          few = subst (λ (n : ℕ). n ≤ MAX_SITE) (sym size) c.legal.few;
          legal = legal_other;
        };
        takes = takes_other;
      }

-- ---- the family of a replica that comes back

pub families_survive : (family : Family) (count released : ℕ) (old new : ReplicaValue) → IsConsistent family
    → IsReplica old → IsReplica new → IsReopened count old new → IsCounted old count released
    → old.machine.size ≡ length family → history family old.machine.site ≡ old.entries
    → AreReleased family old.machine.site released → IsConsistent (with_history family old.machine.site new.entries)
families_survive family count released old new c h k o counted size own are =
    let site : ℕ = old.machine.site in
    let same : new.entries ≡ take o.kept old.entries = restored count old new h k o in
    let split : history family site ≡ new.entries ++ drop o.kept old.entries =
    own ∙ sym (take-append-drop o.kept old.entries) ∙ ap (λ (l : History). l ++ drop o.kept old.entries) (sym same) in
    let legal_new : IsLegal site (length family) new.entries =
    subst (λ (n : ℕ). IsLegal site n new.entries) size
    (subst (λ (n : ℕ). IsLegal site n new.entries) o.size
    (subst (λ (s : ℕ). IsLegal s new.machine.size new.entries) o.site k.legal)) in
    let now : new.machine ≡ machine_after family site new.entries =
    k.is ∙ (λ i. after (start (o.site i) (o.size i)) new.entries)
    ∙ ap (λ (n : ℕ). machine_after_of site n new.entries) size in
    let was : machine family site ≡ old.machine =
    ap (λ (n : ℕ). machine_after_of site n (history family site)) (sym size)
    ∙ ap (λ (l : History). machine_after_of site old.machine.size l) own ∙ sym h.is in
    let kept = survive count old new h k o released counted in
    consistent_back family c site (omega (arith, h.some)) (omega (arith, h.within, size)) new.entries
    (drop o.kept old.entries) split legal_new
    (λ other front e rest message up low at take_it from.
    subst (λ (m : Machine). In message m.sent) now
    (in_take released message new.machine.sent
    (subst (λ (l : List Message). In message l)
    (ap (λ (m : Machine). take released m.sent) was ∙ sym kept.1)
    (are other front e rest message up low at take_it from))))
  where
    machine_after_of : ℕ → ℕ → History → Machine
    machine_after_of s n l = after (start s n) l
