-- The histories of editors that take packets of each other are a consistent family.
use Rattle.std.proofs.Common.{◌≡◌, ◌<◌, ◌≤◌, ◌+◌, ◌-◌, ◌++◌, ◌↔◌, ℕ, zero, suc, List, [], ◌∷◌, length}
use Rattle.std.proofs.Common.{true, Some, refl, sym, ap, ◌∙◌, subst, inl, inr, append-nil, arith}
use Rattle.std.specs.Prelude.{slice_get}
use Rattle.std.proofs.lemmas.List.{length-map}
use Rattle.std.proofs.lemmas.Option.{same_Some}
use Rattle.td_base.specs.Lists.{In}
use Rattle.td_base.proofs.Lists.{In-back}
use Rattle.td_op.specs.declared.entry.Entry.{Entry}
use Rattle.td_op.specs.declared.input.Input.{Input}
use Rattle.td_op.specs.declared.input.Input.TheVariants.{Take}
use Rattle.td_op.specs.declared.message.Message.{Message}
use Rattle.td_op.specs.Op.{OpValue}
use Rattle.td_doc.specs.Document.{text_of}
use Rattle.td_op.specs.Message.{sender, is_for}
use Rattle.td_machine.specs.History.{Family, History, Moment, history, history_at, machine, machine_after}
use Rattle.td_machine.specs.History.{after, known_of, IsLegal, IsLegalFrom, IsConsistent, MayCome}
use Rattle.td_machine.specs.Machine.{Machine, start, made}
use Rattle.td_machine.specs.Step.{step}
use Rattle.td_machine.specs.Parts.{Anything, IsBuilt, Begins}
use Rattle.td_machine.proofs.Turns.{placed}
use Rattle.td_machine.proofs.Walk.{built_step}
use Rattle.td_law_convergence.specs.Headline.{KeepsPromises}
use Rattle.td_law_convergence.proofs.EveryFamily.{promises, converge}
use Rattle.td_replica.specs.Replica.{ReplicaValue}
use Rattle.td_editor.specs.Due.{IsDue, TakesDue}
use Rattle.td_editor.specs.Together.{taken_by, taken, IsSeated, IsSentBy, AreTogether, family_of}
use Rattle.td_editor.proofs.Due.{for_parts, due_at}

-- ---- lists

found : {X : Type 0} (xs : List X) (k : ℕ) → k < length xs → (x : X) × (slice_get xs k ≡ Some x)
found [] k h = absurd (omega (arith, h))
found (x ∷ xs) zero h = (x, refl)
found (x ∷ xs) (suc k) h = found xs k (omega (arith, h))

place_of : {X : Type 0} (xs : List X) (x : X) → In x xs → (k : ℕ) × (k < length xs) × (slice_get xs k ≡ Some x)
place_of [] x i = absurd i
place_of (y ∷ xs) x (inl e) = (0, omega arith, ap (λ z. Some z) (sym e))
place_of (y ∷ xs) x (inr i) = let p = place_of xs x i in (suc p.0, omega (arith, p.1), p.2)

history_is : (replicas : List ReplicaValue) (k : ℕ) (r : ReplicaValue) → slice_get replicas k ≡ Some r
    → history_at (family_of replicas) k ≡ r.entries
history_is [] k r e = absurd cc
history_is (s ∷ replicas) zero r e = ap (λ (x : ReplicaValue). x.entries) (same_Some s r e)
history_is (s ∷ replicas) (suc k) r e = history_is replicas k r e

same_length : (replicas : List ReplicaValue) → length (family_of replicas) ≡ length replicas
same_length replicas = length-map replicas (λ (r : ReplicaValue). r.entries)

taken_in : (front : History) (e : Entry) (back : History) (message : Message) → e.input ≡ Take message
    → In message (taken (front ++ e ∷ back))
taken_in [] e back message is =
    subst (λ (i : Input). In message (taken_by i ++ taken back)) (sym is) (inl refl)
taken_in (f ∷ front) e back message is =
    In-back message (taken_by f.input) (taken (front ++ e ∷ back)) (taken_in front e back message is)

-- ---- one history

built_front : {site size : ℕ} (m : Machine) (front back : History)
    → IsLegalFrom m (front ++ back) → IsBuilt Anything site size m → IsBuilt Anything site size (after m front)
built_front m [] back l b = b
built_front m (e ∷ front) back l b =
    built_front (step m e.input).machine front back l.2 (built_step m e.input l.0 (λ message j. tt) b)

-- ---- the family

module _ (replicas : List ReplicaValue) (t : AreTogether replicas) where
  abbrev family : Family
  family = family_of replicas

  -- of a place, what its site is
  history_of : (site : ℕ) (r : ReplicaValue) → slice_get replicas (site - 1) ≡ Some r → history family site ≡ r.entries
  history_of site r here = history_is replicas (site - 1) r here

  start_of : (site : ℕ) (r : ReplicaValue) → 0 < site → slice_get replicas (site - 1) ≡ Some r
      → start r.machine.site r.machine.size ≡ start site (length family)
  start_of site r some here =
      let s : IsSeated (length replicas) (site - 1) r = t.seated (site - 1) r here in
      let number : r.machine.site ≡ site = s.site ∙ omega (arith, some) in
      let size : r.machine.size ≡ length family = s.size_is ∙ sym (same_length replicas) in
      λ i. start (number i) (size i)

  machine_is : (site : ℕ) (r : ReplicaValue) → 0 < site → slice_get replicas (site - 1) ≡ Some r
      → machine family site ≡ r.machine
  machine_is site r some here =
      let s : IsSeated (length replicas) (site - 1) r = t.seated (site - 1) r here in
      ap (λ (h : History). after (start site (length family)) h) (history_of site r here)
      ∙ ap (λ (m : Machine). after m r.entries) (sym (start_of site r some here))
      ∙ sym s.replica.is

  at_site : (site : ℕ) → 0 < site → site ≤ length family → (r : ReplicaValue) × (slice_get replicas (site - 1) ≡ Some r)
  at_site site some within =
      let same : length family ≡ length replicas = same_length replicas in
      found replicas (site - 1) (omega (arith, some, within, same))

  legal : (site : ℕ) → 0 < site → site ≤ length family → IsLegal site (length family) (history family site)
  legal site some within =
      let r = at_site site some within in
      let s : IsSeated (length replicas) (site - 1) r.0 = t.seated (site - 1) r.0 r.1 in
      let number : r.0.machine.site ≡ site = s.site ∙ omega (arith, some) in
      let size : r.0.machine.size ≡ length family = s.size_is ∙ sym (same_length replicas) in
      subst (λ (h : History). IsLegal site (length family) h) (sym (history_of site r.0 r.1))
      (subst (λ (n : ℕ). IsLegal site n r.0.entries) size
      (subst (λ (k : ℕ). IsLegal k r.0.machine.size r.0.entries) number s.replica.legal))

  -- the machine of a site is that of the site at every moment
  site_kept : (site : ℕ) (r : ReplicaValue) (front back : History) → 0 < site → slice_get replicas (site - 1) ≡ Some r
      → r.entries ≡ front ++ back → (after (start r.machine.site r.machine.size) front).site ≡ r.machine.site
  site_kept site r front back some here splits =
      let s : IsSeated (length replicas) (site - 1) r = t.seated (site - 1) r here in
      let begin : Machine = start r.machine.site r.machine.size in
      (placed (after begin front)
      (built_front begin front back
      (subst (λ (h : History). IsLegalFrom (start r.machine.site r.machine.size) h) splits s.replica.legal)
      (Begins s.replica.some s.replica.within))).2

  may_come : (site : ℕ) (front : History) (e : Entry) (back : History) (message : Message) → 0 < site
      → site ≤ length family → history family site ≡ front ++ e ∷ back → e.input ≡ Take message
      → MayCome family site (machine_after family site front) message
  may_come site front e back message some within splits is =
      let r = at_site site some within in
      let s : IsSeated (length replicas) (site - 1) r.0 = t.seated (site - 1) r.0 r.1 in
      let number : r.0.machine.site ≡ site = s.site ∙ omega (arith, some) in
      let entries : r.0.entries ≡ front ++ e ∷ back = sym (history_of site r.0 r.1) ∙ splits in
      let from : IsSentBy replicas message =
      t.sent (site - 1) r.0 message r.1
      (subst (λ (h : History). In message (taken h)) (sym entries) (taken_in front e back message is)) in
      let due : IsDue (after (start r.0.machine.site r.0.machine.size) front) message =
      due_at (start r.0.machine.site r.0.machine.size) front e back message
      (subst (λ (h : History). TakesDue (start r.0.machine.site r.0.machine.size) h) entries s.due) is in
      let then : after (start r.0.machine.site r.0.machine.size) front ≡ machine_after family site front =
      ap (λ (m : Machine). after m front) (start_of site r.0 some r.1) in
      let own : (after (start r.0.machine.site r.0.machine.size) front).site ≡ site =
      site_kept site r.0 front (e ∷ back) some r.1 entries ∙ number in
      let way = for_parts site message (subst (λ (k : ℕ). is_for k message ≡ true) own due.is_for) in
      record {
        another = way.0;
        sent = subst (λ (m : Machine). In message m.sent)
            (sym (machine_is (sender message) from.replica from.some from.here)) from.sent;
        addressed = way.1;
        own_made = subst (λ (m : Machine). known_of site message ≤ made m) then
            (subst (λ (k : ℕ). known_of k message ≤ made (after (start r.0.machine.site r.0.machine.size) front)) own
            due.own_made);
      }

  all_consistent : IsConsistent family
  all_consistent =
      let same : length family ≡ length replicas = same_length replicas in
      record {
        legal = record { some = omega (arith, same, t.some); few = omega (arith, same, t.few); legal = legal };
        takes = may_come;
      }

  -- an editor, after its whole history
  now : (site : ℕ) → 0 < site → site ≤ length family → Moment family
  now site some within =
      record {
        site = site;
        some = some;
        within = within;
        front = history family site;
        back = [];
        splits = sym (append-nil (history family site));
      }

  same_text : (r s : ReplicaValue) → In r replicas → In s replicas
      → ((x : OpValue) → In x r.machine.log ↔ In x s.machine.log) → text_of r.machine.doc ≡ text_of s.machine.doc
  unfolding now place_of
  same_text r s i j same =
      let p = place_of replicas r i in
      let q = place_of replicas s j in
      let len : length family ≡ length replicas = same_length replicas in
      let p_here : slice_get replicas (p.0 + 1 - 1) ≡ Some r = ap (slice_get replicas) (back p.0) ∙ p.2 in
      let q_here : slice_get replicas (q.0 + 1 - 1) ≡ Some s = ap (slice_get replicas) (back q.0) ∙ q.2 in
      let p_is : machine family (p.0 + 1) ≡ r.machine = machine_is (p.0 + 1) r (omega arith) p_here in
      let q_is : machine family (q.0 + 1) ≡ s.machine = machine_is (q.0 + 1) s (omega arith) q_here in
      ap (λ (m : Machine). text_of m.doc) (sym p_is)
      ∙ converge family all_consistent (now (p.0 + 1) (omega arith) (omega (arith, p.1, len)))
      (now (q.0 + 1) (omega arith) (omega (arith, q.1, len)))
      (λ x.
      subst (λ (m : Machine). In x m.log ↔ In x (machine family (q.0 + 1)).log) (sym p_is)
      (subst (λ (m : Machine). In x r.machine.log ↔ In x m.log) (sym q_is) (same x)))
      ∙ ap (λ (m : Machine). text_of m.doc) q_is
    where
      back : (k : ℕ) → k + 1 - 1 ≡ k
      back k = omega arith

pub consistent : (replicas : List ReplicaValue) → AreTogether replicas → IsConsistent (family_of replicas)
consistent replicas t = all_consistent replicas t

pub promised : (replicas : List ReplicaValue) → AreTogether replicas → KeepsPromises (family_of replicas)
promised replicas t = promises (family_of replicas) (consistent replicas t)

pub one_text : (replicas : List ReplicaValue) (r s : ReplicaValue) → AreTogether replicas → In r replicas
    → In s replicas → ((x : OpValue) → In x r.machine.log ↔ In x s.machine.log)
    → text_of r.machine.doc ≡ text_of s.machine.doc
one_text replicas r s t i j same = same_text replicas t r s i j same
