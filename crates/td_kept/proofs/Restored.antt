-- A replica is told by its site, how many sites there are, and its inputs; so who is opened again is one that was.
use Rattle.std.proofs.Common.{◌≡◌, ◌++◌, ◌⊎◌, inl, inr, ℕ, zero, suc, [], ◌∷◌, Bool, true, false, if◌then◌else◌}
use Rattle.std.proofs.Common.{length, take, refl, sym, ap, ◌∙◌, subst, arith}
use Rattle.std.specs.List.{AllByRecursion}
use Rattle.std.proofs.lemmas.List.{take_at, take_all}
use Rattle.td_op.specs.declared.entry.Entry.{Entry}
use Rattle.td_op.specs.declared.input.Input.{Input}
use Rattle.td_machine.specs.Machine.{Machine, start}
use Rattle.td_machine.specs.Shown.{change_between}
use Rattle.td_machine.specs.Step.{step}
use Rattle.td_machine.specs.History.{History, after, IsLegalFrom}
use Rattle.td_replica.specs.Replica.{ReplicaValue, IsReplica, after_step}
use Rattle.td_input.specs.Spelling.{CanWrite}
use Rattle.td_journal.specs.Journal.{inputs_of}
use Rattle.td_journal.specs.Kept.{acknowledged_of, AreIndexed, IsCounted}
use Rattle.td_journal.proofs.Histories.{same_history}
use Rattle.td_journal.proofs.Writable.{all_can}
use Rattle.td_kept.specs.Sites.{after_steps}

-- a history is none, or has a last entry
ended : (h : History) → (h ≡ []) ⊎ ((front : History) × (e : Entry) × (h ≡ front ++ e ∷ []))
ended [] = inl refl
ended (e ∷ h) = inr (more e h (ended h))
  where
    more : (e : Entry) (h : History) → (h ≡ []) ⊎ ((front : History) × (last : Entry) × (h ≡ front ++ last ∷ []))
        → (front : History) × (last : Entry) × (e ∷ h ≡ front ++ last ∷ [])
    more e h (inl none) = ([], e, ap (λ (l : History). e ∷ l) none)
    more e h (inr f) = (e ∷ f.0, f.1, ap (λ (l : History). e ∷ l) f.2)

module _ (a b : ReplicaValue) (p : IsReplica a) (q : IsReplica b) (site : a.machine.site ≡ b.machine.site)
    (size : a.machine.size ≡ b.machine.size) (inputs : inputs_of a.entries ≡ inputs_of b.entries) where
  same_start : start a.machine.site a.machine.size ≡ start b.machine.site b.machine.size
  same_start = λ i. start (site i) (size i)

  pub same_entries : a.entries ≡ b.entries
  same_entries =
      same_history (start b.machine.site b.machine.size) a.entries b.entries
      (subst (λ (m : Machine). IsLegalFrom m a.entries) same_start p.legal) q.legal inputs

  same_machine : a.machine ≡ b.machine
  same_machine =
      p.is ∙ ap (λ (m : Machine). after m a.entries) same_start
      ∙ ap (λ (h : History). after (start b.machine.site b.machine.size) h) same_entries ∙ sym q.is

  same_change : a.change ≡ b.change
  same_change = at (ended b.entries)
    where
      at : (b.entries ≡ []) ⊎ ((front : History) × (e : Entry) × (b.entries ≡ front ++ e ∷ [])) → a.change ≡ b.change
      at (inl none) = p.still (same_entries ∙ none) ∙ sym (q.still none)
      at (inr f) =
          p.told f.0 f.1 (same_entries ∙ f.2)
          ∙ (λ i. change_between (after (same_start i) f.0) (same_machine i)) ∙ sym (q.told f.0 f.1 f.2)

  pub same_replica : a ≡ b
  same_replica = λ i. record { machine = same_machine i; entries = same_entries i; change = same_change i }

-- ---- after a crash

-- a replica that has the inputs of one that did a step, or of the one before it
pub came_back : (r asked new : ReplicaValue) (input : Input) (count : ℕ) (done : Bool) → IsReplica r → IsReplica asked
    → IsReplica new → asked ≡ after_step input r → new.machine.site ≡ asked.machine.site
    → new.machine.size ≡ asked.machine.size → asked.machine.site ≡ r.machine.site
    → asked.machine.size ≡ r.machine.size → count ≡ length r.entries
    → inputs_of new.entries ≡ (if done then inputs_of asked.entries else acknowledged_of count asked)
    → new ≡ after_steps (if done then input ∷ [] else []) r
came_back r asked new input count true h k l is site size site_2 size_2 all inputs =
    same_replica new asked l k site size inputs ∙ is
came_back r asked new input count false h k l is site size site_2 size_2 all inputs =
    let e : Entry = record { input = input; reply = (step r.machine input).reply } in
    let first : take count asked.entries ≡ r.entries =
    ap (λ (x : ReplicaValue). take count x.entries) is ∙ take_at r.entries (e ∷ []) count (sym all) in
    same_replica new r l h (site ∙ site_2) (size ∙ size_2) (inputs ∙ ap inputs_of first)

-- what is released where all is acknowledged
pub released_whole : (r : ReplicaValue) (count released : ℕ) → IsReplica r → IsCounted r count released
    → count ≡ length r.entries → released ≡ length r.machine.sent
released_whole r count released h c all =
    c.released_is
    ∙ ap (λ (es : History). length (after (start r.machine.site r.machine.size) es).sent)
    (take_all count r.entries (omega (arith, all)))
    ∙ ap (λ (m : Machine). length m.sent) (sym h.is)

-- the inputs that are left have bytes
pub can_left : (r : ReplicaValue) (count : ℕ) (done : Bool) → IsReplica r → AreIndexed (inputs_of r.entries)
    → AllByRecursion CanWrite (if done then inputs_of r.entries else acknowledged_of count r)
can_left r count true h indexed = all_can (start r.machine.site r.machine.size) r.entries h.legal indexed
can_left r count false h indexed =
    first_can count r.entries (all_can (start r.machine.site r.machine.size) r.entries h.legal indexed)
  where
    first_can : (n : ℕ) (es : History) → AllByRecursion CanWrite (inputs_of es)
        → AllByRecursion CanWrite (inputs_of (take n es))
    first_can zero es can = tt
    first_can (suc n) [] can = tt
    first_can (suc n) (e ∷ es) can = (can.0, first_can n es can.1)
