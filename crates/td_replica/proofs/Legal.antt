-- A replica's history goes on with each step.
use Rattle.std.proofs.Common.{◌≡◌, ◌<◌, ◌≤◌, ◌++◌, ℕ, [], ◌∷◌, refl, sym, ap, ◌∙◌, subst}
use Rattle.td_op.specs.declared.entry.Entry.{Entry}
use Rattle.td_op.specs.declared.input.Input.{Input}
use Rattle.td_op.specs.Input.{IsInput}
use Rattle.td_machine.specs.History.{History, after, IsLegalFrom, IsReached}
use Rattle.td_machine.specs.Machine.{Machine, start}
use Rattle.td_machine.specs.Shown.{change_between}
use Rattle.td_machine.specs.Step.{step}
use Rattle.td_machine.specs.Parts.{Anything, IsBuilt}
use Rattle.td_machine.proofs.Induction.{IsBuiltSomewhere, built_of, after_both, legal_both}
use Rattle.td_machine.proofs.Turns.{placed}
use Rattle.td_machine.proofs.Walk.{built_step}
use Rattle.td_base.specs.declared.site.TheConstants.{MAX_SITE}
use Rattle.td_replica.specs.Replica.{ReplicaValue, IsReplica, after_step, new_replica}

pub reached : (r : ReplicaValue) → IsReplica r → IsReached r.machine
reached r i =
    record {
      site = r.machine.site;
      size = r.machine.size;
      some = i.some;
      within = i.within;
      few = i.few;
      entries = r.entries;
      legal = i.legal;
      is = i.is;
    }

-- its machine is built of parts, as that of its site
pub built : (r : ReplicaValue) → IsReplica r → IsBuilt Anything r.machine.site r.machine.size r.machine
built r i =
    let s : IsBuiltSomewhere r.machine = built_of r.machine (reached r i) in
    let p = placed r.machine s.built in
    subst (λ (n : ℕ). IsBuilt Anything r.machine.site n r.machine) (sym p.3)
    (subst (λ (k : ℕ). IsBuilt Anything k s.size r.machine) (sym p.2) s.built)

-- the last entry of a history
last_same : (front back : History) (e f : Entry) → front ++ e ∷ [] ≡ back ++ f ∷ [] → front ≡ back
last_same [] [] e f h = refl
last_same [] (g ∷ back) e f h = absurd (ends back f (tail_same e g [] (back ++ f ∷ []) h))
  where
    tail_same : (a b : Entry) (xs ys : History) → a ∷ xs ≡ b ∷ ys → xs ≡ ys
    tail_same a b xs ys k = cc

    ends : (back : History) (f : Entry) → [] ≡ back ++ f ∷ [] → ⊥
    ends [] f k = cc
    ends (g ∷ back) f k = cc
last_same (g ∷ front) [] e f h = absurd (ends front e (tail_same g f (front ++ e ∷ []) [] h))
  where
    tail_same : (a b : Entry) (xs ys : History) → a ∷ xs ≡ b ∷ ys → xs ≡ ys
    tail_same a b xs ys k = cc

    ends : (front : History) (e : Entry) → front ++ e ∷ [] ≡ [] → ⊥
    ends [] e k = cc
    ends (g ∷ front) e k = cc
last_same (g ∷ front) (k ∷ back) e f h =
    let heads : g ≡ k = head_same g k (front ++ e ∷ []) (back ++ f ∷ []) h in
    let rest : front ≡ back = last_same front back e f (tail_same g k (front ++ e ∷ []) (back ++ f ∷ []) h) in
    λ i. heads i ∷ rest i
  where
    head_same : (a b : Entry) (xs ys : History) → a ∷ xs ≡ b ∷ ys → a ≡ b
    head_same a b xs ys l = cc

    tail_same : (a b : Entry) (xs ys : History) → a ∷ xs ≡ b ∷ ys → xs ≡ ys
    tail_same a b xs ys l = cc

not_empty : (front : History) (e : Entry) → front ++ e ∷ [] ≡ [] → ⊥
not_empty [] e h = cc
not_empty (g ∷ front) e h = cc

module _ (r : ReplicaValue) (i : IsReplica r) (input : Input) (valid : IsInput input) where
  abbrev next : Machine
  next = (step r.machine input).machine

  abbrev begin : Machine
  begin = start r.machine.site r.machine.size

  abbrev entry : Entry
  entry = record { input = input; reply = (step r.machine input).reply }

  built_next : IsBuilt Anything r.machine.site r.machine.size next
  built_next = built_step r.machine input valid (λ message e. tt) (built r i)

  same_site : next.site ≡ r.machine.site
  same_site = (placed next built_next).2

  same_size : next.size ≡ r.machine.size
  same_size = (placed next built_next).3

  legal_here : IsLegalFrom begin (r.entries ++ entry ∷ [])
  legal_here =
      legal_both begin r.entries (entry ∷ []) i.legal
      (subst (λ (n : Machine). IsLegalFrom n (entry ∷ [])) i.is (valid, refl, tt))

  is_here : next ≡ after begin (r.entries ++ entry ∷ [])
  is_here =
      ap (λ (n : Machine). (step n input).machine) i.is ∙ sym (after_both begin r.entries (entry ∷ []))

  -- said of the site and the size that the machine has then
  legal_at : (site size : ℕ) → site ≡ r.machine.site → size ≡ r.machine.size
      → IsLegalFrom (start site size) (r.entries ++ entry ∷ [])
  legal_at site size a b =
      subst (λ (k : ℕ). IsLegalFrom (start k size) (r.entries ++ entry ∷ [])) (sym a)
      (subst (λ (n : ℕ). IsLegalFrom (start r.machine.site n) (r.entries ++ entry ∷ [])) (sym b) legal_here)

  same_start : start next.site next.size ≡ begin
  same_start = (λ j. start (same_site j) (same_size j))

  pub goes_on : IsReplica (after_step input r)
  goes_on =
      record {
        some = subst (λ (k : ℕ). 0 < k) (sym same_site) i.some;
        within = subst (λ (k : ℕ). k ≤ next.size) (sym same_site)
            (subst (λ (n : ℕ). r.machine.site ≤ n) (sym same_size) i.within);
        few = subst (λ (n : ℕ). n ≤ MAX_SITE) (sym same_size) i.few;
        legal = legal_at next.site next.size same_site same_size;
        is = is_here ∙ ap (λ (n : Machine). after n (r.entries ++ entry ∷ [])) (sym same_start);
        still = λ e. absurd (not_empty r.entries entry e);
        told = λ front e h.
            ap (λ (n : Machine). change_between n next)
            (i.is ∙ ap (after begin) (last_same r.entries front entry e h)
            ∙ ap (λ (n : Machine). after n front) (sym same_start));
      }

pub begins : (site size : ℕ) → 0 < site → site ≤ size → size ≤ MAX_SITE → IsReplica (new_replica site size)
begins site size some within few =
    record {
      some = some;
      within = within;
      few = few;
      legal = tt;
      is = refl;
      still = λ e. refl;
      told = λ front e h. absurd (not_empty front e (sym h));
    }
