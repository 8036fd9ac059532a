-- What loading comes to where it fails.
use Rattle.std.proofs.Common.{◌≡◌, ◌⊎◌, ℕ, List, Err, inl, inr, subst, ⊎_elim}
use Rattle.td_journal.proofs.Wholes.{of_is_not_bad}
use Rattle.td_session.specs.declared.fault.Fault.{Fault}
use Rattle.td_session.specs.declared.fault.Fault.TheVariants.{Memory}
use Rattle.td_session.specs.Calls.{IsSiteAmong}
use Rattle.td_session.specs.Saved.{IsLoaded, IsNoJournal, IsTooLong}

-- at a site that there is
pub not_loaded : (site sites own : ℕ) (journal : List ℕ) → IsSiteAmong site sites → own ≡ site → (fault : Fault)
    → (fault ≡ Memory) ⊎ (IsTooLong journal fault ⊎ IsNoJournal own sites journal fault)
    → IsLoaded site sites journal (Err fault)
not_loaded site sites own journal seat own_is fault why =
    let here : (fault ≡ Memory) ⊎ (IsTooLong journal fault ⊎ IsNoJournal site sites journal fault) =
    subst (λ (s : ℕ). (fault ≡ Memory) ⊎ (IsTooLong journal fault ⊎ IsNoJournal s sites journal fault)) own_is why in
    record {
      ok = tt;
      same = λ r h. inr
          (⊎_elim (λ (m : fault ≡ Memory). inl m)
          (λ (other : IsTooLong journal fault ⊎ IsNoJournal site sites journal fault).
          ⊎_elim (λ (long : IsTooLong journal fault). inr long)
          (λ (bad : IsNoJournal site sites journal fault).
          absurd (of_is_not_bad site sites journal r h bad.0 bad.2)) other) here);
      err = λ _. here;
      other = λ none. absurd (none seat);
    }
