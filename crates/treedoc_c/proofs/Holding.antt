-- A closed session that gets a loaded one, or no memory for it.
use Rattle.std.proofs.Common.{◌≡◌, ◌∙◌, ℕ, List, Option, Ok, Err, ap, inl, inr, refl}
use Rattle.td_replica.specs.Replica.{ReplicaValue}
use Rattle.td_session.specs.declared.fault.Fault.TheVariants.{Memory as NoMemory}
use Rattle.td_session.specs.Saved.{IsLoaded}
use Rattle.treedoc_c.specs.declared.answer.Answer.{Answer}
use Rattle.treedoc_c.specs.declared.status.Status.{Status}
use Rattle.treedoc_c.specs.Answers.{alone}
use Rattle.treedoc_c.specs.Asked.{IsHeldBy}
use Rattle.treedoc_c.specs.Saved.{IsLoadedBy}

-- memory may be wanted for what was loaded
memory_too : (site sites : ℕ) (journal : List ℕ) (r : ReplicaValue) → IsLoaded site sites journal (Ok r)
    → IsLoaded site sites journal (Err NoMemory)
memory_too site sites journal r loaded = record {
  ok = tt;
  same = λ q h. inr (inl refl);
  err = λ _. inl refl;
  other = λ none. absurd (none loaded.ok.0);
}

pub loaded_by : (site sites : ℕ) (journal : List ℕ) (r : ReplicaValue) (new : Option ReplicaValue) (status : Status)
    (answer : Answer)
    → IsLoaded site sites journal (Ok r) → IsHeldBy r new status → answer ≡ alone status
    → IsLoadedBy site sites journal new answer
loaded_by site sites journal r new status answer loaded (inl held) told = record {
  result = Ok r;
  loaded = loaded;
  new_is = held.1;
  told = told ∙ ap alone held.0;
}
loaded_by site sites journal r new status answer loaded (inr held) told = record {
  result = Err NoMemory;
  loaded = memory_too site sites journal r loaded;
  new_is = held.1;
  told = told ∙ ap alone held.0;
}
