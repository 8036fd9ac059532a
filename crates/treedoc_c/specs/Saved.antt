-- What saving and loading come to.
use Rattle.std.specs.Prelude.{◌≡◌, ℕ, List, Option, Some, None, Result, Ok, Err}
use Rattle.td_replica.specs.Replica.{ReplicaValue}
use Rattle.td_session.specs.declared.fault.Fault.{Fault}
use Rattle.td_session.specs.Saved.{IsLoaded, IsSaved}
use Rattle.treedoc_c.specs.declared.answer.Answer.{Answer}
use Rattle.treedoc_c.specs.declared.status.Status.TheVariants.{Done}
use Rattle.treedoc_c.specs.declared.written.Written.{Written}
use Rattle.treedoc_c.specs.Answers.{alone, fault_answer}
use Rattle.treedoc_c.specs.Written.{IsWrittenOf}

-- the journal of the session is written, where there is one
pub record IsJournalWritten (r : ReplicaValue) (old new : List ℕ) (w : Written) : Type 0 where
  pub journal : Result (List ℕ) Fault
  pub saved : IsSaved r journal
  pub written : IsWrittenOf journal old new w

-- what a closed session has once a session was loaded or not
abbrev pub held_of : Result ReplicaValue Fault → Option ReplicaValue
held_of (Ok r) = Some r
held_of (Err fault) = None

-- and what is answered
abbrev pub load_answer : Result ReplicaValue Fault → Answer
load_answer (Ok r) = alone Done
load_answer (Err fault) = fault_answer fault

-- a closed session was opened with what a journal of its site has, or stays closed
pub record IsLoadedBy (site sites : ℕ) (journal : List ℕ) (new : Option ReplicaValue) (answer : Answer)
    : Type 0 where
  pub result : Result ReplicaValue Fault
  pub loaded : IsLoaded site sites journal result
  pub new_is : new ≡ held_of result
  pub told : answer ≡ load_answer result
