-- What C's calls come to. A session as C holds it has a replica, or none where it is closed.
use Rattle.std.specs.Prelude.{◌≡◌, ◌⊎◌, ℕ, Option, Some, None, Result}
use Rattle.td_op.specs.declared.reply.Reply.{Reply}
use Rattle.td_replica.specs.Replica.{ReplicaValue, new_replica}
use Rattle.td_session.specs.declared.fault.Fault.{Fault}
use Rattle.td_session.specs.Calls.{IsSiteAmong}
use Rattle.treedoc_c.specs.declared.answer.Answer.{Answer}
use Rattle.treedoc_c.specs.declared.status.Status.{Status}
use Rattle.treedoc_c.specs.declared.status.Status.TheVariants.{Done, Memory, BadSite}
use Rattle.treedoc_c.specs.Numbers.{status_number}
use Rattle.treedoc_c.specs.Answers.{answer_of}

-- the call of the session was made, and its result is answered
pub record IsCallAnswered (call : ReplicaValue → Result Reply Fault → ReplicaValue → Type 0) (old : ReplicaValue)
    (new : Option ReplicaValue) (answer : Answer) : Type 0 where
  pub after : ReplicaValue
  pub result : Result Reply Fault
  pub made : call old result after
  pub new_is : new ≡ Some after
  pub told : answer ≡ answer_of result

-- a closed session has the replica now, or memory for it was not found
abbrev pub IsHeldBy : ReplicaValue → Option ReplicaValue → Status → Type 0
IsHeldBy r new status = ((status ≡ Done) × (new ≡ Some r)) ⊎ ((status ≡ Memory) × (new ≡ None))

-- a closed session was opened at a site among so many, or stays closed
pub record IsOpenedBy (site sites : ℕ) (new : Option ReplicaValue) (status : ℕ) : Type 0 where
  pub seat : IsSiteAmong site sites → ((status ≡ status_number Done) × (new ≡ Some (new_replica site sites)))
      ⊎ ((status ≡ status_number Memory) × (new ≡ None))
  pub other : ¬ IsSiteAmong site sites → (status ≡ status_number BadSite) × (new ≡ None)
