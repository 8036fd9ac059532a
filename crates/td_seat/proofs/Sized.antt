-- What holds of a replica's machine at every moment.
use Rattle.std.proofs.Common.{◌≡◌, ◌∙◌, ℕ, [], length, sym, subst}
use Rattle.td_op.specs.declared.input.Input.{Input}
use Rattle.td_op.specs.Input.{IsInput}
use Rattle.td_machine.specs.History.{IsReached}
use Rattle.td_machine.specs.Step.{step}
use Rattle.td_machine.proofs.Induction.{built_of}
use Rattle.td_machine.proofs.Turns.{length_have}
use Rattle.td_store.specs.Lists.{OpsValue}
use Rattle.td_machine.specs.Ready.{waits}
use Rattle.td_base.specs.Value.{DotValue}
use Rattle.td_causal.specs.Waiting.{Numbers, ops_waiting, is_kept, AreStored}
use Rattle.td_causal.proofs.Kept.{kept_waits}
use Rattle.td_replica.specs.Replica.{ReplicaValue, IsReplica}
use Rattle.td_law_replay.proofs.Telling.{same_site}
use Rattle.td_seat.specs.Seat.{IsSeat}

pub reached : (r : ReplicaValue) → IsReplica r → IsReached r.machine
reached r is =
    record {
      site = r.machine.site;
      size = r.machine.size;
      some = is.some;
      within = is.within;
      few = is.few;
      entries = r.entries;
      legal = is.legal;
      is = is.is;
    }

pub sized : (r : ReplicaValue) → IsReplica r → length r.machine.have ≡ r.machine.size
sized r is = length_have r.machine (built_of r.machine (reached r is)).built

pub step_site : (r : ReplicaValue) (input : Input) → IsReplica r → IsInput input
    → (step r.machine input).machine.site ≡ r.machine.site
step_site r input is valid = (same_site r.machine input (reached r is) valid).0

pub step_size : (r : ReplicaValue) (input : Input) → IsReplica r → IsInput input
    → (step r.machine input).machine.size ≡ r.machine.size
step_size r input is valid = (same_site r.machine input (reached r is) valid).1

-- what stands beside a replica stands beside it later on
pub seat_stays : (r q : ReplicaValue) (o : OpsValue) (w : Numbers) → IsSeat r o w → q.machine.waiting ≡ []
    → q.machine.size ≡ r.machine.size → IsSeat q o w
seat_stays r q o w seat bare size =
    record {
      bare = bare;
      sized = seat.sized ∙ sym size;
      stored = subst (λ (n : ℕ). AreStored n o.ops w) (sym size) seat.stored;
    }

-- what is kept waits
pub seat_waits : (r : ReplicaValue) (o : OpsValue) (w : Numbers) (d : DotValue) → IsSeat r o w
    → is_kept d w ≡ waits d (ops_waiting o.ops w)
seat_waits r o w d seat = kept_waits r.machine.size o.ops d w seat.stored
