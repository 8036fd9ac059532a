-- Inputs that have bytes of their own.
use Rattle.std.proofs.Common.{◌≡◌, ◌++◌, List, [], ◌∷◌, refl, sym, ⊎_elim, inl, inr, subst, arith}
use Rattle.std.specs.List.{AllByRecursion}
use Rattle.td_base.specs.Lists.{In}
use Rattle.td_base.proofs.Lists.{In-append}
use Rattle.td_op.specs.declared.entry.Entry.{Entry}
use Rattle.td_op.specs.declared.input.Input.{Input}
use Rattle.td_op.specs.declared.input.Input.TheVariants.{Local, Take, Next}
use Rattle.td_op.specs.Input.{IsInput}
use Rattle.td_machine.specs.Machine.{Machine}
use Rattle.td_machine.specs.History.{History, IsLegalFrom}
use Rattle.td_machine.specs.Step.{step}
use Rattle.td_replica.specs.Replica.{ReplicaValue, after_step}
use Rattle.td_input.specs.Spelling.{IsIndex, CanWrite}
use Rattle.td_journal.specs.Journal.{inputs_of}
use Rattle.td_journal.specs.Kept.{index_in, AreIndexed}
use Rattle.td_journal.proofs.Growing.{inputs_grow}

index_small : (i : Input) → CanWrite i → IsIndex (index_in i)
index_small (Local request) can = can.1
index_small (Take message) can = omega arith
index_small Next can = omega arith

can_write : (i : Input) → IsInput i → IsIndex (index_in i) → CanWrite i
can_write (Local request) valid small = (valid, small)
can_write (Take message) valid small = valid
can_write Next valid small = tt

pub indexed_more : (ks : List Input) (i : Input) → AreIndexed ks → CanWrite i → AreIndexed (ks ++ i ∷ [])
indexed_more ks i h can j inside =
    ⊎_elim (h j)
    (λ (last : In j (i ∷ [])). ⊎_elim
    (λ (e : j ≡ i). subst (λ (k : Input). IsIndex (index_in k)) (sym e) (index_small i can)) (λ none. absurd none) last)
    (In-append j ks (i ∷ []) inside)

pub indexed_all : (ks : List Input) → AllByRecursion CanWrite ks → AreIndexed ks
indexed_all [] can j inside = absurd inside
indexed_all (k ∷ ks) can j inside =
    ⊎_elim (λ (e : j ≡ k). subst (λ (i : Input). IsIndex (index_in i)) (sym e) (index_small k can.0))
    (indexed_all ks can.1 j) inside

-- those of a replica after a step
pub indexed_after : (r new : ReplicaValue) (input : Input) → AreIndexed (inputs_of r.entries) → CanWrite input
    → new ≡ after_step input r → AreIndexed (inputs_of new.entries)
indexed_after r new input h can is =
    let e : Entry = record { input = input; reply = (step r.machine input).reply } in
    subst (λ (x : ReplicaValue). AreIndexed (inputs_of x.entries)) (sym is)
    (subst (λ (l : List Input). AreIndexed l) (sym (inputs_grow r.entries e))
    (indexed_more (inputs_of r.entries) input h can))

-- the inputs of a legal history are inputs
pub all_can : (m : Machine) (entries : History) → IsLegalFrom m entries → AreIndexed (inputs_of entries)
    → AllByRecursion CanWrite (inputs_of entries)
all_can m [] legal small = tt
all_can m (e ∷ entries) legal small = (
  can_write e.input legal.0 (small e.input (inl refl)),
  all_can (step m e.input).machine entries legal.2 (λ i inside. small i (inr inside)),
)
