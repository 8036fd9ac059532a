-- An insertion that is made by its parts is the step of the machine that makes it.
use Rattle.std.proofs.Common.{◌≡◌, ◌≤◌, ◌+◌, ℕ, List, [], ◌∷◌, ◌++◌, length, refl, sym, ap, ◌∙◌, arith}
use Rattle.std.specs.Prelude.{Some, slice_get}
use Rattle.std.specs.Option.{option_and_then}
use Rattle.std.proofs.lemmas.Option.{slice_get_within}
use Rattle.td_base.specs.Value.{DotValue}
use Rattle.td_path.specs.declared.slot.Slot.{Slot}
use Rattle.td_doc.specs.Insertion.{insert_run}
use Rattle.td_op.specs.declared.body.Body.TheVariants.{Insert}
use Rattle.td_op.specs.declared.reply.Reply.TheVariants.{Made}
use Rattle.td_op.specs.Op.{OpValue}
use Rattle.td_machine.specs.Machine.{Machine, next_dot}
use Rattle.td_machine.specs.Making.{make}
use Rattle.td_machine.specs.Taking.{stepped}
use Rattle.td_store.specs.Inserting.{inserting}
use Rattle.td_history.specs.Texts.{run_of, run_at}
use Rattle.td_replica.specs.declared.last_change.LastChange.TheVariants.{Put}
use Rattle.td_replica.specs.declared.state.Origin.TheVariants.{Here}
use Rattle.td_replica.specs.LastChange.{put_by, change_of}
use Rattle.td_replica.specs.Parts.{StateValue, IsAsBefore, with_machine, with_note}
use Rattle.td_replica.specs.Steps.{IsStep}
use Rattle.td_replica.proofs.Noting.{number_of_new}
use Rattle.td_replica.proofs.Stepping.{change_once}

-- from the state in which room was made, over that in which the run is in the document
pub record IsPutOf (slot : Slot) (run : List (List ℕ)) (dot : DotValue) (number : ℕ)
    (old reserved put new : StateValue) : Type 0 where
  pub same : IsAsBefore old reserved
  pub room : 8 ≤ reserved.room.things
  pub is_number : number ≡ length reserved.ops
  pub is_dot : dot ≡ next_dot reserved.machine
  pub is_put : put ≡ with_machine
      (record reserved.machine { doc = insert_run slot dot run reserved.machine.doc }) reserved
  pub machine : new.machine ≡ with_note Here (inserting dot put.machine.have slot run) put.machine
  pub entries : new.entries ≡ put.entries
  pub ops : new.ops ≡ put.ops ++ inserting dot put.machine.have slot run ∷ []
  pub things : new.room.things + 1 ≡ put.room.things

module _ (slot : Slot) (run : List (List ℕ)) (dot : DotValue) (number : ℕ) (old reserved put new : StateValue)
    (is : IsPutOf slot run dot number old reserved put new) where
  abbrev m : Machine
  m = old.machine

  abbrev x : OpValue
  x = inserting (next_dot m) m.have slot run

  dot_is : dot ≡ next_dot m
  dot_is = is.is_dot ∙ ap next_dot is.same.machine

  machine_is : new.machine ≡ make (Insert slot run) m
  machine_is =
      is.machine
      ∙ ap (λ (s : StateValue). with_note Here (inserting dot s.machine.have slot run) s.machine) is.is_put
      ∙ ap (λ (k : Machine). with_note Here (inserting dot k.have slot run)
      (record k { doc = insert_run slot dot run k.doc })) is.same.machine
      ∙ ap (λ (d : DotValue). with_note Here (inserting d m.have slot run)
      (record m { doc = insert_run slot d run m.doc })) dot_is

  ops_are : new.ops ≡ old.ops ++ x ∷ []
  ops_are =
      is.ops ∙ ap (λ (s : StateValue). s.ops ++ inserting dot s.machine.have slot run ∷ []) is.is_put
      ∙ (λ i. is.same.ops i ++ inserting (dot_is i) (is.same.machine i).have slot run ∷ [])

  number_is : number ≡ length old.ops
  number_is = is.is_number ∙ ap (λ (ops : List OpValue). length ops) is.same.ops

  found : slice_get new.ops number ≡ Some x
  found = (λ i. slice_get (ops_are i) (number_is i)) ∙ number_of_new old.ops x

  pub put_step : IsStep (stepped (Made (next_dot m)) (make (Insert slot run) m)) old new
      (record { reply = Made dot; change = Put number; number = Some number })
  put_step =
      let things : put.room.things ≡ reserved.room.things = ap (λ (s : StateValue). s.room.things) is.is_put in
      record {
        reply = ap Made dot_is;
        machine = machine_is;
        entries = is.entries ∙ ap (λ (s : StateValue). s.entries) is.is_put ∙ is.same.entries;
        change = ap (λ (k : Machine). change_of (Put number) new.ops k.doc) machine_is
            ∙ ap (option_and_then (λ (y : OpValue). put_by y.dot y.body (make (Insert slot run) m).doc)) found
            ∙ sym (change_once m (make (Insert slot run) m) x refl);
        room = omega (arith, things, is.things, is.room);
        number = slice_get_within new.ops number x found;
      }

  pub put_text : run_at new.ops number ≡ Some run
  put_text = ap (option_and_then (λ (y : OpValue). run_of y.body)) found
