-- The judgement of an operation that is offered, or was waiting, from what is found of it.
use Rattle.std.proofs.Common.{◌≡◌, ◌||◌, not, Bool, false, nat_eq, ℕ, List, Option, Some, None, Result, Ok}
use Rattle.std.proofs.Common.{Err, if◌then◌else◌, sym, ap, ◌∙◌}
use Rattle.std.specs.Prelude.{IfSome, OnOk}
use Rattle.td_base.specs.Value.{DotValue}
use Rattle.td_op.specs.declared.reply.Reply.{Reply}
use Rattle.td_op.specs.Op.{OpValue}
use Rattle.td_op.specs.declared.input.Input.TheVariants.{Take, Next}
use Rattle.td_op.specs.declared.message.Message.TheVariants.{Vote as AVote}
use Rattle.td_op.specs.declared.vote.Vote.{Vote}
use Rattle.td_machine.specs.Machine.{Machine}
use Rattle.td_machine.specs.Step.{step}
use Rattle.td_trace.specs.declared.entry.TraceEntry.{TraceEntry}
use Rattle.td_trace.specs.declared.told_input.ToldInput.TheVariants.{TookOp, TookVote, Went}
use Rattle.td_law_replay.specs.Counting.{made_deps}
use Rattle.td_law_replay.specs.Judging.{States, Lost, Steps, judge, judge_next, judge_offer, judge_taken}
use Rattle.td_law_replay.specs.Judging.{made_op}
use Rattle.td_law_replay.specs.Replies.{is_new, taken_of}

pub some_so : {X : Type 0} (P Q : X → Type 0) (found : Option X) → ((x : X) → P x → Q x) → IfSome found P
    → IfSome found Q
some_so P Q None so p = tt
some_so P Q (Some x) so p = so x p

pub on_ok_so : {T E : Type 0} (P Q : Type 0) (result : Result T E) → (P → Q) → OnOk result P → OnOk result Q
on_ok_so P Q (Ok x) so p = so p
on_ok_so P Q (Err e) so p = tt

module _ (all : List (List TraceEntry)) (states : States) (site : ℕ) (m : Machine) (d : DotValue)
    (other : nat_eq d.site site ≡ false)
    (deps : Option (List ℕ)) (op : Option OpValue) (deps_are : deps ≡ made_deps all d) (op_is : op
    ≡ made_op states d) where
  pub offered_is : (reply : Reply)
      → judge_offer deps op (is_new reply) d m ≡ judge all states site m (TookOp d) reply
  offered_is reply =
      ap (λ (v : Option (List ℕ)). judge_offer v op (is_new reply) d m) deps_are
      ∙ ap (λ (x : Option OpValue). judge_offer (made_deps all d) x (is_new reply) d m) op_is
      ∙ sym (ap (λ (b : Bool). if b then Lost else judge_offer (made_deps all d) (made_op states d)
      (is_new reply) d m) other)

  pub taken_is : (reply : Reply) → taken_of reply ≡ Some d → judge_taken deps op m ≡ judge all states site m Went reply
  taken_is reply taken =
      ap (λ (v : Option (List ℕ)). judge_taken v op m) deps_are
      ∙ ap (λ (x : Option OpValue). judge_taken (made_deps all d) x m) op_is
      ∙ sym (ap (λ (b : Bool). if b then Lost else judge_taken (made_deps all d) (made_op states d) m) other)
      ∙ sym (ap (λ (o : Option DotValue). judge_next o all states site m) taken)

-- a vote that is addressed to the site
pub vote_is : (all : List (List TraceEntry)) (states : States) (site : ℕ) (m : Machine) (v : Vote) (reply : Reply)
    → (nat_eq v.voter site || not (nat_eq v.proposal.site site)) ≡ false
    → judge all states site m (TookVote v) reply ≡ Steps (step m (Take (AVote v)))
vote_is all states site m v reply e = ap (λ (b : Bool). if b then Lost else Steps (step m (Take (AVote v)))) e

-- nothing is said to be taken up
pub next_is_idle : (all : List (List TraceEntry)) (states : States) (site : ℕ) (m : Machine) (reply : Reply)
    → taken_of reply ≡ None → judge all states site m Went reply ≡ Steps (step m Next)
next_is_idle all states site m reply none = ap (λ (o : Option DotValue). judge_next o all states site m) none
