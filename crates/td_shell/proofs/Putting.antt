-- A line that was done, or was not, and what was put of its answer.
use Rattle.std.proofs.Common.{List, ℕ, Result, Ok, Err, refl, subst}
use Rattle.std.specs.Io.KnownBytes.{Appends}
use Rattle.td_disk.specs.declared.disk.Disk as disk
use Rattle.td_doc.specs.declared.doc.Doc as doc
use Rattle.td_io.specs.declared.sink.Sink as sink
use Rattle.td_io.specs.Count.{Rose}
use Rattle.td_io.specs.Whole.{AppendsPart}
use Rattle.td_journal.specs.declared.kept.Kept.{Kept}
use Rattle.td_shell.specs.declared.halt.Halt.{Halt}
use Rattle.td_shell.specs.declared.halt.Halt.TheVariants as Why
use Rattle.td_shell.specs.Answers.{Effect}
use Rattle.td_shell.specs.Staging.{IsLineDone, IsHalted}
use Rattle.td_shell.specs.Talk.{IsLineAnswered, IsUnanswered}

-- an answer of a call that answers a value of any type
abbrev pub done_as : {T : Type 0} → T → Result T Halt
done_as done = Ok done

abbrev pub halted_as : {T : Type 0} → Halt → Result T Halt
halted_as halt = Err halt

module _ {D K W : Type 0} {d : doc.Ghosts D} {w : disk.Ghosts K} (k : sink.Ghosts W) where
  unanswered_by : (old new : Kept D K d w) (at : W) (e : Effect) (halt : Halt) → IsHalted w old new e.replica halt
      → IsUnanswered w k e old new at at halt
  unanswered_by old new at e Why.Write halted = absurd halted
  unanswered_by old new at e Why.Read halted = (refl, halted)
  unanswered_by old new at e Why.Memory halted = (refl, halted)
  unanswered_by old new at e (Why.Full len) halted = (refl, halted)
  unanswered_by old new at e Why.Disk halted = (refl, halted)

  -- it was not done, and nothing was put
  pub not_answered : {T : Type 0} (old new : Kept D K d w) (at : W) (e : Effect) (halt : Halt)
      → IsLineDone w old new e (Err halt) → IsLineAnswered w k e old new at at (halted_as {T = T} halt)
  not_answered old new at e halt done =
      record {
        replica = tt;
        kept = tt;
        put = tt;
        halted = unanswered_by old new at e halt done.halted;
        counts = done.counts;
        place = done.place;
        any_moment = done.any_moment;
      }

  -- it was done, and its answer put
  pub answered_whole : {T : Type 0} (old new : Kept D K d w) (before after : W) (e : Effect) (text : List ℕ)
      (unit : T) → IsLineDone w old new e (Ok text) → Appends (k.held before) (k.held after) text
      → IsLineAnswered w k e old new before after (done_as unit)
  answered_whole old new before after e text unit done put =
      record {
        replica = done.replica;
        kept = done.kept;
        put = subst (λ (xs : List ℕ). Appends (k.held before) (k.held after) xs) done.text put;
        halted = tt;
        counts = done.counts;
        place = done.place;
        any_moment = done.any_moment;
      }

  -- or a part of it
  pub answered_partly : {T : Type 0} (old new : Kept D K d w) (before after : W) (e : Effect) (text : List ℕ)
      → IsLineDone w old new e (Ok text) → AppendsPart (k.held before) (k.held after) text
      → Rose (k.faults before) (k.faults after)
      → IsLineAnswered w k e old new before after (halted_as {T = T} Why.Write)
  answered_partly old new before after e text done part rose =
      record {
        replica = tt;
        kept = tt;
        put = tt;
        halted = (
          done.replica,
          done.kept,
          rose,
          subst (λ (xs : List ℕ). AppendsPart (k.held before) (k.held after) xs) done.text part,
        );
        counts = done.counts;
        place = done.place;
        any_moment = done.any_moment;
      }
