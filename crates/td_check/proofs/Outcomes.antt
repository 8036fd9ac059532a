-- What a judgement comes to, by the reply of the machine.
use Rattle.std.proofs.Common.{◌≡◌, false, sym, ap, ◌∙◌, subst}
use Rattle.td_op.specs.declared.input.Input.TheVariants.{Take}
use Rattle.td_op.specs.declared.message.Message.TheVariants.{Op as AnOp}
use Rattle.td_op.specs.declared.reply.Reply.{Reply}
use Rattle.td_op.specs.Op.{OpValue}
use Rattle.td_machine.specs.Machine.{Machine}
use Rattle.td_machine.specs.Step.{step}
use Rattle.td_machine.specs.Taking.{Stepped}
use Rattle.td_law_replay.specs.Judging.{Steps}
use Rattle.td_law_replay.specs.Replies.{is_new}
use Rattle.td_law_replay.proofs.Judging.{waits_steps}
use Rattle.td_check.specs.Sites.{IsJudged}
use Rattle.td_check.specs.declared.judged.Judged.{Judged}
use Rattle.td_check.specs.declared.judged.Judged.TheVariants as judged

-- the machine after it matters where it is done
pub done_otherwise : (to : Stepped) (reply : Reply) (d : Judged) (m p : Machine)
    → IsJudged (Steps to) reply d m to.machine → (to.reply ≡ reply → p ≡ to.machine) → IsJudged (Steps to) reply d m p
done_otherwise to reply judged.Lost m p is machine = is
done_otherwise to reply judged.Waits m p is machine = absurd (waits_steps to (sym is.0))
done_otherwise to reply judged.Wrong m p is machine = is
done_otherwise to reply judged.Done m p (s, same, answered, fit, after_) machine = (
  s,
  same,
  answered,
  fit,
  machine (ap (λ (x : Stepped). x.reply) (steps_same to s same) ∙ answered)
      ∙ ap (λ (x : Stepped). x.machine) (steps_same to s same),
)
  where
    steps_same : (a b : Stepped) → Steps a ≡ Steps b → a ≡ b
    steps_same a b e = cc

-- an operation that is not new
pub known_judged : (s : Machine) (x y : OpValue) → x ≡ y → (reply answer : Reply) (d : Judged) (p : Machine)
    → answer ≡ (step s (Take (AnOp x))).reply
    → ((m : Machine) (to : Stepped) → to.reply ≡ answer → IsJudged (Steps to) reply d m to.machine)
    → is_new reply ≡ false → (is_new answer ≡ false → p ≡ (step s (Take (AnOp x))).machine)
    → IsJudged (Steps (step s (Take (AnOp y)))) reply d s p
known_judged s x y same reply answer d p answered by other machine =
    subst (λ (z : OpValue). IsJudged (Steps (step s (Take (AnOp z)))) reply d s p) same
    (done_otherwise (step s (Take (AnOp x))) reply d s p (by s (step s (Take (AnOp x))) (sym answered))
    (λ (e : (step s (Take (AnOp x))).reply ≡ reply). machine (ap is_new (answered ∙ e) ∙ other)))
