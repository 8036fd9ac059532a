use Rattle.std.proofs.Common.{◌∙◌, Result, Ok, Err, ap, refl, subst, sym}
use Rattle.td_op.specs.declared.input.Input.TheVariants.{Take}
use Rattle.td_op.specs.declared.message.Message.{Message}
use Rattle.td_session.specs.Calls.{IsCall}
use Rattle.td_session.proofs.session.Session.receive.Goals as goal

-- the message that was read, or m
abbrev read_or : {F : Type 0} → Message → Result Message F → Message
read_or m (Ok k) = k
read_or m (Err e) = m

pub returns-in-Ok : goal.returns-in-Ok
returns-in-Ok c = record {
  message = λ m spelled. subst
      (λ (k : Message). IsCall (Take k) c.args.self.now c.step.result c.step.new.self)
      (ap (read_or m) (sym c.in-Ok.is ∙ c.decode.ensures.only m spelled)) c.step.ensures;
  other = λ none. absurd (none c.in-Ok.message c.in-Ok.ensures.found);
}

pub returns-in-Err : goal.returns-in-Err
returns-in-Err c = record {
  message = λ m spelled. absurd (c.in-Err.ensures.malformed m spelled);
  other = λ none. (c.in-Err.fault.at, c.in-Err.ensures.at, (refl, refl));
}
