use Rattle.std.proofs.Common.{Err, Ok, refl, subst, inl, inr, ⊎_elim}
use Rattle.td_script.specs.Answers.{IsScriptFault}
use Rattle.td_run.specs.declared.answer.Stop.TheVariants.{Memory as NoMemory}
use Rattle.td_run.specs.declared.status.Status.TheVariants.{Done}
use Rattle.td_run.proofs.Answering.{put_at_once, refused_is}
use Rattle.td_run.proofs.reading.played_or_refused.Goals as goal

pub returns-in-Ok : goal.returns-in-Ok
returns-in-Ok g c =
    let p = c.play_out.ensures in
    record {
      answer = Ok (record { status = Done; bytes = p.0 });
      is = (c.in-Ok.script, c.in-Ok.ensures.ok, p.1);
      read = λ e. absurd cc;
      ended = ⊎_elim (λ put. inl put) (λ halted. inr (halted.0, refl, halted.1)) p.2;
    }

pub returns-in-Err-Fault : goal.returns-in-Err-Fault
returns-in-Err-Fault g c = record {
  answer = c.refused.result;
  is = refused_is c.args.input.now c.in-Err-Fault.line c.in-Err-Fault.kind c.refused.result
      (subst (IsScriptFault c.args.input.now) c.in-Err-Fault.field-0-is c.in-Err-Fault.ensures.fault)
      c.refused.ensures.answer;
  read = c.refused.ensures.read;
  ended = put_at_once g.K.Sink c.refused.result c.args.sink.now c.end.new.sink c.end.result c.end.ensures;
}

pub returns-in-Err-Memory : goal.returns-in-Err-Memory
returns-in-Err-Memory g c = record {
  answer = Err NoMemory;
  is = tt;
  read = λ e. absurd cc;
  ended = (refl, refl);
}
