use Rattle.std.proofs.Common.{Err, ℕ, List, ap, refl, subst}
use Rattle.std.specs.Prelude.{IfOk}
use Rattle.td_io.specs.declared.fault.ReadFault.{ReadFault}
use Rattle.td_run.specs.declared.answer.Stop.TheVariants.{Read as Unread, Memory as NoMemory}
use Rattle.td_run.specs.declared.words.Language.TheVariants.{Play}
use Rattle.td_run.specs.Answering.{IsPlayedOr}
use Rattle.td_run.proofs.Answering.{long_answered, long_script, put_at_once, script_answered_to, unmade_answered}
use Rattle.td_run.proofs.Answering.{unread_answered}
use Rattle.td_run.proofs.reading.played.Goals as goal

pub returns-in-Ok : goal.returns-in-Ok
returns-in-Ok g c =
    let p = c.played_or_refused.ensures in
    record {
      answer = p.answer;
      is = script_answered_to g.S.Source c.args.source.now c.read_all.new.source c.in-Ok.input p.answer
          c.read_all.ensures.turns c.in-Ok.ensures.all c.in-Ok.ensures.ended
          (subst (λ (input : List ℕ). IfOk p.answer (λ a. IsPlayedOr Play input a.status a.bytes)) c.as_slice.ensures
          p.is)
          p.read;
      ended = p.ended;
    }

pub returns-in-Err-Failed : goal.returns-in-Err-Failed
returns-in-Err-Failed g c = record {
  answer = Err Unread;
  is = unread_answered g.S.Source Play c.args.source.now c.read_all.new.source c.read_all.ensures.turns
      (c.in-Err-Failed.ensures.failed (ap (λ (e : ReadFault). Err e) c.in-Err-Failed.field-0-is));
  ended = (refl, refl);
}

pub returns-in-Err-TooLong : goal.returns-in-Err-TooLong
returns-in-Err-TooLong g c = record {
  answer = c.refused.result;
  is = long_answered g.S.Source Play c.args.source.now c.read_all.new.source
      (c.in-Err-TooLong.ensures.too_long (ap (λ (e : ReadFault). Err e) c.in-Err-TooLong.field-0-is))
      c.read_all.ensures.turns c.refused.result long_script c.refused.ensures.answer c.refused.ensures.read;
  ended = put_at_once g.K.Sink c.refused.result c.args.sink.now c.end.new.sink c.end.result c.end.ensures;
}

pub returns-in-Err-Memory : goal.returns-in-Err-Memory
returns-in-Err-Memory g c = record {
  answer = Err NoMemory;
  is = unmade_answered g.S.Source Play c.args.source.now c.read_all.new.source c.read_all.ensures.turns;
  ended = (refl, refl);
}
