use Rattle.std.proofs.Common.{refl, subst}
use Rattle.td_run.specs.Words.{IsFormOf, IsReading}
use Rattle.td_run.specs.declared.words.Form.TheVariants.{Reads, Gen}
use Rattle.td_run.specs.declared.words.Language.TheVariants.{Kept, Trace}
use Rattle.td_run.proofs.Answering.{ended_answered, generated_answers, other_answered, played_answered}
use Rattle.td_run.proofs.program.run_plain.Goals as goal

pub returns-in-Some-Reads-Play : goal.returns-in-Some-Reads-Play
returns-in-Some-Reads-Play g c =
    played_answered g.S.Source g.K.Sink c.args.words.now c.args.source.now c.played.new.source c.args.sink.now
    c.played.new.sink c.played.result
    (subst (IsReading c.args.words.now) c.in-Some-Reads-Play.field-0-0-is
    (subst (IsFormOf c.args.words.now) c.in-Some-Reads-Play.field-0-is c.in-Some-Reads-Play.ensures.some))
    c.played.ensures

pub returns-in-Some-Reads-Kept : goal.returns-in-Some-Reads-Kept
returns-in-Some-Reads-Kept g c =
    ended_answered g.S.Source g.K.Sink c.args.words.now c.args.source.now c.crashed.new.source c.args.sink.now
    c.end.new.sink (Reads Kept) c.crashed.result c.end.result
    (subst (IsReading c.args.words.now) c.in-Some-Reads-Kept.field-0-0-is
    (subst (IsFormOf c.args.words.now) c.in-Some-Reads-Kept.field-0-is c.in-Some-Reads-Kept.ensures.some))
    c.crashed.ensures c.end.ensures

pub returns-in-Some-Reads-Trace : goal.returns-in-Some-Reads-Trace
returns-in-Some-Reads-Trace g c =
    ended_answered g.S.Source g.K.Sink c.args.words.now c.args.source.now c.judged.new.source c.args.sink.now
    c.end-in-Some-Reads-Trace.new.sink (Reads Trace) c.judged.result c.end-in-Some-Reads-Trace.result
    (subst (IsReading c.args.words.now) c.in-Some-Reads-Trace.field-0-0-is
    (subst (IsFormOf c.args.words.now) c.in-Some-Reads-Trace.field-0-is c.in-Some-Reads-Trace.ensures.some))
    c.judged.ensures c.end-in-Some-Reads-Trace.ensures

pub returns-in-Some-Gen : goal.returns-in-Some-Gen
returns-in-Some-Gen g c =
    ended_answered g.S.Source g.K.Sink c.args.words.now c.args.source.now c.args.source.now c.args.sink.now
    c.end-in-Some-Gen.new.sink (Gen c.in-Some-Gen.size c.in-Some-Gen.number) c.summary.result c.end-in-Some-Gen.result
    (subst (IsFormOf c.args.words.now) c.in-Some-Gen.field-0-is c.in-Some-Gen.ensures.some)
    (generated_answers g.S.Source c.args.source.now c.in-Some-Gen.size c.in-Some-Gen.number c.summary.result
    c.summary.ensures.answer c.summary.ensures.read)
    c.end-in-Some-Gen.ensures

pub returns-in-Some-Reads-Live : goal.returns-in-Some-Reads-Live
returns-in-Some-Reads-Live g c = absurd (c.requires
    (subst (IsReading c.args.words.now) c.in-Some-Reads-Live.field-0-0-is
    (subst (IsFormOf c.args.words.now) c.in-Some-Reads-Live.field-0-is c.in-Some-Reads-Live.ensures.some)))

pub returns-in-None : goal.returns-in-None
returns-in-None g c =
    other_answered g.S.Source g.K.Sink c.args.words.now c.args.source.now c.args.source.now c.args.sink.now
    c.put.new.sink c.put.result c.in-None.ensures.none refl c.put.ensures
