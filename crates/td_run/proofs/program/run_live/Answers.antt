use Rattle.std.proofs.Common.{[], ◌∷◌, codes, refl}
use Rattle.td_run.specs.declared.words.Form.TheVariants.{Reads}
use Rattle.td_run.specs.declared.words.Language.TheVariants.{Live}
use Rattle.td_run.proofs.Answering.{ended_answered}
use Rattle.td_run.proofs.program.run_live.Goals as goal

pub returns : goal.returns
returns g c =
    ended_answered g.S.Source g.K.Sink (codes "live" ∷ []) c.args.source.now c.traced.new.source c.args.sink.now
    c.end.new.sink (Reads Live) c.traced.result c.end.result refl c.traced.ensures c.end.ensures
