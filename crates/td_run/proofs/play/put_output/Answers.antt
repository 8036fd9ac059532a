use Rattle.std.proofs.Common.{◌≡◌, ℕ, List, [], sym, subst, refl, arith}
use Rattle.std.proofs.KnownBytes.{Appends-nil}
use Rattle.td_script.specs.declared.command.Command.{Command}
use Rattle.td_run.specs.Printing.{Printed, PrintsAll, own_text, start_of, taken_text}
use Rattle.td_run.proofs.Commands.{no_command}
use Rattle.td_world.proofs.Cuts.{err_always}
use Rattle.td_run.proofs.Onward.{output_is}
use Rattle.td_run.proofs.play.put_output.Goals as goal

pub returns-then-script-eq0-clause-put : goal.returns-then-script-eq0-clause-put
returns-then-script-eq0-clause-put g c =
    let n : ℕ = c.args.script.now.sites in
    let start : Printed = start_of n in
    let none : c.args.script.now.commands ≡ [] =
    no_command n c.args.script.now.commands c.requires c.if-script-eq0.true in (
      [],
      output_is c.args.script.now start
          (subst (λ (all : List Command). PrintsAll own_text start all start) (sym none) refl)
          (subst (λ (all : List Command). PrintsAll taken_text start all start) (sym none) refl)
          (λ some. absurd (omega (arith, some, c.if-script-eq0.true))),
      Appends-nil (g.K.Sink.held c.args.sink.now),
    )

pub returns-clause-put : goal.returns-clause-put
returns-clause-put g c =
    let p = c.in_ok-play.ensures.played in
    (p.end.text, record { end = p.end; played = p.played; text = refl }, p.put)

pub returns-in_err-play-clause-halted : goal.returns-in_err-play-clause-halted
returns-in_err-play-clause-halted g c = err_always _ (c.in_err-play.ensures.halted c.requires)
