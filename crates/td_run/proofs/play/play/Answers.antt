use Rattle.std.proofs.Common.{◌≡◌, ◌≤◌, ◌+◌, ℕ, List, [], length, drop, get_or, ap, sym, subst, ◌∙◌, arith}
use Rattle.std.specs.Prelude.{All}
use Rattle.std.proofs.Math.ListN.{drop_of_length-le}
use Rattle.std.proofs.lemmas.List.FromFn.{length-map-range_with_len}
use Rattle.std.proofs.lemmas.List.Elements.{All-get_or}
use Rattle.td_script.specs.declared.command.Command.{Command}
use Rattle.td_world.specs.Promises.{IsPromised}
use Rattle.td_world.proofs.Beginnings.{new_is_world}
use Rattle.td_world.proofs.Replicas.{new_length}
use Rattle.td_run.specs.Printing.{Printed, PrintsAll, own_text, start_of, taken_text}
use Rattle.td_run.specs.Sites.{MayStand}
use Rattle.td_world.proofs.Cuts.{err_always}
use Rattle.td_run.proofs.UnderWay.{IsUnderWay, begins, ends, halts, none_halts, none_out, none_put, one_more}
use Rattle.td_run.proofs.play.play.Goals as goal

pub loop-command-init : goal.loop-command-init
loop-command-init g c =
    let n : ℕ = c.args.script.now.sites in
    record {
      way = begins n c.as_slice-commands.result.now (g.K.Sink.held c.args.sink.now) c.in_ok-player.player
          c.in_ok-player.ensures (new_length n n 1) (length-map-range_with_len _ 1 n)
          (λ are. new_is_world n c.requires.some c.requires.few);
      count = omega arith;
    }

pub perform-requires-clause-marks : goal.perform-requires-clause-marks
perform-requires-clause-marks g c =
    c.loop-command.invariant.way.marks ∙ sym c.loop-command.invariant.way.same

pub perform-requires-clause-stands : goal.perform-requires-clause-stands
perform-requires-clause-stands g c =
    let n : ℕ = c.args.script.now.sites in
    let commands : List Command = c.as_slice-commands.result.now in
    let command : Command = c.command-item.result in
    let stands : MayStand n (get_or commands c.loop-command.command-index command) =
    All-get_or (MayStand n) commands c.loop-command.command-index command c.loop-command-test.true
    (subst (All (MayStand n)) (sym c.as_slice-commands.ensures) c.requires.each) in
    subst (λ (k : ℕ). MayStand k command) (sym c.loop-command.invariant.way.same)
    (subst (MayStand n) (sym c.command-item.is) stands)

pub loop-command-preserved : goal.loop-command-preserved
loop-command-preserved g c =
    let n : ℕ = c.args.script.now.sites in
    let held = g.K.Sink.held in
    record {
      way = one_more n c.as_slice-commands.result.now (held c.args.sink.now) (held c.loop-command.sink)
          (held c.put_piece.new.sink) c.loop-command.player c.perform.new.player c.put_piece.new.self
          c.loop-command.command-index c.command-item.result c.loop-command-test.true c.command-item.is
          c.in_ok-perform.ensures.own c.in_ok-perform.ensures.taken c.in_ok-put_piece.ensures.ok
          c.loop-command.invariant.way;
      count = omega (arith, c.loop-command.invariant.count, c.put_piece.ensures.count);
    }

pub returns-clause-played : goal.returns-clause-played
returns-clause-played g c =
    let n : ℕ = c.args.script.now.sites in
    let commands : List Command = c.as_slice-commands.result.now in
    let left : List Command = drop c.loop-command.command-index commands in
    let past : length commands ≤ c.loop-command.command-index = omega (arith, c.loop-command-test.false) in
    let none : left ≡ [] = drop_of_length-le commands past in
    let e = ends n commands left (g.K.Sink.held c.args.sink.now) (g.K.Sink.held c.loop-command.sink)
    c.loop-command.player
    none c.loop-command.invariant.way in
    let new = c.in_ok-put_rest.ensures.new in
    record {
      end = e.0;
      played = record {
        own = subst (λ (all : List Command). PrintsAll own_text (start_of n) all e.0) c.as_slice-commands.ensures e.1;
        taken = subst (λ (all : List Command). PrintsAll taken_text (start_of n) all e.0) c.as_slice-commands.ensures
            e.2;
        promises = λ some. subst IsPromised (ap (λ (p : Printed). p.world) new ∙ sym e.3) c.keeps_promises.ensures;
      };
      world_is = ap (λ (p : Printed). p.world) (c.player-2.view_is ∙ new) ∙ sym e.3;
      put = e.4 (g.K.Sink.held c.put_rest.new.sink) c.in_ok-put_rest.ensures.ok;
    }

pub returns-in_err-player-clause-halted : goal.returns-in_err-player-clause-halted
returns-in_err-player-clause-halted g c =
    err_always _ (none_halts c.args.script.now (g.K.Sink.held c.args.sink.now))

pub returns-in_err-perform-clause-halted : goal.returns-in_err-perform-clause-halted
returns-in_err-perform-clause-halted g c =
    let commands : List Command = c.as_slice-commands.result.now in
    let left : List Command = drop c.loop-command.command-index commands in
    let before = g.K.Sink.held c.args.sink.now in
    let now = g.K.Sink.held c.loop-command.sink in
    let held : Printed = c.loop-command.player in
    err_always _ (halts c.args.script.now left before now now held (none_put now held.text)
    (subst (λ (all : List Command). IsUnderWay c.args.script.now.sites all left before now held)
    c.as_slice-commands.ensures c.loop-command.invariant.way))

pub returns-in_err-put_piece-clause-halted : goal.returns-in_err-put_piece-clause-halted
returns-in_err-put_piece-clause-halted g c =
    let n : ℕ = c.args.script.now.sites in
    let commands : List Command = c.as_slice-commands.result.now in
    let left : List Command = drop (c.loop-command.command-index + 1) commands in
    let before = g.K.Sink.held c.args.sink.now in
    let now = g.K.Sink.held c.loop-command.sink in
    let next : Printed = c.perform.new.player in
    let way = one_more n commands before now now c.loop-command.player next next c.loop-command.command-index
    c.command-item.result c.loop-command-test.true c.command-item.is c.in_ok-perform.ensures.own
    c.in_ok-perform.ensures.taken (none_out now next) c.loop-command.invariant.way in
    err_always _ (halts c.args.script.now left before now (g.K.Sink.held c.put_piece.new.sink) next
    c.in_err-put_piece.ensures.part
    (subst (λ (all : List Command). IsUnderWay n all left before now next) c.as_slice-commands.ensures way))

pub returns-in_err-put_rest-clause-halted : goal.returns-in_err-put_rest-clause-halted
returns-in_err-put_rest-clause-halted g c =
    let commands : List Command = c.as_slice-commands.result.now in
    let left : List Command = drop c.loop-command.command-index commands in
    let before = g.K.Sink.held c.args.sink.now in
    let now = g.K.Sink.held c.loop-command.sink in
    let held : Printed = c.loop-command.player in
    err_always _ (halts c.args.script.now left before now (g.K.Sink.held c.put_rest.new.sink) held
    c.in_err-put_rest.ensures.part
    (subst (λ (all : List Command). IsUnderWay c.args.script.now.sites all left before now held)
    c.as_slice-commands.ensures c.loop-command.invariant.way))
