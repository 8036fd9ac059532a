use Rattle.std.proofs.Common.{◌+◌, ◌-◌, arith}
use Rattle.std.proofs.lemmas.Result.{err_from_is_err_and}
use Rattle.td_wire.specs.Reading.{text_at}
use Rattle.td_wire.proofs.Loops.{begins, text_step, text_ends, text_done}
use Rattle.td_wire.proofs.reader.Reader.text.Goals as goal

pub loop-left-init : goal.loop-left-init
loop-left-init c = record {
  short = omega arith;
  read = begins (λ k. c.args.len - c.args.len + k) (text_at c.args.len c.args.len c.args.self.now.rest.now)
      (λ k. omega arith);
}

pub returns-in_err-left : goal.returns-in_err-left
returns-in_err-left c =
    let p = err_from_is_err_and c.from_residual.result c.from_residual.ensures.1 in
    rw (p.1, p.2) (text_ends c.args.len c.loop-left.left c.in_err-left.field-0.0.left c.loop-left.self.rest.now _
    c.loop-left-test.true c.in_err-left.ensures.read c.loop-left.invariant.read)

pub loop-left-preserved : goal.loop-left-preserved
loop-left-preserved c = record {
  short = omega arith;
  read = text_step c.args.len c.loop-left.left c.in_ok-left.field-0 c.loop-left.self.rest.now
      c.character.new.self.rest.now _ c.loop-left-test.true c.loop-left.invariant.short
      c.in_ok-left.ensures.read c.loop-left.invariant.read;
}

pub returns : goal.returns
returns c = text_done c.args.len c.loop-left.left c.loop-left.self.rest.now _ c.loop-left-test.false
    c.loop-left.invariant.read
