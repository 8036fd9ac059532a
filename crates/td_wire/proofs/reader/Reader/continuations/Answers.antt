use Rattle.std.proofs.Common.{◌≡◌, ◌+◌, ◌-◌, arith}
use Rattle.std.proofs.lemmas.Result.{err_from_is_err_and}
use Rattle.td_wire.specs.Reading.{continuations_at}
use Rattle.td_wire.proofs.Loops.{begins, continues_step, continues_end, continues_done}
use Rattle.td_wire.proofs.reader.Reader.continuations.Goals as goal

pub loop-init : goal.loop-init
loop-init c =
    let all : c.args.count - 0 ≡ c.args.count = omega arith in
    rw all (begins (λ k. 0 + k) (continuations_at c.args.count c.args.least c.args.most c.args.self.now.rest.now)
    (λ k. omega arith))

pub returns-in_err-byte : goal.returns-in_err-byte
returns-in_err-byte c =
    let p = err_from_is_err_and c.from_residual.result c.from_residual.ensures.1 in
    rw (p.1, p.2) (continues_end c.args.count c.loop.counter c.loop.least c.loop.most c.in_err-byte.field-0.0.left
    c.loop.self.rest.now _ c.loop-test.true c.in_err-byte.ensures c.loop.invariant)

pub loop-preserved : goal.loop-preserved
loop-preserved c =
    continues_step c.args.count c.loop.counter c.loop.least c.loop.most _ c.loop.self.rest.now
    c.byte.new.self.rest.now _ c.loop-test.true c.in_ok-byte.ensures c.loop.invariant

pub returns : goal.returns
returns c = continues_done c.args.count c.loop.counter c.loop.least c.loop.most c.loop.self.rest.now _
    c.loop-test.false (omega arith) c.loop.invariant
