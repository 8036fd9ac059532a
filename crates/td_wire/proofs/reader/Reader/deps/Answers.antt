use Rattle.std.proofs.Common.{◌≡◌, ℕ, List, ◌+◌, ◌-◌, ◌++◌, Ok, Err, length, take, subst, sym, ap, ◌∙◌, arith}
use Rattle.std.specs.Prelude.{slice_set}
use Rattle.std.proofs.lemmas.Result.{err_from_is_err_and}
use Rattle.std.proofs.lemmas.List.{length-set}
use Rattle.td_wire.specs.Reading.{number_at, dep_least, dep_most, deps_at}
use Rattle.td_wire.proofs.Loops.{mapped, deps_step, deps_end, deps_done}
use Rattle.td_wire.proofs.reader.Reader.deps.Goals as goal

pub returns-in_err-known : goal.returns-in_err-known
returns-in_err-known c =
    let p = err_from_is_err_and c.from_residual.result c.from_residual.ensures.1 in
    let i : ℕ = c.loop-i.i in
    let read : number_at (dep_least c.args.own (i + 1)) (dep_most c.args.own (i + 1)) c.loop-i.numbers.rest.now
    ≡ Err c.in_err-known.field-0.0.left =
    rw (← c.dep_range-least.ensures.least, ← c.dep_range-least.ensures.most) c.in_err-known.ensures in
    rw (p.1, p.2) (deps_end c.args.own c.loop-i.deps c.args.n i c.in_err-known.field-0.0.left
    c.loop-i.numbers.rest.now _ c.loop-i-test.true read c.loop-i.invariant.read)

pub loop-i-preserved : goal.loop-i-preserved
loop-i-preserved c =
    let i : ℕ = c.loop-i.i in
    let site : c.at.result ≡ i + 1 = c.at.ensures in
    let place : c.at.result - 1 ≡ i = omega (arith, site) in
    let set : c.set.new.self ≡ slice_set c.loop-i.deps i c.in_ok-known.known =
    c.set.ensures ∙ ap (λ n. slice_set c.loop-i.deps n c.from.result) place
    ∙ ap (slice_set c.loop-i.deps i) c.from.ensures in
    let read : number_at (dep_least c.args.own (i + 1)) (dep_most c.args.own (i + 1)) c.loop-i.numbers.rest.now
    ≡ Ok (c.in_ok-known.known, c.number.new.self.rest.now) =
    rw (← c.dep_range-least.ensures.least, ← c.dep_range-least.ensures.most) c.in_ok-known.ensures in
    record {
      size = ap length set ∙ length-set c.loop-i.deps i c.in_ok-known.known ∙ c.loop-i.invariant.size;
      read = subst (λ (v : List ℕ). mapped (λ ds. take (i + 1) v ++ ds)
          (deps_at c.args.own (i + 1 + 1) (c.args.n - (i + 1)) c.number.new.self.rest.now)
          ≡ deps_at c.args.own 1 c.args.n c.args.self.now.rest.now) (sym set)
          (deps_step c.args.own c.loop-i.deps c.args.n i c.in_ok-known.known c.loop-i.numbers.rest.now
          c.number.new.self.rest.now _ c.loop-i-test.true c.loop-i.invariant.size read c.loop-i.invariant.read);
    }

pub returns : goal.returns
returns c = deps_done c.args.own c.loop-i.deps c.args.n c.loop-i.i c.loop-i.numbers.rest.now _ c.loop-i-test.false
    c.loop-i.invariant.size c.loop-i.invariant.read
