use Rattle.std.proofs.Common.{ap, sym, ◌∙◌, refl}
use Rattle.std.proofs.lemmas.Result.{err_from_is_err_and}
use Rattle.td_wire.specs.Reading.{atoms_at}
use Rattle.td_wire.proofs.Exact.{ok}
use Rattle.td_wire.proofs.Loops.{atoms_step, atoms_end, atoms_cut}
use Rattle.td_wire.proofs.reader.Reader.texts.Goals as goal

pub loop-len-init : goal.loop-len-init
loop-len-init c = refl

pub returns-in_err-text : goal.returns-in_err-text
returns-in_err-text c =
    let p = err_from_is_err_and c.from_residual.result c.from_residual.ensures.1 in
    rw (p.1, p.2) (atoms_end c.args.lengths.now c.loop-len.len-index c.in_err-text.field-0.0.left
    c.loop-len.self.rest.now (atoms_at c.args.lengths.now c.args.self.now.rest.now) c.loop-len-test.true
    c.in_err-text.ensures c.loop-len.invariant)

pub loop-len-preserved : goal.loop-len-preserved
loop-len-preserved c =
    atoms_step c.args.lengths.now c.loop-len.len-index _ c.loop-len.self.rest.now c.text.new.self.rest.now _
    c.loop-len-test.true c.in_ok-text.ensures c.loop-len.invariant

pub overflow_sub-end : goal.overflow_sub-end
overflow_sub-end c =
    (atoms_cut c.args.lengths.now c.loop-len.len-index c.args.self.now.rest.now c.loop-len.self.rest.now
    c.loop-len-test.false c.requires.some c.requires.each c.requires.together c.loop-len.invariant).within

pub cut-requires-clause-whole : goal.cut-requires-clause-whole
cut-requires-clause-whole c =
    (atoms_cut c.args.lengths.now c.loop-len.len-index c.args.self.now.rest.now c.loop-len.self.rest.now
    c.loop-len-test.false c.requires.some c.requires.each c.requires.together c.loop-len.invariant).whole

pub cut-requires-clause-run : goal.cut-requires-clause-run
cut-requires-clause-run c =
    (atoms_cut c.args.lengths.now c.loop-len.len-index c.args.self.now.rest.now c.loop-len.self.rest.now
    c.loop-len-test.false c.requires.some c.requires.each c.requires.together c.loop-len.invariant).run

pub returns : goal.returns
returns c =
    (atoms_cut c.args.lengths.now c.loop-len.len-index c.args.self.now.rest.now c.loop-len.self.rest.now
    c.loop-len-test.false c.requires.some c.requires.each c.requires.together c.loop-len.invariant).read
    ∙ ap (λ a. ok (a, c.loop-len.self.rest.now)) (sym c.cut.ensures)
