use Rattle.std.proofs.Common.{sym, arith}
use Rattle.std.proofs.lemmas.Result.{err_from_is_err_and}
use Rattle.td_wire.proofs.Loops.{text_taken, atom_end}
use Rattle.td_wire.proofs.reader.Reader.atom.Goals as goal

pub returns-in_err-text : goal.returns-in_err-text
returns-in_err-text c =
    let p = err_from_is_err_and c.from_residual.result c.from_residual.ensures.1 in
    rw (p.1, p.2) (atom_end c.args.len c.in_err-text.field-0.0.left c.args.self.now.rest.now c.in_err-text.ensures)

pub slice_bounds-of-end : goal.slice_bounds-of-end
slice_bounds-of-end c =
    sym (text_taken c.args.len c.args.len c.args.self.now.rest.now c.text.new.self.rest.now
    c.in_ok-text.ensures).atom.len_is

pub of-requires : goal.of-requires
of-requires c =
    let t = text_taken c.args.len c.args.len c.args.self.now.rest.now c.text.new.self.rest.now c.in_ok-text.ensures in
    record { some = omega (arith, t.atom.len_is); short = omega (arith, t.atom.len_is); text = t.atom.text }

pub returns : goal.returns
returns c =
    let t = text_taken c.args.len c.args.len c.args.self.now.rest.now c.text.new.self.rest.now c.in_ok-text.ensures in
    rw c.of.ensures t.read
