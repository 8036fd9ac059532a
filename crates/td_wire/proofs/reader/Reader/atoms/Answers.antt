use Rattle.td_wire.proofs.Loops.{ascii_cut}
use Rattle.td_wire.proofs.reader.Reader.atoms.Goals as goal

pub cut-requires-clause-run : goal.cut-requires-clause-run
cut-requires-clause-run c =
    rw c.split_at.ensures.front (ascii_cut c.args.lengths.now c.args.self.now.rest.now c.bytes_together-len.result
    c.bytes_together-len.ensures c.if-len-self.true c.if-is_ascii.ensures.cases
    c.requires.some c.requires.each c.requires.together).run

pub returns-then-is_ascii : goal.returns-then-is_ascii
returns-then-is_ascii c =
    rw (c.split_at.ensures.back, c.cut.ensures, c.split_at.ensures.front)
    (ascii_cut c.args.lengths.now c.args.self.now.rest.now c.bytes_together-len.result c.bytes_together-len.ensures
    c.if-len-self.true c.if-is_ascii.ensures.cases
    c.requires.some c.requires.each c.requires.together).read
