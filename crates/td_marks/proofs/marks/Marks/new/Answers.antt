use Rattle.td_marks.proofs.Parts.{new_parts}
use Rattle.td_marks.proofs.marks.Marks.new.Goals as goal

pub invariant_of-result : goal.invariant_of-result
invariant_of-result c =
    rw (c.new.ensures, c.new-2.ensures.items) (new_parts c.args.site c.args.n c.new-3.result c.number.ensures.least
    c.requires.site)
