use Rattle.td_seat.specs.Counted.{count_all, told_deps}
use Rattle.td_seat.proofs.counted.Counted.deps.Goals as goal

pub returns : goal.returns
returns c = λ site n entries h. c.deps.ensures site n (count_all site n entries).have (told_deps site n entries) h.ops
