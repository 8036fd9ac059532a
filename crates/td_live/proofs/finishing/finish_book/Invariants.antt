use Rattle.std.proofs.Common.{◌≡◌, true, suc, if◌then◌else◌}
use Rattle.td_world.specs.World.{family_of, size}
use Rattle.td_world.specs.Promises.{NobodyReady}
use Rattle.td_live.specs.Following.{HasNothingLeft}
use Rattle.td_live.specs.Books.{GoesFurther}
use Rattle.td_live.specs.Finishing.{steps_left}
use Rattle.td_live.proofs.finishing.finish_book.Given as goal

abbrev pub invariant-loop-over : goal.invariant-loop-over
invariant-loop-over g l = record {
  further : GoesFurther (family_of l.fn.world) l.fn.book (family_of l.world) l.book;
  size : size l.world ≡ size l.fn.world;
  over : l.over ≡ true → HasNothingLeft l.book.rest;
  nobody : NobodyReady l.fn.world → NobodyReady l.world;
}

abbrev pub decreases-loop-over : goal.decreases-loop-over
decreases-loop-over g l = if l.over then 0 else suc (steps_left l.book.rest)
