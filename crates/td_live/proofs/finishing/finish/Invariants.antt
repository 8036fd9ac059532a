use Rattle.std.proofs.Common.{◌≤◌, length}
use Rattle.std.specs.List.{AllByRecursion}
use Rattle.td_world.specs.World.{family_of, size}
use Rattle.td_world.specs.Promises.{NobodyReady}
use Rattle.td_live.specs.Books.{BookValue}
use Rattle.td_live.specs.Finishing.{IsFinishing}
use Rattle.td_live.proofs.finishing.finish.Given as goal

abbrev pub invariant-loop-alloc : goal.invariant-loop-alloc
invariant-loop-alloc g l = record {
  homes : AllByRecursion (λ (b : BookValue). b.home ≤ size l.world) l.books.items;
  finishing : IsFinishing (family_of l.fn.world) l.fn.books.items (family_of l.world) l.logs.items l.books.items;
  nobody : NobodyReady l.fn.world → NobodyReady l.world;
}

abbrev pub decreases-loop-alloc : goal.decreases-loop-alloc
decreases-loop-alloc g l = length l.books.items
