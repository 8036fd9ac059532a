use Rattle.std.proofs.Common.{◌≡◌, ◌-◌, ◌++◌}
use Rattle.td_world.specs.Parts.{new_posts}
use Rattle.td_world.proofs.opening.post_all.Given as goal

abbrev pub invariant-loop-number : goal.invariant-loop-number
invariant-loop-number l =
    l.posts.items ++ new_posts l.site (l.count - l.number) l.number ≡ l.fn.posts.items ++ new_posts l.site l.count 0
