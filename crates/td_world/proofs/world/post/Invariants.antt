use Rattle.std.proofs.Common.{◌≡◌, ◌≤◌, ◌+◌, ◌-◌, ◌++◌, vec_len, vec_capacity}
use Rattle.td_world.specs.Parts.{new_posts}
use Rattle.td_world.proofs.world.post.Given as goal

abbrev pub invariant-loop-number : goal.invariant-loop-number
invariant-loop-number l =
    (l.posts.items ++ new_posts l.site (l.after - l.number) l.number
    ≡ l.fn.posts.items ++ new_posts l.site (l.after - l.before) l.before)
    × (vec_len l.posts + (l.after - l.number) ≤ vec_capacity l.posts)
