use Rattle.std.proofs.Common.{◌+◌, ◌-◌, ◌++◌, List, [], ◌∷◌, sym, ap, ◌∙◌, append_assoc, arith}
use Rattle.td_world.specs.declared.post.Post.{Post}
use Rattle.td_world.specs.Parts.{new_posts}
use Rattle.td_world.proofs.Posts.{posts_next}
use Rattle.td_world.proofs.world.post.Goals as goal

pub loop-number-preserved : goal.loop-number-preserved
loop-number-preserved c =
    let k = c.loop-number.number in
    let one : List Post = record { site = c.args.site; number = k + 1 } ∷ [] in (
      ap (λ (l : List Post). l ++ new_posts c.args.site (c.args.after - (k + 1)) (k + 1)) c.push_reserved.ensures.items
          ∙ append_assoc c.loop-number.posts.items one (new_posts c.args.site (c.args.after - (k + 1)) (k + 1))
          ∙ ap (λ (l : List Post). c.loop-number.posts.items ++ l)
          (sym (posts_next c.args.site k c.args.after c.loop-number-test.true))
          ∙ c.loop-number.invariant.0,
      omega (
        arith,
        c.loop-number.invariant.1,
        c.push_reserved.ensures.len,
        c.push_reserved.ensures.capacity,
        c.loop-number-test.true,
      ),
    )
