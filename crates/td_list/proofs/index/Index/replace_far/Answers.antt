use Rattle.std.proofs.Common.{◌≡◌, ◌<◌, ◌≤◌, ◌∙◌, ◌++◌, ℕ, List, length, take, drop}
use Rattle.std.proofs.Common.{sym, subst, ap, arith, append_assoc}
use Rattle.td_list.specs.Items.{Item, IsItem, AreNew}
use Rattle.td_list.specs.Index.{Parts, chunk_at, chunks_before, chunks_after}
use Rattle.td_list.proofs.Joined.{within}
use Rattle.td_list.proofs.Changes.{chunk_light}
use Rattle.td_list.proofs.Reached.{IsFrontOf, last_there, last_kept, far_dropped}
use Rattle.td_list.proofs.index.Index.replace_far.Given as given
use Rattle.td_list.proofs.index.Index.replace_far.Goals as goal
use Rattle.td_list.proofs.index.Index.replace_far.Goals.{After-drop_between, After-take_out}

-- the chunk of the end stays where those between are taken out
end_in : (g : given.Over) (c : After-drop_between g) → IsItem c.args.to.chunk c.drop_between.new.self.order
end_in g c =
    last_there c.args.self.now c.grow.new.self c.requires.index c.args.from.chunk c.requires.chunk
    c.grow.ensures.order c.grow.ensures.chunks c.drop_between.new.self c.drop_between.ensures.kept c.args.to.chunk
    c.requires.later c.drop_between.ensures.index c.drop_between.ensures.order

end_same : (g : given.Over) (c : After-drop_between g)
    → chunk_at c.drop_between.new.self.chunks c.args.to.chunk ≡ chunk_at c.args.self.now.chunks c.args.to.chunk
end_same g c =
    last_kept c.args.self.now c.grow.new.self c.requires.index c.args.from.chunk c.requires.chunk
    c.grow.ensures.order c.grow.ensures.chunks c.drop_between.new.self c.drop_between.ensures.kept c.args.to.chunk
    c.requires.later c.drop_between.ensures.index c.drop_between.ensures.order

-- what is left once the front of it is cut off
left : (g : given.Over) (c : After-take_out g)
    → IsFrontOf c.args.self.now c.args.from.chunk c.take_out.new.self
    (drop c.args.to.place (chunk_at c.args.self.now.chunks c.args.to.chunk)
    ++ chunks_after c.args.to.chunk c.args.self.now)
left g c =
    far_dropped c.args.self.now c.grow.new.self c.requires.index c.args.from.chunk c.requires.chunk
    c.grow.ensures.order c.grow.ensures.chunks c.drop_between.new.self c.drop_between.ensures.kept c.args.to.chunk
    c.requires.later c.drop_between.ensures.index c.drop_between.ensures.order c.args.to.place c.take_out.new.self
    c.take_out.ensures.all c.take_out.ensures.chunks c.take_out.ensures.order

pub front_with-requires-clause-chunk : goal.front_with-requires-clause-chunk
front_with-requires-clause-chunk g c = within c.args.self.now c.requires.index c.args.from.chunk c.requires.chunk

pub front_with-requires-clause-light : goal.front_with-requires-clause-light
front_with-requires-clause-light g c =
    let l = chunk_light c.args.self.now c.requires.index c.args.from.chunk c.requires.chunk in
    omega (arith, c.requires.light)

pub take_out-requires-clause-chunk : goal.take_out-requires-clause-chunk
take_out-requires-clause-chunk g c = end_in g (goal.at.take_out-requires-clause-chunk g c).After-drop_between

pub take_out-requires-clause-to : goal.take_out-requires-clause-to
take_out-requires-clause-to g c =
    let e = ap (λ (xs : List Item). length xs)
    (end_same g (goal.at.take_out-requires-clause-to g c).After-drop_between) in
    omega (arith, c.requires.to)

pub take_out-requires-clause-some : goal.take_out-requires-clause-some
take_out-requires-clause-some g c =
    let e = ap (λ (xs : List Item). length xs)
    (end_same g (goal.at.take_out-requires-clause-some g c).After-drop_between) in
    omega (arith, c.requires.to)

pub place_front-requires-clause-chunk : goal.place_front-requires-clause-chunk
place_front-requires-clause-chunk g c =
    (left g (goal.at.place_front-requires-clause-chunk g c).After-take_out).there

pub place_front-requires-clause-place : goal.place_front-requires-clause-place
place_front-requires-clause-place g c =
    let l = left g (goal.at.place_front-requires-clause-place g c).After-take_out in
    subst (λ (xs : List Item). c.args.from.place ≤ length xs) (sym l.chunk) c.requires.from

pub place_front-requires-clause-is : goal.place_front-requires-clause-is
place_front-requires-clause-is g c =
    let l = left g (goal.at.place_front-requires-clause-is g c).After-take_out in
    c.in_ok-new.ensures ∙ ap (λ (xs : List Item). take c.args.from.place xs ++ c.args.piece.now) (sym l.chunk)

pub place_front-requires-clause-fresh : goal.place_front-requires-clause-fresh
place_front-requires-clause-fresh g c =
    let l = left g (goal.at.place_front-requires-clause-fresh g c).After-take_out in
    subst (AreNew c.args.piece.now)
    (sym (λ i. l.before i ++ take c.args.from.place (l.chunk i) ++ l.after i))
    c.requires.new

pub place_front-requires-clause-room : goal.place_front-requires-clause-room
place_front-requires-clause-room g c = λ x i.
    subst (λ (xs : List ℕ). x < length xs) (sym (c.take_out.ensures.homes ∙ c.drop_between.ensures.homes))
    (c.in_ok-grow.ensures.room x i)

pub place_front-requires-clause-light : goal.place_front-requires-clause-light
place_front-requires-clause-light g c =
    let l = left g (goal.at.place_front-requires-clause-light g c).After-take_out in
    omega (arith, c.requires.light, l.lighter)

pub returns-clause-ok : goal.returns-clause-ok
returns-clause-ok g c =
    let l = left g (goal.at.returns-clause-ok g c).After-take_out in
    let was : Parts = c.args.self.now in
    let ch : ℕ = c.args.from.chunk in
    let behind : List Item =
    drop c.args.to.place (chunk_at was.chunks c.args.to.chunk) ++ chunks_after c.args.to.chunk was in
    c.place_front.ensures.all
    ∙ (λ i. l.before i ++ c.in_ok-new.ensures i ++ l.after i)
    ∙ ap (λ (xs : List Item). xs ++ behind)
    (sym (append_assoc (chunks_before ch was) (take c.args.from.place (chunk_at was.chunks ch)) c.args.piece.now))
