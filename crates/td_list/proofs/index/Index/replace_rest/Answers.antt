use Rattle.std.proofs.Common.{◌<◌, ◌≤◌, ◌∙◌, ◌++◌, ℕ, List, [], length, take, sym, subst, ap, arith, append_assoc}
use Rattle.std.proofs.lemmas.List.{append-nil}
use Rattle.td_list.specs.Items.{Item, AreNew}
use Rattle.td_list.specs.Index.{Parts, chunk_at, chunks_before}
use Rattle.td_list.proofs.Joined.{within}
use Rattle.td_list.proofs.Changes.{chunk_light}
use Rattle.td_list.proofs.Reached.{IsFrontOf, rest_dropped}
use Rattle.td_list.proofs.index.Index.replace_rest.Given as given
use Rattle.td_list.proofs.index.Index.replace_rest.Goals as goal
use Rattle.td_list.proofs.index.Index.replace_rest.Goals.{After-drop_between}

-- what is left once the chunks behind the one of the place are taken out
left : (g : given.Over) (c : After-drop_between g)
    → IsFrontOf c.args.self.now c.args.from.chunk c.drop_between.new.self []
left g c =
    rest_dropped c.args.self.now c.grow.new.self c.requires.index c.args.from.chunk c.requires.chunk
    c.grow.ensures.order c.grow.ensures.chunks c.drop_between.new.self c.drop_between.ensures.kept
    c.drop_between.ensures.order

pub front_with-requires-clause-chunk : goal.front_with-requires-clause-chunk
front_with-requires-clause-chunk g c = within c.args.self.now c.requires.index c.args.from.chunk c.requires.chunk

pub front_with-requires-clause-light : goal.front_with-requires-clause-light
front_with-requires-clause-light g c =
    let l = chunk_light c.args.self.now c.requires.index c.args.from.chunk c.requires.chunk in
    omega (arith, c.requires.light)

pub place_front-requires-clause-chunk : goal.place_front-requires-clause-chunk
place_front-requires-clause-chunk g c =
    (left g (goal.at.place_front-requires-clause-chunk g c).After-drop_between).there

pub place_front-requires-clause-place : goal.place_front-requires-clause-place
place_front-requires-clause-place g c =
    let l = left g (goal.at.place_front-requires-clause-place g c).After-drop_between in
    subst (λ (xs : List Item). c.args.from.place ≤ length xs) (sym l.chunk) c.requires.from

pub place_front-requires-clause-is : goal.place_front-requires-clause-is
place_front-requires-clause-is g c =
    let l = left g (goal.at.place_front-requires-clause-is g c).After-drop_between in
    c.in_ok-new.ensures ∙ ap (λ (xs : List Item). take c.args.from.place xs ++ c.args.piece.now) (sym l.chunk)

pub place_front-requires-clause-fresh : goal.place_front-requires-clause-fresh
place_front-requires-clause-fresh g c =
    let l = left g (goal.at.place_front-requires-clause-fresh g c).After-drop_between in
    let was : Parts = c.args.self.now in
    let ch : ℕ = c.args.from.chunk in
    subst (AreNew c.args.piece.now)
    (sym ((λ i. l.before i ++ take c.args.from.place (l.chunk i) ++ l.after i)
    ∙ append-nil (chunks_before ch was ++ take c.args.from.place (chunk_at was.chunks ch))))
    c.requires.new

pub place_front-requires-clause-room : goal.place_front-requires-clause-room
place_front-requires-clause-room g c = λ x i.
    subst (λ (xs : List ℕ). x < length xs) (sym c.drop_between.ensures.homes) (c.in_ok-grow.ensures.room x i)

pub place_front-requires-clause-light : goal.place_front-requires-clause-light
place_front-requires-clause-light g c =
    let l = left g (goal.at.place_front-requires-clause-light g c).After-drop_between in
    omega (arith, c.requires.light, l.lighter)

pub returns-clause-ok : goal.returns-clause-ok
returns-clause-ok g c =
    let l = left g (goal.at.returns-clause-ok g c).After-drop_between in
    let was : Parts = c.args.self.now in
    let ch : ℕ = c.args.from.chunk in
    c.place_front.ensures.all
    ∙ (λ i. l.before i ++ c.in_ok-new.ensures i ++ l.after i)
    ∙ append-nil (chunks_before ch was ++ (take c.args.from.place (chunk_at was.chunks ch) ++ c.args.piece.now))
    ∙ sym (append_assoc (chunks_before ch was) (take c.args.from.place (chunk_at was.chunks ch)) c.args.piece.now)
