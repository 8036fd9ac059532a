use Rattle.std.proofs.Common.{◌≡◌, ◌<◌, ◌^◌, ◌∙◌, ◌++◌, ℕ, List, take, drop, set, ap, sym, subst}
use Rattle.td_list.specs.Items.{Item, renew, weight_of}
use Rattle.td_list.specs.Index.{Parts, chunk_at, joined, summary, IsIndex}
use Rattle.td_list.proofs.Joined.{within, changed_all, changed_weight}
use Rattle.td_list.proofs.Changes.{cut_index, cut_light, read_was, read_new}
use Rattle.td_list.proofs.index.Index.take_out.Given as given
use Rattle.td_list.proofs.index.Index.take_out.Goals as goal
use Rattle.td_list.proofs.index.Index.take_out.Goals.{After-summary}

-- what is left of the chunk
abbrev left : Parts → ℕ → ℕ → ℕ → List Item
left p chunk from to = take from (chunk_at p.chunks chunk) ++ drop to (chunk_at p.chunks chunk)

new_is : (g : given.Over) (c : After-summary g)
    → c.take_out.new.self ≡ left c.args.self.now c.args.chunk c.args.from c.args.to
new_is g c =
    let p : Parts = c.args.self.now in
    let same : c.self.inside.chunks.items ≡ p.chunks = ap (λ (q : Parts). q.chunks) c.self.view_is in
    c.take_out.ensures
    ∙ ap (λ (q : List Item). take c.args.from q ++ drop c.args.to q)
    (read_was c.self.inside.chunks.items p.chunks c.args.chunk c.index_mut.result.now same c.index_mut.ensures.value
    (within p c.requires.index c.args.chunk c.requires.chunk))

-- what the order is told of it
told : (g : given.Over) (c : After-summary g)
    → c.summary.result ≡ summary c.args.chunk (left c.args.self.now c.args.chunk c.args.from c.args.to)
told g c =
    let p : Parts = c.args.self.now in
    let same : c.self.inside.chunks.items ≡ p.chunks = ap (λ (q : Parts). q.chunks) c.self.view_is in
    c.summary.ensures
    ∙ ap (summary c.args.chunk)
    (read_new c.self.inside.chunks.items p.chunks c.args.chunk c.take_out.new.self c.index.result.now same c.index.ensures
    (within p c.requires.index c.args.chunk c.requires.chunk)
    ∙ new_is g c)

pub renew-requires-clause-light : goal.renew-requires-clause-light
renew-requires-clause-light g c =
    let s = (goal.at.renew-requires-clause-light g c).After-summary in
    let p : Parts = c.args.self.now in
    subst (λ (n : ℕ). n < 2 ^ 31)
    (sym
    ((λ i. weight_of (renew (told g s i) (c.self.view_is i).order))
    ∙ changed_weight p c.requires.index c.args.chunk c.requires.chunk (left p c.args.chunk c.args.from c.args.to)))
    (cut_light p c.requires.index c.args.chunk c.requires.chunk c.args.from c.args.to c.requires.from)

pub returns-clause-index : goal.returns-clause-index
returns-clause-index g c =
    let s = (goal.at.returns-clause-index g c).After-summary in
    let p : Parts = c.args.self.now in
    let order = c.renew.ensures ∙ (λ i. renew (told g s i) (c.self.view_is i).order) in
    subst IsIndex
    (λ i. record {
      chunks = set ((sym c.self.view_is i).chunks) c.args.chunk (sym (new_is g s) i);
      order = sym order i;
      homes = (sym c.self.view_is i).homes;
      free = (sym c.self.view_is i).free;
      room = (sym c.self.view_is i).room;
    })
    (cut_index p c.requires.index c.args.chunk c.requires.chunk c.args.from c.args.to c.requires.from c.requires.to
    c.requires.some)

pub returns-clause-all : goal.returns-clause-all
returns-clause-all g c =
    let s = (goal.at.returns-clause-all g c).After-summary in
    let p : Parts = c.args.self.now in
    let order = c.renew.ensures ∙ (λ i. renew (told g s i) (c.self.view_is i).order) in
    (λ i. joined (set ((c.self.view_is i).chunks) c.args.chunk (new_is g s i)) (order i))
    ∙ changed_all p c.requires.index c.args.chunk c.requires.chunk (left p c.args.chunk c.args.from c.args.to)

pub returns-clause-chunks : goal.returns-clause-chunks
returns-clause-chunks g c =
    let s = (goal.at.returns-clause-chunks g c).After-summary in
    λ i. set ((c.self.view_is i).chunks) c.args.chunk (new_is g s i)

pub returns-clause-order : goal.returns-clause-order
returns-clause-order g c =
    let s = (goal.at.returns-clause-order g c).After-summary in
    c.renew.ensures ∙ (λ i. renew (told g s i) (c.self.view_is i).order)
