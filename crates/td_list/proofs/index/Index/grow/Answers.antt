use Rattle.std.proofs.Common.{◌<◌, ◌∙◌, get_or, ℕ, length, ap, sym, subst}
use Rattle.td_list.specs.Index.{Parts, IsIndex}
use Rattle.td_list.proofs.Changes.{grown_index}
use Rattle.td_list.proofs.index.Index.grow.Goals as goal

pub returns-clause-index : goal.returns-clause-index
returns-clause-index g c =
    subst IsIndex (λ i. record {
      chunks = (sym c.self.view_is i).chunks;
      order = (sym c.self.view_is i).order;
      homes = c.grow.new.homes.items;
      free = (sym c.self.view_is i).free;
      room = (sym c.self.view_is i).room;
    })
    (grown_index c.args.self.now c.requires.index c.grow.new.homes.items
    (λ x h. let o = c.grow.ensures.old x (subst (λ (n : ℕ). x < n)
    (ap (λ (q : Parts). length q.homes) (sym c.self.view_is)) h) in
    (o.0, o.1 ∙ ap (λ (q : Parts). get_or q.homes x 0) c.self.view_is)))
