use Rattle.std.proofs.Common.{◌≡◌, ◌<◌, ◌∙◌, [], get_or, sym, subst, refl, inl, inr, ⊎_elim, arith}
use Rattle.td_tree.specs.Parts.{Parts, rows_with, IsTree, AreInLast, IsSameTree}
use Rattle.td_tree.proofs.GivenBack.{given_back}
use Rattle.td_tree.proofs.tokens.Tokens.give_arrays_back.Goals as goal

pub returns : goal.returns
returns c =
    let p : Parts = record {
      items = c.self.inside.list;
      rows = rows_with c.self.inside.rows.entries c.self.inside.states.items;
      arrays = c.self.inside.arrays.items;
      nodes = c.self.inside.nodes;
      count = c.self.inside.count;
    } in
    let q : Parts = record {
      items = c.self.inside.list;
      rows = rows_with c.self.inside.rows.entries c.self.inside.states.items;
      arrays = c.empty.new.arrays.items;
      nodes = c.self.inside.nodes;
      count = c.self.inside.count;
    } in
    let len = c.len.ensures ∙ c.self.inside.arrays.ok.0 in
    let last = c.saturating_sub-last.ensures in
    subst (λ (x : Parts). IsSameTree x q) c.self.view_is
    (given_back p q (subst IsTree (sym c.self.view_is) c.requires.tree) refl refl refl refl c.empty.ensures.long
    (λ a. ⊎_elim (λ (s : get_or c.empty.new.arrays.items a [] ≡ get_or c.self.inside.arrays.items a []). inl s)
    (λ (n : (a < c.saturating_sub-last.result) × (get_or c.empty.new.arrays.items a [] ≡ [])). let low = n.0 in
    inr (omega arith, n.1)) (c.empty.ensures.each a))
    (subst AreInLast (sym c.self.view_is) c.requires.last))
