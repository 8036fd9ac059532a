use Rattle.std.proofs.Common.{◌≡◌, ◌∙◌, ◌^◌, ◌<◌, sym, subst, ℕ}
use Rattle.td_base.specs.Lists.{In}
use Rattle.td_tree.specs.declared.tree_row.RowState.TheVariants.{InArray}
use Rattle.td_tree.specs.Parts.{state_at, IsAt}
use Rattle.td_tree.proofs.Openings.{leaf_long}
use Rattle.td_tree.proofs.tokens.Tokens.open_to.Goals as goal

pub returns-in-InArray-clause-few : goal.returns-in-InArray-clause-few
returns-in-InArray-clause-few c = λ rs i j d h.
    let p = c.args.self.now in
    let t = c.requires.tree in
    let l = c.leaf_of-leaf in
    let state : state_at p c.args.row ≡ InArray c.in-InArray.array c.in-InArray.index = sym c.state.ensures
    ∙ c.in-InArray.is in
    let at : IsAt p c.args.row (InArray c.in-InArray.array c.in-InArray.index) =
    subst (IsAt p c.args.row) state (t.at c.args.row c.requires.row) in
    c.open_down.ensures.few d
    (subst (λ (n : ℕ). n < 2 ^ d)
    (leaf_long p t c.in-InArray.array l.result.from l.result.len c.in-InArray.index l.ensures.part l.ensures.leaf
    l.ensures.low l.ensures.high rs i (subst (λ (x : ℕ). In x rs) (sym at.2) j)) h)
