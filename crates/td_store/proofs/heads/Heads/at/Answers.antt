use Rattle.std.proofs.Common.{◌∙◌, sym, ap, arith}
use Rattle.std.specs.Prelude.{Some}
use Rattle.td_store.proofs.StoredHeads.{kept_at}
use Rattle.td_store.proofs.heads.Heads.at.Goals as goal

pub deps_at-deps-requires : goal.deps_at-deps-requires
deps_at-deps-requires c =
    let at = kept_at _ _ _ _ c.args.k _ c.self.invariant.kept (rw (← c.self.view_is) at c.requires) c.index-op.ensures
    in
    record { row = at.kept.row; site = rw c.dot-dot.ensures (omega (arith, at.kept.site, c.self.invariant.rows_size)) }

pub of-requires : goal.of-requires
of-requires c =
    let at = kept_at _ _ _ _ c.args.k _ c.self.invariant.kept (rw (← c.self.view_is) at c.requires) c.index-op.ensures
    in
    rw (c.deps_at-deps.ensures, c.dot-dot.ensures, c.body.ensures) at.kept.op

pub returns : goal.returns
returns c =
    let at = kept_at _ _ _ _ c.args.k _ c.self.invariant.kept (rw (← c.self.view_is) at c.requires) c.index-op.ensures
    in
    rw (← c.self.view_is) (at.found ∙ ap Some (sym
    (rw (c.deps_at-deps.ensures, c.dot-dot.ensures, c.body.ensures) at c.of.ensures)))
