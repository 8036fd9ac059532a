use Rattle.std.proofs.Common.{◌∙◌, sym, ap, arith}
use Rattle.std.specs.Prelude.{Some}
use Rattle.std.specs.Option.{option_map}
use Rattle.td_op.specs.Op.{OpValue}
use Rattle.td_store.proofs.StoredHeads.{kept_at}
use Rattle.td_store.proofs.heads.Heads.deps.Goals as goal

pub deps_at-requires : goal.deps_at-requires
deps_at-requires c =
    let at = kept_at _ _ _ _ c.args.k _ c.self.invariant.kept (rw (← c.self.view_is) at c.requires) c.index-op.ensures
    in
    record { row = at.kept.row; site = rw c.dot.ensures (omega (arith, at.kept.site, c.self.invariant.rows_size)) }

pub returns : goal.returns
returns c =
    let at = kept_at _ _ _ _ c.args.k _ c.self.invariant.kept (rw (← c.self.view_is) at c.requires) c.index-op.ensures
    in
    rw (← c.self.view_is) (ap (option_map (λ (op : OpValue). op.deps)) at.found ∙ ap Some (sym
    (rw c.dot.ensures at c.deps_at.ensures)))
