use Rattle.std.proofs.Common.{◌≡◌, ◌<◌, ◌+◌, ◌-◌, ◌*◌, ◌∙◌, sym, arith, ℕ}
use Rattle.std.proofs.lemmas.Option.{get_or_from_slice_get}
use Rattle.td_store.proofs.StoredRows.{count_rows, row_at}
use Rattle.td_store.proofs.vectors.Vectors.at.Goals as goal

pub slice_bounds-of-end : goal.slice_bounds-of-end
slice_bounds-of-end c =
    let within : c.args.k < c.self.inside.len = rw
    (← c.self.view_is, count_rows c.self.inside.size c.self.inside.len c.self.inside.numbers.items) at c.requires in
    grind (arith, within)

pub returns-clause-row : goal.returns-clause-row
returns-clause-row c =
    let size : ℕ = c.self.inside.size in
    let start : ℕ = c.args.k * size in
    let wide : start + size - start ≡ size = omega arith in
    let within : c.args.k < c.self.inside.len = rw
    (← c.self.view_is, count_rows size c.self.inside.len c.self.inside.numbers.items) at c.requires in
    let row = row_at size c.self.inside.len c.args.k c.self.inside.numbers.items within in
    rw (← c.self.view_is) (c.of.ensures ∙ rw (wide, c.deref.ensures.value)
    (sym (get_or_from_slice_get _ c.args.k _ _ row)))
