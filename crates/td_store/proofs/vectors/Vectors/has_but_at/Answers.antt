use Rattle.std.proofs.Common.{◌≡◌, ◌+◌, ◌-◌, ◌*◌, arith, ℕ}
use Rattle.td_store.proofs.StoredRows.{count_rows, row_at}
use Rattle.td_store.proofs.vectors.Vectors.has_but_at.Goals as goal

pub returns : goal.returns
returns c = λ same.
    let size : ℕ = c.self.inside.size in
    let start : ℕ = c.args.k * size in
    let wide : start + size - start ≡ size = omega arith in
    let found = c.are_same_but_at.ensures same in
    let rows = row_at size c.self.inside.len c.args.k c.self.inside.numbers.items c.if-k-self.false in
    let site = c.place.ensures.place in
    rw (← c.self.view_is, rows) (
      rw (wide, c.deref.ensures.value, c.numbers.ensures.numbers, c.place.ensures.place) at
          found,
      omega (arith, count_rows size c.self.inside.len c.self.inside.numbers.items),
    )
