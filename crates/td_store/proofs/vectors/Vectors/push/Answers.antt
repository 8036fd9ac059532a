use Rattle.std.proofs.Common.{◌≡◌, ◌++◌, ◌∙◌, ap, sym, add-one}
use Rattle.td_store.specs.Lists.{VectorsValue}
use Rattle.td_store.proofs.StoredRows.{rows_push}
use Rattle.td_store.proofs.vectors.Vectors.push.Goals as goal

pub returns-clause-rows : goal.returns-clause-rows
returns-clause-rows c =
    let numbers : c.extend_from_slice.new.self.items ≡ c.self.inside.numbers.items
    ++ c.args.vector.now = rw (c.unwrap.ensures, c.numbers.ensures.numbers) at c.extend_from_slice.ensures.items in
    rw (numbers, add-one, ← c.self.view_is) (rows_push c.self.inside.size c.self.inside.len
    c.self.inside.numbers.items c.args.vector.now c.self.invariant.whole
    (c.requires.size ∙ sym (ap (λ (v : VectorsValue). v.size) c.self.view_is)))
