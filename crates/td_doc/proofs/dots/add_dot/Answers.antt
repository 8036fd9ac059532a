use Rattle.std.proofs.Common.{List, slice_get, sym, ap, ◌∙◌}
use Rattle.std.specs.List.{position_or_len}
use Rattle.std.specs.Ordering.{is_le}
use Rattle.td_base.specs.Value.{DotValue}
use Rattle.td_base.specs.Order.{dot_cmp}
use Rattle.td_doc.proofs.Deletes.{there}
use Rattle.td_doc.proofs.dots.add_dot.Goals as goal

pub returns-then-is_at-clause-ok : goal.returns-then-is_at-clause-ok
returns-then-is_at-clause-ok c =
    let dot = c.args.dot in
    let dots = c.args.dots.now.items in
    let place = c.place_of-place.ensures.value ∙ ap
    (λ (q : List DotValue). position_or_len (λ (d : DotValue). is_le (dot_cmp dot d)) q) c.deref.ensures.value in
    let here = c.is_at.ensures.0 c.if-is_at.true in
    there dot dots (ap (slice_get dots) (sym place)
    ∙ ap (λ (q : List DotValue). slice_get q c.place_of-place.result) (sym c.deref-2.ensures.value) ∙ here)
