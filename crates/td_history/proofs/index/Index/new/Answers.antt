use Rattle.std.proofs.Common.{◌≡◌, length, arith, ap, ◌∙◌, sym}
use Rattle.std.proofs.lemmas.List.{length-map, length-replicate}
use Rattle.td_history.proofs.Places.{fits}
use Rattle.td_history.proofs.index.Index.new.Goals as goal

pub invariant_of-result : goal.invariant_of-result
invariant_of-result c =
    let lists = c.loop.lists.items in
    let as_many : length lists ≡ c.loop.counter = sym (length-map lists (λ v. v.items))
    ∙ (ap length c.loop.invariant ∙ length-replicate c.loop.counter _) in
    (omega (arith, as_many, c.loop-test.false), fits _)
