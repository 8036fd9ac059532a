use Rattle.std.proofs.Common.{◌≡◌, ◌+◌, ℕ, ◌++◌, ◌∷◌, [], ap, sym, ◌∙◌, arith}
use Rattle.std.proofs.lemmas.List.FromFn.{map-range_with_len_more}
use Rattle.td_run.specs.Marking.{no_marks}
use Rattle.td_run.proofs.marking.new_marks.Goals as goal

pub loop-place-preserved : goal.loop-place-preserved
loop-place-preserved c =
    let n : ℕ = c.args.sites in
    let place : ℕ = c.loop-place.place in
    let one : c.new.result ≡ no_marks n (place + 1) = c.new.ensures ∙ ap (no_marks n) c.at.ensures in
    record {
      made = c.in_ok-push.ensures.items ∙ (λ i. c.loop-place.invariant.made i ++ one i ∷ [])
          ∙ sym (map-range_with_len_more (no_marks n) 1 place (place + 1) (omega arith));
    }
