use Rattle.std.proofs.Common.{◌≡◌, ◌∙◌, ◌+◌, ◌++◌, ℕ, List, ap, arith, drop, subst, suc, sym, take}
use Rattle.std.specs.List.{concat, flat_map}
use Rattle.td_rope.specs.Units.{IsIndexOf, width}
use Rattle.td_rope.proofs.Joined.{at_part, joined_more, length_more, more_within}
use Rattle.td_rope.proofs.Offsets.{index_inside}
use Rattle.td_rope.proofs.Sizes.{width_both}
use Rattle.td_rope.proofs.seat.index_of.Goals as goal

pub overflow_add-result : goal.overflow_add-result
overflow_add-result g c =
    let within = more_within g.P.Part.atoms c.args.parts.now c.loop-part.part-index c.part-item.result c.loop-part.start
    c.loop-part-test.true c.part-item.is c.loop-part.invariant.0 in
    omega (arith, c.requires, c.index_of.ensures.within, within)

pub returns-then-rest-width : goal.returns-then-rest-width
returns-then-rest-width g c =
    let f = g.P.Part.atoms in
    let ps = c.args.parts.now in
    let i = c.loop-part.part-index in
    let d = c.part-item.result in
    let lt = c.loop-part-test.true in
    let unit = c.args.unit in
    let a : List (List ℕ) = flat_map f (take i ps) in
    let b : List (List ℕ) = flat_map f (drop (suc i) ps) in
    let parted : flat_map f ps ≡ a ++ (f d ++ b) =
    at_part f ps i d lt ∙ ap (λ p. a ++ (f p ++ b)) (sym c.part-item.is) in
    let short = c.width_in-width.ensures ∙ c.size-size.ensures.widths unit in
    subst (λ (k : ℕ). IsIndexOf unit (flat_map f ps) c.args.offset (k + c.index_of.result))
    (sym c.loop-part.invariant.0)
    (index_inside unit (flat_map f ps) a (f d) b c.loop-part.rest c.args.offset c.index_of.result parted
    c.index_of.ensures (omega (arith, c.if-rest-width.true, short)) c.loop-part.invariant.1)

pub overflow_add-start : goal.overflow_add-start
overflow_add-start g c =
    let within = more_within g.P.Part.atoms c.args.parts.now c.loop-part.part-index c.part-item.result c.loop-part.start
    c.loop-part-test.true c.part-item.is c.loop-part.invariant.0 in
    omega (arith, c.requires, c.size-size.ensures.count, within)

pub loop-part-preserved : goal.loop-part-preserved
loop-part-preserved g c =
    let f = g.P.Part.atoms in
    let ps = c.args.parts.now in
    let i = c.loop-part.part-index in
    let d = c.part-item.result in
    let lt = c.loop-part-test.true in
    let unit = c.args.unit in
    let start = c.loop-part.start in
    let a : List (List ℕ) = flat_map f (take i ps) in
    let wide = c.width_in-width.ensures ∙ c.size-size.ensures.widths unit in
    let more : width unit (concat (flat_map f (take (i + 1) ps))) ≡ width unit (concat a) + width unit (concat (f d)) =
    ap (λ (xs : List (List ℕ)). width unit (concat xs)) (joined_more f ps i d lt c.part-item.is)
    ∙ width_both unit a (f d) in (
      ap (λ n. start + n) c.size-size.ensures.count ∙ length_more f ps i d start lt c.part-item.is
          c.loop-part.invariant.0,
      omega (arith, wide, more, c.loop-part.invariant.1, c.if-rest-width.false),
    )
