use Rattle.std.proofs.Common.{◌≡◌, ◌<◌, ◌+◌, ◌∷◌, [], drop, subst, ◌∙◌, arith}
use Rattle.std.proofs.lemmas.List.{drop_more, drop_all}
use Rattle.td_base.specs.declared.bit.Bit.TheVariants.{Left, Right}
use Rattle.td_path.specs.Shape.{Bits}
use Rattle.td_path.proofs.ArrayShape.{FoundAfter, found_left, found_right, found_here}
use Rattle.td_path.proofs.shape.shape_index.Goals as goal
use Rattle.td_path.proofs.shape.shape_index.Goals.{in-Left, in-Right}

pub loop-bit-preserved : goal.loop-bit-preserved
loop-bit-preserved c =
    let bits = c.args.bits.now in
    let i = c.loop-bit.bit-index in
    let some : 0 < c.loop-bit.count = omega arith in
    elim c.match-bit.branch [
      | in-Left w ↦
          let next : drop i bits ≡ Left ∷ drop (i + 1) bits =
          drop_more bits i Left (omega (arith, c.loop-bit-test.true)) ∙ (λ k. w.in-Left.is k ∷ drop (i + 1) bits) in
          rw (w.before-is, w.count-is)
          (found_left c.args.k bits c.loop-bit.before c.loop-bit.count (drop (i + 1) bits)
          (subst (λ (rest : Bits). FoundAfter c.args.k bits c.loop-bit.before c.loop-bit.count rest) next
          c.loop-bit.invariant) some)
      | in-Right w ↦
          let next : drop i bits ≡ Right ∷ drop (i + 1) bits =
          drop_more bits i Left (omega (arith, c.loop-bit-test.true))
          ∙ (λ k. w.in-Right.is k ∷ drop (i + 1) bits) in
          rw (w.before-is, w.count-is)
          (found_right c.args.k bits c.loop-bit.before c.loop-bit.count (drop (i + 1) bits)
          (subst (λ (rest : Bits). FoundAfter c.args.k bits c.loop-bit.before c.loop-bit.count rest) next
          c.loop-bit.invariant) some)
    ]

pub returns-then-count-gt0 : goal.returns-then-count-gt0
returns-then-count-gt0 c =
    let bits = c.args.bits.now in
    let end : drop c.loop-bit.bit-index bits ≡ [] = drop_all c.loop-bit.bit-index bits (omega arith) in
    found_here c.args.k bits c.loop-bit.before c.loop-bit.count
    (subst (λ (rest : Bits). FoundAfter c.args.k bits c.loop-bit.before c.loop-bit.count rest) end
    c.loop-bit.invariant) (omega arith)
