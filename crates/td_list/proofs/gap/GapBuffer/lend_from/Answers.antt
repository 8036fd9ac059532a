use Rattle.std.proofs.Common.{◌≡◌, ◌-◌, ◌<◌, ◌≤◌, ◌∙◌, ℕ, List, take, drop, length, ap, sym, subst, arith}
use Rattle.std.proofs.Common.{length-drop}
use Rattle.std.proofs.lemmas.List.{length-take-le}
use Rattle.td_list.specs.Items.{Item}
use Rattle.td_list.specs.Buffered.{halves}
use Rattle.td_list.proofs.Halves.{below, long, one_behind}
use Rattle.td_list.proofs.gap.GapBuffer.lend_from.Goals as goal

one_lent : (items whole : List Item) (from to place n : ℕ) → from < length items → to - from ≡ 1 → n ≡ from
    → take 1 (drop n items) ≡ take 1 (drop place whole)
    → take (to - from) (drop from items) ≡ take (length (take (to - from) (drop from items))) (drop place whole)
one_lent items whole from to place n l one e same =
    let k : length (take 1 (drop from items)) ≡ 1 =
    length-take-le 1 (drop from items) (let d = length-drop from items in omega arith) in
    ap (λ (m : ℕ). take m (drop from items)) one ∙ ap (λ (m : ℕ). take 1 (drop m items)) (sym e) ∙ same
    ∙ ap (λ (m : ℕ). take m (drop place whole)) (sym k)
    ∙ ap (λ (m : ℕ). take (length (take m (drop from items))) (drop place whole)) (sym one)

pub returns-else-place-len-clause-part : goal.returns-else-place-len-clause-part
returns-else-place-len-clause-part c =
    let front = c.self.inside.front.items in
    let back = c.self.inside.back.items in
    let h : length front ≤ c.args.place = omega (arith, c.if-place-len.false, c.len.ensures) in
    let l : c.args.place < length (halves front back) = subst (λ (xs : List Item). c.args.place < length xs)
    (sym c.self.view_is) c.requires in
    let b = below front back c.args.place h l in
    let whole = long front back c.args.place h l in
    let lent = c.deref-else-place-len.result.now in
    let to : ℕ = c.len-else-place-len.result - (c.args.place - c.len-else-place-len-2.result) in
    let is : lent ≡ back = c.deref-else-place-len.ensures.value in
    let n : ℕ = length back - 1 - (c.args.place - length front) in
    let long = ap (λ (xs : List Item). length xs) is in
    let e : n ≡ to - 1 = omega (arith, c.len-else-place-len.ensures, c.len-else-place-len-2.ensures) in
    one_lent lent c.args.self.now (to - 1) to c.args.place n (omega arith)
    (omega (
      arith,
      c.len-else-place-len.ensures,
      c.len-else-place-len-2.ensures,
      c.self.inside.front.ok.0,
      c.self.inside.back.ok.0,
      c.if-place-len.false,
      c.len.ensures,
    )) e
    (ap (λ (xs : List Item). take 1 (drop n xs)) is ∙ one_behind front back c.args.place h l
    ∙ ap (λ (xs : List Item). take 1 (drop c.args.place xs)) c.self.view_is)
