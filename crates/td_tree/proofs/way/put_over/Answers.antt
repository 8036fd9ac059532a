use Rattle.std.proofs.Common.{◌≡◌, ◌<◌, ◌+◌, ◌++◌, ◌∷◌, ◌∙◌, ℕ, zero, suc, List, [], length}
use Rattle.std.proofs.Common.{take, drop, set, refl, sym, ap, arith, append_assoc}
use Rattle.td_list.specs.Items.{Item}
use Rattle.td_tree.proofs.way.put_over.Goals as goal

-- the last of the items that stay in front is another
set_last : (k : ℕ) (items rest : List Item) (x : Item) → k < length items → set (take (suc k) items ++ rest) k x
    ≡ take k items ++ x ∷ rest
set_last k [] rest x l = absurd (omega arith)
set_last zero (i ∷ items) rest x l = refl
set_last (suc k) (i ∷ items) rest x l = ap (λ (is : List Item). i ∷ is) (set_last k items rest x (omega arith))

pub returns : goal.returns
returns c =
    let k : ℕ = c.args.place in
    let items : List Item = c.args.items.now.items in
    let others : List Item = c.args.others.now in
    let put : c.put_each.new.items.items ≡ take (suc k) items ++ (others ++ drop (k + 1) items) =
    c.put_each.ensures ∙ ap (λ (q : List Item). take (k + 1) q ++ others ++ drop (k + 1) q) c.reserve.ensures.items
    ∙ append_assoc (take (k + 1) items) others (drop (k + 1) items)
    ∙ ap (λ (n : ℕ). take n items ++ (others ++ drop (k + 1) items)) (up k) in
    ap (λ (q : List Item). set q k c.args.first) put
    ∙ set_last k items (others ++ drop (k + 1) items) c.args.first c.requires
    ∙ sym (append_assoc (take k items) (c.args.first ∷ others) (drop (k + 1) items))
  where
    up : (k : ℕ) → k + 1 ≡ suc k
    up k = omega arith
