-- What there is room for where a leaf is opened, and where it stands.
use Rattle.std.proofs.Common.{◌+◌, ◌<◌, ◌≤◌, ◌^◌, List, [], ◌∷◌, length, arith, length-append}
use Rattle.td_base.specs.Lists.{In}
use Rattle.td_base.proofs.Lists.{In-map}
use Rattle.td_list.specs.Items.{Item}
use Rattle.td_brackets.specs.Brackets.{Token, Open, Atom, Close, Leaf, numbers_at, numbers_of}
use Rattle.td_tree.specs.Parts.{Parts, tokens, nodes_of, open_count, IsTree}
use Rattle.td_tree.proofs.Lists.{PartedAt, parted_at}
use Rattle.td_tree.proofs.Trees.{one_item}

pub nodes_few : (ts : List Token) → nodes_of ts ≤ length (numbers_of ts)
nodes_few [] = omega arith
nodes_few (t ∷ ts) =
    let ih = nodes_few ts in
    let long = length-append (numbers_at t) (numbers_of ts) in
    let one = at_most t in
    omega arith
  where
    at_most : (t : Token) → open_count t ≤ length (numbers_at t)
    at_most (Open r) = omega arith
    at_most (Atom r) = omega arith
    at_most (Close r) = omega arith
    at_most (Leaf rs) = omega arith

-- there is a number for one more node
pub more_nodes : (p : Parts) → IsTree p → p.nodes + 1 < 2 ^ 32
more_nodes p t =
    let few = nodes_few (tokens p) in
    let c = t.counted in
    let f = t.few in
    let m = t.most in
    omega arith

pub parted_tree : (p : Parts) → IsTree p → (i : Item) → In i p.items → PartedAt i p.items
parted_tree p t i m = parted_at i p.items t.apart (λ j k e. one_item p.items t.apart j i k m e)
    (In-map (λ (j : Item). j.name) i p.items m)
