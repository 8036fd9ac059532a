use Rattle.std.proofs.Common.{◌≡◌, ◌<◌, ◌-◌, ◌∙◌, ◌++◌, ◌∷◌, ℕ, List, [], length, get_or}
use Rattle.std.proofs.Common.{set, ap, sym, subst, arith, ⊎_elim, Some}
use Rattle.std.proofs.lemmas.List.{append-nil}
use Rattle.td_base.specs.Lists.{In}
use Rattle.td_list.specs.Items.{Item, IsItem, weight_of}
use Rattle.td_list.specs.Index.{Parts, joined, summary, IsIndex}
use Rattle.td_list.proofs.Joined.{all_weight}
use Rattle.td_list.proofs.Changes.{grown_index}
use Rattle.td_list.proofs.Added.{last_free, popped, added_index, added_all}
use Rattle.td_list.proofs.index.Index.begin.Given as given
use Rattle.td_list.proofs.index.Index.begin.Goals as goal
use Rattle.td_list.proofs.index.Index.begin.Goals.{After-index-new, After-grow, After-pop}

-- the number of the new chunk is free
number_free : (g : given.Over) (c : After-index-new g) → In c.index-new.result.now c.spare.new.self.free
number_free g c =
    let p : Parts = c.spare.new.self in
    let free : c.self.inside.free.items ≡ p.free = ap (λ (q : Parts). q.free) c.self.view_is in
    let counted = ap (λ (xs : List ℕ). length xs) free in
    let long : c.len.result ≡ length p.free = omega (arith, c.len.ensures, c.self.inside.free.ok.0) in
    last_free c.self.inside.free.items p.free c.len.result c.index-new.result.now free c.in_ok-spare.ensures.some long
    c.index-new.ensures

-- homes are kept where room was made for more
homes_kept : (g : given.Over) (c : After-grow g) (x : ℕ) → x < length c.spare.new.self.homes
    → (x < length c.grow.new.homes.items)
    × (get_or c.grow.new.homes.items x 0 ≡ get_or c.spare.new.self.homes x 0)
homes_kept g c x h =
    let long = ap (λ (q : Parts). length q.homes) (sym c.self.view_is) in
    let o = c.grow.ensures.old x (subst (λ (n : ℕ). x < n) long h) in
    (o.0, o.1 ∙ ap (λ (q : Parts). get_or q.homes x 0) c.self.view_is)

number_last : (g : given.Over) (c : After-pop g)
    → c.spare.new.self.free ≡ c.pop.new.self.items ++ c.index-new.result.now ∷ []
number_last g c =
    let p : Parts = c.spare.new.self in
    let free : c.self.inside.free.items ≡ p.free = ap (λ (q : Parts). q.free) c.self.view_is in
    let counted = ap (λ (xs : List ℕ). length xs) free in
    let long : c.len.result ≡ length p.free = omega (arith, c.len.ensures, c.self.inside.free.ok.0) in
    let d : ℕ = c.index-new.result.now in
    popped c.self.inside.free.items p.free c.pop.new.self.items c.len.result d c.pop.result free
    c.in_ok-spare.ensures.some long c.index-new.ensures c.pop.ensures.items
    (c.pop.ensures.value d (omega (arith, c.self.inside.free.ok.0, c.in_ok-spare.ensures.some))
    ∙ ap (λ (n : ℕ). Some (get_or c.self.inside.free.items (n - 1) d)) (omega (arith, c.self.inside.free.ok.0)))

-- the order, with the new chunk at its end
order_is : (g : given.Over) (c : After-pop g)
    → g.S.Sequence.items c.push.new.self
    ≡ c.spare.new.self.order ++ summary c.index-new.result.now c.args.piece.now ∷ []
order_is g c =
    c.in_ok-push.ensures.ok
    ∙ (λ i. (c.self.view_is i).order
    ++ (c.summary.ensures ∙ ap (summary c.index-new.result.now) c.in_ok-chunk.ensures) i ∷ [])

pub returns-in_err-grow-clause-index : goal.returns-in_err-grow-clause-index
returns-in_err-grow-clause-index g c =
    let s = (goal.at.returns-in_err-grow-clause-index g c).After-grow in
    let p : Parts = c.spare.new.self in
    subst IsIndex (λ i. record ((sym c.self.view_is) i) { homes = c.grow.new.homes.items })
    (grown_index p c.spare.ensures.index c.grow.new.homes.items (homes_kept g s))

pub returns-in_err-chunk-clause-index : goal.returns-in_err-chunk-clause-index
returns-in_err-chunk-clause-index g c =
    let s = (goal.at.returns-in_err-chunk-clause-index g c).After-grow in
    let p : Parts = c.spare.new.self in
    subst IsIndex (λ i. record ((sym c.self.view_is) i) { homes = c.grow.new.homes.items })
    (grown_index p c.spare.ensures.index c.grow.new.homes.items (homes_kept g s))

pub returns-in_err-push-clause-index : goal.returns-in_err-push-clause-index
returns-in_err-push-clause-index g c =
    let s = (goal.at.returns-in_err-push-clause-index g c).After-grow in
    let p : Parts = c.spare.new.self in
    let order : g.S.Sequence.items c.push.new.self ≡ p.order =
    c.in_err-push.ensures.err ∙ ap (λ (q : Parts). q.order) c.self.view_is in
    subst IsIndex (λ i. record ((sym c.self.view_is) i) { order = sym order i; homes = c.grow.new.homes.items })
    (grown_index p c.spare.ensures.index c.grow.new.homes.items (homes_kept g s))

pub push-requires-clause-new : goal.push-requires-clause-new
push-requires-clause-new g c = λ x m j.
    let p : Parts = c.spare.new.self in
    let free = number_free g (goal.at.push-requires-clause-new g c).After-index-new in
    ⊎_elim
    (λ (e : x ≡ c.summary.result.name).
    (c.spare.ensures.index.unused c.index-new.result.now free).1
    (subst (λ (y : ℕ). IsItem y p.order) (e ∙ ap (λ (i : Item). i.name) c.summary.ensures)
    (subst (λ (q : Parts). IsItem x q.order) c.self.view_is j)))
    (λ (z : ⊥). z) m

pub push-requires-clause-light : goal.push-requires-clause-light
push-requires-clause-light g c =
    let p : Parts = c.spare.new.self in
    let order = ap (λ (q : Parts). weight_of q.order) c.self.view_is in
    let all = all_weight p c.spare.ensures.index in
    let same = ap weight_of c.spare.ensures.all in
    let told = ap (λ (i : Item). i.weight) c.summary.ensures in
    let new = ap weight_of c.in_ok-chunk.ensures in
    omega (arith, c.requires.light)

pub index_mut-requires : goal.index_mut-requires
index_mut-requires g c =
    let u = (c.spare.ensures.index.unused c.index-new.result.now
    (number_free g (goal.at.index_mut-requires g c).After-index-new)).0 in
    let same = ap (λ (q : Parts). length q.chunks) c.self.view_is in
    omega (arith, c.self.inside.chunks.ok.0)

pub returns-clause-index : goal.returns-clause-index
returns-clause-index g c =
    let s = (goal.at.returns-clause-index g c).After-pop in
    let w = (goal.at.returns-clause-index g c).After-grow in
    let p : Parts = c.spare.new.self in
    let d : ℕ = c.index-new.result.now in
    let piece : List Item = c.args.piece.now in
    subst IsIndex
    (λ i. record {
      chunks = set ((sym c.self.view_is i).chunks) d (sym c.in_ok-chunk.ensures i);
      order = sym (order_is g s) i;
      homes = c.settle.new.homes.items;
      free = c.pop.new.self.items;
      room = sym (c.pop.ensures.capacity ∙ ap (λ (q : Parts). q.room) c.self.view_is) i;
    })
    (added_index p c.spare.ensures.index p.order [] (sym (append-nil p.order)) d c.pop.new.self.items
    (number_last g s) piece c.settle.new.homes.items c.requires.some c.requires.apart
    (λ x i j. c.requires.new x i (subst (IsItem x) c.spare.ensures.all j))
    (λ x i.
    (subst (λ (n : ℕ). x < n) (sym c.settle.ensures.length) (c.in_ok-grow.ensures.ok x i), c.settle.ensures.inside x i))
    (λ x h. let o = homes_kept g w x h in
    (subst (λ (n : ℕ). x < n) (sym c.settle.ensures.length) o.0, λ none. c.settle.ensures.outside x none ∙ o.1))
    (let same = ap weight_of c.spare.ensures.all in omega (arith, c.requires.light)))

pub returns-clause-ok : goal.returns-clause-ok
returns-clause-ok g c =
    let s = (goal.at.returns-clause-ok g c).After-pop in
    let p : Parts = c.spare.new.self in
    let d : ℕ = c.index-new.result.now in
    let piece : List Item = c.args.piece.now in
    (λ i. joined (set ((c.self.view_is i).chunks) d (c.in_ok-chunk.ensures i)) (order_is g s i))
    ∙ added_all p c.spare.ensures.index p.order [] (sym (append-nil p.order)) d c.pop.new.self.items (number_last g s)
    piece
    ∙ append-nil (joined p.chunks p.order ++ piece) ∙ ap (λ (q : List Item). q ++ piece) c.spare.ensures.all
