use Rattle.std.proofs.Common.{◌≡◌, ◌<◌, ◌-◌, ◌^◌, ◌∙◌, ◌++◌, ◌∷◌, ℕ, List, [], length, get_or, set}
use Rattle.std.proofs.Common.{take, drop, ap, sym, subst, arith, ⊎_elim, Some}
use Rattle.td_base.specs.Lists.{In}
use Rattle.td_list.specs.Items.{Item, IsItem, put_before, renew, weight_of}
use Rattle.td_list.specs.Index.{Parts, chunk_at, joined, summary, IsIndex}
use Rattle.td_list.proofs.Names.{item_in_front}
use Rattle.td_list.proofs.Joined.{within, homed, all_weight}
use Rattle.td_list.proofs.Changes.{read_was, read_new, chunk_light}
use Rattle.td_list.proofs.Added.{last_free, popped}
use Rattle.td_list.proofs.Splits.{Parting, side_weight, first, second, order_one, order_two, there_one}
use Rattle.td_list.proofs.Splits.{there_two, two_light, three_light, three_is, split_index, split_all}
use Rattle.td_list.proofs.index.Index.split.Given as given
use Rattle.td_list.proofs.index.Index.split.Goals as goal
use Rattle.td_list.proofs.index.Index.split.Goals.{After-index-new, After-summary}

-- the number of the new chunk is free
number_free : (g : given.Over) (c : After-index-new g) → In c.index-new.result.now c.spare.new.self.free
number_free g c =
    let p : Parts = c.spare.new.self in
    let free : c.self.inside.free.items ≡ p.free = ap (λ (q : Parts). q.free) c.self.view_is in
    let counted = ap (λ (xs : List ℕ). length xs) free in
    let long : c.len.result ≡ length p.free = omega (arith, c.len.ensures, c.self.inside.free.ok.0) in
    last_free c.self.inside.free.items p.free c.len.result c.index-new.result.now free c.in_ok-spare.ensures.some long
    c.index-new.ensures

-- the chunk as it was
was : (g : given.Over) (c : After-summary g)
    → c.index_mut.result.now ≡ chunk_at c.spare.new.self.chunks c.args.chunk
was g c =
    let p : Parts = c.spare.new.self in
    let there : IsItem c.args.chunk p.order =
    subst (IsItem c.args.chunk) (sym c.spare.ensures.order) c.requires.chunk in
    let same : c.self.inside.chunks.items ≡ p.chunks = ap (λ (q : Parts). q.chunks) c.self.view_is in
    read_was c.self.inside.chunks.items p.chunks c.args.chunk c.index_mut.result.now same c.index_mut.ensures.value
    (within p c.spare.ensures.index c.args.chunk there)

number_last : (g : given.Over) (c : After-summary g)
    → c.spare.new.self.free ≡ c.pop.new.self.items ++ c.index-new.result.now ∷ []
number_last g c =
    let p : Parts = c.spare.new.self in
    let free : c.self.inside.free.items ≡ p.free = ap (λ (q : Parts). q.free) c.self.view_is in
    let counted = ap (λ (xs : List ℕ). length xs) free in
    let long : c.len.result ≡ length p.free = omega (arith, c.len.ensures, c.self.inside.free.ok.0) in
    let d : ℕ = c.index-new.result.now in
    popped c.self.inside.free.items p.free c.pop.new.self.items c.len.result d c.pop.result free
    c.in_ok-spare.ensures.some long c.index-new.ensures c.pop.ensures.items
    (c.pop.ensures.value d (omega (arith, c.self.inside.free.ok.0, c.in_ok-spare.ensures.some))
    ∙ ap (λ (n : ℕ). Some (get_or c.self.inside.free.items (n - 1) d)) (omega (arith, c.self.inside.free.ok.0)))

cut_within : (g : given.Over) (c : After-summary g)
    → c.cut_beside-cut.result < length (chunk_at c.spare.new.self.chunks c.args.chunk)
cut_within g c =
    let whole = ap (λ (xs : List Item). length xs) c.items_of.ensures in
    omega (arith, c.cut_beside-cut.ensures.high)

-- what is parted, and where
abbrev parting : (g : given.Over) (c : After-summary g) → Parting c.spare.new.self
parting g c =
    record {
      index = c.spare.ensures.index;
      chunk = c.args.chunk;
      there = subst (IsItem c.args.chunk) (sym c.spare.ensures.order) c.requires.chunk;
      number = c.index-new.result.now;
      rest = c.pop.new.self.items;
      free = number_last g c;
      cut = c.cut_beside-cut.result;
      low = c.cut_beside-cut.ensures.low;
      high = cut_within g c;
    }

front_is : (g : given.Over) (c : After-summary g) → c.part-front.result ≡ first c.spare.new.self (parting g c)
front_is g c = c.part-front.ensures.front ∙ ap (take c.cut_beside-cut.result) (was g c)

back_is : (g : given.Over) (c : After-summary g) → c.part-front.new.self ≡ second c.spare.new.self (parting g c)
back_is g c = c.part-front.ensures.back ∙ ap (drop c.cut_beside-cut.result) (was g c)

-- what the order is told of the chunk, and the order with the new number in it
told : (g : given.Over) (c : After-summary g)
    → c.summary.result ≡ summary c.args.chunk (second c.spare.new.self (parting g c))
told g c =
    let p : Parts = c.spare.new.self in
    let same : c.self.inside.chunks.items ≡ p.chunks = ap (λ (q : Parts). q.chunks) c.self.view_is in
    c.summary.ensures
    ∙ ap (summary c.args.chunk)
    (read_new c.self.inside.chunks.items p.chunks c.args.chunk c.part-front.new.self c.index.result.now same
    c.index.ensures (within p c.spare.ensures.index c.args.chunk (parting g c).there)
    ∙ back_is g c)

one : (g : given.Over) (c : After-summary g)
    → g.S.Sequence.items c.insert_before.new.self ≡ order_one c.spare.new.self (parting g c)
one g c =
    c.in_ok-insert_before.ensures.ok
    ∙ (λ i. put_before c.args.chunk (c.empty_chunk.ensures i ∷ []) (c.self.view_is i).order)

pub of-requires : goal.of-requires
of-requires g c =
    let p : Parts = c.spare.new.self in
    let there : IsItem c.args.chunk p.order =
    subst (IsItem c.args.chunk) (sym c.spare.ensures.order) c.requires.chunk in
    let l = chunk_light p c.spare.ensures.index c.args.chunk there in
    let same = ap weight_of c.numbered.ensures in
    let side = side_weight c.cut_beside-cut.result c.args.place c.beyond.result.now c.numbered.result.now
    c.beyond.ensures.back c.beyond.ensures.front in
    let light = c.spare.ensures.index.light in
    omega arith

pub insert_before-requires-clause-new : goal.insert_before-requires-clause-new
insert_before-requires-clause-new g c = λ x m j.
    let p : Parts = c.spare.new.self in
    let d : ℕ = c.index-new.result.now in
    let free = number_free g (goal.at.insert_before-requires-clause-new g c).After-index-new in
    ⊎_elim
    (λ (e : x ≡ c.empty_chunk.result.name).
    (c.spare.ensures.index.unused d free).1
    (subst (λ (y : ℕ). IsItem y p.order) (e ∙ ap (λ (i : Item). i.name) c.empty_chunk.ensures)
    (subst (λ (q : Parts). IsItem x q.order) c.self.view_is j)))
    (λ (z : ⊥). z) m

pub insert_before-requires-clause-light : goal.insert_before-requires-clause-light
insert_before-requires-clause-light g c =
    let p : Parts = c.spare.new.self in
    let order = ap (λ (q : Parts). weight_of q.order) c.self.view_is in
    let all = all_weight p c.spare.ensures.index in
    let told = ap (λ (i : Item). i.weight) c.empty_chunk.ensures in
    let light = c.spare.ensures.index.light in
    omega arith

pub index_mut-requires-2 : goal.index_mut-requires-2
index_mut-requires-2 g c =
    let p : Parts = c.spare.new.self in
    let d : ℕ = c.index-new.result.now in
    let u = (c.spare.ensures.index.unused d
    (number_free g (goal.at.index_mut-requires-2 g c).After-index-new)).0 in
    let same = ap (λ (q : Parts). length q.chunks) c.self.view_is in
    omega (arith, c.self.inside.chunks.ok.0)

pub settle-requires : goal.settle-requires
settle-requires g c = record {
  within = λ x i.
      let p : Parts = c.spare.new.self in
      let there : IsItem c.args.chunk p.order =
      subst (IsItem c.args.chunk) (sym c.spare.ensures.order) c.requires.chunk in
      let cut : ℕ = c.cut_beside-cut.result in
      let old : List Item = chunk_at p.chunks c.args.chunk in
      let same : c.self.inside.chunks.items ≡ p.chunks = ap (λ (q : Parts). q.chunks) c.self.view_is in
      let was : c.index_mut.result.now ≡ old =
      read_was c.self.inside.chunks.items p.chunks c.args.chunk c.index_mut.result.now same
      c.index_mut.ensures.value (within p c.spare.ensures.index c.args.chunk there) in
      let front : c.part-front.result ≡ take cut old = c.part-front.ensures.front ∙ ap (take cut) was in
      subst (λ (n : ℕ). x < n) (ap (λ (q : Parts). length q.homes) (sym c.self.view_is))
      (homed p c.spare.ensures.index c.args.chunk there x
      (item_in_front x cut old (subst (IsItem x) (c.items.ensures ∙ front) i))).0;
}

pub renew-requires-clause-there : goal.renew-requires-clause-there
renew-requires-clause-there g c =
    let s = (goal.at.renew-requires-clause-there g c).After-summary in
    subst (λ (y : ℕ). IsItem y (g.S.Sequence.items c.insert_before.new.self))
    (sym (ap (λ (i : Item). i.name) (told g s)))
    (subst (IsItem c.args.chunk) (sym (one g s)) (there_one c.spare.new.self (parting g s)))

pub renew-requires-clause-light : goal.renew-requires-clause-light
renew-requires-clause-light g c =
    let s = (goal.at.renew-requires-clause-light g c).After-summary in
    subst (λ (n : ℕ). n < 2 ^ 31) (sym (λ i. weight_of (renew (told g s i) (one g s i))))
    (two_light c.spare.new.self (parting g s))

pub renew-requires-2-clause-there : goal.renew-requires-2-clause-there
renew-requires-2-clause-there g c =
    let s = (goal.at.renew-requires-2-clause-there g c).After-summary in
    let p : Parts = c.spare.new.self in
    let d : ℕ = c.index-new.result.now in
    let two : g.S.Sequence.items c.renew.new.self ≡ order_two p (parting g s) =
    c.renew.ensures ∙ (λ i. renew (told g s i) (one g s i)) in
    let told2 : c.summary-2.result ≡ summary d (first p (parting g s)) =
    c.summary-2.ensures ∙ ap (summary d) (front_is g s) in
    subst (λ (y : ℕ). IsItem y (g.S.Sequence.items c.renew.new.self)) (sym (ap (λ (i : Item). i.name) told2))
    (subst (IsItem d) (sym two) (there_two p (parting g s)))

pub renew-requires-2-clause-light : goal.renew-requires-2-clause-light
renew-requires-2-clause-light g c =
    let s = (goal.at.renew-requires-2-clause-light g c).After-summary in
    let p : Parts = c.spare.new.self in
    let d : ℕ = c.index-new.result.now in
    let two : g.S.Sequence.items c.renew.new.self ≡ order_two p (parting g s) =
    c.renew.ensures ∙ (λ i. renew (told g s i) (one g s i)) in
    let told2 : c.summary-2.result ≡ summary d (first p (parting g s)) =
    c.summary-2.ensures ∙ ap (summary d) (front_is g s) in
    subst (λ (n : ℕ). n < 2 ^ 31) (sym (λ i. weight_of (renew (told2 i) (two i)))) (three_light p (parting g s))

pub returns-clause-index : goal.returns-clause-index
returns-clause-index g c =
    let s = (goal.at.returns-clause-index g c).After-summary in
    let p : Parts = c.spare.new.self in
    let d : ℕ = c.index-new.result.now in
    let front = front_is g s in
    let order =
    c.renew-2.ensures
    ∙ (λ i. renew ((c.summary-2.ensures ∙ ap (summary d) front) i)
    ((c.renew.ensures ∙ (λ k. renew (told g s k) (one g s k))) i))
    ∙ three_is p (parting g s) in
    subst IsIndex
    (λ i. record {
      chunks = set (set ((sym c.self.view_is i).chunks) c.args.chunk (sym (back_is g s) i)) d (sym front i);
      order = sym order i;
      homes = c.settle.new.homes.items;
      free = c.pop.new.self.items;
      room = sym (c.pop.ensures.capacity ∙ ap (λ (q : Parts). q.room) c.self.view_is) i;
    })
    (split_index p (parting g s) c.settle.new.homes.items
    (c.settle.ensures.length ∙ ap (λ (q : Parts). length q.homes) c.self.view_is)
    (λ x i. c.settle.ensures.inside x (subst (IsItem x) (sym (c.items.ensures ∙ front)) i))
    (λ x none. c.settle.ensures.outside x (λ i. none (subst (IsItem x) (c.items.ensures ∙ front) i))
    ∙ ap (λ (q : Parts). get_or q.homes x 0) c.self.view_is))

pub returns-clause-all : goal.returns-clause-all
returns-clause-all g c =
    let s = (goal.at.returns-clause-all g c).After-summary in
    let p : Parts = c.spare.new.self in
    let d : ℕ = c.index-new.result.now in
    let front = front_is g s in
    let order =
    c.renew-2.ensures
    ∙ (λ i. renew ((c.summary-2.ensures ∙ ap (summary d) front) i)
    ((c.renew.ensures ∙ (λ k. renew (told g s k) (one g s k))) i))
    ∙ three_is p (parting g s) in
    (λ i. joined (set (set ((c.self.view_is i).chunks) c.args.chunk (back_is g s i)) d (front i)) (order i))
    ∙ split_all p (parting g s) ∙ c.spare.ensures.all
