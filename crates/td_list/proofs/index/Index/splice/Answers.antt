use Rattle.std.proofs.Common.{◌≡◌, ◌<◌, ◌^◌, ◌∙◌, ◌++◌, ◌∷◌, ℕ, List, [], length, take}
use Rattle.std.proofs.Common.{drop, get_or, set, ap, sym, subst, arith}
use Rattle.std.proofs.lemmas.List.{set-get_or}
use Rattle.td_list.specs.Items.{Item, IsItem, items_from, items_after, renew, weight_of}
use Rattle.td_list.specs.Index.{Parts, chunk_at, joined, summary, IsIndex}
use Rattle.td_list.proofs.Joined.{within, told, changed_all, changed_weight}
use Rattle.td_list.proofs.Parted.{from_is, after_is}
use Rattle.td_list.proofs.Changes.{splice_index, spliced_weight, grown_index, chunk_light, read_was, read_new}
use Rattle.td_list.proofs.index.Index.splice.Goals as goal

pub tell-requires-clause-light : goal.tell-requires-clause-light
tell-requires-clause-light g c =
    let p : Parts = c.args.self.now in
    let old = chunk_at p.chunks c.args.chunk in
    let w = within p c.requires.index c.args.chunk c.requires.chunk in
    let same : c.self.inside.chunks.items ≡ p.chunks = ap (λ (q : Parts). q.chunks) c.self.view_is in
    let was : c.index_mut.result.now ≡ old = read_was c.self.inside.chunks.items p.chunks c.args.chunk
    c.index_mut.result.now same c.index_mut.ensures.value w in
    let new : c.splice.new.self ≡ take c.args.from old ++ c.args.piece.now
    ++ drop c.args.to old = c.in_ok-splice.ensures.ok
    ∙ ap (λ (q : List Item). take c.args.from q ++ c.args.piece.now ++ drop c.args.to q) was in
    let told : c.summary-now.result ≡ summary c.args.chunk
    (take c.args.from old ++ c.args.piece.now ++ drop c.args.to old) =
    c.summary-now.ensures ∙ ap (summary c.args.chunk)
    (read_new c.self.inside.chunks.items p.chunks c.args.chunk c.splice.new.self c.index.result.now same
    c.index.ensures w ∙ new) in
    subst (λ (n : ℕ). n < 2 ^ 31)
    (sym ((λ i. weight_of (renew (told i) (c.self.view_is i).order))
    ∙ changed_weight p c.requires.index c.args.chunk c.requires.chunk
    (take c.args.from old ++ c.args.piece.now ++ drop c.args.to old)))
    (let l = spliced_weight p c.requires.index c.args.chunk c.requires.chunk c.args.piece.now c.args.from c.args.to
    c.requires.from c.requires.to in omega (arith, c.requires.light))

pub returns-clause-index : goal.returns-clause-index
returns-clause-index g c =
    let p : Parts = c.args.self.now in
    let old = chunk_at p.chunks c.args.chunk in
    let w = within p c.requires.index c.args.chunk c.requires.chunk in
    let same : c.self.inside.chunks.items ≡ p.chunks = ap (λ (q : Parts). q.chunks) c.self.view_is in
    let was : c.index_mut.result.now ≡ old = read_was c.self.inside.chunks.items p.chunks c.args.chunk
    c.index_mut.result.now same c.index_mut.ensures.value w in
    let new : c.splice.new.self ≡ take c.args.from old ++ c.args.piece.now
    ++ drop c.args.to old = c.in_ok-splice.ensures.ok
    ∙ ap (λ (q : List Item). take c.args.from q ++ c.args.piece.now ++ drop c.args.to q) was in
    let told : c.summary-now.result ≡ summary c.args.chunk
    (take c.args.from old ++ c.args.piece.now ++ drop c.args.to old) =
    c.summary-now.ensures ∙ ap (summary c.args.chunk)
    (read_new c.self.inside.chunks.items p.chunks c.args.chunk c.splice.new.self c.index.result.now same
    c.index.ensures w ∙ new) in
    let order : g.S.Sequence.items c.tell.new.order
    ≡ renew (summary c.args.chunk (take c.args.from old ++ c.args.piece.now ++ drop c.args.to old)) p.order =
    c.tell.ensures ∙ (λ i. renew (told i) (c.self.view_is i).order) in
    subst IsIndex (λ i. record {
      chunks = set (sym same i) c.args.chunk (sym new i);
      order = sym order i;
      homes = c.settle.new.homes.items;
      free = (sym c.self.view_is i).free;
      room = (sym c.self.view_is i).room;
    })
    (splice_index p c.requires.index c.args.chunk c.requires.chunk c.args.piece.now c.args.from c.args.to
    c.requires.from c.requires.to c.settle.new.homes.items c.requires.some c.requires.apart c.requires.new
    (λ x i. (
      subst (λ (n : ℕ). x < n) (sym c.settle.ensures.length) (c.in_ok-grow.ensures.ok x i),
      c.settle.ensures.inside x i,
    ))
    (λ x h. let o = c.grow.ensures.old x (subst (λ (n : ℕ). x < n)
    (ap (λ (q : Parts). length q.homes) (sym c.self.view_is)) h) in (
      subst (λ (n : ℕ). x < n) (sym c.settle.ensures.length) o.0,
      λ none. c.settle.ensures.outside x none ∙ o.1
          ∙ ap (λ (q : Parts). get_or q.homes x 0) c.self.view_is,
    ))
    c.requires.light)

pub returns-clause-ok : goal.returns-clause-ok
returns-clause-ok g c =
    let p : Parts = c.args.self.now in
    let old = chunk_at p.chunks c.args.chunk in
    let w = within p c.requires.index c.args.chunk c.requires.chunk in
    let same : c.self.inside.chunks.items ≡ p.chunks = ap (λ (q : Parts). q.chunks) c.self.view_is in
    let was : c.index_mut.result.now ≡ old = read_was c.self.inside.chunks.items p.chunks c.args.chunk
    c.index_mut.result.now same c.index_mut.ensures.value w in
    let new : c.splice.new.self ≡ take c.args.from old ++ c.args.piece.now
    ++ drop c.args.to old = c.in_ok-splice.ensures.ok
    ∙ ap (λ (q : List Item). take c.args.from q ++ c.args.piece.now ++ drop c.args.to q) was in
    let told : c.summary-now.result ≡ summary c.args.chunk
    (take c.args.from old ++ c.args.piece.now ++ drop c.args.to old) =
    c.summary-now.ensures ∙ ap (summary c.args.chunk)
    (read_new c.self.inside.chunks.items p.chunks c.args.chunk c.splice.new.self c.index.result.now same
    c.index.ensures w ∙ new) in
    let order : g.S.Sequence.items c.tell.new.order
    ≡ renew (summary c.args.chunk (take c.args.from old ++ c.args.piece.now ++ drop c.args.to old)) p.order =
    c.tell.ensures ∙ (λ i. renew (told i) (c.self.view_is i).order) in
    (λ i. joined (set (same i) c.args.chunk (new i)) (order i))
    ∙ changed_all p c.requires.index c.args.chunk c.requires.chunk
    (take c.args.from old ++ c.args.piece.now ++ drop c.args.to old)

pub returns-in_err-grow-clause-index : goal.returns-in_err-grow-clause-index
returns-in_err-grow-clause-index g c =
    let p : Parts = c.args.self.now in
    subst IsIndex (λ i. record {
      chunks = (sym c.self.view_is i).chunks;
      order = (sym c.self.view_is i).order;
      homes = c.grow.new.homes.items;
      free = (sym c.self.view_is i).free;
      room = (sym c.self.view_is i).room;
    })
    (grown_index p c.requires.index c.grow.new.homes.items
    (λ x h. let o = c.grow.ensures.old x (subst (λ (n : ℕ). x < n)
    (ap (λ (q : Parts). length q.homes) (sym c.self.view_is)) h) in
    (o.0, o.1 ∙ ap (λ (q : Parts). get_or q.homes x 0) c.self.view_is)))

pub index_mut-requires : goal.index_mut-requires
index_mut-requires g c =
    let w = within c.args.self.now c.requires.index c.args.chunk c.requires.chunk in
    let same = ap (λ (q : Parts). length q.chunks) c.self.view_is in
    omega (arith, c.self.inside.chunks.ok.0)

pub splice-requires-clause-light : goal.splice-requires-clause-light
splice-requires-clause-light g c =
    let p : Parts = c.args.self.now in
    let w = within p c.requires.index c.args.chunk c.requires.chunk in
    let same : c.self.inside.chunks.items ≡ p.chunks = ap (λ (q : Parts). q.chunks) c.self.view_is in
    let was = ap weight_of (read_was c.self.inside.chunks.items p.chunks c.args.chunk c.index_mut.result.now same
    c.index_mut.ensures.value w) in
    let l = chunk_light p c.requires.index c.args.chunk c.requires.chunk in
    omega (arith, c.requires.light)

pub index-requires : goal.index-requires
index-requires g c =
    let w = within c.args.self.now c.requires.index c.args.chunk c.requires.chunk in
    let same = ap (λ (q : Parts). length q.chunks) c.self.view_is in
    omega (arith, c.self.inside.chunks.ok.0)

pub returns-in_err-splice-clause-index : goal.returns-in_err-splice-clause-index
returns-in_err-splice-clause-index g c =
    let p : Parts = c.args.self.now in
    let w = within p c.requires.index c.args.chunk c.requires.chunk in
    let same : c.self.inside.chunks.items ≡ p.chunks = ap (λ (q : Parts). q.chunks) c.self.view_is in
    let was : c.index_mut.result.now ≡ chunk_at p.chunks c.args.chunk =
    read_was c.self.inside.chunks.items p.chunks c.args.chunk c.index_mut.result.now same
    c.index_mut.ensures.value w in
    let new : c.splice.new.self ≡ chunk_at p.chunks c.args.chunk = c.in_err-splice.ensures.err ∙ was in
    let back : set c.self.inside.chunks.items c.args.chunk c.splice.new.self
    ≡ p.chunks = (λ i. set (same i) c.args.chunk (new i)) ∙ set-get_or p.chunks c.args.chunk [] in
    subst IsIndex (λ i. record {
      chunks = sym back i;
      order = (sym c.self.view_is i).order;
      homes = c.grow.new.homes.items;
      free = (sym c.self.view_is i).free;
      room = (sym c.self.view_is i).room;
    })
    (grown_index p c.requires.index c.grow.new.homes.items
    (λ x h. let o = c.grow.ensures.old x (subst (λ (n : ℕ). x < n)
    (ap (λ (q : Parts). length q.homes) (sym c.self.view_is)) h) in
    (o.0, o.1 ∙ ap (λ (q : Parts). get_or q.homes x 0) c.self.view_is)))

-- what the order told of the chunk
was_told : (p : Parts) (index : IsIndex p) (chunk : ℕ) (there : IsItem chunk p.order) → items_from chunk p.order
    ≡ summary chunk (chunk_at p.chunks chunk) ∷ items_after chunk p.order
was_told p index chunk there = from_is chunk p.order there
    ∙ (λ i. told p index chunk there i ∷ sym (after_is chunk p.order there) i)

pub numbered-requires : goal.numbered-requires
numbered-requires g c = within c.args.self.now c.requires.index c.args.chunk c.requires.chunk

pub tell-requires-clause-is : goal.tell-requires-clause-is
tell-requires-clause-is g c =
    let p : Parts = c.args.self.now in
    let told_is : c.summary-told.result ≡ summary c.args.chunk (chunk_at p.chunks c.args.chunk) =
    c.summary-told.ensures ∙ ap (summary c.args.chunk) c.numbered.ensures in
    subst (λ (x : Item × List Item). items_from x.0.name x.1 ≡ x.0 ∷ items_after x.0.name x.1)
    (λ i. (sym told_is i, (sym c.self.view_is i).order))
    (was_told p c.requires.index c.args.chunk c.requires.chunk)

pub tell-requires-clause-there : goal.tell-requires-clause-there
tell-requires-clause-there g c =
    let p : Parts = c.args.self.now in
    let told_is : c.summary-told.result ≡ summary c.args.chunk (chunk_at p.chunks c.args.chunk) =
    c.summary-told.ensures ∙ ap (summary c.args.chunk) c.numbered.ensures in
    subst (λ (x : Item × List Item). IsItem x.0.name x.1) (λ i. (sym told_is i, (sym c.self.view_is i).order))
    c.requires.chunk
