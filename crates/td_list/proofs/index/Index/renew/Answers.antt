use Rattle.std.proofs.Common.{◌≡◌, ◌<◌, ◌+◌, ◌^◌, ◌∙◌, ◌++◌, ◌∷◌, ℕ, List, take, drop}
use Rattle.std.proofs.Common.{get_or, set, ap, sym, subst, arith}
use Rattle.td_list.specs.Items.{Item, renew, weight_of}
use Rattle.td_list.specs.Index.{Parts, chunk_at, joined, summary, IsIndex}
use Rattle.td_list.specs.Places.{nothing}
use Rattle.td_list.proofs.Joined.{within, changed_all, changed_weight}
use Rattle.td_list.proofs.Weights.{weight-renew}
use Rattle.td_list.proofs.Changes.{renewed_index, weight_inside, read_was, read_new}
use Rattle.td_list.proofs.index.Index.renew.Goals as goal

pub renew-requires-2-clause-light : goal.renew-requires-2-clause-light
renew-requires-2-clause-light g c =
    let p : Parts = c.args.self.now in
    let old = chunk_at p.chunks c.args.chunk in
    let w = within p c.requires.index c.args.chunk c.requires.chunk in
    let same : c.self.inside.chunks.items ≡ p.chunks = ap (λ (q : Parts). q.chunks) c.self.view_is in
    let was : c.index_mut.result.now ≡ old = read_was c.self.inside.chunks.items p.chunks c.args.chunk
    c.index_mut.result.now same c.index_mut.ensures.value w in
    let new : c.renew.new.self ≡ take c.args.place old ++ c.args.item ∷ drop (c.args.place + 1) old = c.renew.ensures
    ∙ ap (λ (q : List Item). take c.args.place q ++ c.args.item ∷ drop (c.args.place + 1) q) was in
    let told : c.summary.result ≡ summary c.args.chunk
    (take c.args.place old ++ c.args.item ∷ drop (c.args.place + 1) old) =
    c.summary.ensures ∙ ap (summary c.args.chunk) (read_new c.self.inside.chunks.items p.chunks c.args.chunk
    c.renew.new.self c.index.result.now same c.index.ensures w ∙ new) in
    subst (λ (n : ℕ). n < 2 ^ 31)
    (sym ((λ i. weight_of (renew (told i) (c.self.view_is i).order))
    ∙ changed_weight p c.requires.index c.args.chunk c.requires.chunk
    (take c.args.place old ++ c.args.item ∷ drop (c.args.place + 1) old)))
    (c.requires.light)

pub returns-clause-index : goal.returns-clause-index
returns-clause-index g c =
    let p : Parts = c.args.self.now in
    let old = chunk_at p.chunks c.args.chunk in
    let w = within p c.requires.index c.args.chunk c.requires.chunk in
    let same : c.self.inside.chunks.items ≡ p.chunks = ap (λ (q : Parts). q.chunks) c.self.view_is in
    let was : c.index_mut.result.now ≡ old = read_was c.self.inside.chunks.items p.chunks c.args.chunk
    c.index_mut.result.now same c.index_mut.ensures.value w in
    let new : c.renew.new.self ≡ take c.args.place old ++ c.args.item ∷ drop (c.args.place + 1) old = c.renew.ensures
    ∙ ap (λ (q : List Item). take c.args.place q ++ c.args.item ∷ drop (c.args.place + 1) q) was in
    let told : c.summary.result ≡ summary c.args.chunk
    (take c.args.place old ++ c.args.item ∷ drop (c.args.place + 1) old) =
    c.summary.ensures ∙ ap (summary c.args.chunk) (read_new c.self.inside.chunks.items p.chunks c.args.chunk
    c.renew.new.self c.index.result.now same c.index.ensures w ∙ new) in
    let order : g.S.Sequence.items c.renew-2.new.self
    ≡ renew (summary c.args.chunk (take c.args.place old ++ c.args.item ∷ drop (c.args.place + 1) old)) p.order =
    c.renew-2.ensures ∙ (λ i. renew (told i) (c.self.view_is i).order) in
    subst IsIndex (λ i. record {
      chunks = set (sym same i) c.args.chunk (sym new i);
      order = sym order i;
      homes = (sym c.self.view_is i).homes;
      free = (sym c.self.view_is i).free;
      room = (sym c.self.view_is i).room;
    })
    (renewed_index p c.requires.index c.args.chunk c.requires.chunk c.args.place c.args.item c.requires.place
    c.requires.named c.requires.light)

pub returns-clause-all : goal.returns-clause-all
returns-clause-all g c =
    let p : Parts = c.args.self.now in
    let old = chunk_at p.chunks c.args.chunk in
    let w = within p c.requires.index c.args.chunk c.requires.chunk in
    let same : c.self.inside.chunks.items ≡ p.chunks = ap (λ (q : Parts). q.chunks) c.self.view_is in
    let was : c.index_mut.result.now ≡ old = read_was c.self.inside.chunks.items p.chunks c.args.chunk
    c.index_mut.result.now same c.index_mut.ensures.value w in
    let new : c.renew.new.self ≡ take c.args.place old ++ c.args.item ∷ drop (c.args.place + 1) old = c.renew.ensures
    ∙ ap (λ (q : List Item). take c.args.place q ++ c.args.item ∷ drop (c.args.place + 1) q) was in
    let told : c.summary.result ≡ summary c.args.chunk
    (take c.args.place old ++ c.args.item ∷ drop (c.args.place + 1) old) =
    c.summary.ensures ∙ ap (summary c.args.chunk) (read_new c.self.inside.chunks.items p.chunks c.args.chunk
    c.renew.new.self c.index.result.now same c.index.ensures w ∙ new) in
    let order : g.S.Sequence.items c.renew-2.new.self
    ≡ renew (summary c.args.chunk (take c.args.place old ++ c.args.item ∷ drop (c.args.place + 1) old)) p.order =
    c.renew-2.ensures ∙ (λ i. renew (told i) (c.self.view_is i).order) in
    (λ i. joined (set (same i) c.args.chunk (new i)) (order i))
    ∙ changed_all p c.requires.index c.args.chunk c.requires.chunk
    (take c.args.place old ++ c.args.item ∷ drop (c.args.place + 1) old)

pub renew-requires-clause-light : goal.renew-requires-clause-light
renew-requires-clause-light g c =
    let p : Parts = c.args.self.now in
    let old = chunk_at p.chunks c.args.chunk in
    let item = c.args.item in
    let w = within p c.requires.index c.args.chunk c.requires.chunk in
    let same : c.self.inside.chunks.items ≡ p.chunks = ap (λ (q : Parts). q.chunks) c.self.view_is in
    let was : c.index_mut.result.now ≡ old = read_was c.self.inside.chunks.items p.chunks c.args.chunk
    c.index_mut.result.now same c.index_mut.ensures.value w in
    let heavy = ap weight_of was in
    let there = ap (λ (q : List Item). (get_or q c.args.place nothing).weight) was in
    let one = weight-renew old c.args.place item c.requires.place in
    let most = weight_inside p c.requires.index c.args.chunk c.requires.chunk
    (take c.args.place old ++ item ∷ drop (c.args.place + 1) old) in
    omega (arith, c.requires.light)
